-- A test, by computation, whether hands and cells are canonical. It is plain and slow; a faster one is measured by it. Assumes nothing.
use Rattle.std.specs.Prelude.{ℕ, zero, suc, ◌+◌, ◌*◌, Bool, true, false, not, ◌&&◌, ◌||◌, List, length, ◌==◌, nat_le, nat_lt, slice_index_or}
use Rattle.cells.specs.declared.Tag.{Tag}
use Rattle.cells.specs.declared.Tag.TheVariants.{Unique, Sticky}
use Rattle.cells.specs.declared.Field.{Field}
use Rattle.cells.specs.declared.Field.TheVariants.{Nil, To}
use Rattle.cells.specs.declared.Cell.{Cell}
use Rattle.cells.specs.declared.Cell.TheVariants.{Blank}
use Rattle.graph.specs.Places.{holds, refers_to, met, is_node}

-- whether every number below n passes a test, and whether one does
abbrev pub every : (ℕ → Bool) → ℕ → Bool
every test zero = true
every test (suc n) = test n && every test n

abbrev pub some : (ℕ → Bool) → ℕ → Bool
some test zero = false
some test (suc n) = test n || some test n

-- whether a field has no address, or one that passes
abbrev pub addressed : (ℕ → Bool) → Field → Bool
addressed test Nil = true
addressed test (To r) = test r.address

-- whether a tag is STICKY exactly if told so
abbrev pub tagged : Tag → Bool → Bool
tagged Unique shared = not shared
tagged Sticky shared = shared

-- whether one of n places, other than p, refers to an address
abbrev pub another : (ℕ → Field) → ℕ → ℕ → ℕ → Bool
another held n p a = some (λ q. not (q == p) && refers_to a (held q)) n

-- whether a field, if it is a reference, has the right tag
abbrev pub rightly : Field → (ℕ → Bool) → Bool
rightly Nil shared = true
rightly (To r) shared = tagged r.tag (shared r.address)

abbrev pub is_canonical : {V : Type 0} → List Field → List (Cell V) → Bool
is_canonical hands cells =
    let held = holds hands cells in
    let r = length cells in
    let n = 16 + 2 * r in
    (length hands == 16)
    && (every (λ j. is_node (slice_index_or cells j Blank)) r
    && (every (λ p. addressed (λ a. nat_lt a r) (held p)) n
    && (every (λ p. addressed (λ a. nat_le a (met held p)) (held p)) n
    && (every (λ j. nat_lt j (met held (16 + 2 * j))) r
    && (met held n == r && every (λ p. rightly (held p) (another held n p)) n)))))
