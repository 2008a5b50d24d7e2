-- Writing the image of a store: when it is refused, what it answers, and the bytes after. Assumes nothing.
-- `lawful`, `word` and `number` are the members of the store's leaf kind.
use Rattle.std.specs.Prelude.{ℕ, ◌+◌, ◌*◌, Bool, true, false, not, ◌&&◌, List, [], ◌∷◌, ◌++◌, length, take, drop, Some, None, Ok, Err, Option, Result, ◌==◌, nat_lt}
use Rattle.cells.specs.declared.Cell.{Cell}
use Rattle.cells.specs.declared.causes.Cause.{Cause}
use Rattle.cells.specs.declared.causes.Cause.TheVariants.{OtherSize, Spoiled, NotSettled, TooFewBytes}
use Rattle.cells.specs.declared.causes.Cause.TheVariants as causes
use Rattle.graph.specs.Places.{is_node}
use Rattle.store.specs.declared.Mode.{Mode}
use Rattle.store.specs.declared.Mode.TheVariants.{Settled, Working, Collecting}
use Rattle.store.specs.Model.{Model, is_collecting}
use Rattle.store.specs.Calls.{first, unless}
use Rattle.images.specs.Layout.{image_of}

abbrev pub is_working : Mode → Bool
is_working Settled = false
is_working Working = true
is_working (Collecting s c n) = false

-- whether each cell is a pair or a leaf
abbrev pub all_nodes : {V : Type 0} → List (Cell V) → Bool
all_nodes [] = true
all_nodes (c ∷ cs) = is_node c && all_nodes cs

-- whether a pair or a leaf was found
abbrev pub node_found : {V : Type 0} → Option (Cell V) → Bool
node_found None = false
node_found (Some c) = is_node c

-- how many bytes the image of n cells has
abbrev pub length_for : ℕ → ℕ
length_for n = 68 + 9 * n

-- The table, in the order of the numbers: the cause for which Write is refused, if any, by the record, the cells of the bank that
-- is handed in, and how many bytes there are.
unfoldable pub write_cause : {V : Type 0} → Model → List (Cell V) → ℕ → Option Cause
write_cause m cells space =
    first (
    (not (length cells == m.size), OtherSize)
    ∷ (is_collecting m.mode, causes.Collecting)
    ∷ (not (all_nodes (take m.mark cells)), Spoiled)
    ∷ (is_working m.mode, NotSettled)
    ∷ (nat_lt space (length_for m.mark), TooFewBytes)
    ∷ []
    )

-- the answer: how many bytes the image has
abbrev pub write_answer : {V : Type 0} → Model → List (Cell V) → ℕ → Result ℕ Cause
write_answer m cells space = unless (write_cause m cells space) (length_for m.mark) Err Ok

-- bytes with a part written over those from an offset on
abbrev pub pasted : List ℕ → ℕ → List ℕ → List ℕ
pasted bytes at part = take at bytes ++ (part ++ drop (at + length part) bytes)

-- the image of a store
abbrev pub image_kept : {V : Type 0} → (V → Bool) → (V → ℕ) → ℕ → Model → List (Cell V) → List ℕ
image_kept lawful word number m cells = image_of lawful word number m.hands (take m.mark cells)

-- the bytes after: the image in front of what stood behind it, or all as they were
abbrev pub bytes_after : {V : Type 0} → (V → Bool) → (V → ℕ) → ℕ → Model → List (Cell V) → List ℕ → List ℕ
bytes_after lawful word number m cells bytes =
    let image = image_kept lawful word number m cells in
    unless (write_cause m cells (length bytes)) (image ++ drop (length image) bytes) (λ _. bytes) (λ written. written)
