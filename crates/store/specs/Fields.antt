-- Fields and cells as the calls change them: making a reference STICKY, letting one go, taking an address. Assumes nothing.
use Rattle.std.specs.Prelude.{ℕ, ◌+◌, ◌-◌, Bool, true, false, cond, not, ◌&&◌, List, [], ◌∷◌, ◌++◌, length, take, ◌==◌, nat_lt, slice_index, slice_index_or}
use Rattle.cells.specs.declared.Tag.{Tag}
use Rattle.cells.specs.declared.Tag.TheVariants.{Unique, Sticky}
use Rattle.cells.specs.declared.Field.{Field}
use Rattle.cells.specs.declared.Field.TheVariants.{Nil, To}
use Rattle.cells.specs.declared.Side.{Side}
use Rattle.cells.specs.declared.Side.TheVariants.{Left, Right}
use Rattle.cells.specs.declared.Cell.{Cell}
use Rattle.cells.specs.declared.Cell.TheVariants.{Blank, Pair, Leaf, Moved}

abbrev pub unique : ℕ → Field
unique a = To (record { tag = Unique; address = a })

abbrev pub sticky : ℕ → Field
sticky a = To (record { tag = Sticky; address = a })

abbrev pub is_unique : Tag → Bool
is_unique Unique = true
is_unique Sticky = false

abbrev pub is_nil : Field → Bool
is_nil Nil = true
is_nil (To r) = false

-- whether a field is a UNIQUE reference
abbrev pub unique_field : Field → Bool
unique_field Nil = false
unique_field (To r) = is_unique r.tag

-- whether a field is a reference to an address that is not below a bound
abbrev pub past : ℕ → Field → Bool
past bound Nil = false
past bound (To r) = not (nat_lt r.address bound)

-- the address of a reference; nil has none, and counts as 0 where nobody asks
abbrev pub address_of : Field → ℕ
address_of Nil = 0
address_of (To r) = r.address

-- the same reference, STICKY; nil stays nil
abbrev pub made_sticky : Field → Field
made_sticky Nil = Nil
made_sticky (To r) = sticky r.address

-- a pair with one side set; any other cell as it is
abbrev pub with_side : {V : Type 0} → Side → Field → Cell V → Cell V
with_side s f Blank = Blank
with_side Left f (Pair l r) = Pair f r
with_side Right f (Pair l r) = Pair l f
with_side s f (Leaf v) = Leaf v
with_side s f (Moved g o) = Moved g o

-- ---- the free list: at most sixteen addresses, the top last

-- Letting go of a UNIQUE reference below the mark lists its address on top, while fewer than sixteen are listed; otherwise
-- the cell is abandoned. Letting go of anything else does nothing.
abbrev pub let_go : ℕ → Field → List ℕ → List ℕ
let_go mark f free = cond (unique_field f && (not (past mark f) && nat_lt (length free) 16)) (free ++ (address_of f ∷ [])) free

-- the UNIQUE references of a pair let go, left then right; any other cell has none
abbrev pub let_go_sides : {V : Type 0} → ℕ → Cell V → List ℕ → List ℕ
let_go_sides mark Blank free = free
let_go_sides mark (Pair l r) free = let_go mark r (let_go mark l free)
let_go_sides mark (Leaf v) free = free
let_go_sides mark (Moved g o) free = free

abbrev pub top : List ℕ → ℕ
top free = slice_index free (length free - 1)

abbrev pub below_top : List ℕ → List ℕ
below_top free = take (length free - 1) free

-- what taking an address gives: the address, and the mark and the list after
pub record Taken : Type 0 where
  pub address : ℕ
  pub mark : ℕ
  pub free : List ℕ

-- The top of the list is taken, and what a pair in that cell held is let go; or, where the list is empty, the mark, which
-- then rises by one.
abbrev pub taking : {V : Type 0} → List (Cell V) → ℕ → List ℕ → Taken
taking cells mark free =
    cond (length free == 0) (record { address = mark; mark = mark + 1; free = free })
    (record { address = top free; mark = mark; free = let_go_sides mark (slice_index_or cells (top free) Blank) (below_top free) })
