-- Which cells of an image are drawn as shared: those with a STICKY reference. Assumes nothing.
use Rattle.std.specs.Prelude.{ℕ, zero, suc, Bool, true, false, cond, List, replicate, Some, None, Option, nat_lt, slice_index_or, slice_set}
use Rattle.cells.specs.declared.Tag.{Tag}
use Rattle.cells.specs.declared.Tag.TheVariants.{Unique, Sticky}
use Rattle.cells.specs.declared.Field.{Field}
use Rattle.cells.specs.declared.Field.TheVariants.{Nil, To}
use Rattle.cells.specs.declared.Cell.{Cell}
use Rattle.cells.specs.declared.Cell.TheVariants.{Blank, Pair, Leaf, Moved}
use Rattle.images.specs.Layout.{or_nil}
use Rattle.images.specs.Images.{hand_of, cell_of}

-- the marks with one more field: a STICKY reference marks its address
abbrev pub marked_by : Tag → List Bool → ℕ → List Bool
marked_by Unique marks a = marks
marked_by Sticky marks a = cond (nat_lt a 32768) (slice_set marks a true) marks

abbrev pub marked : List Bool → Field → List Bool
marked marks Nil = marks
marked marks (To r) = marked_by r.tag marks r.address

-- with both sides of a pair
abbrev pub marked_sides : {V : Type 0} → List Bool → Option (Cell V) → List Bool
marked_sides marks None = marks
marked_sides marks (Some Blank) = marks
marked_sides marks (Some (Pair l r)) = marked (marked marks l) r
marked_sides marks (Some (Leaf v)) = marks
marked_sides marks (Some (Moved f s)) = marks

-- with the hands below i, and then with the cells below j
unfoldable pub marked_hands : List ℕ → ℕ → List Bool
marked_hands image zero = replicate 32768 false
marked_hands image (suc i) = marked (marked_hands image i) (or_nil (hand_of image i))

unfoldable pub marked_cells : {V : Type 0} → (ℕ → Option V) → List ℕ → ℕ → List Bool
marked_cells taken image zero = marked_hands image 16
marked_cells taken image (suc j) = marked_sides (marked_cells taken image j) (cell_of taken image j)

-- whether an address is marked
abbrev pub is_marked : List Bool → ℕ → Bool
is_marked marks a = cond (nat_lt a 32768) (slice_index_or marks a false) false
