-- How many hands of an image are in use, and how many cells of each kind it has. Assumes nothing.
use Rattle.std.specs.Prelude.{ℕ, zero, suc, Bool, true, false, List, Some, None, Option}
use Rattle.cells.specs.declared.Field.{Field}
use Rattle.cells.specs.declared.Field.TheVariants.{Nil, To}
use Rattle.cells.specs.declared.Cell.{Cell}
use Rattle.images.specs.Images.{hand_of, cell_of}
use Rattle.dumps.specs.declared.Tally.{Tally}
use Rattle.dumps.specs.Shown.{noted}

-- whether a hand refers to a cell
abbrev pub in_use : Option Field → Bool
in_use None = false
in_use (Some Nil) = false
in_use (Some (To r)) = true

-- one more, for a hand that refers to a cell
abbrev pub counted : ℕ → Option Field → ℕ
counted n None = n
counted n (Some Nil) = n
counted n (Some (To r)) = suc n

-- how many of the hands below i refer to a cell
unfoldable pub hands_used : List ℕ → ℕ → ℕ
hands_used image zero = 0
hands_used image (suc i) = counted (hands_used image i) (hand_of image i)

-- the counts with a cell, if there is one
abbrev pub with_found : {V : Type 0} → Tally → Option (Cell V) → Tally
with_found t None = t
with_found t (Some c) = noted t c

-- the counts of the cells below an address
unfoldable pub tallied : {V : Type 0} → (ℕ → Option V) → List ℕ → ℕ → Tally
tallied taken image zero = record { blank = 0; pair = 0; leaf = 0; moved = 0 }
tallied taken image (suc j) = with_found (tallied taken image j) (cell_of taken image j)
