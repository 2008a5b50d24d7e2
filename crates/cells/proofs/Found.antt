-- The cell that is found at an address is the one that stands there in the list.
use Rattle.std.proofs.Common.{◌≡◌, ℕ, zero, suc, List, [], ◌∷◌, get_or, unwrap_or, refl}
use Rattle.cells.specs.declared.Cell.{Cell}
use Rattle.cells.specs.declared.Cell.TheVariants.{Blank}
use Rattle.cells.specs.Banks.{cell_at}

pub found_or_blank : {V : Type 0} (cs : List (Cell V)) (a : ℕ) → unwrap_or (cell_at cs a) Blank ≡ get_or cs a Blank
found_or_blank [] a = refl
found_or_blank (c ∷ cs) zero = refl
found_or_blank (c ∷ cs) (suc a) = found_or_blank cs a
