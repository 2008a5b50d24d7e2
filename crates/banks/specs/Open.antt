-- What lent cells mean. Assumes nothing.
use Rattle.std.specs.Prelude.{Bool, cond, List, map, Some, None, Option}
use Rattle.cells.specs.declared.Cell.{Cell}
use Rattle.cells.specs.declared.Cell.TheVariants.{Blank}
use Rattle.cells.specs.Banks.{leaf_lawful}

module _ {V : Type 0} (lawful : V → Bool) where
  -- a lent cell as it reads: a leaf that is not lawful is blank
  abbrev pub readable : Cell V → Cell V
  readable c = cond (leaf_lawful lawful c) c Blank

  -- the same of a cell that was looked for
  abbrev pub found_readable : Option (Cell V) → Option (Cell V)
  found_readable None = None
  found_readable (Some c) = Some (readable c)

  abbrev pub open_cells : List (Cell V) → List (Cell V)
  open_cells = map readable
