-- What a bank answers, by the list of its cells. Assumes nothing.
use Rattle.std.specs.Prelude.{ℕ, zero, suc, Bool, true, false, cond, ◌&&◌, List, [], ◌∷◌, length, Some, None, Option, nat_lt, slice_set}
use Rattle.cells.specs.declared.Cell.{Cell}
use Rattle.cells.specs.declared.Cell.TheVariants.{Blank, Pair, Leaf, Moved}

-- the cell at an address, none at or past the end
abbrev pub cell_at : {V : Type 0} → List (Cell V) → ℕ → Option (Cell V)
cell_at [] a = None
cell_at (c ∷ cs) zero = Some c
cell_at (c ∷ cs) (suc a) = cell_at cs a

module _ {V : Type 0} (lawful : V → Bool) where
  -- whether a cell's leaf, if it is one, is lawful
  abbrev pub leaf_lawful : Cell V → Bool
  leaf_lawful Blank = true
  leaf_lawful (Pair l r) = true
  leaf_lawful (Leaf v) = lawful v
  leaf_lawful (Moved f s) = true

  -- the same of a cell that was looked for
  abbrev pub found_lawful : Option (Cell V) → Bool
  found_lawful None = true
  found_lawful (Some c) = leaf_lawful c

  -- whether a cell may be written: a pair, a moved cell or a lawful leaf
  abbrev pub storable : Cell V → Bool
  storable Blank = false
  storable (Pair l r) = true
  storable (Leaf v) = lawful v
  storable (Moved f s) = true

  -- whether cells take a cell at an address
  abbrev pub takes : List (Cell V) → ℕ → Cell V → Bool
  takes cs a c = nat_lt a (length cs) && storable c

  -- the cells after it was put there: that one changed, or none
  abbrev pub after_put : List (Cell V) → ℕ → Cell V → List (Cell V)
  after_put cs a c = cond (takes cs a c) (slice_set cs a c) cs
