-- What lent bytes mean, nine to a cell, and which of them a put changes. Assumes nothing.
-- `lawful`, `word` and `taken` are the members of the leaf kind.
use Rattle.std.specs.Prelude.{ℕ, ◌+◌, ◌*◌, ◌/◌, Bool, cond, ◌&&◌, List, ◌++◌, map, length, take, drop, Some, None, Option, nat_lt}
use Rattle.std.specs.List.{range_with_len}
use Rattle.cells.specs.declared.Cell.{Cell}
use Rattle.cells.specs.Banks.{storable}
use Rattle.packing.specs.Cells.{pack_cell, unpack_cell}

-- how many cells the bytes hold
abbrev pub size_of : List ℕ → ℕ
size_of bs = length bs / 9

-- the bytes that belong to no cell
abbrev pub left_over : List ℕ → List ℕ
left_over bs = drop (9 * size_of bs) bs

-- the nine bytes at an address
abbrev pub nine_at : List ℕ → ℕ → List ℕ
nine_at bs a = take 9 (drop (9 * a) bs)

-- the bytes with other nine at an address
abbrev pub nine_set : List ℕ → ℕ → List ℕ → List ℕ
nine_set bs a nine = take (9 * a) bs ++ (nine ++ drop (9 * a + 9) bs)

-- the cell of the nine bytes at an address, none at or past the size
abbrev pub cell_in : {V : Type 0} → (ℕ → Option V) → List ℕ → ℕ → Option (Cell V)
cell_in taken bs a = cond (nat_lt a (size_of bs)) (Some (unpack_cell taken (nine_at bs a))) None

-- all the cells, in the order of their addresses
abbrev pub packed_cells : {V : Type 0} → (ℕ → Option V) → List ℕ → List (Cell V)
packed_cells taken bs = map (λ a. unpack_cell taken (nine_at bs a)) (range_with_len 0 (size_of bs))

module _ {V : Type 0} (lawful : V → Bool) where
  -- whether the bytes take a cell at an address
  abbrev pub packed_takes : List ℕ → ℕ → Cell V → Bool
  packed_takes bs a c = nat_lt a (size_of bs) && storable lawful c

  -- the bytes after it was put there: its nine changed, or none
  abbrev pub packed_after : (V → ℕ) → List ℕ → ℕ → Cell V → List ℕ
  packed_after word bs a c = cond (packed_takes bs a c) (nine_set bs a (pack_cell lawful word c)) bs
