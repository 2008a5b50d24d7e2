-- Where an image has its numbers, hands and cells. Assumes nothing.
-- Two bytes for the kind's number, two for the number of cells, four for each of sixteen hands, nine for each cell.
use Rattle.std.specs.Prelude.{◌≡◌, ℕ, ◌+◌, ◌*◌, ◌/◌, ◌%◌, ◌^◌, Bool, List, [], ◌∷◌, ◌++◌, map, length, take, drop, Some, None, Option, slice_index}
use Rattle.std.specs.List.{range_with_len, flat_map}
use Rattle.cells.specs.declared.Field.{Field}
use Rattle.cells.specs.declared.Field.TheVariants.{Nil}
use Rattle.cells.specs.declared.Cell.{Cell}
use Rattle.packing.specs.Fields.{pack_field, unpack_field}
use Rattle.packing.specs.Cells.{pack_cell, unpack_cell}
use Rattle.graph.specs.Places.{holds}

-- a number's bytes, most significant first
abbrev pub two_bytes : ℕ → List ℕ
two_bytes n = (n / 2 ^ 8 % 256) ∷ (n % 256) ∷ []

abbrev pub four_bytes : ℕ → List ℕ
four_bytes n = (n / 2 ^ 24 % 256) ∷ (n / 2 ^ 16 % 256) ∷ (n / 2 ^ 8 % 256) ∷ (n % 256) ∷ []

-- the number that stands at an offset
abbrev pub two_at : List ℕ → ℕ → ℕ
two_at bs p = slice_index bs p * 2 ^ 8 + slice_index bs (p + 1)

abbrev pub four_at : List ℕ → ℕ → ℕ
four_at bs p = slice_index bs p * 2 ^ 24 + slice_index bs (p + 1) * 2 ^ 16 + slice_index bs (p + 2) * 2 ^ 8 + slice_index bs (p + 3)

abbrev pub hand_bytes : Field → List ℕ
hand_bytes f = four_bytes (pack_field f)

-- the image of hands and cells, under the number of their leaf kind
unfoldable pub image_of : {V : Type 0} → (V → Bool) → (V → ℕ) → ℕ → List Field → List (Cell V) → List ℕ
image_of lawful word number hands cells =
    two_bytes number ++ (two_bytes (length cells) ++ (flat_map hand_bytes hands ++ flat_map (pack_cell lawful word) cells))

-- the hand, and the cell, that stand at an index in what follows the first four bytes
unfoldable pub stored_hand : List ℕ → ℕ → Option Field
stored_hand rest i = unpack_field (four_at rest (4 * i))

unfoldable pub stored_cell : {V : Type 0} → (ℕ → Option V) → List ℕ → ℕ → Cell V
stored_cell taken rest j = unpack_cell taken (take 9 (drop (64 + 9 * j) rest))

-- the field that was found, nil where none was
abbrev pub or_nil : Option Field → Field
or_nil None = Nil
or_nil (Some f) = f

-- all sixteen hands, and all of r cells
unfoldable pub stored_hands : List ℕ → List Field
stored_hands rest = map (λ i. or_nil (stored_hand rest i)) (range_with_len 0 16)

unfoldable pub stored_cells : {V : Type 0} → (ℕ → Option V) → List ℕ → ℕ → List (Cell V)
stored_cells taken rest r = map (stored_cell taken rest) (range_with_len 0 r)

-- what their places hold
unfoldable pub held : {V : Type 0} → (ℕ → Option V) → List ℕ → ℕ → ℕ → Field
held taken rest r = holds (stored_hands rest) (stored_cells taken rest r)

-- the same of a whole image
abbrev pub kind_in : List ℕ → ℕ
kind_in image = two_at image 0

abbrev pub count_in : List ℕ → ℕ
count_in image = two_at image 2

-- the bytes after an image's heading, and how many cells the heading says
abbrev pub IsBodyOf : List ℕ → List ℕ → ℕ → Type 0
IsBodyOf image bytes count = (bytes ≡ drop 4 image) × (count ≡ count_in image)

abbrev pub hands_in : List ℕ → List Field
hands_in image = stored_hands (drop 4 image)

abbrev pub cells_in : {V : Type 0} → (ℕ → Option V) → List ℕ → List (Cell V)
cells_in taken image = stored_cells taken (drop 4 image) (count_in image)
