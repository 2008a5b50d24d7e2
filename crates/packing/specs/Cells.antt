-- A cell as nine bytes: its kind's byte, then a body of 64 bits, most significant byte first. Assumes nothing.
-- `lawful`, `word` and `taken` are the members of the leaf kind.
use Rattle.std.specs.Prelude.{◌≡◌, ℕ, ◌+◌, ◌*◌, ◌/◌, ◌%◌, ◌^◌, Bool, true, cond, ◌&&◌, List, [], ◌∷◌, Some, None, Option, ◌==◌, slice_index}
use Rattle.cells.specs.declared.Reference.{Reference}
use Rattle.cells.specs.declared.Field.{Field}
use Rattle.cells.specs.declared.Source.{Source}
use Rattle.cells.specs.declared.Cell.{Cell}
use Rattle.cells.specs.declared.Cell.TheVariants.{Blank, Pair, Leaf, Moved}
use Rattle.cells.specs.Banks.{leaf_lawful}
use Rattle.packing.specs.Fields.{pack_reference, unpack_reference, pack_field, unpack_field, pack_source, unpack_source, reference_fits, field_fits, source_fits}

-- a kind's byte and the eight bytes of a body
abbrev pub nine_bytes : ℕ → ℕ → List ℕ
nine_bytes kind body =
    kind ∷ (body / 2 ^ 56 % 256) ∷ (body / 2 ^ 48 % 256) ∷ (body / 2 ^ 40 % 256) ∷ (body / 2 ^ 32 % 256)
    ∷ (body / 2 ^ 24 % 256) ∷ (body / 2 ^ 16 % 256) ∷ (body / 2 ^ 8 % 256) ∷ (body % 256) ∷ []

-- the body that nine bytes hold
abbrev pub body_of : List ℕ → ℕ
body_of bs =
    slice_index bs 1 * 2 ^ 56 + slice_index bs 2 * 2 ^ 48 + slice_index bs 3 * 2 ^ 40 + slice_index bs 4 * 2 ^ 32
    + slice_index bs 5 * 2 ^ 24 + slice_index bs 6 * 2 ^ 16 + slice_index bs 7 * 2 ^ 8 + slice_index bs 8

-- two words of 32 bits as a body
abbrev pub halves : ℕ → ℕ → ℕ
halves upper lower = upper * 2 ^ 32 + lower

-- the kind's byte and the body of a cell; a leaf that is not lawful has no word, and is packed as a blank cell
abbrev pub kind_and_body : {V : Type 0} → (V → Bool) → (V → ℕ) → Cell V → ℕ × ℕ
kind_and_body lawful word Blank = (0x00, 0)
kind_and_body lawful word (Pair left right) = (0x40, halves (pack_field left) (pack_field right))
kind_and_body lawful word (Leaf v) = cond (lawful v) (0x80, word v) (0x00, 0)
kind_and_body lawful word (Moved forward source) = (0xC0, halves (pack_reference forward) (pack_source source))

unfoldable pub pack_cell : {V : Type 0} → (V → Bool) → (V → ℕ) → Cell V → List ℕ
pack_cell lawful word c = nine_bytes (kind_and_body lawful word c).0 (kind_and_body lawful word c).1

-- the cell of two parts, or a blank one where a part is missing
abbrev pub pair_of : {V : Type 0} → Option Field → Option Field → Cell V
pair_of None right = Blank
pair_of (Some left) None = Blank
pair_of (Some left) (Some right) = Pair left right

abbrev pub leaf_of : {V : Type 0} → Option V → Cell V
leaf_of None = Blank
leaf_of (Some v) = Leaf v

abbrev pub moved_of : {V : Type 0} → Option Reference → Option Source → Cell V
moved_of None source = Blank
moved_of (Some forward) None = Blank
moved_of (Some forward) (Some source) = Moved forward source

-- one of three by the kind's byte; what fits no kind is blank
abbrev pub by_kind : {V : Type 0} → ℕ → Cell V → Cell V → Cell V → Cell V
by_kind kind pair leaf moved = cond (kind == 0x40) pair (cond (kind == 0x80) leaf (cond (kind == 0xC0) moved Blank))

-- the cell of a kind's byte and a body
abbrev pub cell_of : {V : Type 0} → (ℕ → Option V) → ℕ → ℕ → Cell V
cell_of taken kind body =
    by_kind kind
    (pair_of (unpack_field (body / 2 ^ 32)) (unpack_field (body % 2 ^ 32)))
    (leaf_of (taken body))
    (moved_of (unpack_reference (body / 2 ^ 32)) (unpack_source (body % 2 ^ 32)))

unfoldable pub unpack_cell : {V : Type 0} → (ℕ → Option V) → List ℕ → Cell V
unpack_cell taken bs = cell_of taken (slice_index bs 0) (body_of bs)

-- whether the numbers that a cell holds fit sixteen bits
abbrev pub cell_fits : {V : Type 0} → Cell V → Bool
cell_fits Blank = true
cell_fits (Pair left right) = field_fits left && field_fits right
cell_fits (Leaf v) = true
cell_fits (Moved forward source) = reference_fits forward && source_fits source

-- the bytes of a cell are those of no other: of the cells that code can hold, the same one alone is packed so
abbrev pub Alone : {V : Type 0} → (V → Bool) → (V → ℕ) → Cell V → List ℕ → Type 0
Alone {V} lawful word c bs =
    leaf_lawful lawful c ≡ true → (d : Cell V) → leaf_lawful lawful d ≡ true → cell_fits d ≡ true
    → (pack_cell lawful word d ≡ bs → d ≡ c) × (d ≡ c → pack_cell lawful word d ≡ bs)
