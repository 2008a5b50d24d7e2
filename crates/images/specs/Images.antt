-- Which bytes are an image, and when two images are of alike graphs. Assumes nothing.
-- `lawful`, `word`, `taken`, `number` and `alike` are the members of the wanted leaf kind.
use Rattle.std.specs.Prelude.{◌≡◌, ℕ, ◌+◌, ◌*◌, ◌<◌, ◌≤◌, Bool, cond, ◌&&◌, ◌⊎◌, List, length, drop, Some, None, Ok, Err, Decides, Option, Result, nat_le, nat_lt, slice_index_or}
use Rattle.cells.specs.declared.causes.Cause.{Cause}
use Rattle.cells.specs.declared.causes.Cause.TheVariants.{NotAnImage}
use Rattle.cells.specs.declared.Field.{Field}
use Rattle.cells.specs.declared.Field.TheVariants.{Nil}
use Rattle.cells.specs.declared.Cell.{Cell}
use Rattle.cells.specs.Banks.{cell_at}
use Rattle.graph.specs.Graphs.{Graph, Alike, graph_of}
use Rattle.graph.specs.Places.{Canonical, Lawful}
use Rattle.images.specs.Layout.{image_of, count_in, stored_hand, stored_cell, hands_in, cells_in}

-- bytes are the image of hands and cells that are canonical and have lawful leaves
pub record ImageOf {V : Type 0} (lawful : V → Bool) (word : V → ℕ) (number : ℕ) (bytes : List ℕ) (hands : List Field) (cells : List (Cell V)) : Type 0 where
  pub few : length cells ≤ 32768
  pub canonical : Canonical hands cells
  pub leaves : Lawful lawful cells
  pub spelled : bytes ≡ image_of lawful word number hands cells

-- bytes are the image of some hands and n cells
abbrev pub IsImage : {V : Type 0} → (V → Bool) → (V → ℕ) → ℕ → List ℕ → ℕ → Type 0
IsImage {V} lawful word number bytes n =
    (hands : List Field) × (cells : List (Cell V)) × (length cells ≡ n) × ImageOf lawful word number bytes hands cells

-- bytes are the image of no hands and cells
abbrev pub NoImage : {V : Type 0} → (V → Bool) → (V → ℕ) → ℕ → List ℕ → Type 0
NoImage {V} lawful word number bytes = (hands : List Field) (cells : List (Cell V)) → ImageOf lawful word number bytes hands cells → ⊥

-- bytes are the image of the hands and cells that stand in them
abbrev pub HeldImage : {V : Type 0} → (V → Bool) → (V → ℕ) → (ℕ → Option V) → ℕ → List ℕ → Type 0
HeldImage lawful word taken number bytes = ImageOf lawful word number bytes (hands_in bytes) (cells_in taken bytes)

-- the answer of a check
abbrev pub Checked : {V : Type 0} → (V → Bool) → (V → ℕ) → ℕ → List ℕ → Result ℕ Cause → Type 0
Checked lawful word number bytes (Ok n) = IsImage lawful word number bytes n
Checked lawful word number bytes (Err c) = (c ≡ NotAnImage) × NoImage lawful word number bytes

-- the hand with an index, and the cell at an address, as far as the bytes have one
abbrev pub hand_of : List ℕ → ℕ → Option Field
hand_of bytes i = cond (nat_lt i 16 && nat_le (8 + 4 * i) (length bytes)) (stored_hand (drop 4 bytes) i) None

abbrev pub cell_of : {V : Type 0} → (ℕ → Option V) → List ℕ → ℕ → Option (Cell V)
cell_of taken bytes j = cond (nat_lt j (count_in bytes) && nat_le (77 + 9 * j) (length bytes)) (Some (stored_cell taken (drop 4 bytes) j)) None

-- An image has one set of hands and cells: those that stand in it, and that are found in it by index and by address.
pub record OneReading {V : Type 0} (lawful : V → Bool) (word : V → ℕ) (taken : ℕ → Option V) (number : ℕ) : Type 0 where
  pub hands_one : (bytes : List ℕ) (hands : List Field) (cells : List (Cell V)) → ImageOf lawful word number bytes hands cells → hands ≡ hands_in bytes
  pub cells_one : (bytes : List ℕ) (hands : List Field) (cells : List (Cell V)) → ImageOf lawful word number bytes hands cells → cells ≡ cells_in taken bytes
  pub hand_found : (bytes : List ℕ) (hands : List Field) (cells : List (Cell V)) → ImageOf lawful word number bytes hands cells → (i : ℕ) → i < 16 → hand_of bytes i ≡ Some (slice_index_or hands i Nil)
  pub cell_found : (bytes : List ℕ) (hands : List Field) (cells : List (Cell V)) → ImageOf lawful word number bytes hands cells → (j : ℕ) → cell_of taken bytes j ≡ cell_at cells j

-- the graph that stands in an image
abbrev pub graph_in : {V : Type 0} → (ℕ → Option V) → List ℕ → Graph V
graph_in taken bytes = graph_of (hands_in bytes) (cells_in taken bytes)

-- the answer to whether two images are of alike graphs
abbrev pub Compared : {V : Type 0} → (V → Bool) → (V → ℕ) → (ℕ → Option V) → (V → V → Bool) → ℕ → List ℕ → List ℕ → Result Bool Cause → Type 0
Compared lawful word taken alike number a b (Ok same) =
    HeldImage lawful word taken number a × HeldImage lawful word taken number b
    × Decides same (Alike alike (graph_in taken a) (graph_in taken b))
Compared lawful word taken alike number a b (Err c) =
    (c ≡ NotAnImage) × (NoImage lawful word number a ⊎ NoImage lawful word number b)
