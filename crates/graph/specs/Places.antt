-- The places of hands and cells in visiting order, and what makes them canonical. Assumes nothing.
-- Hand i is place i, for i below 16. The left and the right side of cell j are the places 16 + 2 j and 17 + 2 j.
use Rattle.std.specs.Prelude.{◌≡◌, ℕ, zero, suc, ◌+◌, ◌-◌, ◌*◌, ◌/◌, ◌%◌, ◌<◌, ◌≤◌, Bool, true, false, cond, ◌⊎◌, ◌↔◌, List, length, ◌==◌, ◌≢◌, nat_lt, slice_index_or}
use Rattle.cells.specs.declared.Tag.TheVariants.{Unique, Sticky}
use Rattle.cells.specs.declared.Reference.{Reference}
use Rattle.cells.specs.declared.Field.{Field}
use Rattle.cells.specs.declared.Field.TheVariants.{Nil, To}
use Rattle.cells.specs.declared.Side.{Side}
use Rattle.cells.specs.declared.Side.TheVariants.{Left, Right}
use Rattle.cells.specs.declared.Cell.{Cell}
use Rattle.cells.specs.declared.Cell.TheVariants.{Blank, Pair, Leaf, Moved}
use Rattle.graph.specs.Graphs.{Link, to, Graph, hand, node, side, Reachable}

-- the place of a side of the cell at an address
abbrev pub place_of : Side → ℕ → ℕ
place_of Left j = 16 + 2 * j
place_of Right j = 17 + 2 * j

-- the cell, and the side of it, that a place from 16 on is
abbrev pub cell_of : ℕ → ℕ
cell_of p = (p - 16) / 2

abbrev pub side_of : ℕ → Side
side_of p = cond (p % 2 == 0) Left Right

-- the field on one side of a cell, nil for what is no pair
abbrev pub field_of : {V : Type 0} → Side → Cell V → Field
field_of s Blank = Nil
field_of Left (Pair l r) = l
field_of Right (Pair l r) = r
field_of s (Leaf v) = Nil
field_of s (Moved f o) = Nil

-- what a place holds
abbrev pub holds : {V : Type 0} → List Field → List (Cell V) → ℕ → Field
holds hands cells p = cond (nat_lt p 16) (slice_index_or hands p Nil) (field_of (side_of p) (slice_index_or cells (cell_of p) Blank))

-- the same of a graph: the link at a place
abbrev pub link_at : {V : Type 0} → Graph V → ℕ → Link
link_at G p = cond (nat_lt p 16) (hand G p) (side (side_of p) (node G (cell_of p)))

-- whether a field is a reference to an address
abbrev pub refers_to : ℕ → Field → Bool
refers_to a Nil = false
refers_to a (To r) = r.address == a

-- another place than p holds a reference to an address
abbrev pub Another : (ℕ → Field) → ℕ → ℕ → Type 0
Another held p a = (q : ℕ) × (q ≢ p) × (refers_to a (held q) ≡ true)

-- a UNIQUE reference is the only one to its cell
abbrev pub Honest : (ℕ → Field) → Type 0
Honest held = (p : ℕ) (r : Reference) → held p ≡ To r → r.tag ≡ Unique → Another held p r.address → ⊥

-- a reference is STICKY exactly when another place holds a reference with its address
abbrev pub Exact : (ℕ → Field) → Type 0
Exact held = (p : ℕ) (r : Reference) → held p ≡ To r → (r.tag ≡ Sticky) ↔ Another held p r.address

-- the counter of met addresses, at a field: one more where the field refers to the lowest unmet address
abbrev pub meeting : ℕ → Field → ℕ
meeting m f = cond (refers_to m f) (suc m) m

-- How many addresses are met at the places below p. Where every reference is to an address met before or to the
-- lowest unmet one, the addresses met are those below this number, and the lowest unmet one is this number itself.
unfoldable pub met : (ℕ → Field) → ℕ → ℕ
met held zero = 0
met held (suc p) = meeting (met held p) (held p)

-- whether a cell is a pair or a leaf
abbrev pub is_node : {V : Type 0} → Cell V → Bool
is_node Blank = false
is_node (Pair l r) = true
is_node (Leaf v) = true
is_node (Moved f o) = false

-- Hands and cells that are canonical. Each rule is about one place, or one cell, at a time.
pub record Canonical {V : Type 0} (hands : List Field) (cells : List (Cell V)) : Type 0 where
  -- there are sixteen hands
  pub sixteen : length hands ≡ 16
  -- each cell is a pair or a leaf
  pub kinds : (j : ℕ) → j < length cells → is_node (slice_index_or cells j Blank) ≡ true
  -- every address is that of a cell
  pub inside : (p : ℕ) (r : Reference) → p < 16 + 2 * length cells → holds hands cells p ≡ To r → r.address < length cells
  -- each reference is to an address met before, or to the lowest unmet one
  pub order : (p : ℕ) (r : Reference) → p < 16 + 2 * length cells → holds hands cells p ≡ To r → r.address ≤ met (holds hands cells) p
  -- each cell is met before its own fields are read
  pub early : (j : ℕ) → j < length cells → j < met (holds hands cells) (16 + 2 * j)
  -- all cells are met
  pub all : met (holds hands cells) (16 + 2 * length cells) ≡ length cells
  -- tags are exact
  pub tags : Exact (holds hands cells)

-- every leaf is a lawful value
abbrev pub Lawful : {V : Type 0} → (V → Bool) → List (Cell V) → Type 0
Lawful {V} lawful cells = (n : ℕ) (v : V) → slice_index_or cells n Blank ≡ Leaf v → lawful v ≡ true

-- a place of a graph counts if it is a hand, or a side of a reachable node
abbrev pub Live : {V : Type 0} → Graph V → ℕ → Type 0
Live G p = (p < 16) ⊎ ((16 ≤ p) × Reachable G (cell_of p))

-- a node is shared when two links or more lead to it, from hands and from reachable pairs
abbrev pub Shared : {V : Type 0} → Graph V → ℕ → Type 0
Shared G n = (p : ℕ) × (q : ℕ) × (p ≢ q) × (Live G p) × (Live G q) × (link_at G p ≡ to n) × (link_at G q ≡ to n)
