-- What holds of the record, the working bank and the plain graph outside a collection. Assumes nothing.
use Rattle.std.specs.Prelude.{◌≡◌, ℕ, ◌<◌, ◌≤◌, Bool, true, List, length, take, slice_index, slice_index_or}
use Rattle.cells.specs.declared.Reference.{Reference}
use Rattle.cells.specs.declared.Field.{Field}
use Rattle.cells.specs.declared.Field.TheVariants.{Nil, To}
use Rattle.cells.specs.declared.Cell.{Cell}
use Rattle.cells.specs.declared.Cell.TheVariants.{Blank, Leaf}
use Rattle.graph.specs.Graphs.{Node, blank, pair, leaf, Graph, hand, node, sent, link_of, node_of}
use Rattle.graph.specs.Places.{holds, Honest, is_node}

-- whether an address is on a list
abbrev pub Listed : List ℕ → ℕ → Type 0
Listed free a = (i : ℕ) × (i < length free) × (slice_index free i ≡ a)

-- References and the free list: each reference leads below the mark and to no listed cell, a UNIQUE one is the only one to its
-- cell, and at most sixteen addresses are listed, each once and below the mark.
pub record Tagged (mark : ℕ) (free : List ℕ) (held : ℕ → Field) : Type 0 where
  pub inside : (p : ℕ) (r : Reference) → held p ≡ To r → r.address < mark
  pub few : length free ≤ 16
  pub once_listed : (i j : ℕ) → i < length free → j < length free → slice_index free i ≡ slice_index free j → i ≡ j
  pub listed_below : (i : ℕ) → i < length free → slice_index free i < mark
  pub unlisted : (p : ℕ) (r : Reference) → held p ≡ To r → Listed free r.address → ⊥
  pub honest : Honest held

-- a node with its links sent along a map
abbrev pub node_sent : {V : Type 0} → (ℕ → ℕ) → Node V → Node V
node_sent f blank = blank
node_sent f (pair l r) = pair (sent f l) (sent f r)
node_sent f (leaf v) = leaf v

-- what each place of the hands and of the cells below the mark holds
abbrev pub held_below : {V : Type 0} → ℕ → List Field → List (Cell V) → ℕ → Field
held_below mark hands cells = holds hands (take mark cells)

-- an address below the mark that is not listed
abbrev pub InUse : ℕ → List ℕ → ℕ → Type 0
InUse mark free a = (a < mark) × (Listed free a → ⊥)

pub record Sound {V : Type 0} (lawful : V → Bool) (size mark : ℕ) (hands : List Field) (free : List ℕ) (cells : List (Cell V)) (G : Graph V) : Type 0 where
  -- sizes
  pub size_cells : length cells ≡ size
  pub mark_size : mark ≤ size
  pub sixteen : length hands ≡ 16
  pub plain_sixteen : length G.hands ≡ 16
  -- each cell below the mark is a pair or a lawful leaf
  pub nodes : (a : ℕ) → a < mark → is_node (slice_index_or cells a Blank) ≡ true
  pub leaves : (a : ℕ) (v : V) → a < mark → slice_index_or cells a Blank ≡ Leaf v → lawful v ≡ true
  -- references and the free list, garbage included
  pub tags : Tagged mark free (held_below mark hands cells)
  -- each address in use stands for a node of the plain graph, one to one, sides to sides and hands to hands
  pub map : ℕ → ℕ
  pub map_below : (a : ℕ) → InUse mark free a → map a < length G.nodes
  pub map_once : (a b : ℕ) → InUse mark free a → InUse mark free b → map a ≡ map b → a ≡ b
  pub map_node : (a : ℕ) → InUse mark free a → node G (map a) ≡ node_sent map (node_of (slice_index_or cells a Blank))
  pub map_hand : (i : ℕ) → i < 16 → sent map (link_of (slice_index_or hands i Nil)) ≡ hand G i
