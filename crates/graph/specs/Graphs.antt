-- What a set of cells is, apart from its history and from tags: a graph of sixteen hands and a list of nodes. Assumes nothing.
use Rattle.std.specs.Prelude.{◌≡◌, ℕ, ◌<◌, Bool, true, List, map, Some, Option, slice_index_or}
use Rattle.cells.specs.declared.Field.{Field}
use Rattle.cells.specs.declared.Field.TheVariants.{Nil, To}
use Rattle.cells.specs.declared.Side.{Side}
use Rattle.cells.specs.declared.Side.TheVariants.{Left, Right}
use Rattle.cells.specs.declared.Cell.{Cell}
use Rattle.cells.specs.declared.Cell.TheVariants.{Blank, Pair, Leaf, Moved}

-- a link leads nowhere, or to the node with a number
pub data Link : Type 0 where
  nil : Link
  to : ℕ → Link

-- a node is a pair of two links or a leaf; blank is what stands where there is neither
pub data Node (V : Type 0) : Type 0 where
  blank : Node V
  pair : Link → Link → Node V
  leaf : V → Node V

-- sixteen hands and a list of nodes; the number of a node is its index
pub record Graph (V : Type 0) : Type 0 where
  pub hands : List Link
  pub nodes : List (Node V)

-- the link of a hand, nil past the end of the hands
abbrev pub hand : {V : Type 0} → Graph V → ℕ → Link
hand G i = slice_index_or G.hands i nil

-- the node with a number, blank past the end of the nodes
abbrev pub node : {V : Type 0} → Graph V → ℕ → Node V
node G n = slice_index_or G.nodes n blank

-- the link on one side of a node, nil for what is no pair
abbrev pub side : {V : Type 0} → Side → Node V → Link
side s blank = nil
side Left (pair l r) = l
side Right (pair l r) = r
side s (leaf v) = nil

-- a node is reachable from a hand, or from a side of a reachable pair
pub data Reachable {V : Type 0} (G : Graph V) : ℕ → Type 0 where
  from_hand : {n : ℕ} (i : ℕ) → hand G i ≡ to n → Reachable G n
  from_side : {n : ℕ} (m : ℕ) (s : Side) → Reachable G m → side s (node G m) ≡ to n → Reachable G n

-- a link with its number sent along a map, nil to nil
abbrev pub sent : (ℕ → ℕ) → Link → Link
sent f nil = nil
sent f (to n) = to (f n)

-- Two nodes match along a map: both are pairs and the map sends each side of the first to that side of the second, or
-- both are leaves with alike values. A link may lead past the nodes, to a blank: that matches a blank alone.
abbrev pub Matches : {V : Type 0} → (V → V → Bool) → (ℕ → ℕ) → Node V → Node V → Type 0
Matches alike f blank blank = Unit {0}
Matches alike f blank (pair l' r') = ⊥
Matches alike f blank (leaf v') = ⊥
Matches alike f (pair l r) blank = ⊥
Matches alike f (pair l r) (pair l' r') = (sent f l ≡ l') × (sent f r ≡ r')
Matches alike f (pair l r) (leaf v') = ⊥
Matches alike f (leaf v) blank = ⊥
Matches alike f (leaf v) (pair l' r') = ⊥
Matches alike f (leaf v) (leaf v') = alike v v' ≡ true

-- Two graphs are alike when their reachable nodes match one to one, hands to hands, sides to sides. The matching is
-- given by two maps of numbers, each of which undoes the other on reachable nodes.
pub record Alike {V : Type 0} (alike : V → V → Bool) (G G' : Graph V) : Type 0 where
  pub forth : ℕ → ℕ
  pub back : ℕ → ℕ
  pub hands_match : (i : ℕ) → sent forth (hand G i) ≡ hand G' i
  pub nodes_match : (n : ℕ) → Reachable G n → Matches alike forth (node G n) (node G' (forth n))
  pub back_forth : (n : ℕ) → Reachable G n → back (forth n) ≡ n
  pub forth_back : (n : ℕ) → Reachable G' n → forth (back n) ≡ n

-- every reachable leaf is accepted by its kind
abbrev pub Accepted : {V : Type 0} → (V → Option V) → Graph V → Type 0
Accepted {V} tidied G = (n : ℕ) (v : V) → Reachable G n → node G n ≡ leaf v → (x : V) × (tidied v ≡ Some x)

-- how many numbers have a property: the k numbers at 0, .., at (k - 1) are different, and are all that have it
pub record Counts (P : ℕ → Type 0) (k : ℕ) : Type 0 where
  pub at : ℕ → ℕ
  pub once : (i j : ℕ) → i < k → j < k → at i ≡ at j → i ≡ j
  pub each : (i : ℕ) → i < k → P (at i)
  pub every : (n : ℕ) → P n → (i : ℕ) × (i < k) × (at i ≡ n)

-- the link of a field: its tag dropped
abbrev pub link_of : Field → Link
link_of Nil = nil
link_of (To r) = to r.address

-- the node of a cell; a moved cell is no node of its own
abbrev pub node_of : {V : Type 0} → Cell V → Node V
node_of Blank = blank
node_of (Pair l r) = pair (link_of l) (link_of r)
node_of (Leaf v) = leaf v
node_of (Moved f s) = blank

-- the graph of hands and a list of cells: an address is the index, tags are dropped
abbrev pub graph_of : {V : Type 0} → List Field → List (Cell V) → Graph V
graph_of hands cells = record { hands = map link_of hands; nodes = map node_of cells }
