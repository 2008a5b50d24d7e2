-- The plain graph beside a run: it is fed each call's arguments and whether the call was accepted. It has no tags, and nothing
-- is ever removed from it. Assumes nothing.
use Rattle.std.specs.Prelude.{ℕ, Bool, true, false, List, [], ◌∷◌, ◌++◌, length, replicate, Option, slice_set}
use Rattle.std.specs.Option.{unwrap_or}
use Rattle.cells.specs.declared.Side.{Side}
use Rattle.cells.specs.declared.Side.TheVariants.{Left, Right}
use Rattle.graph.specs.Graphs.{Link, nil, to, Node, blank, pair, leaf, Graph, hand, node, side}
use Rattle.store.specs.declared.Sight.{Sight}
use Rattle.store.specs.declared.Sight.TheVariants.{Nothing, APair, ALeaf}
use Rattle.store.specs.Calls.{Call}
use Rattle.store.specs.Calls as call

-- no nodes and nil hands
abbrev pub empty_graph : {V : Type 0} → Graph V
empty_graph = record { hands = replicate 16 nil; nodes = [] }

abbrev pub set_hand : {V : Type 0} → ℕ → Link → Graph V → Graph V
set_hand h l G = record { hands = slice_set G.hands h l; nodes = G.nodes }

-- a new node, and a hand that links to it
abbrev pub add_node : {V : Type 0} → ℕ → Node V → Graph V → Graph V
add_node h x G = record { hands = slice_set G.hands h (to (length G.nodes)); nodes = G.nodes ++ (x ∷ []) }

-- a pair with the link on one side set; any other node as it is
abbrev pub with_link : {V : Type 0} → Side → Link → Node V → Node V
with_link s k blank = blank
with_link Left k (pair l r) = pair k r
with_link Right k (pair l r) = pair l k
with_link s k (leaf v) = leaf v

-- the link on a side of the node that a link leads to
abbrev pub link_on : {V : Type 0} → Graph V → Side → Link → Link
link_on G s nil = nil
link_on G s (to n) = side s (node G n)

-- the nodes with the link on a side of the one that a link leads to set
abbrev pub nodes_with : {V : Type 0} → Graph V → Side → Link → Link → List (Node V)
nodes_with G s nil k = G.nodes
nodes_with G s (to n) k = slice_set G.nodes n (with_link s k (node G n))

-- an accepted call
abbrev pub plain_call : {V : Type 0} → (V → Option V) → Graph V → Call V → Graph V
plain_call tidied G (call.pair h) = add_node h (pair nil nil) G
plain_call tidied G (call.leaf h v) = add_node h (leaf (unwrap_or (tidied v) v)) G
plain_call tidied G (call.copy h g) = set_hand h (hand G g) G
plain_call tidied G (call.load h g s) = set_hand h (link_on G s (hand G g)) G
plain_call tidied G (call.store g s h) = record { hands = G.hands; nodes = nodes_with G s (hand G g) (hand G h) }
plain_call tidied G (call.swap g s h) = record { hands = slice_set G.hands h (link_on G s (hand G g)); nodes = nodes_with G s (hand G g) (hand G h) }
plain_call tidied G (call.clear h) = set_hand h nil G
plain_call tidied G (call.look h) = G

-- an abandoned collection leaves all hands nil
abbrev pub plain_abandon : {V : Type 0} → Graph V → Graph V
plain_abandon G = record { hands = replicate 16 nil; nodes = G.nodes }

abbrev pub is_nil_link : Link → Bool
is_nil_link nil = true
is_nil_link (to n) = false

abbrev pub node_sight : {V : Type 0} → Node V → Sight V
node_sight blank = Nothing
node_sight (pair l r) = APair (is_nil_link l) (is_nil_link r)
node_sight (leaf v) = ALeaf v

-- what Look shows of a link
abbrev pub plain_sight : {V : Type 0} → Graph V → Link → Sight V
plain_sight G nil = Nothing
plain_sight G (to n) = node_sight (node G n)
