-- Places: what they hold, link by link, and how the counter of met addresses rises.
use Rattle.std.proofs.Common.{◌≡◌, ℕ, zero, suc, ◌+◌, ◌*◌, ◌<◌, ◌≤◌, Bool, true, false, cond, ltb, List, length, get_or, sym, refl, ap, ◌∙◌, inl, inr, ⊎_elim, arith}
use lib.ListN.{get_or-map}
use Rattle.std.proofs.lemmas.Bool.Decides.{nat_tests}
use Rattle.std.proofs.lemmas.Bool.{cases_lt, cond-true, cond-false, lt-ltb, le-ltb}
use Rattle.std.proofs.lemmas.List.{get_or_past}
use Rattle.cells.specs.declared.Reference.{Reference}
use Rattle.cells.specs.declared.Field.{Field}
use Rattle.cells.specs.declared.Field.TheVariants.{Nil, To}
use Rattle.cells.specs.declared.Side.{Side}
use Rattle.cells.specs.declared.Side.TheVariants.{Left, Right}
use Rattle.cells.specs.declared.Cell.{Cell}
use Rattle.cells.specs.declared.Cell.TheVariants.{Blank, Pair, Leaf, Moved}
use Rattle.graph.specs.Graphs.{Link, to, Graph, hand, node, side, Reachable, from_hand, from_side, link_of, node_of, graph_of}
use Rattle.graph.specs.Places.{place_of, cell_of, side_of, field_of, holds, link_at, refers_to, meeting, met, Live}

-- a field that links to an address is a reference to it, and refers to it
pub link_reference : (f : Field) (a : ℕ) → link_of f ≡ to a → (r : Reference) × (f ≡ To r) × (r.address ≡ a)
link_reference Nil a e = absurd (grind arith)
link_reference (To r) a e = (r, refl, grind arith)

pub refers_link : (f : Field) (a : ℕ) → refers_to a f ≡ true → link_of f ≡ to a
refers_link Nil a e = absurd (grind arith)
refers_link (To r) a e = grind (arith, nat_tests)

pub link_refers : (f : Field) (a : ℕ) → link_of f ≡ to a → refers_to a f ≡ true
link_refers Nil a e = absurd (grind arith)
link_refers (To r) a e = grind (arith, nat_tests)

field_link : {V : Type 0} (s : Side) (c : Cell V) → link_of (field_of s c) ≡ side s (node_of c)
field_link s Blank = refl
field_link Left (Pair l r) = refl
field_link Right (Pair l r) = refl
field_link s (Leaf v) = refl
field_link s (Moved f o) = refl

-- what a hand or a node of the graph of cells is
pub hand_of_lem : {V : Type 0} (hands : List Field) (cells : List (Cell V)) (i : ℕ) → hand (graph_of hands cells) i ≡ link_of (get_or hands i Nil)
hand_of_lem hands cells i = get_or-map link_of hands i Nil

pub node_of_lem : {V : Type 0} (hands : List Field) (cells : List (Cell V)) (n : ℕ) → node (graph_of hands cells) n ≡ node_of (get_or cells n Blank)
node_of_lem hands cells n = get_or-map node_of cells n Blank

-- a place of the graph has the link of what the place holds
pub link_at_lem : {V : Type 0} (hands : List Field) (cells : List (Cell V)) (p : ℕ) → link_at (graph_of hands cells) p ≡ link_of (holds hands cells p)
link_at_lem hands cells p =
    go (ltb p 16) (get_or hands p Nil) (field_of (side_of p) (get_or cells (cell_of p) Blank)) (hand_of_lem hands cells p)
    (ap (side (side_of p)) (node_of_lem hands cells (cell_of p)) ∙ sym (field_link (side_of p) (get_or cells (cell_of p) Blank)))
  where
    go : (b : Bool) (x y : Field) {k l : Link} → k ≡ link_of x → l ≡ link_of y → cond b k l ≡ link_of (cond b x y)
    go true x y e e' = e
    go false x y e e' = e'

-- the link at a hand's place, and at a side's
pub link_at_hand : {V : Type 0} (G : Graph V) (p : ℕ) → p < 16 → link_at G p ≡ hand G p
link_at_hand G p h = cond-true (ltb p 16) (hand G p) (side (side_of p) (node G (cell_of p))) (lt-ltb p 16 h)

pub link_at_side : {V : Type 0} (G : Graph V) (p : ℕ) → 16 ≤ p → link_at G p ≡ side (side_of p) (node G (cell_of p))
link_at_side G p h = cond-false (ltb p 16) (hand G p) (side (side_of p) (node G (cell_of p))) (le-ltb p 16 h)

-- the cell and the side of a side's place
pub cell_of_place : (s : Side) (m : ℕ) → cell_of (place_of s m) ≡ m
cell_of_place Left m = omega arith
cell_of_place Right m = omega arith

pub side_of_place : (s : Side) (m : ℕ) → side_of (place_of s m) ≡ s
side_of_place Left m = grind (arith, nat_tests)
side_of_place Right m = grind (arith, nat_tests)

pub place_from_16 : (s : Side) (m : ℕ) → 16 ≤ place_of s m
place_from_16 Left m = omega arith
place_from_16 Right m = omega arith

pub link_at_place : {V : Type 0} (G : Graph V) (s : Side) (m : ℕ) → link_at G (place_of s m) ≡ side s (node G m)
link_at_place G s m =
    link_at_side G (place_of s m) (place_from_16 s m) ∙ ap (λ t. side t (node G (cell_of (place_of s m)))) (side_of_place s m) ∙ ap (λ k. side s (node G k)) (cell_of_place s m)

-- a link at a live place leads to a reachable node
pub live_reaches : {V : Type 0} (G : Graph V) (p n : ℕ) → Live G p → link_at G p ≡ to n → Reachable G n
live_reaches G p n (inl h) e = from_hand p (sym (link_at_hand G p h) ∙ e)
live_reaches G p n (inr (h, r)) e = from_side (cell_of p) (side_of p) r (sym (link_at_side G p h) ∙ e)

-- what a hand's place holds, and a side's
pub holds_hand : {V : Type 0} (hands : List Field) (cells : List (Cell V)) (p : ℕ) → p < 16 → holds hands cells p ≡ get_or hands p Nil
holds_hand hands cells p h = cond-true (ltb p 16) (get_or hands p Nil) (field_of (side_of p) (get_or cells (cell_of p) Blank)) (lt-ltb p 16 h)

pub holds_side : {V : Type 0} (hands : List Field) (cells : List (Cell V)) (p : ℕ) → 16 ≤ p → holds hands cells p ≡ field_of (side_of p) (get_or cells (cell_of p) Blank)
holds_side hands cells p h = cond-false (ltb p 16) (get_or hands p Nil) (field_of (side_of p) (get_or cells (cell_of p) Blank)) (le-ltb p 16 h)

pub holds_place : {V : Type 0} (hands : List Field) (cells : List (Cell V)) (s : Side) (j : ℕ) → holds hands cells (place_of s j) ≡ field_of s (get_or cells j Blank)
holds_place hands cells s j =
    holds_side hands cells (place_of s j) (place_from_16 s j) ∙ ap (λ t. field_of t (get_or cells (cell_of (place_of s j)) Blank)) (side_of_place s j) ∙ ap (λ k. field_of s (get_or cells k Blank)) (cell_of_place s j)

-- past the places of the cells nothing is held
pub holds_past : {V : Type 0} (hands : List Field) (cells : List (Cell V)) (p : ℕ) → 16 + 2 * length cells ≤ p → holds hands cells p ≡ Nil
holds_past hands cells p h = holds_side hands cells p (omega arith) ∙ ap (field_of (side_of p)) (get_or_past cells (cell_of p) Blank (omega arith))

-- the counter, one place on
pub met_step : (held : ℕ → Field) (p : ℕ) → met held (suc p) ≡ meeting (met held p) (held p)
unfolding met
met_step held p = refl

pub met_start : (held : ℕ → Field) → met held 0 ≡ 0
unfolding met
met_start held = refl

meeting_rises : (m : ℕ) (f : Field) → m ≤ meeting m f
meeting_rises m Nil = omega arith
meeting_rises m (To r) = grind (arith, nat_tests)

pub met_rises : (held : ℕ → Field) (q p : ℕ) → q ≤ p → met held q ≤ met held p
met_rises held q zero h = let e : q ≡ 0 = omega arith in rw e (omega arith)
met_rises held q (suc p) h = ⊎_elim (λ l. below (met_rises held q p (omega arith))) here (cases_lt q (suc p))
  where
    below : met held q ≤ met held p → met held q ≤ met held (suc p)
    below i = let s = meeting_rises (met held p) (held p) in rw met_step (omega arith)

    here : suc p ≤ q → met held q ≤ met held (suc p)
    here l = let e : q ≡ suc p = omega arith in rw e (omega arith)

-- what the counter does at a field is known by the field's link
pub meeting_link : (m : ℕ) (f f' : Field) → link_of f ≡ link_of f' → meeting m f ≡ meeting m f'
meeting_link m Nil Nil e = refl
meeting_link m Nil (To r) e = absurd (grind arith)
meeting_link m (To r) Nil e = absurd (grind arith)
meeting_link m (To r) (To r') e = grind (arith, nat_tests)
