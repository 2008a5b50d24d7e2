-- A collection whose places are all visited: tags are exact, and what is kept is canonical. Assumes nothing.
use Rattle.std.proofs.Common.{◌≡◌, ℕ, ◌+◌, ◌*◌, ◌<◌, Bool, true, List, [], length, get_or, take, sym, refl, ap, ◌∙◌, subst, inl, inr, arith, length-take, get_or-take}
use Rattle.std.proofs.lemmas.Bool.{cases_lt, cases_eq}
use Rattle.std.proofs.lemmas.List.{get_or_past}
use Rattle.cells.specs.declared.Tag.{Tag}
use Rattle.cells.specs.declared.Tag.TheVariants.{Unique, Sticky}
use Rattle.cells.specs.declared.Reference.{Reference}
use Rattle.cells.specs.declared.Field.{Field}
use Rattle.cells.specs.declared.Field.TheVariants.{Nil, To}
use Rattle.cells.specs.declared.Side.{Side}
use Rattle.cells.specs.declared.Side.TheVariants.{Left, Right}
use Rattle.cells.specs.declared.Cell.{Cell}
use Rattle.cells.specs.declared.Cell.TheVariants.{Blank, Pair, Leaf, Moved}
use Rattle.graph.specs.Graphs.{Link, nil, to, Node, blank, pair, leaf, Graph, hand, node, sent, Reachable, Matches, Alike, link_of, node_of, graph_of}
use Rattle.graph.specs.Places.{place_of, cell_of, side_of, field_of, is_node, refers_to, met, Another, Exact, Canonical}
use Rattle.graph.proofs.Reading.{holds_hand, holds_side, holds_place, holds_past, hand_of_lem, node_of_lem, cell_of_place, side_of_place, place_from_16}
use Rattle.graph.proofs.Firsts.{Firsts, firsts_order, firsts_early, firsts_all}
use Rattle.graph.proofs.Tags.{exact_honest}
use Rattle.graph.proofs.Ordered.{reachable_inside}
use Rattle.graph.proofs.Partners.{alike_by_map}
use Rattle.collector.specs.Steps.{Tour}
use Rattle.runs.specs.Sound.{InUse, Listed, Sound, Tagged, held_below, node_sent}
use Rattle.runs.proofs.Tagging.{no_reference, refers_to_lem, refers_from}
use Rattle.runs.proofs.TourVisits.{Log, ref, stood, was, was_stood, was_hand, was_side}
use Rattle.runs.proofs.TourPlaces.{bare, bare_node}
use Rattle.runs.proofs.TourSteps.{Begun, Touring, copied_below, held_now}

-- ---- links and nodes sent along a map

-- cells of one kind whose sides are sent to sides: the node of the one is sent to the node of the other
node_sent_lem : {V : Type 0} (f : ℕ → ℕ) (c d : Cell V) → bare c ≡ bare d → is_node d ≡ true → ((s : Side) → sent f (link_of (field_of s c)) ≡ link_of (field_of s d)) → node_sent f (node_of c) ≡ node_of d
node_sent_lem f c Blank e h s = absurd (let z : ◌≡◌ {A = ℕ} 0 1 = cc in omega arith)
node_sent_lem f c (Moved g o) e h s = absurd (let z : ◌≡◌ {A = ℕ} 0 1 = cc in omega arith)
node_sent_lem f Blank (Pair x y) e h s = absurd (let z : ◌≡◌ {A = ℕ} 0 1 = cc in omega arith)
node_sent_lem f (Pair l r) (Pair x y) e h s = ap (λ k. pair k (sent f (link_of r))) (s Left) ∙ ap (pair (link_of x)) (s Right)
node_sent_lem f (Leaf v) (Pair x y) e h s = absurd (let z : ◌≡◌ {A = ℕ} 0 1 = cc in omega arith)
node_sent_lem f (Moved g o) (Pair x y) e h s = absurd (let z : ◌≡◌ {A = ℕ} 0 1 = cc in omega arith)
node_sent_lem f Blank (Leaf w) e h s = absurd (let z : ◌≡◌ {A = ℕ} 0 1 = cc in omega arith)
node_sent_lem f (Pair l r) (Leaf w) e h s = absurd (let z : ◌≡◌ {A = ℕ} 0 1 = cc in omega arith)
node_sent_lem f (Leaf v) (Leaf w) e h s = cc
node_sent_lem f (Moved g o) (Leaf w) e h s = absurd (let z : ◌≡◌ {A = ℕ} 0 1 = cc in omega arith)

bare_leaf : {V : Type 0} (c d : Cell V) (v : V) → bare c ≡ bare d → c ≡ Leaf v → d ≡ Leaf v
bare_leaf c Blank v e q = absurd (let x = ap bare q in let z : ◌≡◌ {A = ℕ} 0 1 = cc in omega arith)
bare_leaf c (Pair x y) v e q = absurd (let x = ap bare q in let z : ◌≡◌ {A = ℕ} 0 1 = cc in omega arith)
bare_leaf c (Leaf w) v e q = let x = ap bare q in cc
bare_leaf c (Moved g o) v e q = absurd (let x = ap bare q in let z : ◌≡◌ {A = ℕ} 0 1 = cc in omega arith)

pub matches_sent : {V : Type 0} (alike : V → V → Bool) (f : ℕ → ℕ) (x y : Node V) → ((v : V) → x ≡ leaf v → alike v v ≡ true) → node_sent f x ≡ y → Matches alike f x y
matches_sent alike f blank y h e = subst (Matches alike f blank) e tt
matches_sent alike f (pair l r) y h e = subst (Matches alike f (pair l r)) e (refl, refl)
matches_sent alike f (leaf v) y h e = subst (Matches alike f (leaf v)) e (h v refl)

sent_twice : (f g : ℕ → ℕ) (l : Link) → sent f (sent g l) ≡ sent (λ n. f (g n)) l
sent_twice f g nil = refl
sent_twice f g (to n) = refl

node_twice : {V : Type 0} (f g : ℕ → ℕ) (x : Node V) → node_sent f (node_sent g x) ≡ node_sent (λ n. f (g n)) x
node_twice f g blank = refl
node_twice f g (pair l r) = ap (λ k. pair k (sent f (sent g r))) (sent_twice f g l) ∙ ap (pair (sent (λ n. f (g n)) l)) (sent_twice f g r)
node_twice f g (leaf v) = refl

pub leaf_of_lem : {V : Type 0} (c : Cell V) (v : V) → node_of c ≡ leaf v → c ≡ Leaf v
leaf_of_lem Blank v e = absurd (let z : ◌≡◌ {A = ℕ} 0 1 = cc in omega arith)
leaf_of_lem (Pair l r) v e = absurd (let z : ◌≡◌ {A = ℕ} 0 1 = cc in omega arith)
leaf_of_lem (Leaf w) v e = cc
leaf_of_lem (Moved f o) v e = absurd (let z : ◌≡◌ {A = ℕ} 0 1 = cc in omega arith)

module _ {V : Type 0} {size mark : ℕ} {hands : List Field} {cells : List (Cell V)} (b : Begun size mark hands cells)
    {t : Tour V} {L : Log} (T : Touring size mark hands cells t L) (ended : t.steps ≡ 16 + 2 * t.copied) where
  pub kept_length : length (take t.copied t.new) ≡ t.copied
  kept_length = let x = length-take t.copied t.new in let n = copied_below T in let m = b.mark_size in let l = T.new_size in omega arith

  -- what a place of hands and kept cells holds
  pub held_within : (p : ℕ) → p < 16 + 2 * t.copied → held_below t.copied t.hands t.new p ≡ held_now t p
  held_within p h =
      elim (cases_lt p 16) [
        | inl l ↦ holds_hand t.hands (take t.copied t.new) p l ∙ sym (holds_hand t.hands t.new p l)
        | inr l ↦
            holds_side t.hands (take t.copied t.new) p l
            ∙ ap (field_of (side_of p)) (get_or-take t.copied t.new (cell_of p) Blank (omega arith))
            ∙ sym (holds_side t.hands t.new p l)
      ]

  -- a reference that is held now: where it led at Begin, and to which copy it leads
  pub record Read (p : ℕ) (r : Reference) : Type 0 where
    pub low : p < 16 + 2 * t.copied
    pub led : Reference
    pub was_led : was (held_below mark hands cells) L.orig p ≡ To led
    pub cell : ℕ
    pub cell_low : cell < t.copied
    pub cell_of : L.orig cell ≡ led.address
    pub is : r ≡ record { tag = L.tags cell; address = cell }

  pub read : (p : ℕ) (r : Reference) → held_below t.copied t.hands t.new p ≡ To r → Read p r
  read p r e =
      elim (cases_lt p (16 + 2 * t.copied)) [
        | inl h ↦ go h (was (held_below mark hands cells) L.orig p) refl
        | inr h ↦ absurd (no_reference (sym (holds_past t.hands (take t.copied t.new) p (let l = kept_length in omega arith)) ∙ e))
      ]
    where
      go : p < 16 + 2 * t.copied → (f : Field) → was (held_below mark hands cells) L.orig p ≡ f → Read p r
      go h Nil q = absurd (no_reference (sym (T.visits.nils p (omega arith) q) ∙ sym (held_within p h) ∙ e))
      go h (To x) q =
          let m = T.visits.met p x (omega arith) q in
          record {
            low = h;
            led = x;
            was_led = q;
            cell = m.0;
            cell_low = m.1;
            cell_of = m.2;
            is = (let y : To r ≡ ref (L.tags m.0) m.0 = sym e ∙ held_within p h ∙ m.3 in cc);
          }

  -- a place that led to the j-th copied cell refers to it now
  pub refers_now : (p j : ℕ) → p < 16 + 2 * t.copied → j < t.copied → refers_to (L.orig j) (was (held_below mark hands cells) L.orig p) ≡ true
      → held_below t.copied t.hands t.new p ≡ ref (L.tags j) j
  refers_now p j h hj f =
      let x = refers_from (was (held_below mark hands cells) L.orig p) (L.orig j) f in
      let m = T.visits.met p x.0 (omega arith) x.1 in
      let e : m.0 ≡ j = T.visits.once m.0 j m.1 hj (m.2 ∙ x.2) in
      held_within p h ∙ m.3 ∙ ap (λ i. ref (L.tags i) i) e

  -- and a place that refers to it now led to it
  pub referred_then : (p j : ℕ) → refers_to j (held_below t.copied t.hands t.new p) ≡ true
      → (p < 16 + 2 * t.copied) × (j < t.copied) × (refers_to (L.orig j) (was (held_below mark hands cells) L.orig p) ≡ true)
  referred_then p j f =
      let x = refers_from (held_below t.copied t.hands t.new p) j f in
      let y = read p x.0 x.1 in
      let e : y.cell ≡ j = (let a = y.is in let c = x.2 in cc) in
      (y.low, subst (λ i. i < t.copied) e y.cell_low, refers_to_lem (was (held_below mark hands cells) L.orig p) y.led (L.orig j) y.was_led (sym y.cell_of ∙ ap L.orig e))

  pub first_low : (j : ℕ) → j < t.copied → L.first j < 16 + 2 * t.copied
  first_low j h = let g = T.visits.gone j h in omega arith

  pub first_refers : (j : ℕ) → j < t.copied → refers_to (L.orig j) (was (held_below mark hands cells) L.orig (L.first j)) ≡ true
  first_refers j h = refers_to_lem (was (held_below mark hands cells) L.orig (L.first j)) (record { tag = L.entry j; address = L.orig j }) (L.orig j) (T.visits.came j h) refl

  pub refers_here : (p j : ℕ) → p < 16 + 2 * t.copied → j < t.copied → refers_to (L.orig j) (was (held_below mark hands cells) L.orig p) ≡ true
      → refers_to j (held_below t.copied t.hands t.new p) ≡ true
  refers_here p j h hj f = refers_to_lem (held_below t.copied t.hands t.new p) (record { tag = L.tags j; address = j }) j (refers_now p j h hj f) refl

  -- a STICKY reference has another beside it, and a UNIQUE one has none
  sticky_another : (p : ℕ) (r : Reference) → Read p r → r.tag ≡ Sticky → Another (held_below t.copied t.hands t.new) p r.address
  sticky_another p r x s =
      let i = x.is in
      let s' : L.tags x.cell ≡ Sticky = cc in
      let a : r.address ≡ x.cell = cc in
      let w = T.visits.twice x.cell x.cell_low s' in
      elim (cases_eq p (L.first x.cell)) [
        | inl q ↦ (w.0, (λ z. w.2 (z ∙ q)), ap (λ k. refers_to k (held_below t.copied t.hands t.new w.0)) a ∙ refers_here w.0 x.cell (let z = w.1 in omega arith) x.cell_low w.3)
        | inr n ↦ (
          L.first x.cell,
          (λ z. n (sym z)),
          ap (λ k. refers_to k (held_below t.copied t.hands t.new (L.first x.cell))) a
              ∙ refers_here (L.first x.cell) x.cell (first_low x.cell x.cell_low) x.cell_low (first_refers x.cell x.cell_low),
        )
      ]

  another_sticky : (p : ℕ) (r : Reference) → Read p r → Another (held_below t.copied t.hands t.new) p r.address → r.tag ≡ Sticky
  another_sticky p r x (q, n, f) = (let i = x.is in let e : r.tag ≡ L.tags x.cell = cc in e) ∙ go (L.tags x.cell) refl
    where
      go : (g : Tag) → L.tags x.cell ≡ g → L.tags x.cell ≡ Sticky
      go Sticky e = e
      go Unique e =
          let i = x.is in
          let a : r.address ≡ x.cell = cc in
          let y = referred_then q x.cell (ap (λ k. refers_to k (held_below t.copied t.hands t.new q)) (sym a) ∙ f) in
          let h = y.0 in
          let k = x.low in
          let c : q ≡ L.first x.cell = T.visits.sole x.cell q x.cell_low e (omega arith) y.2 in
          let d : p ≡ L.first x.cell = T.visits.sole x.cell p x.cell_low e (omega arith)
          (refers_to_lem (was (held_below mark hands cells) L.orig p) x.led (L.orig x.cell) x.was_led (sym x.cell_of)) in
          absurd (n (c ∙ sym d))

  pub exact_now : Exact (held_below t.copied t.hands t.new)
  exact_now p r e = (sticky_another p r (read p r e), another_sticky p r (read p r e))

  -- ---- order

  pub firsts_now : Firsts (held_below t.copied t.hands t.new) t.copied L.first
  firsts_now = record {
    rise = T.visits.rise;
    here = λ j h. refers_here (L.first j) j (first_low j h) h (first_refers j h);
    soon = T.visits.soon;
    least = λ p a h f. (let x = referred_then p a f in (x.1, T.visits.least a p x.1 (omega arith) x.2));
  }

  cell_node : (j : ℕ) → j < t.copied → is_node (get_or t.new j Blank) ≡ true
  cell_node j h = bare_node (get_or t.new j Blank) (get_or cells (L.orig j) Blank) (T.kinds j h) (b.nodes (L.orig j) (T.visits.below j h))

  pub canonical_now : Canonical t.hands (take t.copied t.new)
  canonical_now = record {
    sixteen = T.sixteen;
    kinds = λ j h. (let l = kept_length in let k : j < t.copied = omega arith in ap is_node (get_or-take t.copied t.new j Blank k) ∙ cell_node j k);
    inside = λ p r h e. (let l = kept_length in let x = read p r e in let i = x.is in let k = x.cell_low in let a : r.address ≡ x.cell = cc in omega arith);
    order = λ p r h e. (let l = kept_length in firsts_order firsts_now p r (omega arith) e);
    early = λ j h. (let l = kept_length in firsts_early firsts_now j (omega arith));
    all = ap (λ n. met (held_below t.copied t.hands t.new) (16 + 2 * n)) kept_length ∙ firsts_all firsts_now ∙ sym kept_length;
    tags = exact_now;
  }

  -- ---- the kept graph and the graph at Begin

  pub sent_held : (p : ℕ) → p < 16 + 2 * t.copied → sent L.orig (link_of (held_now t p)) ≡ link_of (was (held_below mark hands cells) L.orig p)
  sent_held p h = go (was (held_below mark hands cells) L.orig p) refl
    where
      go : (f : Field) → was (held_below mark hands cells) L.orig p ≡ f → sent L.orig (link_of (held_now t p)) ≡ link_of (was (held_below mark hands cells) L.orig p)
      go Nil e = ap (λ x. sent L.orig (link_of x)) (T.visits.nils p (omega arith) e) ∙ ap link_of (sym e)
      go (To r) e =
          let m = T.visits.met p r (omega arith) e in
          ap (λ x. sent L.orig (link_of x)) m.3 ∙ ap to m.2 ∙ ap link_of (sym e)

  pub sent_hand : (i : ℕ) → sent L.orig (link_of (get_or t.hands i Nil)) ≡ link_of (get_or hands i Nil)
  sent_hand i =
      elim (cases_lt i 16) [
        | inl h ↦
            ap (λ x. sent L.orig (link_of x)) (sym (holds_hand t.hands t.new i h)) ∙ sent_held i (omega arith)
            ∙ ap link_of (was_hand (held_below mark hands cells) L.orig i h ∙ holds_hand hands (take mark cells) i h)
        | inr h ↦
            ap (λ x. sent L.orig (link_of x)) (get_or_past t.hands i Nil (let l = T.sixteen in omega arith))
            ∙ ap link_of (sym (get_or_past hands i Nil (let l = b.sixteen in omega arith)))
      ]

  pub sent_node : (j : ℕ) → j < t.copied → node_sent L.orig (node_of (get_or t.new j Blank)) ≡ node_of (get_or cells (L.orig j) Blank)
  sent_node j h = node_sent_lem L.orig (get_or t.new j Blank) (get_or cells (L.orig j) Blank) (T.kinds j h) (b.nodes (L.orig j) (T.visits.below j h)) sides
    where
      low : (s : Side) → place_of s j < 16 + 2 * t.copied
      low Left = omega arith
      low Right = omega arith

      from : (s : Side) → was (held_below mark hands cells) L.orig (place_of s j) ≡ field_of s (get_or cells (L.orig j) Blank)
      from s =
          was_side (held_below mark hands cells) L.orig (place_of s j) (place_from_16 s j)
          ∙ ap (λ x. held_below mark hands cells (place_of x (L.orig (cell_of (place_of s j))))) (side_of_place s j)
          ∙ ap (λ x. held_below mark hands cells (place_of s (L.orig x))) (cell_of_place s j)
          ∙ holds_place hands (take mark cells) s (L.orig j)
          ∙ ap (field_of s) (get_or-take mark cells (L.orig j) Blank (T.visits.below j h))

      sides : (s : Side) → sent L.orig (link_of (field_of s (get_or t.new j Blank))) ≡ link_of (field_of s (get_or cells (L.orig j) Blank))
      sides s =
          ap (λ x. sent L.orig (link_of x)) (sym (holds_place t.hands t.new s j)) ∙ sent_held (place_of s j) (low s) ∙ ap link_of (from s)

  kept_node : (n : ℕ) → n < t.copied → node (graph_of t.hands (take t.copied t.new)) n ≡ node_of (get_or t.new n Blank)
  kept_node n h = node_of_lem t.hands (take t.copied t.new) n ∙ ap node_of (get_or-take t.copied t.new n Blank h)

  begun_node : (n : ℕ) → n < t.copied → node (graph_of hands (take mark cells)) (L.orig n) ≡ node_of (get_or cells (L.orig n) Blank)
  begun_node n h = node_of_lem hands (take mark cells) (L.orig n) ∙ ap node_of (get_or-take mark cells (L.orig n) Blank (T.visits.below n h))

  kept_reachable : (n : ℕ) → Reachable (graph_of t.hands (take t.copied t.new)) n → n < t.copied
  kept_reachable n r = let x = reachable_inside canonical_now n r in let l = kept_length in omega arith

  kept_hands : (i : ℕ) → sent L.orig (hand (graph_of t.hands (take t.copied t.new)) i) ≡ hand (graph_of hands (take mark cells)) i
  kept_hands i = ap (sent L.orig) (hand_of_lem t.hands (take t.copied t.new) i) ∙ sent_hand i ∙ sym (hand_of_lem hands (take mark cells) i)

  module _ (alike : V → V → Bool) (lawful : V → Bool) (self : (v : V) → lawful v ≡ true → alike v v ≡ true)
      (leaves : (a : ℕ) (v : V) → a < mark → get_or cells a Blank ≡ Leaf v → lawful v ≡ true) where
    kept_leaf : (n : ℕ) (v : V) → n < t.copied → get_or t.new n Blank ≡ Leaf v → lawful v ≡ true
    kept_leaf n v h e = leaves (L.orig n) v (T.visits.below n h) (bare_leaf (get_or t.new n Blank) (get_or cells (L.orig n) Blank) v (T.kinds n h) e)

    kept_matches : (n : ℕ) → Reachable (graph_of t.hands (take t.copied t.new)) n
        → Matches alike L.orig (node (graph_of t.hands (take t.copied t.new)) n) (node (graph_of hands (take mark cells)) (L.orig n))
    kept_matches n r =
        let h = kept_reachable n r in
        matches_sent alike L.orig (node (graph_of t.hands (take t.copied t.new)) n) (node (graph_of hands (take mark cells)) (L.orig n))
        (λ v e. self v (kept_leaf n v h (leaf_of_lem (get_or t.new n Blank) v (sym (kept_node n h) ∙ e))))
        (ap (node_sent L.orig) (kept_node n h) ∙ sent_node n h ∙ sym (begun_node n h))

    -- what is kept is alike to what there was at Begin
    pub alike_begun : Alike alike (graph_of t.hands (take t.copied t.new)) (graph_of hands (take mark cells))
    unfolding alike_by_map
    alike_begun =
        alike_by_map alike (graph_of t.hands (take t.copied t.new)) (graph_of hands (take mark cells)) L.orig t.copied
        kept_reachable T.visits.once kept_hands kept_matches

    pub alike_begun_forth : (n : ℕ) → alike_begun.forth n ≡ L.orig n
    unfolding alike_begun
    alike_begun_forth n = refl

  -- ---- sound again

  module _ {lawful : V → Bool} {free : List ℕ} {G : Graph V} (S : Sound lawful size mark hands free cells G) where
    none_listed : (a : ℕ) → Listed [] a → ⊥
    none_listed a (i, h, e) = omega arith

    -- what is copied was in use
    copied_used : (j : ℕ) → j < t.copied → InUse mark free (L.orig j)
    copied_used j h = (
      T.visits.below j h,
      S.tags.unlisted (stood L.orig (L.first j)) (record { tag = L.entry j; address = L.orig j })
          (sym (was_stood (held_below mark hands cells) L.orig (L.first j)) ∙ T.visits.came j h),
    )

    tagged_now : Tagged t.copied [] (held_below t.copied t.hands t.new)
    tagged_now = record {
      inside = λ p r e. (let x = read p r e in let i = x.is in let k = x.cell_low in let a : r.address ≡ x.cell = cc in omega arith);
      few = omega arith;
      once_listed = λ i j h. absurd (omega arith);
      listed_below = λ i h. absurd (omega arith);
      unlisted = λ p r e. none_listed r.address;
      honest = exact_honest (held_below t.copied t.hands t.new) exact_now;
    }

    pub sound_now : Sound lawful size t.copied t.hands [] t.new G
    sound_now = record {
      size_cells = T.new_size;
      mark_size = (let n = copied_below T in let m = b.mark_size in omega arith);
      sixteen = T.sixteen;
      plain_sixteen = S.plain_sixteen;
      nodes = cell_node;
      leaves = λ a v h e. S.leaves (L.orig a) v (T.visits.below a h) (bare_leaf (get_or t.new a Blank) (get_or cells (L.orig a) Blank) v (T.kinds a h) e);
      tags = tagged_now;
      map = λ j. S.map (L.orig j);
      map_below = λ a u. S.map_below (L.orig a) (copied_used a u.0);
      map_once = λ a c u w e. T.visits.once a c u.0 w.0 (S.map_once (L.orig a) (L.orig c) (copied_used a u.0) (copied_used c w.0) e);
      map_node = λ a u. S.map_node (L.orig a) (copied_used a u.0) ∙ ap (node_sent S.map) (sym (sent_node a u.0)) ∙ node_twice S.map L.orig (node_of (get_or t.new a Blank));
      map_hand = λ i h. sym (sent_twice S.map L.orig (link_of (get_or t.hands i Nil))) ∙ ap (sent S.map) (sent_hand i) ∙ S.map_hand i h;
    }
