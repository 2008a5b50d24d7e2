-- Single changes of a sound store: a reference made STICKY, a place overwritten. Assumes nothing.
use Rattle.std.proofs.Common.{◌≡◌, ℕ, ◌<◌, ◌≤◌, Bool, true, false, cond, eqb, List, length, get_or, take, set, sym, refl, ap, ◌∙◌, subst, inl, inr, arith, length-set, length-take, get_or-set_other, get_or-take, get_or-set_same}
use lib.Seq.{take-set-lt}
use Rattle.std.proofs.lemmas.Bool.Decides.{nat_tests}
use Rattle.std.proofs.lemmas.Bool.{cases_eq}
use Rattle.runs.specs.Sound.{InUse, Sound, Tagged, held_below, node_sent}
use Rattle.cells.specs.declared.Field.{Field}
use Rattle.cells.specs.declared.Field.TheVariants.{Nil, To}
use Rattle.cells.specs.declared.Side.{Side}
use Rattle.cells.specs.declared.Side.TheVariants.{Left, Right}
use Rattle.cells.specs.declared.Cell.{Cell}
use Rattle.cells.specs.declared.Cell.TheVariants.{Blank, Pair, Leaf, Moved}
use Rattle.graph.specs.Graphs.{Link, nil, Node, blank, pair, leaf, Graph, hand, node, sent, link_of, node_of}
use Rattle.graph.specs.Places.{place_of, field_of, holds, is_node}
use Rattle.graph.proofs.Reading.{holds_hand, holds_place}
use Rattle.store.specs.Fields.{made_sticky, with_side, let_go}
use Rattle.runs.specs.Plain.{set_hand, with_link}
use Rattle.runs.proofs.Held.{upd, hand_set, side_set}
use Rattle.runs.proofs.Tagging.{tagged_like, tagged_sticky, tagged_write, tagged_moved, Shown, listed_still}

-- ---- links and nodes

pub link_sticky : (f : Field) → link_of (made_sticky f) ≡ link_of f
link_sticky Nil = refl
link_sticky (To r) = refl

pub node_with : {V : Type 0} (s : Side) (f : Field) (c : Cell V) → node_of (with_side s f c) ≡ with_link s (link_of f) (node_of c)
node_with Left f Blank = refl
node_with Right f Blank = refl
node_with Left f (Pair l r) = refl
node_with Right f (Pair l r) = refl
node_with Left f (Leaf v) = refl
node_with Right f (Leaf v) = refl
node_with Left f (Moved g o) = refl
node_with Right f (Moved g o) = refl

pub sent_with : {V : Type 0} (m : ℕ → ℕ) (s : Side) (k : Link) (x : Node V) → node_sent m (with_link s k x) ≡ with_link s (sent m k) (node_sent m x)
sent_with m Left k blank = refl
sent_with m Right k blank = refl
sent_with m Left k (pair l r) = refl
sent_with m Right k (pair l r) = refl
sent_with m Left k (leaf v) = refl
sent_with m Right k (leaf v) = refl

-- a side set to what links the same leaves the node as it is
pub with_same : {V : Type 0} (s : Side) (f : Field) (c : Cell V) → link_of f ≡ link_of (field_of s c) → node_of (with_side s f c) ≡ node_of c
with_same Left f Blank e = refl
with_same Right f Blank e = refl
with_same Left f (Pair l r) e = ap (λ k. pair k (link_of r)) e
with_same Right f (Pair l r) e = ap (pair (link_of l)) e
with_same Left f (Leaf v) e = refl
with_same Right f (Leaf v) e = refl
with_same Left f (Moved g o) e = refl
with_same Right f (Moved g o) e = refl

pub node_with_kind : {V : Type 0} (s : Side) (f : Field) (c : Cell V) → is_node (with_side s f c) ≡ is_node c
node_with_kind Left f Blank = refl
node_with_kind Right f Blank = refl
node_with_kind Left f (Pair l r) = refl
node_with_kind Right f (Pair l r) = refl
node_with_kind Left f (Leaf v) = refl
node_with_kind Right f (Leaf v) = refl
node_with_kind Left f (Moved g o) = refl
node_with_kind Right f (Moved g o) = refl

pub leaf_with : {V : Type 0} (s : Side) (f : Field) (c : Cell V) (v : V) → with_side s f c ≡ Leaf v → c ≡ Leaf v
leaf_with Left f Blank v e = e
leaf_with Right f Blank v e = e
leaf_with Left f (Pair l r) v e = absurd (let z : ◌≡◌ {A = ℕ} 0 1 = cc in omega arith)
leaf_with Right f (Pair l r) v e = absurd (let z : ◌≡◌ {A = ℕ} 0 1 = cc in omega arith)
leaf_with Left f (Leaf w) v e = e
leaf_with Right f (Leaf w) v e = e
leaf_with Left f (Moved g o) v e = e
leaf_with Right f (Moved g o) v e = e

-- ---- what the places hold

module _ {V : Type 0} (mark : ℕ) (hands : List Field) (cells : List (Cell V)) where
  pub held_hand : (i : ℕ) → i < 16 → held_below mark hands cells i ≡ get_or hands i Nil
  held_hand i h = holds_hand hands (take mark cells) i h

  pub held_side : (s : Side) (a : ℕ) → a < mark → held_below mark hands cells (place_of s a) ≡ field_of s (get_or cells a Blank)
  held_side s a h = holds_place hands (take mark cells) s a ∙ ap (field_of s) (get_or-take mark cells a Blank h)

  pub held_hand_set : (h : ℕ) (f : Field) → h < 16 → length hands ≡ 16 → (q : ℕ) → held_below mark (set hands h f) cells q ≡ upd h f (held_below mark hands cells) q
  held_hand_set h f k l q = hand_set hands (take mark cells) h f k l q

  pub held_side_set : (a : ℕ) (s : Side) (f l r : Field) → a < mark → mark ≤ length cells → get_or cells a Blank ≡ Pair l r
      → (q : ℕ) → held_below mark hands (set cells a (with_side s f (get_or cells a Blank))) q ≡ upd (place_of s a) f (held_below mark hands cells) q
  held_side_set a s f l r h m e q =
      let g : get_or (take mark cells) a Blank ≡ get_or cells a Blank = get_or-take mark cells a Blank h in
      let n : a < length (take mark cells) = (let k = length-take mark cells in omega arith) in
      ap (λ cs. holds hands cs q) (take-set-lt mark cells a (with_side s f (get_or cells a Blank)) h ∙ ap (λ c. set (take mark cells) a (with_side s f c)) (sym g))
      ∙ side_set hands (take mark cells) a s f l r n (g ∙ e) q

-- ---- sound stores

module _ {V : Type 0} {lawful : V → Bool} {size mark : ℕ} {hands : List Field} {free : List ℕ} {cells : List (Cell V)} {G : Graph V}
    (S : Sound lawful size mark hands free cells G) where
  -- a hand's reference becomes STICKY
  unfoldable pub sound_sticky_hand : (h : ℕ) → h < 16 → Sound lawful size mark (set hands h (made_sticky (get_or hands h Nil))) free cells G
  sound_sticky_hand h k = record {
    size_cells = S.size_cells;
    mark_size = S.mark_size;
    sixteen = length-set hands h (made_sticky (get_or hands h Nil)) ∙ S.sixteen;
    plain_sixteen = S.plain_sixteen;
    nodes = S.nodes;
    leaves = S.leaves;
    tags = tagged_like (tagged_sticky S.tags h) (held_below mark (set hands h (made_sticky (get_or hands h Nil))) cells)
        (λ q. held_hand_set mark hands cells h (made_sticky (get_or hands h Nil)) k S.sixteen q
        ∙ ap (λ f. upd h (made_sticky f) (held_below mark hands cells) q) (sym (held_hand mark hands cells h k)));
    map = S.map;
    map_below = S.map_below;
    map_once = S.map_once;
    map_node = S.map_node;
    map_hand = λ i l. elim (cases_eq i h) [
      | inl e ↦ (let b : h < length hands = (let x = S.sixteen in omega arith) in
          ap (λ j. sent S.map (link_of (get_or (set hands h (made_sticky (get_or hands h Nil))) j Nil))) e
          ∙ ap (λ f. sent S.map (link_of f)) (get_or-set_same hands h (made_sticky (get_or hands h Nil)) Nil b)
          ∙ ap (sent S.map) (link_sticky (get_or hands h Nil))
          ∙ S.map_hand h k ∙ ap (hand G) (sym e))
      | inr n ↦ ap (λ f. sent S.map (link_of f)) (get_or-set_other hands h i (made_sticky (get_or hands h Nil)) Nil n) ∙ S.map_hand i l
    ];
  }

  -- cells with one side of the pair at a set
  module _ (a : ℕ) (s : Side) (f l r : Field) (low : a < mark) (e : get_or cells a Blank ≡ Pair l r) where
    cell_within : a < length cells
    cell_within = let x = S.size_cells in let y = S.mark_size in omega arith

    pub side_here : get_or (set cells a (with_side s f (get_or cells a Blank))) a Blank ≡ with_side s f (get_or cells a Blank)
    side_here = get_or-set_same cells a (with_side s f (get_or cells a Blank)) Blank cell_within

    pub side_nodes : (b : ℕ) → b < mark → is_node (get_or (set cells a (with_side s f (get_or cells a Blank))) b Blank) ≡ true
    side_nodes b h = elim (cases_eq b a) [
      | inl x ↦ ap (λ j. is_node (get_or (set cells a (with_side s f (get_or cells a Blank))) j Blank)) x ∙ ap is_node side_here ∙ node_with_kind s f (get_or cells a Blank) ∙ S.nodes a low
      | inr n ↦ ap is_node (get_or-set_other cells a b (with_side s f (get_or cells a Blank)) Blank n) ∙ S.nodes b h
    ]

    pub side_leaves : (b : ℕ) (v : V) → b < mark → get_or (set cells a (with_side s f (get_or cells a Blank))) b Blank ≡ Leaf v → lawful v ≡ true
    side_leaves b v h x = elim (cases_eq b a) [
      | inl y ↦ S.leaves a v low (leaf_with s f (get_or cells a Blank) v (sym (ap (λ j. get_or (set cells a (with_side s f (get_or cells a Blank))) j Blank) y ∙ side_here) ∙ x))
      | inr n ↦ S.leaves b v h (sym (get_or-set_other cells a b (with_side s f (get_or cells a Blank)) Blank n) ∙ x)
    ]

    pub side_size : length (set cells a (with_side s f (get_or cells a Blank))) ≡ size
    side_size = length-set cells a (with_side s f (get_or cells a Blank)) ∙ S.size_cells

    pub side_held : (q : ℕ) → held_below mark hands (set cells a (with_side s f (get_or cells a Blank))) q ≡ upd (place_of s a) f (held_below mark hands cells) q
    side_held = held_side_set mark hands cells a s f l r low (let x = S.size_cells in let y = S.mark_size in omega arith) e

  -- a side's reference becomes STICKY in its cell
  unfoldable pub sound_sticky_side : (a : ℕ) (s : Side) (l r : Field) → a < mark → get_or cells a Blank ≡ Pair l r
      → Sound lawful size mark hands free (set cells a (with_side s (made_sticky (field_of s (get_or cells a Blank))) (get_or cells a Blank))) G
  sound_sticky_side a s l r low e =
      let f = made_sticky (field_of s (get_or cells a Blank)) in
      let new = set cells a (with_side s f (get_or cells a Blank)) in
      record {
        size_cells = side_size a s f l r low e;
        mark_size = S.mark_size;
        sixteen = S.sixteen;
        plain_sixteen = S.plain_sixteen;
        nodes = side_nodes a s f l r low e;
        leaves = side_leaves a s f l r low e;
        tags = tagged_like (tagged_sticky S.tags (place_of s a)) (held_below mark hands new)
            (λ q. side_held a s f l r low e q ∙ ap (λ g. upd (place_of s a) (made_sticky g) (held_below mark hands cells) q) (sym (held_side mark hands cells s a low)));
        map = S.map;
        map_below = S.map_below;
        map_once = S.map_once;
        map_node = λ b u. elim (cases_eq b a) [
          | inl x ↦ S.map_node b u ∙ ap (node_sent S.map) (ap (λ j. node_of (get_or cells j Blank)) x
              ∙ sym (with_same s f (get_or cells a Blank) (link_sticky (field_of s (get_or cells a Blank)))) ∙ ap node_of (sym (side_here a s f l r low e)) ∙ ap (λ j. node_of (get_or new j Blank)) (sym x))
          | inr n ↦ S.map_node b u ∙ ap (λ c. node_sent S.map (node_of c)) (sym (get_or-set_other cells a b (with_side s f (get_or cells a Blank)) Blank n))
        ];
        map_hand = S.map_hand;
      }

  -- ---- overwriting

  -- fewer addresses are in use once one is let go
  pub still_in_use : (p a : ℕ) → InUse mark (let_go mark (held_below mark hands cells p) free) a → InUse mark free a
  still_in_use p a u = (u.0, λ l. u.1 (listed_still S.tags p a l))

  -- a hand is let go and set to a field whose link the plain hand gets
  pub sound_write_hand : (h : ℕ) (f : Field) → h < 16 → Shown S.tags h f
      → Sound lawful size mark (set hands h f) (let_go mark (get_or hands h Nil) free) cells (set_hand h (sent S.map (link_of f)) G)
  sound_write_hand h f k ok =
      let old : held_below mark hands cells h ≡ get_or hands h Nil = held_hand mark hands cells h k in
      let b : h < length hands = (let x = S.sixteen in omega arith) in
      let c : h < length G.hands = (let x = S.plain_sixteen in omega arith) in
      let K = sent S.map (link_of f) in
      let smaller : (a : ℕ) → InUse mark (let_go mark (get_or hands h Nil) free) a → InUse mark free a =
      λ a u. still_in_use h a (subst (λ g. InUse mark (let_go mark g free) a) (sym old) u) in
      record {
        size_cells = S.size_cells;
        mark_size = S.mark_size;
        sixteen = length-set hands h f ∙ S.sixteen;
        plain_sixteen = length-set G.hands h K ∙ S.plain_sixteen;
        nodes = S.nodes;
        leaves = S.leaves;
        tags = subst (λ g. Tagged mark (let_go mark g free) (held_below mark (set hands h f) cells)) old
            (tagged_like (tagged_write S.tags h f ok) (held_below mark (set hands h f) cells) (held_hand_set mark hands cells h f k S.sixteen));
        map = S.map;
        map_below = λ a u. S.map_below a (smaller a u);
        map_once = λ a d u w. S.map_once a d (smaller a u) (smaller d w);
        map_node = λ a u. S.map_node a (smaller a u);
        map_hand = λ i l. elim (cases_eq i h) [
          | inl e ↦ ap (λ j. sent S.map (link_of (get_or (set hands h f) j Nil))) e ∙ ap (λ g. sent S.map (link_of g)) (get_or-set_same hands h f Nil b)
              ∙ sym (get_or-set_same G.hands h K nil c) ∙ ap (λ j. get_or (set G.hands h K) j nil) (sym e)
          | inr n ↦ ap (λ g. sent S.map (link_of g)) (get_or-set_other hands h i f Nil n) ∙ S.map_hand i l ∙ sym (get_or-set_other G.hands h i K nil n)
        ];
      }

  -- the plain graph with a link on a side of the node of a set
  abbrev pub nodes_set : Side → ℕ → Link → Graph V
  nodes_set s a K = record { hands = G.hands; nodes = set G.nodes (S.map a) (with_link s K (node G (S.map a))) }

  -- the nodes of addresses in use, after one of them has a side set
  pub node_set : (a : ℕ) (s : Side) (f l r : Field) (low : a < mark) (e : get_or cells a Blank ≡ Pair l r) → InUse mark free a → (b : ℕ) → InUse mark free b
      → get_or (set G.nodes (S.map a) (with_link s (sent S.map (link_of f)) (node G (S.map a)))) (S.map b) blank
      ≡ node_sent S.map (node_of (get_or (set cells a (with_side s f (get_or cells a Blank))) b Blank))
  node_set a s f l r low e u b w =
      let K = sent S.map (link_of f) in
      let x = with_link s K (node G (S.map a)) in
      elim (cases_eq b a) [
        | inl y ↦
            ap (λ j. get_or (set G.nodes (S.map a) x) (S.map j) blank) y
            ∙ get_or-set_same G.nodes (S.map a) x blank (S.map_below a u)
            ∙ ap (with_link s K) (S.map_node a u)
            ∙ sym (sent_with S.map s (link_of f) (node_of (get_or cells a Blank)))
            ∙ ap (node_sent S.map) (sym (node_with s f (get_or cells a Blank)))
            ∙ ap (λ c. node_sent S.map (node_of c)) (sym (side_here a s f l r low e))
            ∙ ap (λ j. node_sent S.map (node_of (get_or (set cells a (with_side s f (get_or cells a Blank))) j Blank))) (sym y)
        | inr n ↦
            get_or-set_other G.nodes (S.map a) (S.map b) x blank (λ q. n (S.map_once b a w u q))
            ∙ S.map_node b w
            ∙ ap (λ c. node_sent S.map (node_of c)) (sym (get_or-set_other cells a b (with_side s f (get_or cells a Blank)) Blank n))
      ]

  -- a side of a pair in use is let go and set to a field whose link the plain node gets
  pub sound_write_side : (a : ℕ) (s : Side) (f l r : Field) → InUse mark free a → get_or cells a Blank ≡ Pair l r → Shown S.tags (place_of s a) f
      → Sound lawful size mark hands (let_go mark (field_of s (get_or cells a Blank)) free) (set cells a (with_side s f (get_or cells a Blank))) (nodes_set s a (sent S.map (link_of f)))
  sound_write_side a s f l r u e ok =
      let low = u.0 in
      let new = set cells a (with_side s f (get_or cells a Blank)) in
      let old : held_below mark hands cells (place_of s a) ≡ field_of s (get_or cells a Blank) = held_side mark hands cells s a low in
      let x = with_link s (sent S.map (link_of f)) (node G (S.map a)) in
      let smaller : (b : ℕ) → InUse mark (let_go mark (field_of s (get_or cells a Blank)) free) b → InUse mark free b =
      λ b w. still_in_use (place_of s a) b (subst (λ g. InUse mark (let_go mark g free) b) (sym old) w) in
      record {
        size_cells = side_size a s f l r low e;
        mark_size = S.mark_size;
        sixteen = S.sixteen;
        plain_sixteen = S.plain_sixteen;
        nodes = side_nodes a s f l r low e;
        leaves = side_leaves a s f l r low e;
        tags = subst (λ g. Tagged mark (let_go mark g free) (held_below mark hands new)) old
            (tagged_like (tagged_write S.tags (place_of s a) f ok) (held_below mark hands new) (side_held a s f l r low e));
        map = S.map;
        map_below = λ b w. subst (λ n. S.map b < n) (sym (length-set G.nodes (S.map a) x)) (S.map_below b (smaller b w));
        map_once = λ b d w z. S.map_once b d (smaller b w) (smaller d z);
        map_node = λ b w. node_set a s f l r low e u b (smaller b w);
        map_hand = S.map_hand;
      }

  -- ---- a hand and a side exchange what they hold

  module _ (h a : ℕ) (s : Side) (l r : Field) (k : h < 16) (u : InUse mark free a) (e : get_or cells a Blank ≡ Pair l r) where
    turned : ℕ → ℕ
    turned q = cond (eqb q h) (place_of s a) (cond (eqb q (place_of s a)) h q)

    turned_once : (i j : ℕ) → (i ≡ j → ⊥) → turned i ≡ turned j → ⊥
    unfolding turned
    turned_once i j n x = n (grind (arith, nat_tests))

    exchanged : (q : ℕ)
        → held_below mark (set hands h (field_of s (get_or cells a Blank))) (set cells a (with_side s (get_or hands h Nil) (get_or cells a Blank))) q
        ≡ held_below mark hands cells (turned q)
    unfolding turned
    exchanged q =
        let f = field_of s (get_or cells a Blank) in
        let g = get_or hands h Nil in
        let new = set cells a (with_side s g (get_or cells a Blank)) in
        let low = u.0 in
        let A : held_below mark (set hands h f) new q ≡ upd h f (held_below mark hands new) q = held_hand_set mark hands new h f k S.sixteen q in
        let B : held_below mark hands new q ≡ upd (place_of s a) g (held_below mark hands cells) q = side_held a s g l r low e q in
        let F : held_below mark hands cells (place_of s a) ≡ f = held_side mark hands cells s a low in
        let H : held_below mark hands cells h ≡ g = held_hand mark hands cells h k in
        A ∙ ap (λ y. cond (eqb q h) f y) B ∙ swaps (held_below mark hands cells) (place_of s a) q f g F H
      where
        swaps : (held : ℕ → Field) (p q : ℕ) (f g : Field) → held p ≡ f → held h ≡ g → cond (eqb q h) f (cond (eqb q p) g (held q)) ≡ held (cond (eqb q h) p (cond (eqb q p) h q))
        swaps held p q f g F H = elim (cases_eq q h) [
          | inl x ↦ (let t : eqb q h ≡ true = grind (arith, nat_tests) in ap (λ b. cond b f (cond (eqb q p) g (held q))) t ∙ sym F ∙ ap (λ b. held (cond b p (cond (eqb q p) h q))) (sym t))
          | inr x ↦ (let t : eqb q h ≡ false = grind (arith, nat_tests) in
              ap (λ b. cond b f (cond (eqb q p) g (held q))) t
              ∙ elim (cases_eq q p) [
                | inl y ↦ (let v : eqb q p ≡ true = grind (arith, nat_tests) in ap (λ b. cond b g (held q)) v ∙ sym H ∙ ap (λ b. held (cond b h q)) (sym v))
                | inr y ↦ (let v : eqb q p ≡ false = grind (arith, nat_tests) in ap (λ b. cond b g (held q)) v ∙ ap (λ b. held (cond b h q)) (sym v))
              ]
              ∙ ap (λ b. held (cond b p (cond (eqb q p) h q))) (sym t))
        ]

    pub sound_swap : Sound lawful size mark (set hands h (field_of s (get_or cells a Blank))) free (set cells a (with_side s (get_or hands h Nil) (get_or cells a Blank)))
        (record {
          hands = set G.hands h (sent S.map (link_of (field_of s (get_or cells a Blank))));
          nodes = set G.nodes (S.map a) (with_link s (sent S.map (link_of (get_or hands h Nil))) (node G (S.map a)));
        })
    sound_swap =
        let low = u.0 in
        let f = field_of s (get_or cells a Blank) in
        let g = get_or hands h Nil in
        let K = sent S.map (link_of f) in
        let b : h < length hands = (let x = S.sixteen in omega arith) in
        let c : h < length G.hands = (let x = S.plain_sixteen in omega arith) in
        let x = with_link s (sent S.map (link_of g)) (node G (S.map a)) in
        record {
          size_cells = side_size a s g l r low e;
          mark_size = S.mark_size;
          sixteen = length-set hands h f ∙ S.sixteen;
          plain_sixteen = length-set G.hands h K ∙ S.plain_sixteen;
          nodes = side_nodes a s g l r low e;
          leaves = side_leaves a s g l r low e;
          tags = tagged_moved S.tags (held_below mark (set hands h f) (set cells a (with_side s g (get_or cells a Blank)))) turned exchanged turned_once;
          map = S.map;
          map_below = λ d w. subst (λ n. S.map d < n) (sym (length-set G.nodes (S.map a) x)) (S.map_below d w);
          map_once = S.map_once;
          map_node = λ d w. node_set a s g l r low e u d w;
          map_hand = λ i y. elim (cases_eq i h) [
            | inl z ↦ ap (λ j. sent S.map (link_of (get_or (set hands h f) j Nil))) z ∙ ap (λ v. sent S.map (link_of v)) (get_or-set_same hands h f Nil b)
                ∙ sym (get_or-set_same G.hands h K nil c) ∙ ap (λ j. get_or (set G.hands h K) j nil) (sym z)
            | inr n ↦ ap (λ v. sent S.map (link_of v)) (get_or-set_other hands h i f Nil n) ∙ S.map_hand i y ∙ sym (get_or-set_other G.hands h i K nil n)
          ];
        }
