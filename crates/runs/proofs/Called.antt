-- Every accepted call leaves a sound store, none is refused as spoiled, and Look answers as the plain graph does. Assumes nothing.
use Rattle.std.proofs.Common.{◌≡◌, ℕ, zero, suc, ◌+◌, ◌<◌, Bool, true, false, cond, not, ◌||◌, eqb, ltb, ◌⊎◌, List, [], ◌∷◌, ◌++◌, length, get_or, take, set, replicate, is_some, Some, None, Option, unwrap_or, sym, refl, ap, ◌∙◌, subst, inl, inr, arith, length-take, get_or-set_other, get_or-set_same}
use Rattle.std.proofs.lemmas.Bool.Decides.{nat_tests}
use Rattle.std.proofs.lemmas.Bool.{cases_lt, cases_Bool}
use Rattle.std.proofs.lemmas.List.{get_or_past, get_or-replicate}
use Rattle.runs.specs.Sound.{InUse, Sound, held_below, node_sent}
use Rattle.cells.specs.declared.Tag.{Tag}
use Rattle.cells.specs.declared.Tag.TheVariants.{Unique, Sticky}
use Rattle.cells.specs.declared.Reference.{Reference}
use Rattle.cells.specs.declared.Field.{Field}
use Rattle.cells.specs.declared.Field.TheVariants.{Nil, To}
use Rattle.cells.specs.declared.Side.{Side}
use Rattle.cells.specs.declared.Side.TheVariants.{Left, Right}
use Rattle.cells.specs.declared.Cell.{Cell}
use Rattle.cells.specs.declared.Cell.TheVariants.{Blank, Pair, Leaf, Moved}
use Rattle.cells.specs.declared.causes.Cause.{Cause}
use Rattle.cells.specs.declared.causes.Cause.TheVariants.{OtherSize, NoSuchHand, Collecting, ValueRefused, NilHand, LeafCell, Spoiled, NoRoom}
use Rattle.cells.specs.Leaves.{Laws}
use Rattle.graph.specs.Graphs.{Link, nil, to, Node, Graph, hand, node, side, sent, link_of, node_of}
use Rattle.graph.specs.Places.{place_of, cell_of, side_of, field_of, is_node}
use Rattle.graph.proofs.Reading.{holds_hand, holds_side}
use Rattle.store.specs.declared.Sight.TheVariants.{APair}
use Rattle.store.specs.Model.{Model, new_model, hand_of, is_collecting}
use Rattle.store.specs.Fields.{unique, is_unique, is_nil, unique_field, past, address_of, made_sticky, with_side, let_go, let_go_sides, top, below_top, Taken, taking}
use Rattle.store.specs.Calls.{Call, State, first, no_such_hand, value_refused, sided, hand_passes, leads_to_leaf, astray, field_at, spoiled, full, no_room, cause_of, effect, placed, with_field, cell_sight, sight_of}
use Rattle.store.specs.Calls as call
use Rattle.runs.specs.Kept.{SoundAt, CallsKeepSound}
use Rattle.runs.specs.Plain.{set_hand, add_node, with_link, link_on, nodes_with, plain_call, node_sight, plain_sight, is_nil_link}
use Rattle.runs.proofs.Lists.{length_push}
use Rattle.runs.proofs.Tagging.{no_reference}
use Rattle.runs.proofs.Moves.{held_hand, held_side, link_sticky, sound_sticky_hand, sound_sticky_side, sound_write_hand, sound_write_side, sound_swap, side_here}
use Rattle.runs.proofs.Placing.{Bare, sound_grown, sound_reused}

-- ---- nothing is spoiled

module _ {V : Type 0} {lawful : V → Bool} {size mark : ℕ} {hands : List Field} {free : List ℕ} {cells : List (Cell V)} {G : Graph V}
    (S : Sound lawful size mark hands free cells G) where
  -- what a hand refers to is in use
  pub hand_in_use : (g : ℕ) (r : Reference) → get_or hands g Nil ≡ To r → InUse mark free r.address
  hand_in_use g r e = elim (cases_lt g 16) [
    | inl x ↦ (S.tags.inside g r (held_hand mark hands cells g x ∙ e), S.tags.unlisted g r (held_hand mark hands cells g x ∙ e))
    | inr x ↦ absurd (no_reference (sym (get_or_past hands g Nil (let y = S.sixteen in omega arith)) ∙ e))
  ]

  -- and so is what a side of a cell in use refers to
  pub side_in_use : (s : Side) (a : ℕ) (r : Reference) → a < mark → field_of s (get_or cells a Blank) ≡ To r → InUse mark free r.address
  side_in_use s a r l e = (S.tags.inside (place_of s a) r (held_side mark hands cells s a l ∙ e), S.tags.unlisted (place_of s a) r (held_side mark hands cells s a l ∙ e))

  not_astray : (g : ℕ) (f : Field) → get_or hands g Nil ≡ f → astray mark cells f ≡ false
  not_astray g Nil e = refl
  not_astray g (To r) e = let u = hand_in_use g r e in let l = u.0 in let k = S.nodes r.address u.0 in grind (arith, nat_tests)

  not_past : (g : ℕ) (s : Side) (f h : Field) → get_or hands g Nil ≡ f → field_at cells s f ≡ h → past mark h ≡ false
  not_past g s f Nil e x = refl
  not_past g s Nil (To r) e x = absurd (no_reference x)
  not_past g s (To q) (To r) e x = let u = hand_in_use g q e in let w = side_in_use s q.address r u.0 x in let l = w.0 in grind (arith, nat_tests)

-- ---- what an accepted call is known by

-- a row of the table that does not apply, and the rows below it
pub row_none : (b : Bool) (c : Cause) (rest : Option Cause) → cond b (Some c) rest ≡ None → (b ≡ false) × (rest ≡ None)
row_none b c rest e = (grind (arith, nat_tests), grind (arith, nat_tests))

pub record Admitted {V : Type 0} (tidied : V → Option V) (m : Model) (n : ℕ) (cells : List (Cell V)) (c : Call V) : Type 0 where
  pub size_same : not (eqb n m.size) ≡ false
  pub hands_there : no_such_hand c ≡ false
  pub not_collecting : is_collecting m.mode ≡ false
  pub value_taken : value_refused tidied c ≡ false
  pub not_nil : hand_passes is_nil m (sided c) ≡ false
  pub not_leaf : hand_passes (leads_to_leaf cells) m (sided c) ≡ false
  pub not_spoiled : spoiled m cells c ≡ false
  pub room : no_room m c ≡ false

pub admitted : {V : Type 0} (tidied : V → Option V) (m : Model) (n : ℕ) (cells : List (Cell V)) (c : Call V) → cause_of tidied m n cells c ≡ None → Admitted tidied m n cells c
unfolding cause_of
admitted tidied m n cells c e =
    let a = row_none (not (eqb n m.size)) OtherSize _ e in
    let b = row_none (no_such_hand c) NoSuchHand _ a.1 in
    let d = row_none (is_collecting m.mode) Collecting _ b.1 in
    let f = row_none (value_refused tidied c) ValueRefused _ d.1 in
    let g = row_none (hand_passes is_nil m (sided c)) NilHand _ f.1 in
    let h = row_none (hand_passes (leads_to_leaf cells) m (sided c)) LeafCell _ g.1 in
    let i = row_none (spoiled m cells c) Spoiled _ h.1 in
    let j = row_none (no_room m c) NoRoom _ i.1 in
    record {
      size_same = a.0;
      hands_there = b.0;
      not_collecting = d.0;
      value_taken = f.0;
      not_nil = g.0;
      not_leaf = h.0;
      not_spoiled = i.0;
      room = j.0;
    }

-- ---- lists

set_set : {X : Type 0} (xs : List X) (i : ℕ) (x y : X) → set (set xs i x) i y ≡ set xs i y
set_set [] i x y = refl
set_set (z ∷ xs) zero x y = refl
set_set (z ∷ xs) (suc i) x y = ap (λ r. z ∷ r) (set_set xs i x y)

set_get : {X : Type 0} (xs : List X) (i : ℕ) (d : X) → set xs i (get_or xs i d) ≡ xs
set_get [] i d = refl
set_get (z ∷ xs) zero d = refl
set_get (z ∷ xs) (suc i) d = ap (λ r. z ∷ r) (set_get xs i d)

low_hand : (h : ℕ) → ltb 15 h ≡ false → h < 16
low_hand h e = grind (arith, nat_tests)

either_low : (h g : ℕ) → (ltb 15 h || ltb 15 g) ≡ false → (h < 16) × (g < 16)
either_low h g e = (grind (arith, nat_tests), grind (arith, nat_tests))

-- ---- the calls, on a sound store

module _ {V : Type 0} {lawful : V → Bool} {tidied : V → Option V} {word : V → ℕ} {taken : ℕ → Option V} {alike : V → V → Bool} (laws : Laws lawful tidied word taken alike)
    (m : Model) (cells : List (Cell V)) (G : Graph V) (S : SoundAt lawful m cells G) where
  pub never_spoiled : (c : Call V) → spoiled m cells c ≡ false
  never_spoiled (call.pair h) = refl
  never_spoiled (call.leaf h v) = refl
  never_spoiled (call.copy h g) = refl
  never_spoiled (call.load h g s) = let a = not_astray S g (hand_of m g) refl in let b = not_past S g s (hand_of m g) (field_at cells s (hand_of m g)) refl refl in grind (arith, nat_tests)
  never_spoiled (call.store g s h) = not_astray S g (hand_of m g) refl
  never_spoiled (call.swap g s h) = let a = not_astray S g (hand_of m g) refl in let b = not_past S g s (hand_of m g) (field_at cells s (hand_of m g)) refl refl in grind (arith, nat_tests)
  never_spoiled (call.clear h) = refl
  never_spoiled (call.look h) = not_astray S h (hand_of m h) refl

  pub cause_not_spoiled : (n : ℕ) (c : Call V) → cause_of tidied m n cells c ≡ Some Spoiled → ⊥
  unfolding cause_of
  cause_not_spoiled n c e = let x = never_spoiled c in let z : ◌≡◌ {A = ℕ} 0 1 = grind (arith, nat_tests) in omega arith

  -- a hand that is not nil, and whose cell is not a leaf, refers to a pair in use
  pub record Reached (g : ℕ) : Type 0 where
    pub reference : Reference
    pub hand_is : hand_of m g ≡ To reference
    pub in_use : InUse m.mark m.free reference.address
    pub left : Field
    pub right : Field
    pub pair_is : get_or cells reference.address Blank ≡ Pair left right

  pub reached : (g : ℕ) → is_nil (hand_of m g) ≡ false → leads_to_leaf cells (hand_of m g) ≡ false → Reached g
  reached g a b = by_hand (hand_of m g) refl a b
    where
      by_cell : (r : Reference) → hand_of m g ≡ To r → (d : Cell V) → get_or cells r.address Blank ≡ d → leads_to_leaf cells (To r) ≡ false → Reached g
      by_cell r e Blank x y = absurd (let k = S.nodes r.address (hand_in_use S g r e).0 in let z : ◌≡◌ {A = ℕ} 0 1 = (let w : false ≡ true = sym (ap is_node x) ∙ k in cc) in omega arith)
      by_cell r e (Pair l q) x y = record { reference = r; hand_is = e; in_use = hand_in_use S g r e; left = l; right = q; pair_is = x }
      by_cell r e (Leaf v) x y = absurd (let z : ◌≡◌ {A = ℕ} 0 1 = grind (arith, nat_tests) in omega arith)
      by_cell r e (Moved f o) x y = absurd (let k = S.nodes r.address (hand_in_use S g r e).0 in let z : ◌≡◌ {A = ℕ} 0 1 = (let w : false ≡ true = sym (ap is_node x) ∙ k in cc) in omega arith)

      by_hand : (f : Field) → hand_of m g ≡ f → is_nil (hand_of m g) ≡ false → leads_to_leaf cells (hand_of m g) ≡ false → Reached g
      by_hand Nil e x y = absurd (let w : true ≡ false = sym (ap is_nil e) ∙ x in let z : ◌≡◌ {A = ℕ} 0 1 = cc in omega arith)
      by_hand (To r) e x y = by_cell r e (get_or cells r.address Blank) refl (sym (ap (leads_to_leaf cells) e) ∙ y)

  -- ---- links of the plain graph

  pub plain_hand : (g : ℕ) → g < 16 → hand G g ≡ sent S.map (link_of (hand_of m g))
  plain_hand g l = sym (S.map_hand g l)

  side_sent : (f : ℕ → ℕ) (s : Side) (c : Cell V) → side s (node_sent f (node_of c)) ≡ sent f (link_of (field_of s c))
  side_sent f Left Blank = refl
  side_sent f Right Blank = refl
  side_sent f Left (Pair l r) = refl
  side_sent f Right (Pair l r) = refl
  side_sent f Left (Leaf v) = refl
  side_sent f Right (Leaf v) = refl
  side_sent f Left (Moved g o) = refl
  side_sent f Right (Moved g o) = refl

  -- the link on a side of the node of an address in use
  pub plain_side : (s : Side) (a : ℕ) → InUse m.mark m.free a → side s (node G (S.map a)) ≡ sent S.map (link_of (field_of s (get_or cells a Blank)))
  plain_side s a u = ap (side s) (S.map_node a u) ∙ side_sent S.map s (get_or cells a Blank)

  -- ---- the single calls

  sound_clear : (h : ℕ) → h < 16 → Sound lawful m.size m.mark (set m.hands h Nil) (let_go m.mark (hand_of m h) m.free) cells (set_hand h nil G)
  sound_clear h k = sound_write_hand S h Nil k (inl refl)

  -- a STICKY field is nil, or a STICKY reference
  sticky_shown : (f : Field) → (f ≡ Nil) ⊎ ((r : Reference) × (made_sticky f ≡ To r) × (r.tag ≡ Sticky))
  sticky_shown Nil = inl refl
  sticky_shown (To r) = inr (record { tag = Sticky; address = r.address }, refl, refl)

  sound_copy : (h g : ℕ) → h < 16 → g < 16 → (h ≡ g → ⊥)
      → Sound lawful m.size m.mark (set (set m.hands g (made_sticky (hand_of m g))) h (made_sticky (hand_of m g))) (let_go m.mark (hand_of m h) m.free) cells (set_hand h (hand G g) G)
  unfolding sound_sticky_hand
  sound_copy h g k l n =
      let f = made_sticky (hand_of m g) in
      let one = set m.hands g f in
      let S1 = sound_sticky_hand S g l in
      let b : g < length m.hands = (let x = S.sixteen in omega arith) in
      let here : held_below m.mark one cells g ≡ f = held_hand m.mark one cells g l ∙ get_or-set_same m.hands g f Nil b in
      let S2 = sound_write_hand S1 h f k (elim (sticky_shown (hand_of m g)) [ inl x ↦ inl (ap made_sticky x) | inr x ↦ inr (g, x.0, x.1, here ∙ x.1, x.2) ]) in
      let e : get_or one h Nil ≡ hand_of m h = get_or-set_other m.hands g h f Nil n in
      let K : sent S.map (link_of f) ≡ hand G g = ap (sent S.map) (link_sticky (hand_of m g)) ∙ S.map_hand g l in
      subst (λ x. Sound lawful m.size m.mark (set one h f) (let_go m.mark x m.free) cells (set_hand h (hand G g) G)) e
      (subst (λ x. Sound lawful m.size m.mark (set one h f) (let_go m.mark (get_or one h Nil) m.free) cells (set_hand h x G)) K S2)

  sound_load : (h g : ℕ) (s : Side) → h < 16 → g < 16 → (R : Reached g)
      → Sound lawful m.size m.mark (set m.hands h (made_sticky (field_of s (get_or cells R.reference.address Blank)))) (let_go m.mark (hand_of m h) m.free)
      (set cells R.reference.address (with_side s (made_sticky (field_of s (get_or cells R.reference.address Blank))) (get_or cells R.reference.address Blank)))
      (set_hand h (side s (node G (S.map R.reference.address))) G)
  unfolding sound_sticky_side
  sound_load h g s k l R =
      let a = R.reference.address in
      let low = R.in_use.0 in
      let old = field_of s (get_or cells a Blank) in
      let f = made_sticky old in
      let one = set cells a (with_side s f (get_or cells a Blank)) in
      let S1 = sound_sticky_side S a s R.left R.right low R.pair_is in
      let here : held_below m.mark m.hands one (place_of s a) ≡ f =
      held_side m.mark m.hands one s a low ∙ ap (field_of s) (side_here S a s f R.left R.right low R.pair_is) ∙ ap (λ c. field_of s (with_side s f c)) R.pair_is ∙ with_here s f R.left R.right in
      let S2 = sound_write_hand S1 h f k (elim (sticky_shown old) [ inl x ↦ inl (ap made_sticky x) | inr x ↦ inr (place_of s a, x.0, x.1, here ∙ x.1, x.2) ]) in
      let K : sent S.map (link_of f) ≡ side s (node G (S.map a)) = ap (sent S.map) (link_sticky old) ∙ sym (plain_side s a R.in_use) in
      subst (λ x. Sound lawful m.size m.mark (set m.hands h f) (let_go m.mark (hand_of m h) m.free) one (set_hand h x G)) K S2
    where
      with_here : (s : Side) (f l r : Field) → field_of {V = V} s (with_side s f (Pair l r)) ≡ f
      with_here Left f l r = refl
      with_here Right f l r = refl

  sound_store : (g : ℕ) (s : Side) (h : ℕ) → g < 16 → h < 16 → (R : Reached g)
      → Sound lawful m.size m.mark (set m.hands h (made_sticky (hand_of m h))) (let_go m.mark (field_of s (get_or cells R.reference.address Blank)) m.free)
      (set cells R.reference.address (with_side s (made_sticky (hand_of m h)) (get_or cells R.reference.address Blank)))
      (record { hands = G.hands; nodes = set G.nodes (S.map R.reference.address) (with_link s (hand G h) (node G (S.map R.reference.address))) })
  unfolding sound_sticky_hand
  sound_store g s h l k R =
      let a = R.reference.address in
      let f = made_sticky (hand_of m h) in
      let one = set m.hands h f in
      let S1 = sound_sticky_hand S h k in
      let b : h < length m.hands = (let x = S.sixteen in omega arith) in
      let here : held_below m.mark one cells h ≡ f = held_hand m.mark one cells h k ∙ get_or-set_same m.hands h f Nil b in
      let S2 = sound_write_side S1 a s f R.left R.right R.in_use R.pair_is (elim (sticky_shown (hand_of m h)) [ inl x ↦ inl (ap made_sticky x) | inr x ↦ inr (h, x.0, x.1, here ∙ x.1, x.2) ]) in
      let K : sent S.map (link_of f) ≡ hand G h = ap (sent S.map) (link_sticky (hand_of m h)) ∙ S.map_hand h k in
      subst (λ x. Sound lawful m.size m.mark one (let_go m.mark (field_of s (get_or cells a Blank)) m.free) (set cells a (with_side s f (get_or cells a Blank)))
      (record { hands = G.hands; nodes = set G.nodes (S.map a) (with_link s x (node G (S.map a))) })) K S2

  sound_swapped : (g : ℕ) (s : Side) (h : ℕ) → g < 16 → h < 16 → (R : Reached g)
      → Sound lawful m.size m.mark (set m.hands h (field_of s (get_or cells R.reference.address Blank))) m.free
      (set cells R.reference.address (with_side s (hand_of m h) (get_or cells R.reference.address Blank)))
      (record {
        hands = set G.hands h (side s (node G (S.map R.reference.address)));
        nodes = set G.nodes (S.map R.reference.address) (with_link s (hand G h) (node G (S.map R.reference.address)));
      })
  sound_swapped g s h l k R =
      let a = R.reference.address in
      let f = field_of s (get_or cells a Blank) in
      let new = set cells a (with_side s (hand_of m h) (get_or cells a Blank)) in
      let K : sent S.map (link_of f) ≡ side s (node G (S.map a)) = sym (plain_side s a R.in_use) in
      subst (λ y. Sound lawful m.size m.mark (set m.hands h f) m.free new (record { hands = set G.hands h (side s (node G (S.map a))); nodes = set G.nodes (S.map a) (with_link s y (node G (S.map a))) })) (S.map_hand h k)
      (subst (λ x. Sound lawful m.size m.mark (set m.hands h f) m.free new (record { hands = set G.hands h x; nodes = set G.nodes (S.map a) (with_link s (sent S.map (link_of (hand_of m h))) (node G (S.map a))) })) K
      (sound_swap S h a s R.left R.right k R.in_use R.pair_is))

  -- ---- a cell in a new place

  -- where the list is empty after the hand is let go, and there is room, the mark is below the size
  mark_below : (h : ℕ) → h < 16 → full m h ≡ false → length (let_go m.mark (hand_of m h) m.free) ≡ 0 → m.mark < m.size
  mark_below h k room e = by_hand (hand_of m h) refl
    where
      by_hand : (f : Field) → hand_of m h ≡ f → m.mark < m.size
      by_hand Nil x = let y = sym (ap (λ g. length (let_go m.mark g m.free)) x) ∙ e in let u = ap unique_field x in grind (arith, nat_tests)
      by_hand (To r) x =
          let l = S.tags.inside h r (held_hand m.mark m.hands cells h k ∙ x) in
          let y = sym (ap (λ g. length (let_go m.mark g m.free)) x) ∙ e in
          let u = ap unique_field x in
          let z = length_push m.free r.address in
          by_tag r.tag refl y u z l
        where
          by_tag : (t : Tag) → r.tag ≡ t → length (let_go m.mark (To r) m.free) ≡ 0 → unique_field (hand_of m h) ≡ is_unique r.tag
              → length (m.free ++ (r.address ∷ [])) ≡ length m.free + 1 → r.address < m.mark → m.mark < m.size
          by_tag Unique t y u z l = elim (cases_lt (length m.free) 16) [
            | inl q ↦ (let w : let_go m.mark (To r) m.free ≡ m.free ++ (r.address ∷ []) = grind (arith, nat_tests) in absurd (let v = ap length w in omega arith))
            | inr q ↦ (let w : let_go m.mark (To r) m.free ≡ m.free = grind (arith, nat_tests) in absurd (let v = ap length w in omega arith))
          ]
          by_tag Sticky t y u z l = let w : let_go m.mark (To r) m.free ≡ m.free = grind (arith, nat_tests) in let v = ap length w in let a : unique_field (hand_of m h) ≡ false = u ∙ ap is_unique t in grind (arith, nat_tests)

  module _ (h : ℕ) (k : h < 16) (c : Cell V) (bare : Bare lawful c) (room : full m h ≡ false) where
    -- the record and cells once an address is taken
    abbrev At : Taken → Type 0
    At t = Sound lawful m.size t.mark (set m.hands h (unique t.address)) t.free (set cells t.address c) (add_node h (node_of c) G)

    again : (a : ℕ) → set (set m.hands h Nil) h (unique a) ≡ set m.hands h (unique a)
    again a = set_set m.hands h Nil (unique a)

    again_plain : add_node h (node_of c) (set_hand h nil G) ≡ add_node h (node_of c) G
    again_plain = ap (λ hs. record { hands = hs; nodes = G.nodes ++ (node_of c ∷ []) }) (set_set G.hands h nil (to (length G.nodes)))

    fresh_cell : length (let_go m.mark (hand_of m h) m.free) ≡ 0 → At (record { address = m.mark; mark = m.mark + 1; free = let_go m.mark (hand_of m h) m.free })
    fresh_cell e =
        let S1 = sound_grown (sound_clear h k) h k c bare (mark_below h k room e) in
        subst (λ hs. Sound lawful m.size (m.mark + 1) hs (let_go m.mark (hand_of m h) m.free) (set cells m.mark c) (add_node h (node_of c) G)) (again m.mark)
        (subst (λ g. Sound lawful m.size (m.mark + 1) (set (set m.hands h Nil) h (unique m.mark)) (let_go m.mark (hand_of m h) m.free) (set cells m.mark c) g) again_plain S1)

    used_cell : 0 < length (let_go m.mark (hand_of m h) m.free) → At (record {
      address = top (let_go m.mark (hand_of m h) m.free);
      mark = m.mark;
      free = let_go_sides m.mark (get_or cells (top (let_go m.mark (hand_of m h) m.free)) Blank) (below_top (let_go m.mark (hand_of m h) m.free));
    })
    used_cell e =
        let fr = let_go m.mark (hand_of m h) m.free in
        let S1 = sound_reused (sound_clear h k) e h k c bare in
        subst (λ hs. Sound lawful m.size m.mark hs (let_go_sides m.mark (get_or cells (top fr) Blank) (below_top fr)) (set cells (top fr) c) (add_node h (node_of c) G)) (again (top fr))
        (subst (λ g. Sound lawful m.size m.mark (set (set m.hands h Nil) h (unique (top fr))) (let_go_sides m.mark (get_or cells (top fr) Blank) (below_top fr)) (set cells (top fr) c) g) again_plain S1)

    taken_at : At (taking cells m.mark (let_go m.mark (hand_of m h) m.free))
    taken_at =
        let fr = let_go m.mark (hand_of m h) m.free in
        let A : Taken = record { address = m.mark; mark = m.mark + 1; free = fr } in
        let B : Taken = record { address = top fr; mark = m.mark; free = let_go_sides m.mark (get_or cells (top fr) Blank) (below_top fr) } in
        elim (cases_Bool (eqb (length fr) 0)) [
          | inl x ↦ (let z : length fr ≡ 0 = grind (arith, nat_tests) in subst (λ b. At (cond b A B)) (sym x) (fresh_cell z))
          | inr x ↦ (let z : 0 < length fr = grind (arith, nat_tests) in subst (λ b. At (cond b A B)) (sym x) (used_cell z))
        ]

  bare_pair : Bare lawful (Pair Nil Nil)
  bare_pair = record {
    node_cell = refl;
    lawful_leaf = λ v e. absurd (let z : ◌≡◌ {A = ℕ} 0 1 = cc in omega arith);
    nil_sides = nil_at;
    no_links = λ f. refl;
  }
    where
      nil_at : (s : Side) → field_of {V = V} s (Pair Nil Nil) ≡ Nil
      nil_at Left = refl
      nil_at Right = refl

  bare_leaf : (v : V) → lawful v ≡ true → Bare lawful (Leaf v)
  bare_leaf v l = record {
    node_cell = refl;
    lawful_leaf = λ w e. (let x : v ≡ w = cc in sym (ap lawful x) ∙ l);
    nil_sides = nil_at;
    no_links = λ f. refl;
  }
    where
      nil_at : (s : Side) → field_of s (Leaf v) ≡ Nil
      nil_at Left = refl
      nil_at Right = refl

  tidied_lawful : (v : V) → not (is_some (tidied v)) ≡ false → lawful (unwrap_or (tidied v) v) ≡ true
  tidied_lawful v e = go (tidied v) refl
    where
      go : (o : Option V) → tidied v ≡ o → lawful (unwrap_or (tidied v) v) ≡ true
      go None x = absurd (let y : true ≡ false = sym (ap (λ o. not (is_some o)) x) ∙ e in let z : ◌≡◌ {A = ℕ} 0 1 = cc in omega arith)
      go (Some x) y = ap (λ o. lawful (unwrap_or o v)) y ∙ laws.tidies v x y

  -- the plain hand of a hand that refers to a cell
  reached_link : (g : ℕ) → g < 16 → (R : Reached g) → hand G g ≡ to (S.map R.reference.address)
  reached_link g l R = plain_hand g l ∙ ap (λ f. sent S.map (link_of f)) R.hand_is

  -- ---- every accepted call

  pub sound_effect : (n : ℕ) (c : Call V) → Admitted tidied m n cells c
      → SoundAt lawful (effect tidied (record { model = m; cells = cells }) c).model (effect tidied (record { model = m; cells = cells }) c).cells (plain_call tidied G c)
  unfolding effect
  sound_effect n (call.pair h) A = taken_at h (low_hand h A.hands_there) (Pair Nil Nil) bare_pair A.room
  sound_effect n (call.leaf h v) A = taken_at h (low_hand h A.hands_there) (Leaf (unwrap_or (tidied v) v)) (bare_leaf (unwrap_or (tidied v) v) (tidied_lawful v A.value_taken)) A.room
  sound_effect n (call.copy h g) A =
      let l = either_low h g A.hands_there in
      let f = made_sticky (hand_of m g) in
      let P : Bool → Type 0 = λ b. SoundAt lawful (cond b (call.working m m.hands m.free) (call.working m (set (set m.hands g f) h f) (let_go m.mark (hand_of m h) m.free))) cells (set_hand h (hand G g) G) in
      elim (cases_Bool (eqb h g)) [
        | inl x ↦ (let e : h ≡ g = grind (arith, nat_tests) in
            subst P (sym x) (subst (λ hs. Sound lawful m.size m.mark m.hands m.free cells (record { hands = hs; nodes = G.nodes }))
            (sym (ap (λ j. set G.hands j (hand G g)) e ∙ set_get G.hands g nil)) S))
        | inr x ↦ (let e : h ≡ g → ⊥ = λ y. (let z : ◌≡◌ {A = ℕ} 0 1 = grind (arith, nat_tests) in omega arith) in subst P (sym x) (sound_copy h g l.0 l.1 e))
      ]
  sound_effect n (call.load h g s) A =
      let l = either_low h g A.hands_there in
      let R = reached g A.not_nil A.not_leaf in
      let P : Field → Link → Type 0 = λ F K.
      Sound lawful m.size m.mark (set m.hands h (made_sticky (field_at cells s F))) (let_go m.mark (hand_of m h) m.free)
      (set cells (address_of F) (with_side s (made_sticky (field_at cells s F)) (get_or cells (address_of F) Blank))) (set_hand h (link_on G s K) G) in
      subst (λ F. P F (hand G g)) (sym R.hand_is) (subst (P (To R.reference)) (sym (reached_link g l.1 R)) (sound_load h g s l.0 l.1 R))
  sound_effect n (call.store g s h) A =
      let l = either_low h g A.hands_there in
      let R = reached g A.not_nil A.not_leaf in
      let P : Field → Link → Type 0 = λ F K.
      Sound lawful m.size m.mark (set m.hands h (made_sticky (hand_of m h))) (let_go m.mark (field_at cells s F) m.free)
      (set cells (address_of F) (with_side s (made_sticky (hand_of m h)) (get_or cells (address_of F) Blank))) (record { hands = G.hands; nodes = nodes_with G s K (hand G h) }) in
      subst (λ F. P F (hand G g)) (sym R.hand_is) (subst (P (To R.reference)) (sym (reached_link g l.1 R)) (sound_store g s h l.1 l.0 R))
  sound_effect n (call.swap g s h) A =
      let l = either_low h g A.hands_there in
      let R = reached g A.not_nil A.not_leaf in
      let P : Field → Link → Type 0 = λ F K.
      Sound lawful m.size m.mark (set m.hands h (field_at cells s F)) m.free
      (set cells (address_of F) (with_side s (hand_of m h) (get_or cells (address_of F) Blank))) (record { hands = set G.hands h (link_on G s K); nodes = nodes_with G s K (hand G h) }) in
      subst (λ F. P F (hand G g)) (sym R.hand_is) (subst (P (To R.reference)) (sym (reached_link g l.1 R)) (sound_swapped g s h l.1 l.0 R))
  sound_effect n (call.clear h) A = sound_clear h (low_hand h A.hands_there)
  sound_effect n (call.look h) A = S

  -- ---- Look

  same_nil : (f : ℕ → ℕ) (x : Field) → is_nil x ≡ is_nil_link (sent f (link_of x))
  same_nil f Nil = refl
  same_nil f (To r) = refl

  same_sight : (f : ℕ → ℕ) (c : Cell V) → cell_sight c ≡ node_sight (node_sent f (node_of c))
  same_sight f Blank = refl
  same_sight f (Pair l r) = ap (λ b. APair b (is_nil r)) (same_nil f l) ∙ ap (APair (is_nil_link (sent f (link_of l)))) (same_nil f r)
  same_sight f (Leaf v) = refl
  same_sight f (Moved g o) = refl

  pub look_plain : (h : ℕ) → h < 16 → sight_of cells (hand_of m h) ≡ plain_sight G (hand G h)
  look_plain h l = by_hand (hand_of m h) refl
    where
      by_hand : (f : Field) → hand_of m h ≡ f → sight_of cells (hand_of m h) ≡ plain_sight G (hand G h)
      by_hand Nil e = ap (sight_of cells) e ∙ sym (ap (plain_sight G) (plain_hand h l ∙ ap (λ f. sent S.map (link_of f)) e))
      by_hand (To r) e = ap (sight_of cells) e ∙ same_sight S.map (get_or cells r.address Blank) ∙ ap node_sight (sym (S.map_node r.address (hand_in_use S h r e))) ∙ sym (ap (plain_sight G) (plain_hand h l ∙ ap (λ f. sent S.map (link_of f)) e))

-- ---- a new store

-- a store with nothing in it is sound with any graph whose hands are nil
module _ {V : Type 0} (lawful : V → Bool) (cells : List (Cell V)) (nodes : List (Node V)) where
  all_same : {X : Type 0} (x : X) (i : ℕ) → get_or (replicate 16 x) i x ≡ x
  all_same x i = elim (cases_lt i 16) [ inl l ↦ get_or-replicate 16 i x x l | inr l ↦ get_or_past (replicate 16 x) i x l ]

  nil_held : (p : ℕ) → held_below 0 (replicate 16 Nil) cells p ≡ Nil
  nil_held p = elim (cases_lt p 16) [
    | inl l ↦ holds_hand (replicate 16 Nil) (take 0 cells) p l ∙ all_same Nil p
    | inr l ↦ holds_side (replicate 16 Nil) (take 0 cells) p l ∙ ap (field_of (side_of p)) (get_or_past (take 0 cells) (cell_of p) Blank (let n = length-take 0 cells in omega arith)) ∙ blank_side (side_of p)
  ]
    where
      blank_side : (s : Side) → field_of {V = V} s Blank ≡ Nil
      blank_side Left = refl
      blank_side Right = refl

  pub sound_new : SoundAt lawful (new_model (length cells)) cells (record { hands = replicate 16 nil; nodes = nodes })
  sound_new = record {
    size_cells = refl;
    mark_size = omega arith;
    sixteen = refl;
    plain_sixteen = refl;
    nodes = λ a l. absurd (omega arith);
    leaves = λ a v l e. absurd (omega arith);
    tags = record {
      inside = λ p r e. absurd (no_reference (sym (nil_held p) ∙ e));
      few = omega arith;
      once_listed = λ i j p q e. absurd (omega arith);
      listed_below = λ i p. absurd (omega arith);
      unlisted = λ p r e l. no_reference (sym (nil_held p) ∙ e);
      honest = λ p r e u x. no_reference (sym (nil_held p) ∙ e);
    };
    map = λ a. a;
    map_below = λ a u. absurd (let l = u.0 in omega arith);
    map_once = λ a b u w e. e;
    map_node = λ a u. absurd (let l = u.0 in omega arith);
    map_hand = λ i l. ap (λ f. sent (λ a. a) (link_of f)) (all_same Nil i) ∙ sym (all_same nil i);
  }

pub calls_keep_sound : {V : Type 0} {lawful : V → Bool} {tidied : V → Option V} {word : V → ℕ} {taken : ℕ → Option V} {alike : V → V → Bool}
    → Laws lawful tidied word taken alike → CallsKeepSound lawful tidied
calls_keep_sound {V} {lawful} {tidied} laws = record {
  new = λ cells. sound_new lawful cells [];
  accepted = λ m cells G n c S e. sound_effect laws m cells G S n c (admitted tidied m n cells c e);
  never_spoiled = λ m cells G n c S e. cause_not_spoiled laws m cells G S n c e;
  looks = λ m cells G h S l. look_plain laws m cells G S h l;
}
