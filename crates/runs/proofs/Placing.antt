-- A new cell in a sound store, at the mark or at an address that was listed. Assumes nothing.
use Rattle.std.proofs.Common.{◌≡◌, ℕ, ◌+◌, ◌-◌, ◌<◌, ◌≤◌, Bool, true, false, cond, eqb, ltb, List, [], ◌∷◌, ◌++◌, length, get_or, take, set, sym, refl, ap, ◌∙◌, subst, inl, inr, arith, length-set, length-take, get_or-set_other, get_or-take, get_or-set_same}
use lib.Seq.{take-set-lt}
use Rattle.std.proofs.lemmas.Bool.Decides.{nat_tests}
use Rattle.std.proofs.lemmas.Bool.{cases_lt, cases_eq}
use Rattle.std.proofs.lemmas.List.{get_or_past}
use Rattle.runs.specs.Sound.{InUse, Listed, Sound, Tagged, held_below, node_sent}
use Rattle.cells.specs.declared.Reference.{Reference}
use Rattle.cells.specs.declared.Field.{Field}
use Rattle.cells.specs.declared.Field.TheVariants.{Nil, To}
use Rattle.cells.specs.declared.Side.{Side}
use Rattle.cells.specs.declared.Side.TheVariants.{Left, Right}
use Rattle.cells.specs.declared.Cell.{Cell}
use Rattle.cells.specs.declared.Cell.TheVariants.{Blank, Pair, Leaf, Moved}
use Rattle.graph.specs.Graphs.{nil, to, blank, pair, Graph, sent, link_of, node_of}
use Rattle.graph.specs.Places.{place_of, cell_of, side_of, field_of, is_node}
use Rattle.graph.proofs.Reading.{holds_hand, holds_side}
use Rattle.store.specs.Fields.{unique, let_go, let_go_sides, top, below_top}
use Rattle.runs.specs.Plain.{add_node}
use Rattle.runs.proofs.Lists.{Lets, get_d_push, get_d_end, length_push}
use Rattle.runs.proofs.Held.{upd, upd_there}
use Rattle.runs.proofs.Tagging.{tagged_like, tagged_write, tagged_fresh, tagged_shorter, top_listed, top_once, listed_after, listed_still, no_reference}
use Rattle.runs.proofs.Moves.{held_hand, held_side, held_hand_set}

-- a cell that refers to nothing
pub record Bare {V : Type 0} (lawful : V → Bool) (c : Cell V) : Type 0 where
  pub node_cell : is_node c ≡ true
  pub lawful_leaf : (v : V) → c ≡ Leaf v → lawful v ≡ true
  pub nil_sides : (s : Side) → field_of s c ≡ Nil
  pub no_links : (m : ℕ → ℕ) → node_sent m (node_of c) ≡ node_of c

nil_blank : (V : Type 0) (s : Side) → Nil ≡ field_of {V = V} s Blank
nil_blank V Left = refl
nil_blank V Right = refl

-- a map with another number at a
abbrev map_with : (ℕ → ℕ) → ℕ → ℕ → ℕ → ℕ
map_with m a n b = cond (eqb b a) n (m b)

-- a link that does not lead to a is sent alike by maps that differ at a alone
sent_else : (m : ℕ → ℕ) (a n : ℕ) (f : Field) → ((r : Reference) → f ≡ To r → r.address ≡ a → ⊥) → sent (map_with m a n) (link_of f) ≡ sent m (link_of f)
sent_else m a n Nil h = refl
sent_else m a n (To r) h = let x = h r refl in ap to (grind (arith, nat_tests))

node_else : {V : Type 0} (m : ℕ → ℕ) (a n : ℕ) (c : Cell V) → ((s : Side) (r : Reference) → field_of s c ≡ To r → r.address ≡ a → ⊥)
    → node_sent (map_with m a n) (node_of c) ≡ node_sent m (node_of c)
node_else m a n Blank h = refl
node_else m a n (Pair l r) h = ap (λ k. pair k (sent (map_with m a n) (link_of r))) (sent_else m a n l (h Left)) ∙ ap (pair (sent m (link_of l))) (sent_else m a n r (h Right))
node_else m a n (Leaf v) h = refl
node_else m a n (Moved f o) h = refl

-- places of the cell at a hold nil, the others as before
abbrev cleared : ℕ → (ℕ → Field) → ℕ → Field
cleared a held q = cond (ltb q 16) (held q) (cond (eqb (cell_of q) a) Nil (held q))

module _ {V : Type 0} {lawful : V → Bool} {size mark : ℕ} {hands : List Field} {free : List ℕ} {cells : List (Cell V)} {G : Graph V}
    (S : Sound lawful size mark hands free cells G) (h : ℕ) (k : h < 16) (c : Cell V) (bare : Bare lawful c) where
  -- what is left to show once the tags are known: mark' and free' leave the address a in use, and no other one that was not
  module _ (a mark' : ℕ) (free' : List ℕ) (low : a < mark') (fits : mark' ≤ size)
      (alone : (q : ℕ) (r : Reference) → held_below mark hands cells q ≡ To r → r.address ≡ a → ⊥)
      (before : (b : ℕ) → (b ≡ a → ⊥) → InUse mark' free' b → InUse mark free b)
      (below : (b : ℕ) → (b ≡ a → ⊥) → b < mark' → b < mark)
      (tagged : Tagged mark' free' (held_below mark' (set hands h (unique a)) (set cells a c))) where
    map_at : map_with S.map a (length G.nodes) a ≡ length G.nodes
    map_at = grind (arith, nat_tests)

    map_off : (b : ℕ) → (b ≡ a → ⊥) → map_with S.map a (length G.nodes) b ≡ S.map b
    map_off b x = grind (arith, nat_tests)

    within : a < length cells
    within = let x = S.size_cells in omega arith

    cell_here : get_or (set cells a c) a Blank ≡ c
    cell_here = get_or-set_same cells a c Blank within

    cell_there : (b : ℕ) → (b ≡ a → ⊥) → get_or (set cells a c) b Blank ≡ get_or cells b Blank
    cell_there b x = get_or-set_other cells a b c Blank x

    -- no side of another cell leads to a
    side_else : (b : ℕ) → b < mark → (s : Side) (r : Reference) → field_of s (get_or cells b Blank) ≡ To r → r.address ≡ a → ⊥
    side_else b l s r e x = alone (place_of s b) r (held_side mark hands cells s b l ∙ e) x

    abbrev map' : ℕ → ℕ
    map' = map_with S.map a (length G.nodes)

    map_node' : (b : ℕ) → InUse mark' free' b → get_or (G.nodes ++ (node_of c ∷ [])) (map' b) blank ≡ node_sent map' (node_of (get_or (set cells a c) b Blank))
    map_node' b u = elim (cases_eq b a) [
      | inl x ↦ ap (λ j. get_or (G.nodes ++ (node_of c ∷ [])) (map' j) blank) x ∙ ap (λ j. get_or (G.nodes ++ (node_of c ∷ [])) j blank) map_at ∙ get_d_end G.nodes (node_of c) blank
          ∙ sym (bare.no_links map') ∙ ap (λ d. node_sent map' (node_of d)) (sym cell_here) ∙ ap (λ j. node_sent map' (node_of (get_or (set cells a c) j Blank))) (sym x)
      | inr x ↦ (let w = before b x u in
          ap (λ j. get_or (G.nodes ++ (node_of c ∷ [])) j blank) (map_off b x) ∙ get_d_push G.nodes (node_of c) blank (S.map b) (S.map_below b w)
          ∙ S.map_node b w ∙ sym (node_else S.map a (length G.nodes) (get_or cells b Blank) (side_else b w.0)) ∙ ap (λ d. node_sent map' (node_of d)) (sym (cell_there b x)))
    ]

    map_below' : (b : ℕ) → InUse mark' free' b → map' b < length (G.nodes ++ (node_of c ∷ []))
    map_below' b u = let l = length_push G.nodes (node_of c) in elim (cases_eq b a) [
      | inl x ↦ (let e : map' b ≡ length G.nodes = ap map' x ∙ map_at in omega arith)
      | inr x ↦ (let e : map' b ≡ S.map b = map_off b x in let w = S.map_below b (before b x u) in omega arith)
    ]

    map_once' : (b d : ℕ) → InUse mark' free' b → InUse mark' free' d → map' b ≡ map' d → b ≡ d
    map_once' b d u w e = elim (cases_eq b a) [
      | inl x ↦ elim (cases_eq d a) [
        | inl y ↦ x ∙ sym y
        | inr y ↦ absurd (let l = S.map_below d (before d y w) in let p : map' b ≡ length G.nodes = ap map' x ∙ map_at in let q : map' d ≡ S.map d = map_off d y in omega arith)
      ]
      | inr x ↦ elim (cases_eq d a) [
        | inl y ↦ absurd (let l = S.map_below b (before b x u) in let p : map' d ≡ length G.nodes = ap map' y ∙ map_at in let q : map' b ≡ S.map b = map_off b x in omega arith)
        | inr y ↦ S.map_once b d (before b x u) (before d y w) (sym (map_off b x) ∙ e ∙ map_off d y)
      ]
    ]

    map_hand' : (i : ℕ) → i < 16 → sent map' (link_of (get_or (set hands h (unique a)) i Nil)) ≡ get_or (set G.hands h (to (length G.nodes))) i nil
    map_hand' i l = elim (cases_eq i h) [
      | inl x ↦ (let b : h < length hands = (let y = S.sixteen in omega arith) in let d : h < length G.hands = (let y = S.plain_sixteen in omega arith) in
          ap (λ j. sent map' (link_of (get_or (set hands h (unique a)) j Nil))) x ∙ ap (λ f. sent map' (link_of f)) (get_or-set_same hands h (unique a) Nil b) ∙ ap to map_at
          ∙ sym (get_or-set_same G.hands h (to (length G.nodes)) nil d) ∙ ap (λ j. get_or (set G.hands h (to (length G.nodes))) j nil) (sym x))
      | inr x ↦
          ap (λ f. sent map' (link_of f)) (get_or-set_other hands h i (unique a) Nil x)
          ∙ sent_else S.map a (length G.nodes) (get_or hands i Nil) (λ r e y. alone i r (held_hand mark hands cells i l ∙ e) y)
          ∙ S.map_hand i l ∙ sym (get_or-set_other G.hands h i (to (length G.nodes)) nil x)
    ]

    pub sound_placed : Sound lawful size mark' (set hands h (unique a)) free' (set cells a c) (add_node h (node_of c) G)
    sound_placed = record {
      size_cells = length-set cells a c ∙ S.size_cells;
      mark_size = fits;
      sixteen = length-set hands h (unique a) ∙ S.sixteen;
      plain_sixteen = length-set G.hands h (to (length G.nodes)) ∙ S.plain_sixteen;
      nodes = λ b l. elim (cases_eq b a) [
        | inl x ↦ ap (λ j. is_node (get_or (set cells a c) j Blank)) x ∙ ap is_node cell_here ∙ bare.node_cell
        | inr x ↦ ap is_node (cell_there b x) ∙ S.nodes b (below b x l)
      ];
      leaves = λ b v l e. elim (cases_eq b a) [
        | inl x ↦ bare.lawful_leaf v (sym (ap (λ j. get_or (set cells a c) j Blank) x ∙ cell_here) ∙ e)
        | inr x ↦ S.leaves b v (below b x l) (sym (cell_there b x) ∙ e)
      ];
      tags = tagged;
      map = map';
      map_below = map_below';
      map_once = map_once';
      map_node = map_node';
      map_hand = map_hand';
    }

  -- ---- what the places hold after

  -- the cell at a refers to nothing, and the others are as before
  held_placed : (a m : ℕ) → a < m → m ≤ length cells → (q : ℕ) → held_below m hands (set cells a c) q ≡ cleared a (held_below m hands cells) q
  held_placed a m l f q = elim (cases_lt q 16) [
    | inl x ↦ (let t : ltb q 16 ≡ true = grind (arith, nat_tests) in
        holds_hand hands (take m (set cells a c)) q x ∙ sym (holds_hand hands (take m cells) q x) ∙ ap (λ b. cond b (held_below m hands cells q) (cond (eqb (cell_of q) a) Nil (held_below m hands cells q))) (sym t))
    | inr x ↦ (let t : ltb q 16 ≡ false = grind (arith, nat_tests) in
        elim (cases_eq (cell_of q) a) [
          | inl y ↦ (let v : eqb (cell_of q) a ≡ true = grind (arith, nat_tests) in
              holds_side hands (take m (set cells a c)) q x
              ∙ ap (λ j. field_of (side_of q) (get_or (take m (set cells a c)) j Blank)) y
              ∙ ap (field_of (side_of q)) (get_or-take m (set cells a c) a Blank l ∙ get_or-set_same cells a c Blank (omega arith))
              ∙ bare.nil_sides (side_of q)
              ∙ ap (λ b. cond b Nil (held_below m hands cells q)) (sym v)
              ∙ ap (λ b. cond b (held_below m hands cells q) (cond (eqb (cell_of q) a) Nil (held_below m hands cells q))) (sym t))
          | inr y ↦ (let v : eqb (cell_of q) a ≡ false = grind (arith, nat_tests) in
              holds_side hands (take m (set cells a c)) q x
              ∙ ap (λ cs. field_of (side_of q) (get_or cs (cell_of q) Blank)) (take-set-lt m cells a c l)
              ∙ ap (field_of (side_of q)) (get_or-set_other (take m cells) a (cell_of q) c Blank y)
              ∙ sym (holds_side hands (take m cells) q x)
              ∙ ap (λ b. cond b Nil (held_below m hands cells q)) (sym v)
              ∙ ap (λ b. cond b (held_below m hands cells q) (cond (eqb (cell_of q) a) Nil (held_below m hands cells q))) (sym t))
        ])
  ]

  -- the new cell stands at the mark, which rises
  held_grown : (q : ℕ) → mark < size → held_below (mark + 1) hands (set cells mark c) q ≡ held_below mark hands cells q
  held_grown q l = elim (cases_lt q 16) [
    | inl x ↦ holds_hand hands (take (mark + 1) (set cells mark c)) q x ∙ sym (holds_hand hands (take mark cells) q x)
    | inr x ↦ holds_side hands (take (mark + 1) (set cells mark c)) q x ∙ by_cell ∙ sym (holds_side hands (take mark cells) q x)
  ]
    where
      by_cell : field_of (side_of q) (get_or (take (mark + 1) (set cells mark c)) (cell_of q) Blank) ≡ field_of (side_of q) (get_or (take mark cells) (cell_of q) Blank)
      by_cell = elim (cases_eq (cell_of q) mark) [
        | inl y ↦ (let past : length (take mark cells) ≤ mark = (let n = length-take mark cells in omega arith) in
            ap (λ j. field_of (side_of q) (get_or (take (mark + 1) (set cells mark c)) j Blank)) y
            ∙ ap (field_of (side_of q)) (get_or-take (mark + 1) (set cells mark c) mark Blank (omega arith) ∙ get_or-set_same cells mark c Blank (let z = S.size_cells in omega arith))
            ∙ bare.nil_sides (side_of q)
            ∙ nil_blank V (side_of q)
            ∙ ap (field_of (side_of q)) (sym (get_or_past (take mark cells) mark Blank past))
            ∙ ap (λ j. field_of (side_of q) (get_or (take mark cells) j Blank)) (sym y))
        | inr y ↦ elim (cases_lt (cell_of q) mark) [
          | inl z ↦ ap (field_of (side_of q)) (get_or-take (mark + 1) (set cells mark c) (cell_of q) Blank (omega arith) ∙ get_or-set_other cells mark (cell_of q) c Blank y ∙ sym (get_or-take mark cells (cell_of q) Blank z))
          | inr z ↦ (let p : length (take (mark + 1) (set cells mark c)) ≤ cell_of q = (let n = length-take (mark + 1) (set cells mark c) in omega arith) in
              let r : length (take mark cells) ≤ cell_of q = (let n = length-take mark cells in omega arith) in
              ap (field_of (side_of q)) (get_or_past (take (mark + 1) (set cells mark c)) (cell_of q) Blank p ∙ sym (get_or_past (take mark cells) (cell_of q) Blank r)))
        ]
      ]

  pub sound_grown : mark < size → Sound lawful size (mark + 1) (set hands h (unique mark)) free (set cells mark c) (add_node h (node_of c) G)
  sound_grown l =
      let alone : (q : ℕ) (r : Reference) → held_below mark hands cells q ≡ To r → r.address ≡ mark → ⊥ = λ q r e x. (let y = S.tags.inside q r e in omega arith) in
      let fresh : Listed free mark → ⊥ = λ y. (let z = S.tags.listed_below y.0 y.1 in let e = y.2 in omega arith) in
      sound_placed mark (mark + 1) free (omega arith) (omega arith) alone
      (λ b x u. (let y = u.0 in (omega arith, u.1)))
      (λ b x y. omega arith)
      (tagged_like (tagged_fresh S.tags (mark + 1) h mark (omega arith) (omega arith) fresh alone) (held_below (mark + 1) (set hands h (unique mark)) (set cells mark c))
      (λ q. held_hand_set (mark + 1) hands (set cells mark c) h (unique mark) k S.sixteen q ∙ ap (λ f. cond (eqb q h) (unique mark) f) (held_grown q l)))

-- ---- a listed cell is emptied before it is taken

module _ {V : Type 0} {lawful : V → Bool} {size mark : ℕ} {hands : List Field} {free : List ℕ} {cells : List (Cell V)} {G : Graph V}
    (S : Sound lawful size mark hands free cells G) (some : 0 < length free) where
  abbrev held : ℕ → Field
  held = held_below mark hands cells

  -- what letting go of a cell's references leaves
  record Emptied (a : ℕ) (after : List ℕ) : Type 0 where
    at_places : ℕ → Field
    tagged : Tagged mark after at_places
    as_cleared : (q : ℕ) → cleared a held q ≡ at_places q
    fresh : Listed after a → ⊥
    keeps : (b : ℕ) → Listed (below_top free) b → Listed after b

  low : top free < mark
  low = S.tags.listed_below (length free - 1) (omega arith)

  pub alone_at_top : (q : ℕ) (r : Reference) → held q ≡ To r → r.address ≡ top free → ⊥
  alone_at_top q r e x = S.tags.unlisted q r e (subst (Listed free) (sym x) (top_listed S.tags some))

  -- the list without its top
  shorter : Tagged mark (below_top free) held
  shorter = tagged_shorter S.tags (length free - 1) (omega arith)

  lets_alone : (p : ℕ) (f : Field) → held p ≡ f → Lets mark f (top free) → ⊥
  lets_alone p f e x = alone_at_top p x.reference (e ∙ x.is) x.same

  emptied_leaf : (v : V) → get_or cells (top free) Blank ≡ Leaf v → Emptied (top free) (below_top free)
  emptied_leaf v e = record {
    at_places = held;
    tagged = shorter;
    as_cleared = λ q. elim (cases_lt q 16) [
      | inl x ↦ (let t : ltb q 16 ≡ true = grind (arith, nat_tests) in ap (λ b. cond b (held q) (cond (eqb (cell_of q) (top free)) Nil (held q))) t)
      | inr x ↦ elim (cases_eq (cell_of q) (top free)) [
        | inl y ↦ nil_there q x y
        | inr y ↦ (let t : ltb q 16 ≡ false = grind (arith, nat_tests) in let u : eqb (cell_of q) (top free) ≡ false = grind (arith, nat_tests) in
            ap (λ b. cond b (held q) (cond (eqb (cell_of q) (top free)) Nil (held q))) t ∙ ap (λ b. cond b Nil (held q)) u)
      ]
    ];
    fresh = top_once S.tags some;
    keeps = λ b l. l;
  }
    where
      leaf_side : (s : Side) → field_of s (Leaf v) ≡ Nil
      leaf_side Left = refl
      leaf_side Right = refl

      nil_there : (q : ℕ) → 16 ≤ q → cell_of q ≡ top free → cleared (top free) held q ≡ held q
      nil_there q x y =
          let t : ltb q 16 ≡ false = grind (arith, nat_tests) in
          let u : eqb (cell_of q) (top free) ≡ true = grind (arith, nat_tests) in
          let z : held q ≡ Nil =
          holds_side hands (take mark cells) q x ∙ ap (λ j. field_of (side_of q) (get_or (take mark cells) j Blank)) y
          ∙ ap (field_of (side_of q)) (get_or-take mark cells (top free) Blank low ∙ e) ∙ leaf_side (side_of q) in
          ap (λ b. cond b (held q) (cond (eqb (cell_of q) (top free)) Nil (held q))) t ∙ ap (λ b. cond b Nil (held q)) u ∙ sym z

  emptied_pair : (l r : Field) → get_or cells (top free) Blank ≡ Pair l r → Emptied (top free) (let_go mark r (let_go mark l (below_top free)))
  emptied_pair l r e =
      let a = top free in
      let L = place_of Left a in
      let R = place_of Right a in
      let el : held L ≡ l = held_side mark hands cells Left a low ∙ ap (field_of Left) e in
      let er : held R ≡ r = held_side mark hands cells Right a low ∙ ap (field_of Right) e in
      let T1 = shorter in
      let T2 = tagged_write T1 L Nil (inl refl) in
      let er2 : upd L Nil held R ≡ r = upd_there L R Nil held (λ x. omega arith) ∙ er in
      let T3 = tagged_write T2 R Nil (inl refl) in
      record {
        at_places = upd R Nil (upd L Nil held);
        tagged = subst (λ g. Tagged mark (let_go mark r (let_go mark g (below_top free))) (upd R Nil (upd L Nil held))) el
            (subst (λ g. Tagged mark (let_go mark g (let_go mark (held L) (below_top free))) (upd R Nil (upd L Nil held))) er2 T3);
        as_cleared = λ q. both a q;
        fresh = λ x.
            elim (listed_after T2 R a (subst (λ g. Listed (let_go mark g (let_go mark (held L) (below_top free))) a) (sym er2) (subst (λ g. Listed (let_go mark r (let_go mark g (below_top free))) a) (sym el) x))) [
              | inl y ↦ elim (listed_after T1 L a y) [
                | inl z ↦ top_once S.tags some z
                | inr z ↦ lets_alone L (held L) refl z
              ]
              | inr y ↦ lets_alone R (upd L Nil held R) (er ∙ sym er2) y
            ];
        keeps = λ b x. subst (λ g. Listed (let_go mark r (let_go mark g (below_top free))) b) el
            (subst (λ g. Listed (let_go mark g (let_go mark (held L) (below_top free))) b) er2 (listed_still T2 R b (listed_still T1 L b x)));
      }
    where
      both : (a q : ℕ) → cleared a held q ≡ upd (place_of Right a) Nil (upd (place_of Left a) Nil held) q
      both a q = elim (cases_lt q 16) [
        | inl x ↦ grind (arith, nat_tests)
        | inr x ↦ elim (cases_eq (cell_of q) a) [
          | inl y ↦ grind (arith, nat_tests)
          | inr y ↦ grind (arith, nat_tests)
        ]
      ]

  emptied : Emptied (top free) (let_go_sides mark (get_or cells (top free) Blank) (below_top free))
  emptied = go (get_or cells (top free) Blank) refl
    where
      go : (d : Cell V) → get_or cells (top free) Blank ≡ d → Emptied (top free) (let_go_sides mark d (below_top free))
      go Blank e = absurd (let x = S.nodes (top free) low in let z : ◌≡◌ {A = ℕ} 0 1 = (let y : false ≡ true = sym (ap is_node e) ∙ x in cc) in omega arith)
      go (Pair l r) e = emptied_pair l r e
      go (Leaf v) e = emptied_leaf v e
      go (Moved f o) e = absurd (let x = S.nodes (top free) low in let z : ◌≡◌ {A = ℕ} 0 1 = (let y : false ≡ true = sym (ap is_node e) ∙ x in cc) in omega arith)

  -- only the top is no longer listed
  was_listed : (b : ℕ) → (b ≡ top free → ⊥) → Listed free b → Listed (below_top free) b
  was_listed b n (i, p, e) =
      let l = length-take (length free - 1) free in
      elim (cases_eq i (length free - 1)) [
        | inl x ↦ absurd (n (sym e ∙ ap (λ j. get_or free j 0) x))
        | inr x ↦ (let q : i < length free - 1 = omega arith in (i, omega arith, get_or-take (length free - 1) free i 0 q ∙ e))
      ]

  pub sound_reused : (h : ℕ) → h < 16 → (c : Cell V) → Bare lawful c
      → Sound lawful size mark (set hands h (unique (top free))) (let_go_sides mark (get_or cells (top free) Blank) (below_top free)) (set cells (top free) c) (add_node h (node_of c) G)
  sound_reused h k c bare =
      let a = top free in
      let E = emptied in
      let alone : (q : ℕ) (r : Reference) → E.at_places q ≡ To r → r.address ≡ a → ⊥ = λ q r e x. was_alone q r (E.as_cleared q ∙ e) x in
      sound_placed S h k c bare a mark (let_go_sides mark (get_or cells a Blank) (below_top free)) low S.mark_size alone_at_top
      (λ b x u. (u.0, λ l. u.1 (E.keeps b (was_listed b x l))))
      (λ b x y. y)
      (tagged_like (tagged_fresh E.tagged mark h a (omega arith) low E.fresh alone) (held_below mark (set hands h (unique a)) (set cells a c))
      (λ q. held_hand_set mark hands (set cells a c) h (unique a) k S.sixteen q
      ∙ ap (λ f. cond (eqb q h) (unique a) f) (held_placed S h k c bare a mark low (let x = S.size_cells in let y = S.mark_size in omega arith) q ∙ E.as_cleared q)))
    where
      was_alone : (q : ℕ) (r : Reference) → cleared (top free) held q ≡ To r → r.address ≡ top free → ⊥
      was_alone q r e x = elim (cases_lt q 16) [
        | inl y ↦ (let t : ltb q 16 ≡ true = grind (arith, nat_tests) in alone_at_top q r (sym (ap (λ b. cond b (held q) (cond (eqb (cell_of q) (top free)) Nil (held q))) t) ∙ e) x)
        | inr y ↦ (let t : ltb q 16 ≡ false = grind (arith, nat_tests) in
            elim (cases_eq (cell_of q) (top free)) [
              | inl z ↦ (let u : eqb (cell_of q) (top free) ≡ true = grind (arith, nat_tests) in
                  no_reference (sym (ap (λ b. cond b (held q) (cond (eqb (cell_of q) (top free)) Nil (held q))) t ∙ ap (λ b. cond b Nil (held q)) u) ∙ e))
              | inr z ↦ (let u : eqb (cell_of q) (top free) ≡ false = grind (arith, nat_tests) in
                  alone_at_top q r (sym (ap (λ b. cond b (held q) (cond (eqb (cell_of q) (top free)) Nil (held q))) t ∙ ap (λ b. cond b Nil (held q)) u) ∙ e) x)
            ])
      ]
