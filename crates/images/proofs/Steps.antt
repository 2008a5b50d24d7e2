-- One more place, hand or cell: what the survey knows after it, and which rules hold up to there.
use Rattle.std.proofs.Common.{◌≡◌, ℕ, suc, ◌+◌, ◌*◌, ◌<◌, ◌≤◌, min, true, false, leb, ◌↔◌, List, length, get_or, set, is_some, Some, None, Ok, Err, MatchResult, OnOk, Decides, Option, Result, sym, refl, ap, ◌∙◌, subst, ⊎_elim, arith}
use Rattle.std.specs.Result.{result_err}
use Rattle.std.proofs.lemmas.List.{length-set, get_or-set_same, get_or-set_other}
use Rattle.std.proofs.lemmas.Bool.Decides.{nat_tests, not_from_Decides}
use Rattle.std.proofs.lemmas.Bool.{cases_eq, cases_Bool}
use Rattle.cells.specs.declared.Tag.TheVariants.{Sticky}
use Rattle.cells.specs.declared.Reference.{Reference}
use Rattle.cells.specs.declared.Field.{Field}
use Rattle.cells.specs.declared.Field.TheVariants.{Nil, To}
use Rattle.cells.specs.declared.Side.{Side}
use Rattle.cells.specs.declared.Side.TheVariants.{Left, Right}
use Rattle.cells.specs.declared.Cell.{Cell}
use Rattle.cells.specs.declared.Cell.TheVariants.{Blank, Pair, Leaf, Moved}
use Rattle.graph.specs.Places.{place_of, field_of, refers_to, meeting, met, Another, is_node}
use Rattle.graph.specs.Checks.{tagged}
use Rattle.graph.proofs.Reading.{met_step, met_start}
use Rattle.graph.proofs.Decided.{decides_tagged}
use Rattle.images.specs.declared.faults.Place.{Place}
use Rattle.images.specs.declared.faults.Place.TheVariants.{Hand, Cell as Of}
use Rattle.images.specs.declared.faults.Flaw.{Flaw}
use Rattle.images.specs.declared.faults.Flaw.TheVariants.{Outside, OutOfOrder, WrongTag}
use Rattle.images.specs.declared.surveys.Survey.{Survey}
use Rattle.images.specs.Layout.{stored_hand, stored_cell, or_nil, held}
use Rattle.images.specs.Faults.{number_of, Broken}
use Rattle.images.specs.First.{references, misstep, too_early}
use Rattle.images.specs.Surveys.{Surveyed, noted, mistag, Kept, Tagged}
use Rattle.images.proofs.Stored.{held_hand, held_side, held_past}
use Rattle.images.proofs.Tallies.{references_start, references_here, references_not, tally_decides}

-- the tally at an address, after one more field
noted_at : (at : ℕ → Field) (p a : ℕ) (tally : List ℕ) (f : Field) → at p ≡ f → length tally ≡ 32768 → a < 32768 → get_or tally a 0 ≡ min 2 (references at a p) → get_or (noted tally f) a 0 ≡ min 2 (references at a (suc p))
noted_at at p a tally Nil e len l h = let s = references_not at a p (ap (refers_to a) e) in omega arith
noted_at at p a tally (To x) e len l h = ⊎_elim same other (cases_eq x.address a)
  where
    same : x.address ≡ a → get_or (noted tally (To x)) a 0 ≡ min 2 (references at a (suc p))
    same z =
        let s = references_here at a p (ap (refers_to a) e ∙ (let t : refers_to a (To x) ≡ true = grind (arith, nat_tests) in t)) in
        let g = get_or-set_same tally a (get_or tally x.address 0 + 1) 0 (omega arith) in
        let g' : get_or (set tally x.address (get_or tally x.address 0 + 1)) a 0 ≡ get_or tally x.address 0 + 1 = ap (λ i. get_or (set tally i (get_or tally x.address 0 + 1)) a 0) z ∙ g in
        let h' : get_or tally x.address 0 ≡ min 2 (references at a p) = ap (λ i. get_or tally i 0) z ∙ h in
        grind (arith, nat_tests)

    other : (x.address ≡ a → ⊥) → get_or (noted tally (To x)) a 0 ≡ min 2 (references at a (suc p))
    other z =
        let s = references_not at a p (ap (refers_to a) e ∙ (let t : refers_to a (To x) ≡ false = grind (arith, nat_tests) in t)) in
        let g = get_or-set_other tally x.address a (get_or tally x.address 0 + 1) 0 (λ w. z (sym w)) in
        grind (arith, nat_tests)

noted_length : (tally : List ℕ) (f : Field) → length (noted tally f) ≡ length tally
noted_length tally Nil = refl
noted_length tally (To x) = let l = length-set tally x.address (get_or tally x.address 0 + 1) in grind (arith, nat_tests)

pub surveyed_start : (at : ℕ → Field) (s : Survey) → s.met ≡ 0 → length s.references ≡ 32768 → ((a : ℕ) → a < 32768 → get_or s.references a 0 ≡ 0) → Surveyed at 0 s
surveyed_start at s m len zeros =
    record {
      sized = len;
      meets = m ∙ sym (met_start at);
      tally = λ a l. let z = zeros a l in let r = references_start at a in omega arith;
    }

pub surveyed_step : (at : ℕ → Field) (p n : ℕ) (s s' : Survey) (f : Field) → suc p ≡ n → Surveyed at p s → at p ≡ f → s'.met ≡ meeting s.met f → s'.references ≡ noted s.references f → Surveyed at n s'
surveyed_step at p n s s' f next S e m t = subst (λ k. Surveyed at k s') next here
  where
    here : Surveyed at (suc p) s'
    here =
        record {
          sized = ap length t ∙ noted_length s.references f ∙ S.sized;
          meets = m ∙ ap (λ n. meeting n f) S.meets ∙ ap (meeting (met at p)) (sym e) ∙ sym (met_step at p);
          tally = λ a l. ap (λ xs. get_or xs a 0) t ∙ noted_at at p a s.references f e S.sized l (S.tally a l);
        }

-- a field at which nothing is amiss refers to an address inside, and in order
step_inside : (place : Place) (f : Field) (r m : ℕ) → None ≡ misstep place f r m → (x : Reference) → f ≡ To x → (x.address < r) × (x.address ≤ m)
step_inside place Nil r m e x z = absurd (grind arith)
step_inside place (To y) r m e x z =
    let same : y ≡ x = cc in
    let a : y.address ≡ x.address = ap (λ (w : Reference). w.address) same in
    (grind (arith, nat_tests), grind (arith, nat_tests))

module _ {V : Type 0} (taken : ℕ → Option V) (rest : List ℕ) (r : ℕ) where
  -- what a pass has at a hand, and at a side of a cell
  pub hand_field : (i : ℕ) (f : Field) → i < 16 → Some f ≡ stored_hand rest i → held taken rest r i ≡ f
  hand_field i f h e = held_hand taken rest r i h ∙ ap or_nil (sym e)

  pub side_field : (s : Side) (j : ℕ) (c : Cell V) → j < r → c ≡ stored_cell taken rest j → held taken rest r (place_of s j) ≡ field_of s c
  side_field s j c h e = held_side taken rest r s j h ∙ ap (field_of s) (sym e)

  -- a field that is amiss breaks its rule
  pub misstep_breaks : (place : Place) (f : Field) (m : ℕ) (flaw : Flaw) → number_of place < 16 + 2 * r → held taken rest r (number_of place) ≡ f → m ≡ met (held taken rest r) (number_of place) → Some flaw ≡ misstep place f r m → Broken taken rest r flaw
  misstep_breaks place Nil m flaw l e is h = absurd (grind arith)
  misstep_breaks place (To x) m flaw l e is h = ⊎_elim outside inner (cases_Bool (leb r x.address))
    where
      refers : refers_to x.address (held taken rest r (number_of place)) ≡ true
      refers = ap (refers_to x.address) e ∙ (let t : refers_to x.address (To x) ≡ true = grind (arith, nat_tests) in t)

      outside : leb r x.address ≡ true → Broken taken rest r flaw
      outside t = let z : flaw ≡ Outside place x.address = grind (arith, nat_tests) in rw z (l, refers, grind (arith, nat_tests))

      inner : leb r x.address ≡ false → Broken taken rest r flaw
      inner t =
          let late : m < x.address = grind (arith, nat_tests) in
          let z : flaw ≡ OutOfOrder place x.address m = grind (arith, nat_tests) in
          rw z (l, refers, sym is, late)

  -- what holds of the references at the places below p, and at p
  below_next : (P : ℕ → Reference → Type 0) (p n : ℕ) → n ≡ suc p → ((q : ℕ) (x : Reference) → q < p → held taken rest r q ≡ To x → P q x) → ((x : Reference) → held taken rest r p ≡ To x → P p x) → (q : ℕ) (x : Reference) → q < n → held taken rest r q ≡ To x → P q x
  below_next P p n next before here q x l e =
      ⊎_elim
      (λ same. subst (λ k. P k x) (sym same) (here x (ap (held taken rest r) (sym same) ∙ e)))
      (λ ne. before q x (omega arith) e)
      (cases_eq q p)

  abbrev Inside : ℕ → Reference → Type 0
  Inside q x = x.address < r

  abbrev Ordered : ℕ → Reference → Type 0
  Ordered q x = x.address ≤ met (held taken rest r) q

  pub kept_hand : (i n : ℕ) (f : Field) (m : ℕ) → suc i ≡ n → i < 16 → Kept taken rest r i → Some f ≡ stored_hand rest i → m ≡ met (held taken rest r) i → None ≡ misstep (Hand i) f r m → Kept taken rest r n
  kept_hand i n f m next h K e is ok =
      let here : held taken rest r i ≡ f = held_hand taken rest r i h ∙ ap or_nil (sym e) in
      let step : (x : Reference) → held taken rest r i ≡ To x → (x.address < r) × (x.address ≤ m) = λ x z. step_inside (Hand i) f r m ok x (sym here ∙ z) in
      record {
        hands = λ k a l. ⊎_elim (λ same. ap (λ q. is_some (stored_hand rest q)) same ∙ ap is_some (sym e)) (λ ne. K.hands k a (omega arith)) (cases_eq k i);
        kinds = λ j l. absurd (omega arith);
        early = λ j l. absurd (omega arith);
        inside = below_next Inside i n (omega arith) K.inside (λ x z. (step x z).0);
        order = below_next Ordered i n (omega arith) K.order (λ x z. omega (arith, (step x z).1));
      }

  pub kept_cell : (j n : ℕ) (c : Cell V) (m m' : ℕ) → 18 + 2 * j ≡ n → j < r → c ≡ stored_cell taken rest j → is_node c ≡ true → Kept taken rest r (16 + 2 * j) → j < m → m ≡ met (held taken rest r) (16 + 2 * j) → m' ≡ met (held taken rest r) (17 + 2 * j) → None ≡ misstep (Of Left j) (field_of Left c) r m → None ≡ misstep (Of Right j) (field_of Right c) r m' → Kept taken rest r n
  kept_cell j n c m m' next h e node K early is is' ok ok' =
      let left : (x : Reference) → held taken rest r (16 + 2 * j) ≡ To x → (x.address < r) × (x.address ≤ m) = λ x z. step_inside (Of Left j) (field_of Left c) r m ok x (sym (side_field Left j c h e) ∙ z) in
      let right : (x : Reference) → held taken rest r (17 + 2 * j) ≡ To x → (x.address < r) × (x.address ≤ m') = λ x z. step_inside (Of Right j) (field_of Right c) r m' ok' x (sym (side_field Right j c h e) ∙ z) in
      record {
        hands = λ k a l. K.hands k a (omega arith);
        kinds = λ k l. ⊎_elim (λ same. ap (λ q. is_node (stored_cell taken rest q)) same ∙ ap is_node (sym e) ∙ node) (λ ne. K.kinds k (omega arith)) (cases_eq k j);
        early = λ k l. ⊎_elim (λ same. let z : met (held taken rest r) (16 + 2 * k) ≡ met (held taken rest r) (16 + 2 * j) = ap (λ q. met (held taken rest r) (16 + 2 * q)) same in omega arith) (λ ne. K.early k (omega arith)) (cases_eq k j);
        inside = below_next Inside (17 + 2 * j) n (omega arith) (below_next Inside (16 + 2 * j) (17 + 2 * j) (omega arith) K.inside (λ x z. (left x z).0)) (λ x z. (right x z).0);
        order = below_next Ordered (17 + 2 * j) n (omega arith) (below_next Ordered (16 + 2 * j) (17 + 2 * j) (omega arith) K.order (λ x z. omega (arith, (left x z).1))) (λ x z. omega (arith, (right x z).1));
      }

  -- once all places are read, the tally tells whether a tag is right
  module _ (few : r ≤ 32768) (K : Kept taken rest r (16 + 2 * r)) (s : Survey) (S : Surveyed (held taken rest r) (16 + 2 * r) s) where
    tag_decides : (p : ℕ) (x : Reference) → p < 16 + 2 * r → held taken rest r p ≡ To x → Decides (tagged x.tag (leb 2 (get_or s.references x.address 0))) ((x.tag ≡ Sticky) ↔ Another (held taken rest r) p x.address)
    tag_decides p x l e =
        let a = K.inside p x l e in
        let refers : refers_to x.address (held taken rest r p) ≡ true = ap (refers_to x.address) e ∙ (let t : refers_to x.address (To x) ≡ true = grind (arith, nat_tests) in t) in
        decides_tagged x.tag (leb 2 (get_or s.references x.address 0))
        (tally_decides (held taken rest r) x.address (16 + 2 * r) p (held_past taken rest r) l refers (get_or s.references x.address 0) (S.tally x.address (omega arith)))

    pub tag_right : (place : Place) (f : Field) → number_of place < 16 + 2 * r → held taken rest r (number_of place) ≡ f → None ≡ mistag place f s.references → (x : Reference) → held taken rest r (number_of place) ≡ To x → (x.tag ≡ Sticky) ↔ Another (held taken rest r) (number_of place) x.address
    tag_right place Nil l e ok x z = absurd (let w : Nil ≡ To x = sym e ∙ z in grind arith)
    tag_right place (To y) l e ok x z =
        let same : y ≡ x = let w : To y ≡ To x = sym e ∙ z in cc in
        let right : tagged y.tag (leb 2 (get_or s.references y.address 0)) ≡ true = ⊎_elim (λ t. t) (λ t. absurd (grind (arith, nat_tests))) (cases_Bool (tagged y.tag (leb 2 (get_or s.references y.address 0)))) in
        (tag_decides (number_of place) x l z).0 (ap (λ (w : Reference). tagged w.tag (leb 2 (get_or s.references w.address 0))) (sym same) ∙ right)

    pub tag_wrong : (place : Place) (f : Field) (flaw : Flaw) → number_of place < 16 + 2 * r → held taken rest r (number_of place) ≡ f → Some flaw ≡ mistag place f s.references → Broken taken rest r flaw
    tag_wrong place Nil flaw l e h = absurd (grind arith)
    tag_wrong place (To x) flaw l e h =
        let wrong : tagged x.tag (leb 2 (get_or s.references x.address 0)) ≡ false = ⊎_elim (λ t. absurd (grind (arith, nat_tests))) (λ t. t) (cases_Bool (tagged x.tag (leb 2 (get_or s.references x.address 0)))) in
        let z : flaw ≡ WrongTag place x = grind (arith, nat_tests) in
        rw z (e, not_from_Decides (tagged x.tag (leb 2 (get_or s.references x.address 0))) (tag_decides (number_of place) x l e) wrong)

  -- an address that the first pass let through has a tally
  pub address_tallied : r ≤ 32768 → Kept taken rest r (16 + 2 * r) → (p : ℕ) (f : Field) → p < 16 + 2 * r → held taken rest r p ≡ f → (x : Reference) → f ≡ To x → x.address < 32768
  address_tallied few K p f l e x z = let a = K.inside p x l (e ∙ z) in omega arith

  pub tagged_next : (p n : ℕ) → suc p ≡ n → Tagged (held taken rest r) p → ((x : Reference) → held taken rest r p ≡ To x → (x.tag ≡ Sticky) ↔ Another (held taken rest r) p x.address) → Tagged (held taken rest r) n
  tagged_next p n next before here = below_next (λ q x. (x.tag ≡ Sticky) ↔ Another (held taken rest r) q x.address) p n (sym next) before here

  -- what the first pass leaves below a place, and the second
  abbrev pub PastRead : Survey → ℕ → Type 0
  PastRead s p = Kept taken rest r p × Surveyed (held taken rest r) p s

  abbrev pub PastTags : Survey → ℕ → Type 0
  PastTags s p = Kept taken rest r (16 + 2 * r) × Surveyed (held taken rest r) (16 + 2 * r) s × Tagged (held taken rest r) p

  -- the first pass, at a hand, and at the right side of a cell whose left side is read
  pub hand_read : (i : ℕ) (f : Field) (s s' : Survey) → i < 16 → Some f ≡ stored_hand rest i → PastRead s i → {T : Type 0} (o : Result T Flaw) → result_err o ≡ misstep (Hand i) f r s.met → OnOk o (s'.met ≡ meeting s.met f) → OnOk o (s'.references ≡ noted s.references f) → MatchResult o (λ _. PastRead s' (i + 1)) (Broken taken rest r)
  hand_read i f s s' h e P (Ok t) o meets tally = (
    kept_hand i (i + 1) f s.met (omega arith) h P.0 e P.1.meets o,
    surveyed_step (held taken rest r) i (i + 1) s s' f (omega arith) P.1 (hand_field i f h e) meets tally,
  )
  hand_read i f s s' h e P (Err flaw) o meets tally = misstep_breaks (Hand i) f s.met flaw (omega arith) (hand_field i f h e) P.1.meets o

  pub cell_read : (j : ℕ) (c : Cell V) (m : ℕ) (s s' : Survey) → j < r → c ≡ stored_cell taken rest j → is_node c ≡ true → Kept taken rest r (16 + 2 * j) → None ≡ too_early j m → m ≡ met (held taken rest r) (16 + 2 * j) → None ≡ misstep (Of Left j) (field_of Left c) r m → Surveyed (held taken rest r) (17 + 2 * j) s → {T : Type 0} (o : Result T Flaw) → result_err o ≡ misstep (Of Right j) (field_of Right c) r s.met → OnOk o (s'.met ≡ meeting s.met (field_of Right c)) → OnOk o (s'.references ≡ noted s.references (field_of Right c)) → MatchResult o (λ _. PastRead s' (18 + 2 * j)) (Broken taken rest r)
  cell_read j c m s s' h e node K early is ok S (Ok t) o meets tally =
      let fine : j < m = grind (arith, nat_tests) in (
        kept_cell j (18 + 2 * j) c m s.met refl h e node K fine is S.meets ok o,
        surveyed_step (held taken rest r) (17 + 2 * j) (18 + 2 * j) s s' (field_of Right c) (omega arith) S (side_field Right j c h e) meets tally,
      )
  cell_read j c m s s' h e node K early is ok S (Err flaw) o meets tally =
      misstep_breaks (Of Right j) (field_of Right c) s.met flaw (omega arith) (side_field Right j c h e) S.meets o

  -- the second pass, at a place that holds nothing
  pub tagged_nil : (p n : ℕ) → suc p ≡ n → held taken rest r p ≡ Nil → Tagged (held taken rest r) p → Tagged (held taken rest r) n
  tagged_nil p n next e before = tagged_next p n next before (λ x z. absurd (let w : Nil ≡ To x = sym e ∙ z in grind arith))

  -- the second pass, at a place
  pub tag_read : r ≤ 32768 → (s : Survey) (place : Place) (f : Field) (n : ℕ) → number_of place < 16 + 2 * r → suc (number_of place) ≡ n → held taken rest r (number_of place) ≡ f → PastTags s (number_of place) → {T : Type 0} (o : Result T Flaw) → result_err o ≡ mistag place f s.references → MatchResult o (λ _. PastTags s n) (Broken taken rest r)
  tag_read few s place f n l next e P (Ok t) o = (P.0, P.1, tagged_next (number_of place) n next P.2 (tag_right few P.0 s P.1 place f l e o))
  tag_read few s place f n l next e P (Err flaw) o = tag_wrong few P.0 s P.1 place f flaw l e o

-- a cell that is no pair has nothing on its sides
pub no_pair : {V : Type 0} (c : Cell V) → ((x y : Field) → c ≡ Pair x y → ⊥) → (s : Side) → field_of s c ≡ Nil
no_pair Blank h s = refl
no_pair (Pair x y) h s = absurd (h x y refl)
no_pair (Leaf v) h s = refl
no_pair (Moved f o) h s = refl
