-- What holds throughout a run, given what holds of the steps of a collection. Assumes nothing.
use Rattle.std.proofs.Common.{◌≡◌, ℕ, ◌+◌, ◌-◌, ◌*◌, ◌<◌, Bool, true, false, cond, not, ◌||◌, eqb, ltb, ◌⊎◌, List, [], ◌∷◌, length, take, Some, None, Ok, Err, Option, Result, sym, refl, ap, ◌∙◌, subst, inl, inr, arith}
use Rattle.std.proofs.lemmas.Bool.Decides.{nat_tests}
use Rattle.std.proofs.lemmas.Bool.{cases_Bool}
use Rattle.cells.specs.declared.Field.{Field}
use Rattle.cells.specs.declared.Cell.{Cell}
use Rattle.cells.specs.declared.causes.Cause.{Cause}
use Rattle.cells.specs.declared.causes.Cause.TheVariants.{OtherSize, NotCollecting, Spoiled}
use Rattle.cells.specs.declared.causes.Cause.TheVariants as causes
use Rattle.cells.specs.Leaves.{Laws}
use Rattle.graph.specs.Graphs.{Graph}
use Rattle.store.specs.Model.{Model, new_model, hand_of, is_collecting}
use Rattle.store.specs.Calls.{Call, State, Answer, sight, cause_of, effect, answer_of, unless, first}
use Rattle.store.specs.Calls as call
use Rattle.collector.specs.Steps.{Tour, march}
use Rattle.collector.specs.Collections.{Act, begin, slice, finish, abandon, Banks, Reply, ready, stepped_by, kept_marks, act_cause, act_reply, act_effect, tour_of, standing, settled, march_all, steps_of}
use Rattle.runs.specs.Plain.{plain_call, plain_abandon}
use Rattle.runs.specs.Sound.{Sound}
use Rattle.runs.specs.Kept.{SoundAt}
use Rattle.runs.specs.Worlds.{Event, calls, begins, slices, finishes, abandons, World, world_beside, Said, answered, replied, saying, state_of, answer, cause, banks_after, after, if_accepted, run}
use Rattle.runs.specs.Law.{RefusedRightly, LooksPlain, Throughout}
use Rattle.runs.proofs.Called.{row_none, admitted, sound_effect, cause_not_spoiled, look_plain, sound_new}

-- a cause is there, or none
some_or_none : (o : Option Cause) → ((c : Cause) × (o ≡ Some c)) ⊎ (o ≡ None)
some_or_none None = inr refl
some_or_none (Some c) = inl (c, refl)

none_some : {o : Option Cause} {c : Cause} → o ≡ None → o ≡ Some c → ⊥
none_some p q = let z : ◌≡◌ {A = ℕ} 0 1 = cc in omega arith

ok_err : {X : Type 0} {r : Result X Cause} {x : X} {c : Cause} → r ≡ Ok x → r ≡ Err c → ⊥
ok_err p q = let z : ◌≡◌ {A = ℕ} 0 1 = cc in omega arith

yes_no : {b : Bool} → b ≡ true → b ≡ false → ⊥
yes_no p q = let z : ◌≡◌ {A = ℕ} 0 1 = cc in omega arith

-- what is known where a call of a collection is not refused
pub begin_admitted : {V : Type 0} (m : Model) (n k : ℕ) (spare : List (Cell V)) → act_cause m n k (begin spare) ≡ None → (k ≡ m.size) × (is_collecting m.mode ≡ false)
unfolding act_cause
begin_admitted m n k spare e =
    let a = row_none (not (eqb n m.size) || not (eqb k m.size)) OtherSize _ e in
    let c = row_none (is_collecting m.mode) causes.Collecting _ a.1 in
    let x : (not (eqb n m.size) || not (eqb k m.size)) ≡ false = a.0 in
    (grind (arith, nat_tests), c.0)

-- the same of those that go on with it
pub going_on : (m : Model) (b : Bool) → first ((b, OtherSize) ∷ (not (is_collecting m.mode), NotCollecting) ∷ []) ≡ None → is_collecting m.mode ≡ true
going_on m b e =
    let a = row_none b OtherSize _ e in
    let c = row_none (not (is_collecting m.mode)) NotCollecting _ a.1 in
    let x : not (is_collecting m.mode) ≡ false = c.0 in
    grind (arith, nat_tests)

either_mode : (b : Bool) (x y : Model) → is_collecting x.mode ≡ false → is_collecting y.mode ≡ false → is_collecting (cond b x y).mode ≡ false
either_mode true x y p q = p
either_mode false x y p q = q

-- what an accepted call leaves is not collecting, if it was not before
module _ {V : Type 0} (tidied : V → Option V) (m : Model) (cells : List (Cell V)) where
  pub effect_mode : (c : Call V) → is_collecting m.mode ≡ false → is_collecting (effect tidied (record { model = m; cells = cells }) c).model.mode ≡ false
  unfolding effect
  effect_mode (call.pair h) e = refl
  effect_mode (call.leaf h v) e = refl
  effect_mode (call.copy h g) e = either_mode (eqb h g) _ _ refl refl
  effect_mode (call.load h g s) e = refl
  effect_mode (call.store g s h) e = refl
  effect_mode (call.swap g s h) e = refl
  effect_mode (call.clear h) e = refl
  effect_mode (call.look h) e = e

module _ {V : Type 0} {lawful : V → Bool} {tidied : V → Option V} {word : V → ℕ} {taken : ℕ → Option V} {alike : V → V → Bool} (laws : Laws lawful tidied word taken alike)
    -- an invariant of the steps, over the size, the mark, and the hands and cells that Begin found
    (Touring : ℕ → ℕ → List Field → List (Cell V) → Tour V → Type 0)
    -- it holds at the start
    (starts : (size mark : ℕ) (H : List Field) (free : List ℕ) (O : List (Cell V)) (G : Graph V) (spare : List (Cell V)) → Sound lawful size mark H free O G → length spare ≡ size
    → Touring size mark H O (record { mark = mark; size = size; hands = H; old = O; new = spare; steps = 0; copied = 0; marks = 0 }))
    -- no step is spoiled, and every step keeps it
    (goes : (size mark : ℕ) (H : List Field) (O : List (Cell V)) (t : Tour V) → Touring size mark H O t → (n : ℕ) → ((march n t).broken ≡ false) × Touring size mark H O (march n t).tour)
    -- the size and the mark stay
    (stays : (size mark : ℕ) (H : List Field) (O : List (Cell V)) (t : Tour V) → Touring size mark H O t → (t.size ≡ size) × (t.mark ≡ mark) × (length t.old ≡ size))
    -- at the end the new bank is sound with the same plain graph
    (arrives : (size mark : ℕ) (H : List Field) (free : List ℕ) (O : List (Cell V)) (G : Graph V) (t : Tour V) → Sound lawful size mark H free O G → Touring size mark H O t
    → Sound lawful size (march_all t).tour.copied (march_all t).tour.hands [] (march_all t).tour.new G) where
  -- a world that is collecting: what Begin found was sound, and the steps since keep the invariant
  pub record InTour (w : World V) : Type 0 where
    pub found : List (Cell V)
    pub found_sound : Sound lawful w.banks.model.size w.banks.model.mark w.begun_hands w.banks.model.free found w.plain
    pub found_kept : w.begun_cells ≡ take w.banks.model.mark found
    pub touring : Touring w.banks.model.size w.banks.model.mark w.begun_hands found (tour_of w.banks)

  pub record Good (w : World V) : Type 0 where
    pub outside : is_collecting w.banks.model.mode ≡ false → SoundAt lawful w.banks.model w.banks.cells w.plain
    pub inside : is_collecting w.banks.model.mode ≡ true → InTour w

  pub good_new : (cells spare : List (Cell V)) → Good (world_beside cells spare)
  good_new cells spare = record { outside = λ _. sound_new lawful cells []; inside = λ e. absurd (yes_no e refl) }

  -- ---- a world after a call, by the cause for which it is refused, if any

  module _ (w : World V) where
    abbrev calls_by : ℕ → Call V → Option Cause → World V
    calls_by n c o =
        let said : Result (Said V) Cause = saying answered (unless o (answer_of (state_of w.banks) c) Err Ok) in
        record {
          banks = banks_after tidied w.banks (unless o (effect tidied (state_of w.banks) c) (λ _. state_of w.banks) (λ t. t));
          plain = if_accepted tidied said (plain_call tidied w.plain c) w.plain;
          begun_hands = if_accepted tidied said w.begun_hands w.begun_hands;
          begun_cells = if_accepted tidied said w.begun_cells w.begun_cells;
        }

    calls_after : (n : ℕ) (c : Call V) (o : Option Cause) → cause_of tidied w.banks.model n w.banks.cells c ≡ o → after tidied w (calls n c) ≡ calls_by n c o
    unfolding after
    calls_after n c o e = ap (calls_by n c) e

    abbrev acts_by : Act V → Graph V → List Field → List (Cell V) → Option Cause → World V
    acts_by a G hs cs o =
        let said : Result (Said V) Cause = saying replied (unless o (act_reply w.banks a) Err (λ r. r)) in
        record {
          banks = unless o (act_effect w.banks a) (λ _. w.banks) (λ x. x);
          plain = if_accepted tidied said G w.plain;
          begun_hands = if_accepted tidied said hs w.begun_hands;
          begun_cells = if_accepted tidied said cs w.begun_cells;
        }

    begins_after : (n : ℕ) (spare : List (Cell V)) (o : Option Cause) → act_cause w.banks.model n (length spare) (begin spare) ≡ o
        → after tidied w (begins n spare) ≡ acts_by (begin spare) w.plain w.banks.model.hands (take w.banks.model.mark w.banks.cells) o
    unfolding after
    begins_after n spare o e = ap (acts_by (begin spare) w.plain w.banks.model.hands (take w.banks.model.mark w.banks.cells)) e

    slices_after : (n k budget : ℕ) (o : Option Cause) → act_cause {V = V} w.banks.model n k (slice budget) ≡ o
        → after tidied w (slices n k budget) ≡ acts_by (slice budget) w.plain w.begun_hands w.begun_cells o
    unfolding after
    slices_after n k budget o e = ap (acts_by (slice budget) w.plain w.begun_hands w.begun_cells) e

    finishes_after : (n k : ℕ) (o : Option Cause) → act_cause {V = V} w.banks.model n k finish ≡ o
        → after tidied w (finishes n k) ≡ acts_by finish w.plain w.begun_hands w.begun_cells o
    unfolding after
    finishes_after n k o e = ap (acts_by finish w.plain w.begun_hands w.begun_cells) e

    abandons_after : (n : ℕ) (o : Option Cause) → act_cause {V = V} w.banks.model n n abandon ≡ o
        → after tidied w (abandons n) ≡ acts_by abandon (plain_abandon w.plain) w.begun_hands w.begun_cells o
    unfolding after
    abandons_after n o e = ap (acts_by abandon (plain_abandon w.plain) w.begun_hands w.begun_cells) e

    -- ---- a refused call leaves a good world; so does an accepted one

    module _ (good : Good w) where
      good_calls : (n : ℕ) (c : Call V) → Good (after tidied w (calls n c))
      good_calls n c = elim (some_or_none (cause_of tidied w.banks.model n w.banks.cells c)) [
        | inl x ↦ subst Good (sym (calls_after n c (Some x.0) x.1)) good
        | inr e ↦
            let A = admitted tidied w.banks.model n w.banks.cells c e in
            let S = good.outside A.not_collecting in
            subst Good (sym (calls_after n c None e)) (record {
              outside = λ _. sound_effect laws w.banks.model w.banks.cells w.plain S n c A;
              inside = λ y. absurd (yes_no y (effect_mode tidied w.banks.model w.banks.cells c A.not_collecting));
            })
      ]

      good_begins : (n : ℕ) (spare : List (Cell V)) → Good (after tidied w (begins n spare))
      good_begins n spare = elim (some_or_none (act_cause w.banks.model n (length spare) (begin spare))) [
        | inl x ↦ subst Good (sym (begins_after n spare (Some x.0) x.1)) good
        | inr e ↦
            let A = begin_admitted w.banks.model n (length spare) spare e in
            let S = good.outside A.1 in
            subst Good (sym (begins_after n spare None e)) (record {
              outside = λ y. absurd (yes_no refl y);
              inside = λ _. record {
                found = w.banks.cells;
                found_sound = S;
                found_kept = refl;
                touring = starts w.banks.model.size w.banks.model.mark w.banks.model.hands w.banks.model.free w.banks.cells w.plain spare S A.0;
              };
            })
      ]

      -- a world with other banks, and all else as it is
      abbrev with_banks : Banks V → World V
      with_banks x = record { banks = x; plain = w.plain; begun_hands = w.begun_hands; begun_cells = w.begun_cells }

      -- what the banks are once a call of a collection goes on
      accepted_banks : (a : Act V) (x : Banks V) → act_effect w.banks a ≡ x → acts_by a w.plain w.begun_hands w.begun_cells None ≡ with_banks x
      accepted_banks a x e =
          ap (λ y. record { banks = y; plain = if_accepted tidied said w.plain w.plain; begun_hands = if_accepted tidied said w.begun_hands w.begun_hands; begun_cells = if_accepted tidied said w.begun_cells w.begun_cells }) e
          ∙ ap (λ y. record { banks = x; plain = y; begun_hands = if_accepted tidied said w.begun_hands w.begun_hands; begun_cells = if_accepted tidied said w.begun_cells w.begun_cells }) (same_either said w.plain)
          ∙ ap (λ y. record { banks = x; plain = w.plain; begun_hands = y; begun_cells = if_accepted tidied said w.begun_cells w.begun_cells }) (same_either said w.begun_hands)
          ∙ ap (λ y. record { banks = x; plain = w.plain; begun_hands = w.begun_hands; begun_cells = y }) (same_either said w.begun_cells)
        where
          said : Result (Said V) Cause
          said = saying replied (act_reply w.banks a)

          same_either : {X : Type 0} (r : Result (Said V) Cause) (x : X) → if_accepted tidied r x x ≡ x
          same_either (Ok y) x = refl
          same_either (Err y) x = refl

      module _ (T : InTour w) where
        -- the steps that are made, and that none of them is spoiled
        gone : (n : ℕ) → ((march n (tour_of w.banks)).broken ≡ false)
            × Touring w.banks.model.size w.banks.model.mark w.begun_hands T.found (march n (tour_of w.banks)).tour
        gone n = goes w.banks.model.size w.banks.model.mark w.begun_hands T.found (tour_of w.banks) T.touring n

        good_standing : (n : ℕ) → Good (with_banks (standing w.banks.model.free (march n (tour_of w.banks)).tour))
        good_standing n =
            let g = (gone n).1 in
            let t = (march n (tour_of w.banks)).tour in
            let s = stays w.banks.model.size w.banks.model.mark w.begun_hands T.found t g in
            record {
              outside = λ y. absurd (yes_no refl y);
              inside = λ _. record {
                found = T.found;
                found_sound = subst (λ x. Sound lawful x t.mark w.begun_hands w.banks.model.free T.found w.plain) (sym s.0)
                    (subst (λ x. Sound lawful w.banks.model.size x w.begun_hands w.banks.model.free T.found w.plain) (sym s.1) T.found_sound);
                found_kept = T.found_kept ∙ ap (λ x. take x T.found) (sym s.1);
                touring = subst (λ x. Touring x t.mark w.begun_hands T.found t) (sym s.0)
                    (subst (λ x. Touring w.banks.model.size x w.begun_hands T.found t) (sym s.1) g);
              };
            }

        good_settled : Good (with_banks (settled (march_all (tour_of w.banks)).tour))
        good_settled =
            let N = 16 + 2 * w.banks.model.size - steps_of w.banks.model.mode in
            let t = (march_all (tour_of w.banks)).tour in
            let s = stays w.banks.model.size w.banks.model.mark w.begun_hands T.found t (gone N).1 in
            record {
              outside = λ _. subst (λ x. Sound lawful x t.copied t.hands [] t.new w.plain) (sym s.0)
                  (arrives w.banks.model.size w.banks.model.mark w.begun_hands w.banks.model.free T.found w.plain (tour_of w.banks) T.found_sound T.touring);
              inside = λ y. absurd (yes_no y refl);
            }

        finish_settles : act_effect w.banks finish ≡ settled (march_all (tour_of w.banks)).tour
        finish_settles =
            let N = 16 + 2 * w.banks.model.size - steps_of w.banks.model.mode in
            ap (λ x. cond x (standing w.banks.model.free (march_all (tour_of w.banks)).tour) (settled (march_all (tour_of w.banks)).tour)) (gone N).0

      slice_on : (n k budget : ℕ) → act_cause {V = V} w.banks.model n k (slice budget) ≡ None → is_collecting w.banks.model.mode ≡ true
      unfolding act_cause
      slice_on n k budget e = going_on w.banks.model (not (eqb n w.banks.model.size) || not (eqb k w.banks.model.size)) e

      finish_on : (n k : ℕ) → act_cause {V = V} w.banks.model n k finish ≡ None → is_collecting w.banks.model.mode ≡ true
      unfolding act_cause
      finish_on n k e = going_on w.banks.model (not (eqb n w.banks.model.size) || not (eqb k w.banks.model.size)) e

      abandon_on : (n : ℕ) → act_cause {V = V} w.banks.model n n abandon ≡ None → is_collecting w.banks.model.mode ≡ true
      unfolding act_cause
      abandon_on n e = going_on w.banks.model (not (eqb n w.banks.model.size)) e

      good_slices : (n k budget : ℕ) → Good (after tidied w (slices n k budget))
      good_slices n k budget = elim (some_or_none (act_cause {V = V} w.banks.model n k (slice budget))) [
        | inl x ↦ subst Good (sym (slices_after n k budget (Some x.0) x.1)) good
        | inr e ↦
            let T = good.inside (slice_on n k budget e) in
            subst Good (sym (slices_after n k budget None e ∙ accepted_banks (slice budget) (standing w.banks.model.free (march budget (tour_of w.banks)).tour) refl)) (good_standing T budget)
      ]

      good_finishes : (n k : ℕ) → Good (after tidied w (finishes n k))
      good_finishes n k = elim (some_or_none (act_cause {V = V} w.banks.model n k finish)) [
        | inl x ↦ subst Good (sym (finishes_after n k (Some x.0) x.1)) good
        | inr e ↦
            let T = good.inside (finish_on n k e) in
            subst Good (sym (finishes_after n k None e ∙ accepted_banks finish (settled (march_all (tour_of w.banks)).tour) (finish_settles T))) (good_settled T)
      ]

      good_abandons : (n : ℕ) → Good (after tidied w (abandons n))
      good_abandons n = elim (some_or_none (act_cause {V = V} w.banks.model n n abandon)) [
        | inl x ↦ subst Good (sym (abandons_after n (Some x.0) x.1)) good
        | inr e ↦
            let T = good.inside (abandon_on n e) in
            let s = stays w.banks.model.size w.banks.model.mark w.begun_hands T.found (tour_of w.banks) T.touring in
            subst Good (sym (abandons_after n None e)) (record {
              outside = λ _. subst (λ x. SoundAt lawful (new_model x) w.banks.cells (plain_abandon w.plain)) s.2 (sound_new lawful w.banks.cells w.plain.nodes);
              inside = λ y. absurd (yes_no y refl);
            })
      ]

      pub good_after : (e : Event V) → Good (after tidied w e)
      good_after (calls n c) = good_calls n c
      good_after (begins n spare) = good_begins n spare
      good_after (slices n k budget) = good_slices n k budget
      good_after (finishes n k) = good_finishes n k
      good_after (abandons n) = good_abandons n

      -- ---- answers

      calls_answer : (n : ℕ) (c : Call V) (o : Option Cause) → cause_of tidied w.banks.model n w.banks.cells c ≡ o
          → answer tidied w (calls n c) ≡ saying answered (unless o (answer_of (state_of w.banks) c) Err Ok)
      calls_answer n c o e = ap (λ x. saying answered (unless x (answer_of (state_of w.banks) c) Err Ok)) e

      -- an answer that is a refusal where a cause is there, and none else, is right
      rightly : (e : Event V) → ((c : Cause) → cause tidied w e ≡ Some c → answer tidied w e ≡ Err c) → (cause tidied w e ≡ None → (x : Said V) × (answer tidied w e ≡ Ok x))
          → (cause tidied w e ≡ Some Spoiled → ⊥) → RefusedRightly tidied alike w e
      rightly e bad ok not_spoiled = record {
        exactly = λ c. (found c, bad c);
        never_spoiled = λ x. not_spoiled (found Spoiled x);
      }
        where
          found : (c : Cause) → answer tidied w e ≡ Err c → cause tidied w e ≡ Some c
          found c x = elim (some_or_none (cause tidied w e)) [
            | inl y ↦ (let z = bad y.0 y.1 in let q : y.0 ≡ c = (let r : ◌≡◌ {A = Result (Said V) Cause} (Err y.0) (Err c) = sym z ∙ x in cc) in y.1 ∙ ap Some q)
            | inr y ↦ absurd (ok_err (ok y).1 x)
          ]

      -- while the store collects, another cause comes before spoiled
      collecting_first : (n : ℕ) (c : Call V) → is_collecting w.banks.model.mode ≡ true → cause_of tidied w.banks.model n w.banks.cells c ≡ Some Spoiled → ⊥
      unfolding cause_of
      collecting_first n c x e = let z : ◌≡◌ {A = ℕ} 0 1 = grind (arith, nat_tests) in omega arith

      calls_rightly : (n : ℕ) (c : Call V) → RefusedRightly tidied alike w (calls n c)
      calls_rightly n c = rightly (calls n c) (λ x e. calls_answer n c (Some x) e) (λ e. (answered (answer_of (state_of w.banks) c), calls_answer n c None e))
          (λ e. elim (cases_Bool (is_collecting w.banks.model.mode)) [
            | inl x ↦ collecting_first n c x e
            | inr x ↦ cause_not_spoiled laws w.banks.model w.banks.cells w.plain (good.outside x) n c e
          ])

      acts_answer : (a : Act V) (n k : ℕ) (o : Option Cause) → act_cause w.banks.model n k a ≡ o
          → saying {V = V} replied (unless (act_cause w.banks.model n k a) (act_reply w.banks a) Err (λ r. r)) ≡ saying replied (unless o (act_reply w.banks a) Err (λ r. r))
      acts_answer a n k o e = ap (λ x. saying replied (unless x (act_reply w.banks a) Err (λ r. r))) e

      -- no call of a collection is refused as spoiled before its steps
      acts_first : (n k : ℕ) (a : Act V) → act_cause w.banks.model n k a ≡ Some Spoiled → ⊥
      unfolding act_cause
      acts_first n k (begin spare) e = let z : ◌≡◌ {A = ℕ} 0 1 = grind (arith, nat_tests) in omega arith
      acts_first n k (slice budget) e = let z : ◌≡◌ {A = ℕ} 0 1 = grind (arith, nat_tests) in omega arith
      acts_first n k finish e = let z : ◌≡◌ {A = ℕ} 0 1 = grind (arith, nat_tests) in omega arith
      acts_first n k abandon e = let z : ◌≡◌ {A = ℕ} 0 1 = grind (arith, nat_tests) in omega arith

      begins_rightly : (n : ℕ) (spare : List (Cell V)) → RefusedRightly tidied alike w (begins n spare)
      begins_rightly n spare = rightly (begins n spare) (λ x e. acts_answer (begin spare) n (length spare) (Some x) e) (λ e. (replied ready, acts_answer (begin spare) n (length spare) None e)) (acts_first n (length spare) (begin spare))

      abandons_rightly : (n : ℕ) → RefusedRightly tidied alike w (abandons n)
      abandons_rightly n = rightly (abandons n) (λ x e. acts_answer abandon n n (Some x) e) (λ e. (replied ready, acts_answer abandon n n None e)) (acts_first n n abandon)

      slices_rightly : (n k budget : ℕ) → RefusedRightly tidied alike w (slices n k budget)
      slices_rightly n k budget =
          let t = (march budget (tour_of w.banks)).tour in
          let said : Reply = stepped_by (t.steps - steps_of w.banks.model.mode) in
          rightly (slices n k budget) (λ x e. acts_answer (slice budget) n k (Some x) e)
          (λ e. (replied said, acts_answer (slice budget) n k None e ∙ ap (λ b. saying replied (cond b (Err Spoiled) (Ok said))) (gone (good.inside (slice_on n k budget e)) budget).0))
          (acts_first n k (slice budget))

      finishes_rightly : (n k : ℕ) → RefusedRightly tidied alike w (finishes n k)
      finishes_rightly n k =
          let N = 16 + 2 * w.banks.model.size - steps_of w.banks.model.mode in
          let t = (march_all (tour_of w.banks)).tour in
          let said : Reply = kept_marks t.copied t.marks in
          rightly (finishes n k) (λ x e. acts_answer finish n k (Some x) e)
          (λ e. (replied said, acts_answer finish n k None e ∙ ap (λ b. saying replied (cond b (Err Spoiled) (Ok said))) (gone (good.inside (finish_on n k e)) N).0))
          (acts_first n k finish)

      refused_rightly : (e : Event V) → RefusedRightly tidied alike w e
      refused_rightly (calls n c) = calls_rightly n c
      refused_rightly (begins n spare) = begins_rightly n spare
      refused_rightly (slices n k budget) = slices_rightly n k budget
      refused_rightly (finishes n k) = finishes_rightly n k
      refused_rightly (abandons n) = abandons_rightly n

      -- ---- Look

      looks_plain : LooksPlain tidied alike w
      looks_plain n h s x = elim (some_or_none (cause_of tidied w.banks.model n w.banks.cells (call.look h))) [
        | inl y ↦ absurd (ok_err x (calls_answer n (call.look h) (Some y.0) y.1))
        | inr y ↦
            let A = admitted tidied w.banks.model n w.banks.cells (call.look h) y in
            let S = good.outside A.not_collecting in
            let l : h < 16 = (let z : ltb 15 h ≡ false = A.hands_there in grind (arith, nat_tests)) in
            let z : ◌≡◌ {A = Result (Said V) Cause} (Ok (answered s)) (Ok (answered (answer_of (state_of w.banks) (call.look h)))) = sym x ∙ calls_answer n (call.look h) None y in
            let q : s ≡ sight (call.sight_of w.banks.cells (hand_of w.banks.model h)) = cc in
            q ∙ ap sight (look_plain laws w.banks.model w.banks.cells w.plain S h l)
      ]

      -- an accepted Finish: where the collection stood, what is left, and what is answered
      pub record Ended (n k cells marks : ℕ) : Type 0 where
        pub tour : InTour w
        pub now : after tidied w (finishes n k) ≡ record { banks = settled (march_all (tour_of w.banks)).tour; plain = w.plain; begun_hands = w.begun_hands; begun_cells = w.begun_cells }
        pub cells_are : (march_all (tour_of w.banks)).tour.copied ≡ cells
        pub marks_are : (march_all (tour_of w.banks)).tour.marks ≡ marks

      pub finish_ended : (n k cells marks : ℕ) → answer tidied w (finishes n k) ≡ Ok (replied (kept_marks cells marks)) → Ended n k cells marks
      finish_ended n k cells marks x = elim (some_or_none (act_cause {V = V} w.banks.model n k finish)) [
        | inl y ↦ absurd (ok_err x (acts_answer finish n k (Some y.0) y.1))
        | inr e ↦
            let N = 16 + 2 * w.banks.model.size - steps_of w.banks.model.mode in
            let t = (march_all (tour_of w.banks)).tour in
            let said : Reply = kept_marks t.copied t.marks in
            let T = good.inside (finish_on n k e) in
            let a : answer tidied w (finishes n k) ≡ Ok (replied said) = acts_answer finish n k None e ∙ ap (λ b. saying replied (cond b (Err Spoiled) (Ok said))) (gone T N).0 in
            let q : ◌≡◌ {A = Result (Said V) Cause} (Ok (replied said)) (Ok (replied (kept_marks cells marks))) = sym a ∙ x in
            record {
              tour = T;
              now = finishes_after n k None e ∙ accepted_banks finish (settled (march_all (tour_of w.banks)).tour) (finish_settles T);
              cells_are = cc;
              marks_are = cc;
            }
      ]

      pub good_throughout : Throughout tidied alike w
      good_throughout = record {
        refusals = refused_rightly;
        looks = looks_plain;
        tags = λ e. (let S = good.outside e in record { honest = S.tags.honest; unlisted = S.tags.unlisted });
      }

  -- ---- runs

  pub good_run : (w : World V) (es : List (Event V)) → Good w → Good (run tidied w es)
  unfolding run
  good_run w [] g = g
  good_run w (e ∷ es) g = good_run (after tidied w e) es (good_after w g e)

  -- what holds throughout every run
  pub throughout_runs : (bank spare : List (Cell V)) (es : List (Event V)) → Throughout tidied alike (run tidied (world_beside bank spare) es)
  throughout_runs bank spare es = good_throughout (run tidied (world_beside bank spare) es) (good_run (world_beside bank spare) es (good_new bank spare))
