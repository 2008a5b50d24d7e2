-- Step by step through a march.
use Rattle.std.proofs.Common.{◌≡◌, ℕ, zero, suc, ◌+◌, ◌*◌, Bool, true, false, cond, not, ltb, List, Some, None, Ok, Err, Result, sym, refl, ap, ◌∙◌, subst, arith}
use Rattle.std.proofs.lemmas.Bool.{cond-true, cond-false}
use Rattle.std.proofs.lemmas.Bool.Decides.{nat_tests}
use Rattle.cells.specs.declared.Cell.{Cell}
use Rattle.cells.specs.declared.Source.{Source}
use Rattle.cells.specs.declared.causes.Cause.{Cause}
use Rattle.cells.specs.declared.causes.Cause.TheVariants.{Spoiled}
use Rattle.store.specs.declared.Mode.{Mode}
use Rattle.store.specs.declared.Mode.TheVariants.{Settled, Working, Collecting}
use Rattle.store.specs.Model.{Model, is_collecting}
use Rattle.store.specs.Advances.{with_mode}
use Rattle.collector.specs.Steps.{Tour, finished, step_spoiled, stepped, march}
use Rattle.collector.specs.Collections.{Banks, tour_of, standing, steps_of, copied_of}
use Rattle.collector.specs.Places.{place_left}
use Rattle.collector.specs.Visits.{banks_at, Went}

-- what is left of a march: k steps of it, from where the banks stand now, lead where all of it leads from where they stood at first
pub record Remains {V : Type 0} (most : ℕ) (b₀ : Banks V) (k : ℕ) (b : Banks V) : Type 0 where
  pub collects : is_collecting b.model.mode ≡ true
  pub free : b.model.free ≡ b₀.model.free
  pub leads : march most (tour_of b₀) ≡ march k (tour_of b)

pub at_first : {V : Type 0} (most : ℕ) (b : Banks V) → is_collecting b.model.mode ≡ true → Remains most b most b
at_first most b c = record { collects = c; free = refl; leads = refl }

-- banks in the midst of a collection are where their tour says
stands : {V : Type 0} (m : Model) (x : Mode) (cells fresh : List (Cell V)) → m.mode ≡ x → is_collecting x ≡ true → banks_at m cells fresh ≡ standing m.free (tour_of (banks_at m cells fresh))
stands m Settled cells fresh e c = let no : ◌≡◌ {A = ℕ} 0 1 = cc in absurd (omega arith)
stands m Working cells fresh e c = let no : ◌≡◌ {A = ℕ} 0 1 = cc in absurd (omega arith)
stands m (Collecting s k n) cells fresh e c =
    let is : m ≡ with_mode m (Collecting s k n) = ap (with_mode m) e in
    subst (λ x. banks_at x cells fresh ≡ standing x.free (tour_of (banks_at x cells fresh))) (sym is) refl

-- what march does at its next step
step_zero : {V : Type 0} (t : Tour V) → march zero t ≡ record { tour = t; broken = false }
unfolding march
step_zero t = refl

step_next : {V : Type 0} (n : ℕ) (t : Tour V) → march (suc n) t ≡ cond (finished t) (record { tour = t; broken = false }) (cond (step_spoiled t) (record { tour = t; broken = true }) (march n (stepped t)))
unfolding march
step_next n t = refl

-- whether a place is left
none_finished : (x : Mode) → is_collecting x ≡ true → place_left x ≡ None → not (ltb (steps_of x) (16 + 2 * copied_of x)) ≡ true
none_finished Settled c e = let no : ◌≡◌ {A = ℕ} 0 1 = cc in absurd (omega arith)
none_finished Working c e = let no : ◌≡◌ {A = ℕ} 0 1 = cc in absurd (omega arith)
none_finished (Collecting s k n) c e = grind (arith, nat_tests)

some_going : (x : Mode) (at : Source) → place_left x ≡ Some at → not (ltb (steps_of x) (16 + 2 * copied_of x)) ≡ false
some_going Settled at e = let no : ◌≡◌ {A = ℕ} 0 1 = cc in absurd (omega arith)
some_going Working at e = let no : ◌≡◌ {A = ℕ} 0 1 = cc in absurd (omega arith)
some_going (Collecting s k n) at e = grind (arith, nat_tests)

-- whether a step was spoiled
fine_lem : (b : Bool) (u : Unit {0}) → Ok u ≡ cond b (Err Spoiled) (Ok tt) → b ≡ false
fine_lem true u q = let no : ◌≡◌ {A = ℕ} 0 1 = cc in absurd (omega arith)
fine_lem false u q = refl

spoiled_lem : (b : Bool) (e : Cause) → ◌≡◌ {A = Result Unit Cause} (Err e) (cond b (Err Spoiled) (Ok tt)) → (b ≡ true) × (e ≡ Spoiled)
spoiled_lem true e q = (refl, cc)
spoiled_lem false e q = let no : ◌≡◌ {A = ℕ} 0 1 = cc in absurd (omega arith)

module _ {V : Type 0} (most : ℕ) (b₀ : Banks V) (k : ℕ) (b : Banks V) (left : Remains most b₀ k b) where
  -- how a march ends
  abbrev pub Ended : Result Unit Cause → Banks V → Type 0
  Ended r b' = (r ≡ cond (march most (tour_of b₀)).broken (Err Spoiled) (Ok tt)) × (b' ≡ standing b₀.model.free (march most (tour_of b₀)).tour)

  here : b ≡ standing b₀.model.free (tour_of b)
  here = stands b.model b.model.mode b.cells b.fresh refl left.collects ∙ ap (λ f. standing f (tour_of b)) left.free

  ended : (x : Bool) → march k (tour_of b) ≡ record { tour = tour_of b; broken = x } → Ended (cond x (Err Spoiled) (Ok tt)) b
  ended x is =
      let whole = left.leads ∙ is in
      (ap (λ y. cond y.broken (Err Spoiled) (Ok tt)) (sym whole), here ∙ ap (λ y. standing b₀.model.free y.tour) (sym whole))

  pub all_made : k ≡ 0 → Ended (Ok tt) b
  all_made none = ended false (ap (λ j. march j (tour_of b)) none ∙ step_zero (tour_of b))

  pub none_left : (j : ℕ) → k ≡ suc j → place_left b.model.mode ≡ None → Ended (Ok tt) b
  none_left j some none =
      ended false (ap (λ i. march i (tour_of b)) some ∙ step_next j (tour_of b) ∙ cond-true (finished (tour_of b)) _ _ (none_finished b.model.mode left.collects none))

  module _ (j : ℕ) (at : Source) (some : k ≡ suc j) (next : place_left b.model.mode ≡ Some at) where
    going : finished (tour_of b) ≡ false
    going = some_going b.model.mode at next

    pub spoiled_there : (e : Cause) (b' : Banks V) → Went step_spoiled stepped b (Err e) b' → Ended (Err e) b'
    spoiled_there e b' went =
        let f = spoiled_lem (step_spoiled (tour_of b)) e went.answer in
        let E = ended true (ap (λ i. march i (tour_of b)) some ∙ step_next j (tour_of b) ∙ cond-false (finished (tour_of b)) _ _ going ∙ cond-true (step_spoiled (tour_of b)) _ _ f.0) in
        (ap Err f.1 ∙ E.0, went.after ∙ cond-true (step_spoiled (tour_of b)) _ _ f.0 ∙ E.1)

    pub one_made : (u : Unit {0}) (b' : Banks V) → Went step_spoiled stepped b (Ok u) b' → Remains most b₀ j b'
    one_made u b' went =
        let fine = fine_lem (step_spoiled (tour_of b)) u went.answer in
        let b'-is : b' ≡ standing b.model.free (stepped (tour_of b)) = went.after ∙ cond-false (step_spoiled (tour_of b)) _ _ fine in
        record {
          collects = ap (λ x. is_collecting x.model.mode) b'-is;
          free = ap (λ x. x.model.free) b'-is ∙ left.free;
          leads = left.leads ∙ ap (λ i. march i (tour_of b)) some ∙ step_next j (tour_of b) ∙ cond-false (finished (tour_of b)) _ _ going ∙ cond-false (step_spoiled (tour_of b)) _ _ fine ∙ ap (λ x. march j (tour_of x)) (sym b'-is);
        }
