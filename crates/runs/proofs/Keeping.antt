-- A store's mode and its ticket go together.
use Rattle.std.proofs.Common.{◌≡◌, ℕ, Bool, true, false, cond, not, ◌||◌, eqb, List, [], ◌∷◌, length, Some, None, Ok, Err, Option, Result, sym, refl, ap, ◌∙◌, arith, eq-eqb}
use Rattle.std.proofs.lemmas.Bool.Decides.{nat_tests}
use Rattle.cells.specs.declared.Cell.{Cell}
use Rattle.cells.specs.declared.causes.Cause.{Cause}
use Rattle.cells.specs.declared.causes.Cause.TheVariants.{OtherSize, NotCollecting}
use Rattle.store.specs.Model.{Model, is_collecting}
use Rattle.store.specs.Calls.{Call, cause_of, effect, call_state, unless, first}
use Rattle.store.specs.Called.{state_at}
use Rattle.collector.specs.Collections.{Act, begin, slice, finish, abandon, Banks, Reply, ready, act_cause, act_reply, act_effect}
use Rattle.collector.specs.Visits.{banks_at}
use Rattle.collector.specs.Acts.{Acted}
use Rattle.runs.specs.declared.scripts.Answer.{Answer}
use Rattle.runs.specs.Worlds.{replied, saying}
use Rattle.runs.specs.Scripts.{said_by, Acts, idle_cause}
use Rattle.runs.proofs.Called.{admitted}
use Rattle.runs.proofs.Worldly.{begin_admitted, effect_mode}

-- a call from Pair to Look neither begins nor ends a collection
mode_by : {V : Type 0} (tidied : V → Option V) (m : Model) (cells : List (Cell V)) (n : ℕ) (c : Call V) (o : Option Cause) → cause_of tidied m n cells c ≡ o
    → is_collecting (unless o (effect tidied (state_at m cells) c) (λ _. state_at m cells) (λ t. t)).model.mode ≡ is_collecting m.mode
mode_by tidied m cells n c None e =
    let idle = (admitted tidied m n cells c e).not_collecting in
    effect_mode tidied m cells c idle ∙ sym idle
mode_by tidied m cells n c (Some x) e = refl

pub edit_keeps : {V : Type 0} (tidied : V → Option V) (m m' : Model) (cells cells' : List (Cell V)) (c : Call V) → state_at m' cells' ≡ call_state tidied (state_at m cells) (length cells) c
    → is_collecting m'.mode ≡ is_collecting m.mode
edit_keeps tidied m m' cells cells' c is = ap (λ s. is_collecting s.model.mode) is ∙ mode_by tidied m cells (length cells) c (cause_of tidied m (length cells) cells c) refl

-- an accepted Begin found the store idle
accepted_by : (o : Option Cause) → ◌≡◌ {A = Result Reply Cause} (Ok ready) (unless o (Ok ready) Err (λ x. x)) → o ≡ None
accepted_by None h = refl
accepted_by (Some c) h = let no : ◌≡◌ {A = ℕ} 0 1 = cc in absurd (omega arith)

pub began_idle : {V : Type 0} (b b' : Banks V) (spare : List (Cell V)) → Acted (begin spare) b (Ok ready) b' → is_collecting b.model.mode ≡ false
began_idle b b' spare a =
    (begin_admitted b.model (length b.cells) (length b.fresh) spare (accepted_by (act_cause b.model (length b.cells) (length b.fresh) (begin spare)) a.answer)).1

pub yes_no : {b : Bool} → b ≡ true → b ≡ false → ⊥
yes_no p q = let z : ◌≡◌ {A = ℕ} 0 1 = cc in omega arith

-- a store that does not collect refuses what goes on with a collection
idle_rows : (b x : Bool) → x ≡ false → first ((b, OtherSize) ∷ (not x, NotCollecting) ∷ []) ≡ Some (cond b OtherSize NotCollecting)
idle_rows b x idle = grind (arith, nat_tests)

module _ {V : Type 0} (m : Model) (old new : List (Cell V)) (e : Cause) (idle : is_collecting m.mode ≡ false) where
  idle_refused : (a : Act V) (r : Result (Answer V) Cause) → act_cause m (length old) (length new) a ≡ Some e → r ≡ Err e → Acts a (banks_at m old new) r (banks_at m old new)
  idle_refused a r why is = record {
    answer = ap said_by is ∙ ap (λ o. saying replied (unless o (act_reply (banks_at m old new) a) Err (λ x. x))) (sym why);
    after = ap (λ o. unless o (act_effect (banks_at m old new) a) (λ _. banks_at m old new) (λ x. x)) (sym why);
  }

  pub slice_idle : (budget : ℕ) → e ≡ idle_cause m.size (length old) (length new) → Acts (slice budget) (banks_at m old new) (Err e) (banks_at m old new)
  unfolding act_cause
  slice_idle budget is = idle_refused (slice budget) (Err e) (idle_rows (not (eqb (length old) m.size) || not (eqb (length new) m.size)) (is_collecting m.mode) idle ∙ ap Some (sym is)) refl

  pub finish_idle : e ≡ idle_cause m.size (length old) (length new) → Acts finish (banks_at m old new) (Err e) (banks_at m old new)
  unfolding act_cause
  finish_idle is = idle_refused finish (Err e) (idle_rows (not (eqb (length old) m.size) || not (eqb (length new) m.size)) (is_collecting m.mode) idle ∙ ap Some (sym is)) refl

  pub abandon_idle : e ≡ idle_cause m.size (length old) (length old) → Acts abandon (banks_at m old new) (Err e) (banks_at m old new)
  unfolding act_cause
  abandon_idle is =
      let one : (b : Bool) → cond (b || b) OtherSize NotCollecting ≡ cond b OtherSize NotCollecting = λ b. elim b as (λ x. cond (x || x) OtherSize NotCollecting ≡ cond x OtherSize NotCollecting) [ true ↦ refl | false ↦ refl ] in
      idle_refused abandon (Err e) (idle_rows (not (eqb (length old) m.size)) (is_collecting m.mode) idle ∙ ap Some (sym (is ∙ one (not (eqb (length old) m.size))))) refl

-- an accepted Abandon leaves a store that does not collect, and a refused one leaves it as it was
refused_by : (o : Option Cause) (e : Cause) → ◌≡◌ {A = Result Reply Cause} (Err e) (unless o (Ok ready) Err (λ x. x)) → o ≡ Some e
refused_by None e h = let no : ◌≡◌ {A = ℕ} 0 1 = cc in absurd (omega arith)
refused_by (Some c) e h = cc

pub abandoned_idle : {V : Type 0} (b b' : Banks V) → Acted abandon b (Ok ready) b' → is_collecting b'.model.mode ≡ false
abandoned_idle b b' a =
    let none = accepted_by (act_cause b.model (length b.cells) (length b.fresh) abandon) a.answer in
    ap (λ x. is_collecting x.model.mode) (a.after ∙ ap (λ o. unless o (act_effect b abandon) (λ _. b) (λ x. x)) none)

pub abandon_refused : {V : Type 0} (b b' : Banks V) (e : Cause) → Acted abandon b (Err e) b' → is_collecting b'.model.mode ≡ is_collecting b.model.mode
abandon_refused b b' e a =
    let some = refused_by (act_cause b.model (length b.cells) (length b.fresh) abandon) e a.answer in
    ap (λ x. is_collecting x.model.mode) (a.after ∙ ap (λ o. unless o (act_effect b abandon) (λ _. b) (λ x. x)) some)

-- a collection on a bank of the store's size can be abandoned
abandon_free : (V : Type 0) (m : Model) (n k : ℕ) → n ≡ m.size → is_collecting m.mode ≡ true → act_cause {V = V} m n k abandon ≡ None
unfolding act_cause
abandon_free V m n k same busy = let one : eqb n m.size ≡ true = eq-eqb n m.size same in grind (arith, nat_tests)

pub abandon_sure : {V : Type 0} (b b' : Banks V) (e : Cause) → length b.cells ≡ b.model.size → is_collecting b.model.mode ≡ true → Acted abandon b (Err e) b' → ⊥
abandon_sure {V} b b' e same busy a =
    let none = abandon_free V b.model (length b.cells) (length b.fresh) same busy in
    let answer : Err e ≡ Ok ready = a.answer ∙ ap (λ o. unless o (act_reply b abandon) Err (λ x. x)) none in
    let no : ◌≡◌ {A = ℕ} 0 1 = cc in omega arith
