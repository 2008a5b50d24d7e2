-- The banks in use keep the store's size, whatever calls are made.
use Rattle.std.proofs.Common.{◌≡◌, ℕ, zero, suc, ◌+◌, ◌-◌, ◌*◌, Bool, true, false, cond, ltb, List, length, get_or, Some, None, Option, sym, refl, ◌∙◌, length-set}
use Rattle.cells.specs.declared.Tag.{Tag}
use Rattle.cells.specs.declared.Tag.TheVariants.{Unique, Sticky}
use Rattle.cells.specs.declared.Reference.{Reference}
use Rattle.cells.specs.declared.Field.{Field}
use Rattle.cells.specs.declared.Field.TheVariants.{Nil, To}
use Rattle.cells.specs.declared.Source.{Source}
use Rattle.cells.specs.declared.Cell.{Cell}
use Rattle.cells.specs.declared.Cell.TheVariants.{Blank, Pair, Leaf, Moved}
use Rattle.cells.specs.declared.causes.Cause.{Cause}
use Rattle.graph.specs.Places.{holds}
use Rattle.store.specs.Fields.{is_unique}
use Rattle.store.specs.Model.{is_collecting}
use Rattle.store.specs.Calls.{Call, State, effect, cause_of, unless, first}
use Rattle.store.specs.Calls as call
use Rattle.collector.specs.Steps.{Tour, Stand, cells_with, marked_old, copied_over, forwarded, met_cell, met_field, stepped, finished, step_spoiled, march}
use Rattle.collector.specs.Collections.{begin, slice, finish, abandon, Banks, tour_of, act_effect, act_cause, march_all, standing, settled}
use Rattle.runs.specs.declared.scripts.Call.TheVariants as script
use Rattle.runs.specs.declared.scripts.Call.{Call as ScriptCall}
use Rattle.runs.specs.Worlds.{World, state_of, next}
use Rattle.runs.specs.Scripts.{call_of, event_of}
use Rattle.runs.specs.Rigs.{Fits}
use Rattle.runs.proofs.Called.{admitted}
use Rattle.runs.proofs.Worldly.{begin_admitted, effect_mode, going_on}
use Rattle.runs.proofs.Keeping.{yes_no}
use Rattle.runs.proofs.Sizes.{march_size, effect_size}

module _ {V : Type 0} where
  -- ---- a step writes cells, and no more

  -- both banks are as long as before
  pub record Long (t t' : Tour V) : Type 0 where
    pub old : length t'.old ≡ length t.old
    pub new : length t'.new ≡ length t.new

  either_long : (b : Bool) (x y : List (Cell V)) (k : ℕ) → length x ≡ k → length y ≡ k → length (cond b x y) ≡ k
  either_long true x y k p q = p
  either_long false x y k p q = q

  with_long : (p : ℕ) (f : Field) (cells : List (Cell V)) → length (cells_with p f cells) ≡ length cells
  with_long p f cells = either_long (ltb p 16) cells _ (length cells) refl (length-set cells _ _)

  marked_long : (t : Tour V) (r : Reference) → length (marked_old t r) ≡ length t.old
  marked_long t r = either_long (is_unique r.tag) t.old _ (length t.old) refl (length-set t.old _ _)

  copied_long : (t : Tour V) (r : Reference) (c : Cell V) → Long t (copied_over t r c)
  copied_long t r c = record { old = marked_long t r; new = with_long t.steps _ _ ∙ length-set t.new _ _ }

  forwarded_long : (t : Tour V) (r : Reference) (g : Tag) (f : Reference) (s : Source) → Long t (forwarded t r g f s)
  forwarded_long t r Sticky f s = record { old = refl; new = with_long t.steps _ _ }
  forwarded_long t r Unique f s = record { old = length-set t.old _ _; new = with_long _ _ _ ∙ with_long t.steps _ _ }

  cell_long : (t : Tour V) (r : Reference) (c : Cell V) → Long t (met_cell t r c)
  cell_long t r Blank = record { old = refl; new = refl }
  cell_long t r (Pair a b) = copied_long t r (Pair a b)
  cell_long t r (Leaf v) = copied_long t r (Leaf v)
  cell_long t r (Moved f s) = forwarded_long t r f.tag f s

  field_long : (t : Tour V) (f : Field) → Long t (met_field t f)
  field_long t Nil = record { old = refl; new = refl }
  field_long t (To r) = cell_long t r (get_or t.old r.address Blank)

  stepped_long : (t : Tour V) → Long t (stepped t)
  unfolding stepped
  stepped_long t = field_long t (holds t.hands t.new t.steps)

  either_stand : (b : Bool) (t : Tour V) (x y : Stand V) → Long t x.tour → Long t y.tour → Long t (cond b x y).tour
  either_stand true t x y p q = p
  either_stand false t x y p q = q

  march_long : (n : ℕ) (t : Tour V) → Long t (march n t).tour
  unfolding march
  march_long zero t = record { old = refl; new = refl }
  march_long (suc n) t =
      let step = stepped_long t in
      let rest = march_long n (stepped t) in
      either_stand (finished t) t _ _ (record { old = refl; new = refl })
      (either_stand (step_spoiled t) t _ _ (record { old = refl; new = refl }) (record { old = rest.old ∙ step.old; new = rest.new ∙ step.new }))

  effect_long : (tidied : V → Option V) (s : State V) (c : Call V) → length (effect tidied s c).cells ≡ length s.cells
  unfolding effect
  effect_long tidied s (call.pair h) = length-set s.cells _ _
  effect_long tidied s (call.leaf h v) = length-set s.cells _ _
  effect_long tidied s (call.copy h g) = refl
  effect_long tidied s (call.load h g x) = length-set s.cells _ _
  effect_long tidied s (call.store g x h) = length-set s.cells _ _
  effect_long tidied s (call.swap g x h) = length-set s.cells _ _
  effect_long tidied s (call.clear h) = refl
  effect_long tidied s (call.look h) = refl

  -- ---- an accepted call keeps the fit, and a refused one changes nothing

  unless_fits : (o : Option Cause) (b e : Banks V) → Fits b → (o ≡ None → Fits e) → Fits (unless o e (λ _. b) (λ t. t))
  unless_fits None b e fits then = then refl
  unless_fits (Some c) b e fits then = fits

  pub idle_fits : (b : Banks V) → length b.cells ≡ b.model.size → is_collecting b.model.mode ≡ false → Fits b
  idle_fits b long idle = record { working = long; new = λ busy. absurd (yes_no busy idle) }

  module _ (tidied : V → Option V) (w : World V) (fits : Fits w.banks) where
    slice_on : (n k budget : ℕ) → act_cause {V = V} w.banks.model n k (slice budget) ≡ None → is_collecting w.banks.model.mode ≡ true
    unfolding act_cause
    slice_on n k budget e = going_on w.banks.model _ e

    finish_on : (n k : ℕ) → act_cause {V = V} w.banks.model n k finish ≡ None → is_collecting w.banks.model.mode ≡ true
    unfolding act_cause
    finish_on n k e = going_on w.banks.model _ e

    state_fits : (n : ℕ) (c : Call V) (o : Option Cause) → cause_of tidied w.banks.model n w.banks.cells c ≡ o
        → Fits (record { model = (unless o (effect tidied (state_of w.banks) c) (λ _. state_of w.banks) (λ t. t)).model; cells = (unless o (effect tidied (state_of w.banks) c) (λ _. state_of w.banks) (λ t. t)).cells; fresh = w.banks.fresh })
    state_fits n c None e =
        idle_fits _ (effect_long tidied (state_of w.banks) c ∙ fits.working ∙ sym (effect_size tidied (state_of w.banks) c))
        (effect_mode tidied w.banks.model w.banks.cells c (admitted tidied w.banks.model n w.banks.cells c e).not_collecting)
    state_fits n c (Some x) e = record { working = fits.working; new = fits.new }

    marched : (n : ℕ) → length w.banks.fresh ≡ w.banks.model.size → Fits (standing w.banks.model.free (march n (tour_of w.banks)).tour)
    marched n long =
        let l = march_long n (tour_of w.banks) in
        let size = march_size n (tour_of w.banks) in
        record { working = l.old ∙ fits.working ∙ sym size; new = λ _. l.new ∙ long ∙ sym size }

    either_fits : (x : Bool) (p q : Banks V) → Fits p → Fits q → Fits (cond x p q)
    either_fits true p q f g = f
    either_fits false p q f g = g

    finished_fits : length w.banks.fresh ≡ w.banks.model.size → Fits (act_effect w.banks finish)
    finished_fits long =
        let n = 16 + 2 * (tour_of w.banks).size - (tour_of w.banks).steps in
        let s = march_all (tour_of w.banks) in
        let l = march_long n (tour_of w.banks) in
        either_fits s.broken (standing w.banks.model.free s.tour) (settled s.tour) (marched n long)
        (idle_fits (settled s.tour) (l.new ∙ long ∙ sym (march_size n (tour_of w.banks))) refl)

    pub next_fits : (c : ScriptCall V) → Fits (next tidied w (event_of w.banks c))
    next_fits (script.Edit c) = state_fits (length w.banks.cells) (call_of c) (cause_of tidied w.banks.model (length w.banks.cells) w.banks.cells (call_of c)) refl
    next_fits script.Begin =
        unless_fits (act_cause w.banks.model (length w.banks.cells) (length w.banks.fresh) (begin w.banks.fresh)) w.banks (act_effect w.banks (begin w.banks.fresh)) fits
        (λ e. record { working = fits.working; new = λ _. (begin_admitted w.banks.model (length w.banks.cells) (length w.banks.fresh) w.banks.fresh e).0 })
    next_fits (script.Slice budget) =
        let n = length w.banks.cells in
        let k = length w.banks.fresh in
        unless_fits (act_cause {V = V} w.banks.model n k (slice budget)) w.banks (act_effect w.banks (slice budget)) fits (λ e. marched budget (fits.new (slice_on n k budget e)))
    next_fits script.Finish =
        let n = length w.banks.cells in
        let k = length w.banks.fresh in
        unless_fits (act_cause {V = V} w.banks.model n k finish) w.banks (act_effect w.banks finish) fits (λ e. finished_fits (fits.new (finish_on n k e)))
    next_fits script.Abandon =
        let n = length w.banks.cells in
        unless_fits (act_cause {V = V} w.banks.model n n abandon) w.banks (act_effect w.banks abandon) fits (λ _. idle_fits (act_effect w.banks abandon) fits.working refl)
