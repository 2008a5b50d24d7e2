-- A store keeps its size, whatever calls are made on it.
use Rattle.std.proofs.Common.{◌≡◌, ℕ, zero, suc, ◌+◌, ◌-◌, ◌*◌, Bool, true, false, cond, eqb, List, [], ◌∷◌, get_or, Some, None, Option, refl, ◌∙◌}
use Rattle.cells.specs.declared.Tag.{Tag}
use Rattle.cells.specs.declared.Tag.TheVariants.{Unique, Sticky}
use Rattle.cells.specs.declared.Reference.{Reference}
use Rattle.cells.specs.declared.Field.{Field}
use Rattle.cells.specs.declared.Field.TheVariants.{Nil, To}
use Rattle.cells.specs.declared.Source.{Source}
use Rattle.cells.specs.declared.Cell.{Cell}
use Rattle.cells.specs.declared.Cell.TheVariants.{Blank, Pair, Leaf, Moved}
use Rattle.cells.specs.declared.causes.Cause.{Cause}
use Rattle.graph.specs.Places.{holds}
use Rattle.store.specs.Model.{Model}
use Rattle.store.specs.Calls.{Call, State, effect, cause_of, unless}
use Rattle.store.specs.Calls as call
use Rattle.collector.specs.Steps.{Tour, Stand, forwarded, met_cell, met_field, stepped, finished, step_spoiled, march}
use Rattle.collector.specs.Collections.{Act, begin, slice, finish, abandon, Banks, tour_of, act_effect, act_cause, march_all, standing, settled}
use Rattle.runs.specs.Worlds.{Event, calls, begins, slices, finishes, abandons, World, state_of, next, after, run}

either_model : (b : Bool) (x y : Model) (k : ℕ) → x.size ≡ k → y.size ≡ k → (cond b x y).size ≡ k
either_model true x y k p q = p
either_model false x y k p q = q

module _ {V : Type 0} where
  -- ---- steps

  forwarded_size : (t : Tour V) (r : Reference) (g : Tag) (f : Reference) (s : Source) → (forwarded t r g f s).size ≡ t.size
  forwarded_size t r Sticky f s = refl
  forwarded_size t r Unique f s = refl

  cell_size : (t : Tour V) (r : Reference) (c : Cell V) → (met_cell t r c).size ≡ t.size
  cell_size t r Blank = refl
  cell_size t r (Pair a b) = refl
  cell_size t r (Leaf v) = refl
  cell_size t r (Moved f s) = forwarded_size t r f.tag f s

  field_size : (t : Tour V) (f : Field) → (met_field t f).size ≡ t.size
  field_size t Nil = refl
  field_size t (To r) = cell_size t r (get_or t.old r.address Blank)

  stepped_size : (t : Tour V) → (stepped t).size ≡ t.size
  unfolding stepped
  stepped_size t = field_size t (holds t.hands t.new t.steps)

  either_stand : (b : Bool) (x y : Stand V) (k : ℕ) → x.tour.size ≡ k → y.tour.size ≡ k → (cond b x y).tour.size ≡ k
  either_stand true x y k p q = p
  either_stand false x y k p q = q

  pub march_size : (n : ℕ) (t : Tour V) → (march n t).tour.size ≡ t.size
  unfolding march
  march_size zero t = refl
  march_size (suc n) t =
      either_stand (finished t) _ _ t.size refl
      (either_stand (step_spoiled t) _ _ t.size refl (march_size n (stepped t) ∙ stepped_size t))

  -- ---- calls

  pub effect_size : (tidied : V → Option V) (s : State V) (c : Call V) → (effect tidied s c).model.size ≡ s.model.size
  unfolding effect
  effect_size tidied s (call.pair h) = refl
  effect_size tidied s (call.leaf h v) = refl
  effect_size tidied s (call.copy h g) = either_model (eqb h g) _ _ s.model.size refl refl
  effect_size tidied s (call.load h g x) = refl
  effect_size tidied s (call.store g x h) = refl
  effect_size tidied s (call.swap g x h) = refl
  effect_size tidied s (call.clear h) = refl
  effect_size tidied s (call.look h) = refl

  either_banks : (b : Bool) (x y : Banks V) (k : ℕ) → x.model.size ≡ k → y.model.size ≡ k → (cond b x y).model.size ≡ k
  either_banks true x y k p q = p
  either_banks false x y k p q = q

  act_size : (b : Banks V) (a : Act V) → (act_effect b a).model.size ≡ b.model.size
  act_size b (begin spare) = refl
  act_size b (slice budget) = march_size budget (tour_of b)
  act_size b finish =
      let t = march_all (tour_of b) in
      let e = march_size (16 + 2 * (tour_of b).size - (tour_of b).steps) (tour_of b) in
      either_banks t.broken (standing b.model.free t.tour) (settled t.tour) b.model.size e e
  act_size b abandon = refl

  unless_state : (o : Option Cause) (s e : State V) → e.model.size ≡ s.model.size → (unless o e (λ _. s) (λ t. t)).model.size ≡ s.model.size
  unless_state None s e h = h
  unless_state (Some c) s e h = refl

  unless_banks : (o : Option Cause) (b e : Banks V) → e.model.size ≡ b.model.size → (unless o e (λ _. b) (λ t. t)).model.size ≡ b.model.size
  unless_banks None b e h = h
  unless_banks (Some c) b e h = refl

  module _ (tidied : V → Option V) where
    next_size : (w : World V) (e : Event V) → (next tidied w e).model.size ≡ w.banks.model.size
    next_size w (calls n c) = unless_state (cause_of tidied w.banks.model n w.banks.cells c) (state_of w.banks) (effect tidied (state_of w.banks) c) (effect_size tidied (state_of w.banks) c)
    next_size w (begins n spare) = unless_banks (act_cause w.banks.model n _ (begin spare)) w.banks (act_effect w.banks (begin spare)) (act_size w.banks (begin spare))
    next_size w (slices n k budget) = unless_banks (act_cause {V = V} w.banks.model n k (slice budget)) w.banks (act_effect w.banks (slice budget)) (act_size w.banks (slice budget))
    next_size w (finishes n k) = unless_banks (act_cause {V = V} w.banks.model n k finish) w.banks (act_effect w.banks finish) (act_size w.banks finish)
    next_size w (abandons n) = unless_banks (act_cause {V = V} w.banks.model n n abandon) w.banks (act_effect w.banks abandon) (act_size w.banks abandon)

    pub after_size : (w : World V) (e : Event V) → (after tidied w e).banks.model.size ≡ w.banks.model.size
    unfolding after
    after_size w e = next_size w e

    pub run_size : (w : World V) (es : List (Event V)) → (run tidied w es).banks.model.size ≡ w.banks.model.size
    unfolding run
    run_size w [] = refl
    run_size w (e ∷ es) = run_size (after tidied w e) es ∙ after_size w e
