-- The calls of a collection: when each is refused, what it answers, and what it leaves. Assumes nothing.
use Rattle.std.specs.Prelude.{ℕ, ◌+◌, ◌-◌, ◌*◌, cond, not, ◌||◌, List, [], ◌∷◌, Ok, Err, Option, Result, ◌==◌}
use Rattle.cells.specs.declared.Cell.{Cell}
use Rattle.cells.specs.declared.causes.Cause.{Cause}
use Rattle.cells.specs.declared.causes.Cause.TheVariants.{OtherSize, NotCollecting, Spoiled}
use Rattle.cells.specs.declared.causes.Cause.TheVariants as causes
use Rattle.store.specs.declared.Mode.{Mode}
use Rattle.store.specs.declared.Mode.TheVariants.{Settled, Working, Collecting}
use Rattle.store.specs.Model.{Model, new_model, is_collecting}
use Rattle.store.specs.Calls.{first, unless}
use Rattle.collector.specs.Steps.{Tour, Stand, march}

-- Begin is handed the spare bank's cells, Slice its budget.
pub data Act (V : Type 0) : Type 0 where
  begin : (spare : List (Cell V)) → Act V
  slice : (budget : ℕ) → Act V
  finish : Act V
  abandon : Act V

-- the record and the banks in use: the working bank, which is the old one while collecting, and then the new one
pub record Banks (V : Type 0) : Type 0 where
  pub model : Model
  pub cells : List (Cell V)
  pub fresh : List (Cell V)

-- ---- the table of causes, in the order of their numbers
-- n and k are the numbers of cells of the banks that are handed in: the working or old one, and the spare or new one.

unfoldable pub act_cause : {V : Type 0} → Model → ℕ → ℕ → Act V → Option Cause
act_cause m n k (begin spare) = first ((not (n == m.size) || not (k == m.size), OtherSize) ∷ (is_collecting m.mode, causes.Collecting) ∷ [])
act_cause m n k (slice budget) = first ((not (n == m.size) || not (k == m.size), OtherSize) ∷ (not (is_collecting m.mode), NotCollecting) ∷ [])
act_cause m n k finish = first ((not (n == m.size) || not (k == m.size), OtherSize) ∷ (not (is_collecting m.mode), NotCollecting) ∷ [])
act_cause m n k abandon = first ((not (n == m.size), OtherSize) ∷ (not (is_collecting m.mode), NotCollecting) ∷ [])

-- ---- the steps on the record

abbrev pub steps_of : Mode → ℕ
steps_of Settled = 0
steps_of Working = 0
steps_of (Collecting s k n) = s

abbrev pub copied_of : Mode → ℕ
copied_of Settled = 0
copied_of Working = 0
copied_of (Collecting s k n) = k

abbrev pub marks_of : Mode → ℕ
marks_of Settled = 0
marks_of Working = 0
marks_of (Collecting s k n) = n

abbrev pub tour_of : {V : Type 0} → Banks V → Tour V
tour_of b =
    let m = b.model in
    record {
      mark = m.mark;
      size = m.size;
      hands = m.hands;
      old = b.cells;
      new = b.fresh;
      steps = steps_of m.mode;
      copied = copied_of m.mode;
      marks = marks_of m.mode;
    }

-- the record and banks of a collection that stands there; the free list stays until the end
abbrev pub standing : {V : Type 0} → List ℕ → Tour V → Banks V
standing free t = record {
  model = record { size = t.size; mark = t.mark; hands = t.hands; free = free; mode = Collecting t.steps t.copied t.marks };
  cells = t.old;
  fresh = t.new;
}

-- the end of a collection: the new bank is the working one, the mark is what was copied, nothing is listed
abbrev pub settled : {V : Type 0} → Tour V → Banks V
settled t = record {
  model = record { size = t.size; mark = t.copied; hands = t.hands; free = []; mode = Settled };
  cells = t.new;
  fresh = t.old;
}

-- all the steps that are left: there are at most sixteen and two for each new cell
abbrev pub march_all : {V : Type 0} → Tour V → Stand V
march_all t = march (16 + 2 * t.size - t.steps) t

-- ---- answers and effects

-- what an accepted call answers: nothing, how many steps were made, or how many cells were kept and how many marks made
pub data Reply : Type 0 where
  ready : Reply
  stepped_by : ℕ → Reply
  kept_marks : ℕ → ℕ → Reply

-- a march that is broken is refused as spoiled
abbrev pub whole : {V X : Type 0} → Stand V → (Tour V → X) → (Tour V → X) → X
whole s good bad = cond s.broken (bad s.tour) (good s.tour)

abbrev pub act_reply : {V : Type 0} → Banks V → Act V → Result Reply Cause
act_reply b (begin spare) = Ok ready
act_reply b (slice budget) = whole (march budget (tour_of b)) (λ t. Ok (stepped_by (t.steps - steps_of b.model.mode))) (λ _. Err Spoiled)
act_reply b finish = whole (march_all (tour_of b)) (λ t. Ok (kept_marks t.copied t.marks)) (λ _. Err Spoiled)
act_reply b abandon = Ok ready

-- a spoiled call keeps the steps completed
abbrev pub act_effect : {V : Type 0} → Banks V → Act V → Banks V
act_effect b (begin spare) = record {
  model = record { size = b.model.size; mark = b.model.mark; hands = b.model.hands; free = b.model.free; mode = Collecting 0 0 0 };
  cells = b.cells;
  fresh = spare;
}
act_effect b (slice budget) = standing b.model.free (march budget (tour_of b)).tour
act_effect b finish = whole (march_all (tour_of b)) settled (standing b.model.free)
act_effect b abandon = record { model = new_model b.model.size; cells = b.cells; fresh = b.fresh }

-- the answer to a call that is handed banks of n and of k cells, and what it leaves; a refused one leaves everything as it was
abbrev pub act_answer : {V : Type 0} → Banks V → ℕ → ℕ → Act V → Result Reply Cause
act_answer b n k a = unless (act_cause b.model n k a) (act_reply b a) Err (λ r. r)

abbrev pub act_banks : {V : Type 0} → Banks V → ℕ → ℕ → Act V → Banks V
act_banks b n k a = unless (act_cause b.model n k a) (act_effect b a) (λ _. b) (λ c. c)
