-- Scripts: the calls that code makes, as the events of a run. Assumes nothing.
use Rattle.std.specs.Prelude.{◌≡◌, ℕ, Bool, true, false, cond, not, ◌&&◌, ◌||◌, List, [], ◌∷◌, length, is_ok, Ok, Err, Option, Result, ◌==◌}
use Rattle.cells.specs.declared.Cell.{Cell}
use Rattle.cells.specs.declared.causes.Cause.{Cause}
use Rattle.cells.specs.declared.causes.Cause.TheVariants.{OtherSize, NotCollecting}
use Rattle.store.specs.Model.{Model}
use Rattle.store.specs.Calls.{call_answer, call_state, done, sight}
use Rattle.store.specs.Calls as call
use Rattle.store.specs.Called.{state_at}
use Rattle.collector.specs.Collections.{Act, Banks, ready, stepped_by, kept_marks, act_answer, act_banks}
use Rattle.collector.specs.Visits.{banks_at}
use Rattle.runs.specs.declared.scripts.Edit.{Edit}
use Rattle.runs.specs.declared.scripts.Edit.TheVariants.{Pair, Leaf, Copy, Load, Store, Swap, Clear, Look}
use Rattle.runs.specs.declared.scripts.Call.{Call}
use Rattle.runs.specs.declared.scripts.Call.TheVariants as script
use Rattle.runs.specs.declared.scripts.Answer.{Answer}
use Rattle.runs.specs.declared.scripts.Answer.TheVariants.{Done, Seen, Ready, Stepped, Kept}
use Rattle.runs.specs.Worlds.{Event, calls, begins, slices, finishes, abandons, World, Said, answered, replied, saying, answer, next, after}

-- what an answer of the code says
abbrev pub said : {V : Type 0} → Answer V → Said V
said Done = answered done
said (Seen s) = answered (sight s)
said Ready = replied ready
said (Stepped n) = replied (stepped_by n)
said (Kept k n) = replied (kept_marks k n)

abbrev pub said_by : {V : Type 0} → Result (Answer V) Cause → Result (Said V) Cause
said_by (Ok a) = Ok (said a)
said_by (Err c) = Err c

-- the call that a script names
abbrev pub call_of : {V : Type 0} → Edit V → call.Call V
call_of (Pair h) = call.pair h
call_of (Leaf h v) = call.leaf h v
call_of (Copy h g) = call.copy h g
call_of (Load h g s) = call.load h g s
call_of (Store g s h) = call.store g s h
call_of (Swap g s h) = call.swap g s h
call_of (Clear h) = call.clear h
call_of (Look h) = call.look h

-- made on a record and its working bank, it answers r and leaves this record and these cells
pub record Edited {V : Type 0} (tidied : V → Option V) (c : Edit V) (m : Model) (cells : List (Cell V)) (r : Result (Answer V) Cause) (m' : Model) (cells' : List (Cell V)) : Type 0 where
  pub answer : said_by r ≡ saying answered (call_answer tidied (state_at m cells) (length cells) (call_of c))
  pub after : state_at m' cells' ≡ call_state tidied (state_at m cells) (length cells) (call_of c)

-- the event of a call that is handed both banks as they stand; the spare of Begin is the bank that is not in use
abbrev pub event_of : {V : Type 0} → Banks V → Call V → Event V
event_of b (script.Edit c) = calls (length b.cells) (call_of c)
event_of b script.Begin = begins (length b.cells) b.fresh
event_of b (script.Slice budget) = slices (length b.cells) (length b.fresh) budget
event_of b script.Finish = finishes (length b.cells) (length b.fresh)
event_of b script.Abandon = abandons (length b.cells)

-- Made on a record and both banks, a call answers r and leaves these: what a run does that stands there.
pub record Made {V : Type 0} (tidied : V → Option V) (c : Call V) (b : Banks V) (r : Result (Answer V) Cause) (b' : Banks V) : Type 0 where
  pub answer : (w : World V) → w.banks ≡ b → said_by r ≡ answer tidied w (event_of b c)
  pub after : (w : World V) → w.banks ≡ b → b' ≡ next tidied w (event_of b c)

-- the events of a script, and its answers
abbrev pub events_of : {V : Type 0} → (V → Option V) → World V → List (Call V) → List (Event V)
events_of tidied w [] = []
events_of tidied w (c ∷ cs) = event_of w.banks c ∷ events_of tidied (after tidied w (event_of w.banks c)) cs

abbrev pub answers_of : {V : Type 0} → (V → Option V) → World V → List (Call V) → List (Result (Said V) Cause)
answers_of tidied w [] = []
answers_of tidied w (c ∷ cs) = answer tidied w (event_of w.banks c) ∷ answers_of tidied (after tidied w (event_of w.banks c)) cs

-- made on a record and both banks, a call of a collection answers r and leaves these
pub record Acts {V : Type 0} (a : Act V) (b : Banks V) (r : Result (Answer V) Cause) (b' : Banks V) : Type 0 where
  pub answer : said_by r ≡ saying replied (act_answer b (length b.cells) (length b.fresh) a)
  pub after : b' ≡ act_banks b (length b.cells) (length b.fresh) a

-- the old and the new bank as they are in use afterwards: an accepted Finish exchanges them
abbrev pub exchanged_if : {V : Type 0} → Bool → Model → List (Cell V) → List (Cell V) → Banks V
exchanged_if swap m old new = cond swap (banks_at m new old) (banks_at m old new)

-- why a call of a collection is refused by a store that does not collect
abbrev pub idle_cause : ℕ → ℕ → ℕ → Cause
idle_cause size n k = cond (not (n == size) || not (k == size)) OtherSize NotCollecting

-- an accepted Finish exchanges the banks
abbrev pub is_finish : {V : Type 0} → Call V → Bool
is_finish (script.Edit c) = false
is_finish script.Begin = false
is_finish (script.Slice n) = false
is_finish script.Finish = true
is_finish script.Abandon = false

abbrev pub exchanges : {V : Type 0} → Call V → Result (Answer V) Cause → Bool
exchanges c r = is_finish c && is_ok r
