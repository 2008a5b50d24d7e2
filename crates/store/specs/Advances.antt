-- How a record follows what happens to its store. Assumes nothing.
use Rattle.std.specs.Prelude.{ℕ, ◌+◌, ◌*◌, Bool, true, false, cond, not, ◌&&◌, ◌||◌, [], Some, None, Ok, Err, Option, Result, nat_lt, slice_set}
use Rattle.cells.specs.declared.Field.{Field}
use Rattle.cells.specs.declared.causes.Cause.{Cause}
use Rattle.cells.specs.declared.causes.Cause.TheVariants.{NoSuchHand, NotCollecting, Spoiled}
use Rattle.cells.specs.declared.causes.Cause.TheVariants as causes
use Rattle.store.specs.declared.Mode.{Mode}
use Rattle.store.specs.declared.Mode.TheVariants.{Settled, Working, Collecting}
use Rattle.store.specs.declared.turns.Happening.{Happening}
use Rattle.store.specs.declared.turns.Happening.TheVariants.{Edited, Begun, Placed, Stepped, Finished, Abandoned}
use Rattle.store.specs.Model.{Model, new_model}
use Rattle.store.specs.Fields.{past}
use Rattle.store.specs.Calls.{unless}

abbrev pub with_mode : Model → Mode → Model
with_mode m x = record { size = m.size; mark = m.mark; hands = m.hands; free = m.free; mode = x }

abbrev pub with_hands : Model → ℕ → Field → Model
with_hands m h f = record { size = m.size; mark = m.mark; hands = slice_set m.hands h f; free = m.free; mode = m.mode }

-- a field is placed in a hand that there is, and none past the size
abbrev pub hold_cause : Model → ℕ → Field → Option Cause
hold_cause m h f = cond (nat_lt 15 h) (Some NoSuchHand) (cond (past m.size f) (Some Spoiled) None)

abbrev pub hold_answer : Model → ℕ → Field → Result Unit Cause
hold_answer m h f = unless (hold_cause m h f) tt Err Ok

abbrev pub held_model : Model → ℕ → Field → Model
held_model m h f = unless (hold_cause m h f) (with_hands m h f) (λ _. m) (λ x. x)

abbrev pub bit : Bool → ℕ
bit true = 1
bit false = 0

-- a step is made while places are left, and copies while there is room
abbrev pub step_fits : ℕ → ℕ → ℕ → Bool → Bool
step_fits size s c copies = nat_lt s (16 + 2 * c) && (not copies || nat_lt c size)

-- what a store that does not collect does after an event
abbrev pub idle_cause : Happening → Option Cause
idle_cause Edited = None
idle_cause Begun = None
idle_cause (Placed h f) = Some NotCollecting
idle_cause (Stepped copies marks) = Some NotCollecting
idle_cause Finished = Some NotCollecting
idle_cause Abandoned = Some NotCollecting

abbrev pub idle_mode : Mode → Happening → Mode
idle_mode x Edited = Working
idle_mode x Begun = Collecting 0 0 0
idle_mode x (Placed h f) = x
idle_mode x (Stepped copies marks) = x
idle_mode x Finished = x
idle_mode x Abandoned = x

-- and one that collects, with s steps made and c cells copied
abbrev pub busy_cause : Model → ℕ → ℕ → Happening → Option Cause
busy_cause m s c Edited = Some causes.Collecting
busy_cause m s c Begun = Some causes.Collecting
busy_cause m s c (Placed h f) = hold_cause m h f
busy_cause m s c (Stepped copies marks) = cond (step_fits m.size s c copies) None (Some Spoiled)
busy_cause m s c Finished = None
busy_cause m s c Abandoned = None

abbrev pub busy_model : Model → ℕ → ℕ → ℕ → Happening → Model
busy_model m s c n Edited = m
busy_model m s c n Begun = m
busy_model m s c n (Placed h f) = held_model m h f
busy_model m s c n (Stepped copies marks) = cond (step_fits m.size s c copies) (with_mode m (Collecting (s + 1) (c + bit copies) (n + bit marks))) m
busy_model m s c n Finished = record { size = m.size; mark = c; hands = m.hands; free = []; mode = Settled }
busy_model m s c n Abandoned = new_model m.size

abbrev pub advance_cause : Model → Mode → Happening → Option Cause
advance_cause m Settled e = idle_cause e
advance_cause m Working e = idle_cause e
advance_cause m (Collecting s c n) e = busy_cause m s c e

-- whether a store takes an event, or why it refuses it
abbrev pub advance_answer : Model → Happening → Result Unit Cause
advance_answer m e = unless (advance_cause m m.mode e) tt Err Ok

abbrev pub advanced_from : Model → Mode → Happening → Model
advanced_from m Settled e = with_mode m (idle_mode Settled e)
advanced_from m Working e = with_mode m (idle_mode Working e)
advanced_from m (Collecting s c n) e = busy_model m s c n e

-- the record after it
abbrev pub advanced_model : Model → Happening → Model
advanced_model m e = advanced_from m m.mode e
