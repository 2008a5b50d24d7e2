-- How the mode of a store follows what happens to it. Assumes nothing.
use Rattle.std.specs.Prelude.{Ok, Err, Result}
use Rattle.cells.specs.declared.causes.Cause.{Cause}
use Rattle.cells.specs.declared.causes.Cause.TheVariants.{NotCollecting}
use Rattle.cells.specs.declared.causes.Cause.TheVariants as causes
use Rattle.store.specs.declared.Mode.{Mode}
use Rattle.store.specs.declared.Mode.TheVariants.{Settled, Working, Collecting}
use Rattle.store.specs.declared.turning.Record.{Record}
use Rattle.store.specs.declared.turning.Event.{Event}
use Rattle.store.specs.declared.turning.Event.TheVariants.{Edited, Begun, Stepped, Finished, Abandoned}
use Rattle.store.specs.Model.{Model}

-- the record without its proofs
abbrev pub view : Record → Model
view r = record { size = r.size; mark = r.mark; hands = r.hands.fields; free = r.free; mode = r.mode }

abbrev pub viewed : Result Record Cause → Result Model Cause
viewed (Ok r) = Ok (view r)
viewed (Err c) = Err c

-- what a store that does not collect does after an event
abbrev pub turned_idle : Mode → Event → Mode
turned_idle m Edited = Working
turned_idle m Begun = Collecting 0 0 0
turned_idle m (Stepped s c n) = m
turned_idle m Finished = m
turned_idle m Abandoned = m

-- what one does that collects with these counts
abbrev pub turned_busy : Mode → Event → Mode
turned_busy m Edited = m
turned_busy m Begun = m
turned_busy m (Stepped s c n) = Collecting s c n
turned_busy m Finished = Settled
turned_busy m Abandoned = Settled

abbrev pub turned : Mode → Event → Mode
turned Settled e = turned_idle Settled e
turned Working e = turned_idle Working e
turned (Collecting s c n) e = turned_busy (Collecting s c n) e

abbrev pub idle_answer : Event → Result Unit Cause
idle_answer Edited = Ok tt
idle_answer Begun = Ok tt
idle_answer (Stepped s c n) = Err NotCollecting
idle_answer Finished = Err NotCollecting
idle_answer Abandoned = Err NotCollecting

abbrev pub busy_answer : Event → Result Unit Cause
busy_answer Edited = Err causes.Collecting
busy_answer Begun = Err causes.Collecting
busy_answer (Stepped s c n) = Ok tt
busy_answer Finished = Ok tt
busy_answer Abandoned = Ok tt

-- whether a store takes an event, or why it refuses it
abbrev pub turn_answer : Mode → Event → Result Unit Cause
turn_answer Settled e = idle_answer e
turn_answer Working e = idle_answer e
turn_answer (Collecting s c n) e = busy_answer e

-- the model after an event: its mode turns, and the rest stays
abbrev pub turned_model : Model → Event → Model
turned_model m e = record { size = m.size; mark = m.mark; hands = m.hands; free = m.free; mode = turned m.mode e }
