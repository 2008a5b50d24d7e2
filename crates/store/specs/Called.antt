-- What the code of a call answers and leaves. Assumes nothing.
use Rattle.std.specs.Prelude.{◌≡◌, List, length, Ok, Err, Option, Result}
use Rattle.cells.specs.declared.Cell.{Cell}
use Rattle.cells.specs.declared.causes.Cause.{Cause}
use Rattle.store.specs.declared.Sight.{Sight}
use Rattle.store.specs.Model.{Model}
use Rattle.store.specs.Calls.{Call, State, Answer, done, sight, call_answer, call_state}

-- the answer of a call that shows nothing, and of Look
abbrev pub told : {V : Type 0} → Result Unit Cause → Result (Answer V) Cause
told (Ok u) = Ok done
told (Err c) = Err c

abbrev pub seen : {V : Type 0} → Result (Sight V) Cause → Result (Answer V) Cause
seen (Ok s) = Ok (sight s)
seen (Err c) = Err c

abbrev pub state_at : {V : Type 0} → Model → List (Cell V) → State V
state_at m cells = record { model = m; cells = cells }

-- Made on a record and a bank, a call answers r and leaves the record and the cells as they are said to be after.
pub record Called {V : Type 0} (tidied : V → Option V) (c : Call V) (m : Model) (cells : List (Cell V)) (r : Result (Answer V) Cause) (m' : Model) (cells' : List (Cell V)) : Type 0 where
  pub answer : r ≡ call_answer tidied (state_at m cells) (length cells) c
  pub after : state_at m' cells' ≡ call_state tidied (state_at m cells) (length cells) c
