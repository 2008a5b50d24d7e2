-- A script made on a new store. Assumes nothing.
use Rattle.std.specs.Prelude.{◌≡◌, ℕ, List, [], map, length, Some, None, Option, Result}
use Rattle.cells.specs.declared.Cell.{Cell}
use Rattle.cells.specs.declared.causes.Cause.{Cause}
use Rattle.store.specs.Calls.{size_cause}
use Rattle.collector.specs.Collections.{Banks}
use Rattle.runs.specs.declared.replays.Unplayed.{Unplayed}
use Rattle.runs.specs.declared.replays.Unplayed.TheVariants.{Refused, Memory}
use Rattle.runs.specs.declared.scripts.Call.{Call}
use Rattle.runs.specs.declared.scripts.Answer.{Answer}
use Rattle.runs.specs.Plain.{empty_graph}
use Rattle.runs.specs.Worlds.{World, world_beside, run}
use Rattle.runs.specs.Scripts.{said_by, events_of, answers_of}

-- a world that starts with these banks
abbrev pub world_at : {V : Type 0} → Banks V → World V
world_at b = record { banks = b; plain = empty_graph; begun_hands = []; begun_cells = [] }

-- Answers, record and banks are those of the run that makes the calls of the script on a new store over the first bank.
pub record Replayed {V : Type 0} (tidied : V → Option V) (first second : List (Cell V)) (script : List (Call V)) (answers : List (Result (Answer V) Cause)) (b : Banks V) : Type 0 where
  pub allowed : size_cause (length first) ≡ None
  pub answered : map said_by answers ≡ answers_of tidied (world_beside first second) script
  pub left : b ≡ (run tidied (world_beside first second) (events_of tidied (world_beside first second) script)).banks

-- there is no store over that many cells, or no memory
abbrev pub unplayed : ℕ → Unplayed → Type 0
unplayed n (Refused c) = size_cause n ≡ Some c
unplayed n Memory = Unit {0}
