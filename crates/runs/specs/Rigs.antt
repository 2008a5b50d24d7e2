-- A store over two banks, as the banks in use. Assumes nothing.
use Rattle.std.specs.Prelude.{◌≡◌, true, false, List, length, Some, None, Ok, Err, Result}
use Rattle.cells.specs.declared.Cell.{Cell}
use Rattle.cells.specs.declared.causes.Cause.{Cause}
use Rattle.cells.specs.declared.causes.Cause.TheVariants as causes
use Rattle.store.specs.Model.{Model, is_collecting}
use Rattle.store.specs.Calls.{size_cause}
use Rattle.store.specs.Record.{view}
use Rattle.collector.specs.Collections.{Banks}
use Rattle.collector.specs.Visits.{banks_at}
use Rattle.runs.specs.declared.keepers.Keeper.{Keeper}
use Rattle.runs.specs.declared.rigs.InUse.{InUse}
use Rattle.runs.specs.declared.rigs.InUse.TheVariants.{First, Second}
use Rattle.runs.specs.declared.rigs.Rig.{Rig}
use Rattle.runs.specs.Worlds.{world_beside}

abbrev pub kept_by : Result Keeper Cause → Result Model Cause
kept_by (Ok k) = Ok (view k.store)
kept_by (Err c) = Err c

abbrev pub other : InUse → InUse
other First = Second
other Second = First

-- two banks as they are in use
abbrev pub in_use_as : {V : Type 0} → InUse → Model → List (Cell V) → List (Cell V) → Banks V
in_use_as First m first second = banks_at m first second
in_use_as Second m first second = banks_at m second first

-- the record and the banks in use, by what the cells of each bank are: the working or old one, and the other one
abbrev pub banks_of : {V A B : Type 0} → (A → List (Cell V)) → (B → List (Cell V)) → Rig A B → Banks V
banks_of f g r = in_use_as r.in_use (view r.keeper.store) (f r.first) (g r.second)

-- the banks in use have the store's size
pub record Fits {V : Type 0} (b : Banks V) : Type 0 where
  pub working : length b.cells ≡ b.model.size
  pub new : is_collecting b.model.mode ≡ true → length b.fresh ≡ b.model.size

-- a new store on the first bank, with the other bank beside it; or why there is none
abbrev pub Started : {V A B : Type 0} → (A → List (Cell V)) → (B → List (Cell V)) → A → B → Result (Rig A B) Cause → Type 0
Started f g first second (Ok r) = (size_cause (length (f first)) ≡ None) × (banks_of f g r ≡ (world_beside (f first) (g second)).banks) × Fits (banks_of f g r)
Started f g first second (Err c) = size_cause (length (f first)) ≡ Some c

abbrev pub answered_with : Result Unit Cause → Model → Result Model Cause
answered_with (Ok u) m = Ok m
answered_with (Err c) m = Err c

-- A store that is replaced by the one of an image, in its working bank: refused while it collects, and otherwise as Open answers
-- and leaves it. A refusal leaves everything as it was.
pub record Replaced {V : Type 0} (opened : List (Cell V) → Result Model Cause → List (Cell V) → Type 0) (b : Banks V) (r : Result Unit Cause) (b' : Banks V) : Type 0 where
  pub busy : is_collecting b.model.mode ≡ true → (r ≡ Err causes.Collecting) × (b' ≡ b)
  pub idle : is_collecting b.model.mode ≡ false → opened b.cells (answered_with r b'.model) b'.cells × (b'.fresh ≡ b.fresh)
  pub refused : (c : Cause) → r ≡ Err c → b' ≡ b
