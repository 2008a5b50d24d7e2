-- A record put together from what an image holds. Assumes nothing.
use Rattle.std.specs.Prelude.{ℕ, not, ◌||◌, List, [], ◌∷◌, Ok, Err, Option, Result, ◌==◌, nat_lt}
use Rattle.cells.specs.declared.Field.{Field}
use Rattle.cells.specs.declared.causes.Cause.{Cause}
use Rattle.cells.specs.declared.causes.Cause.TheVariants.{SizeOutOfRange, NotAnImage, NoRoom}
use Rattle.store.specs.declared.Mode.TheVariants.{Settled}
use Rattle.store.specs.Model.{Model}
use Rattle.store.specs.Bounds.{hands_below}
use Rattle.store.specs.Calls.{first, unless}

-- a size that no store has, a mark above the size, a hand at or past the size
abbrev pub restore_cause : ℕ → ℕ → List Field → Option Cause
restore_cause size mark hands =
    first (
    (size == 0 || nat_lt 32768 size, SizeOutOfRange)
    ∷ (nat_lt size mark, NoRoom)
    ∷ (not (hands_below size hands), NotAnImage)
    ∷ []
    )

-- a settled store that keeps the cells below the mark
abbrev pub settled_model : ℕ → ℕ → List Field → Model
settled_model size mark hands = record { size = size; mark = mark; hands = hands; free = []; mode = Settled }

abbrev pub restored_model : ℕ → ℕ → List Field → Result Model Cause
restored_model size mark hands = unless (restore_cause size mark hands) (settled_model size mark hands) Err Ok
