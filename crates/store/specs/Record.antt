-- What the record of a store stands for, and what its own calls make of it. Assumes nothing.
use Rattle.std.specs.Prelude.{ℕ, Ok, Err, Result}
use Rattle.cells.specs.declared.Field.{Field}
use Rattle.cells.specs.declared.causes.Cause.{Cause}
use Rattle.store.specs.declared.record.Record.{Record}
use Rattle.store.specs.Model.{Model, new_model}
use Rattle.store.specs.Fields.{let_go, below_top}
use Rattle.store.specs.Calls.{unless, size_cause}

-- the record without its proofs
abbrev pub view : Record → Model
view r = record { size = r.size; mark = r.mark; hands = r.hands.fields; free = r.free; mode = r.mode }

abbrev pub viewed : Result Record Cause → Result Model Cause
viewed (Ok r) = Ok (view r)
viewed (Err c) = Err c

-- a record made over a bank of that size, or why none is
abbrev pub made : ℕ → Result Model Cause
made n = unless (size_cause n) (new_model n) Err Ok

abbrev pub field_let_go : Model → Field → Model
field_let_go m f = record { size = m.size; mark = m.mark; hands = m.hands; free = let_go m.mark f m.free; mode = m.mode }

-- the top off the free list
abbrev pub top_taken : Model → Model
top_taken m = record { size = m.size; mark = m.mark; hands = m.hands; free = below_top m.free; mode = m.mode }
