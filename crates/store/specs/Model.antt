-- The record of a store, without its proofs. Assumes nothing.
use Rattle.std.specs.Prelude.{ℕ, Bool, true, false, List, [], replicate, slice_index_or}
use Rattle.cells.specs.declared.Field.{Field}
use Rattle.cells.specs.declared.Field.TheVariants.{Nil}
use Rattle.store.specs.declared.Mode.{Mode}
use Rattle.store.specs.declared.Mode.TheVariants.{Settled, Working, Collecting}

-- Size and mark, the sixteen hands, the free list with its top last, and the mode. The kept cells are those below the mark.
pub record Model : Type 0 where
  pub size : ℕ
  pub mark : ℕ
  pub hands : List Field
  pub free : List ℕ
  pub mode : Mode

abbrev pub hand_of : Model → ℕ → Field
hand_of m h = slice_index_or m.hands h Nil

abbrev pub is_collecting : Mode → Bool
is_collecting Settled = false
is_collecting Working = false
is_collecting (Collecting s c n) = true

-- a store that was just made over a bank of that size
abbrev pub new_model : ℕ → Model
new_model size = record { size = size; mark = 0; hands = replicate 16 Nil; free = []; mode = Settled }
