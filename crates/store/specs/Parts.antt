-- The parts that the code of several calls shares, and what each gives. What a call means is said without them. Assumes nothing.
use Rattle.std.specs.Prelude.{◌≡◌, ℕ, Bool, false, cond, not, ◌||◌, List, [], ◌∷◌, length, Some, Ok, Err, Result, ◌==◌, nat_lt, slice_index_or, slice_set}
use Rattle.cells.specs.declared.Field.{Field}
use Rattle.cells.specs.declared.Field.TheVariants.{Nil, To}
use Rattle.cells.specs.declared.Side.{Side}
use Rattle.cells.specs.declared.Side.TheVariants.{Left, Right}
use Rattle.cells.specs.declared.Cell.{Cell}
use Rattle.cells.specs.declared.Cell.TheVariants.{Blank, Pair, Leaf, Moved}
use Rattle.cells.specs.declared.causes.Cause.{Cause}
use Rattle.cells.specs.declared.causes.Cause.TheVariants.{OtherSize, NoSuchHand, Collecting, NilHand, LeafCell, Spoiled, NoRoom}
use Rattle.store.specs.declared.Mode.TheVariants.{Working}
use Rattle.store.specs.declared.record.targets.Target.{Target}
use Rattle.store.specs.Model.{Model, is_collecting}
use Rattle.store.specs.Fields.{Taken, address_of, is_nil}
use Rattle.store.specs.Called.{state_at}
use Rattle.store.specs.Calls.{State, first, unless, full, placed, leads_to_leaf, astray, field_at}

-- a bank of n cells and two hands are admitted by a store that does not collect
abbrev pub admitted : Model → ℕ → ℕ → ℕ → Result Unit Cause
admitted m n h g =
    unless (first ((not (n == m.size), OtherSize) ∷ (nat_lt 15 h || nat_lt 15 g, NoSuchHand) ∷ (is_collecting m.mode, Collecting) ∷ [])) tt Err Ok

-- the pair that a reference leads to, below the mark
abbrev pub target_in : {V : Type 0} → ℕ → ℕ → Cell V → Result Target Cause
target_in mark a Blank = Err Spoiled
target_in mark a (Pair l r) = cond (nat_lt a mark) (Ok (record { address = a; left = l; right = r })) (Err Spoiled)
target_in mark a (Leaf v) = Err LeafCell
target_in mark a (Moved f s) = Err Spoiled

abbrev pub target_of : {V : Type 0} → ℕ → List (Cell V) → Field → Result Target Cause
target_of mark cells Nil = Err NilHand
target_of mark cells (To r) = target_in mark r.address (slice_index_or cells r.address Blank)

-- what the code goes on with: a reference that leads to a pair below the mark
pub record Aims {V : Type 0} (mark : ℕ) (cells : List (Cell V)) (f : Field) (t : Target) : Type 0 where
  pub address : address_of f ≡ t.address
  pub cell : slice_index_or cells t.address Blank ≡ Pair t.left t.right
  pub some : is_nil f ≡ false
  pub pair : leads_to_leaf cells f ≡ false
  pub straight : astray mark cells f ≡ false
  pub left : field_at cells Left f ≡ t.left
  pub right : field_at cells Right f ≡ t.right

-- what it refuses: the first row that applies
abbrev pub Misses : {V : Type 0} → ℕ → List (Cell V) → Field → Cause → Type 0
Misses mark cells f c = first ((is_nil f, NilHand) ∷ (leads_to_leaf cells f, LeafCell) ∷ (astray mark cells f, Spoiled) ∷ []) ≡ Some c

abbrev pub side_in : Side → Target → Field
side_in Left t = t.left
side_in Right t = t.right

abbrev pub with_in : {V : Type 0} → Side → Field → Target → Cell V
with_in Left f t = Pair f t.right
with_in Right f t = Pair t.left f

-- an address can be taken: one is listed, or the mark is below the size
abbrev pub roomy : Model → Bool
roomy m = not (length m.free == 0) || nat_lt m.mark m.size

abbrev pub taken_model : Model → Taken → Model
taken_model m t = record { size = m.size; mark = t.mark; hands = m.hands; free = t.free; mode = m.mode }

-- a field in a hand, and the store working
abbrev pub changed : Model → ℕ → Field → Model
changed m h f = record { size = m.size; mark = m.mark; hands = slice_set m.hands h f; free = m.free; mode = Working }

-- a cell is placed, or there is no room for it
abbrev pub place_answer : Model → ℕ → Result Unit Cause
place_answer m h = cond (full m h) (Err NoRoom) (Ok tt)

abbrev pub placed_state : {V : Type 0} → Model → List (Cell V) → ℕ → Cell V → State V
placed_state m cells h c = cond (full m h) (state_at m cells) (placed (state_at m cells) h c)
