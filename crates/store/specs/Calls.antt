-- The calls of a store outside a collection: when each is refused, what it answers, and what it leaves. Assumes nothing.
use Rattle.std.specs.Prelude.{ℕ, Bool, true, false, cond, not, ◌&&◌, ◌||◌, List, [], ◌∷◌, length, is_some, Some, None, Ok, Err, Option, Result, ◌==◌, nat_lt, slice_index_or, slice_set}
use Rattle.std.specs.Option.{unwrap_or}
use Rattle.cells.specs.declared.Field.{Field}
use Rattle.cells.specs.declared.Field.TheVariants.{Nil, To}
use Rattle.cells.specs.declared.Side.{Side}
use Rattle.cells.specs.declared.Cell.{Cell}
use Rattle.cells.specs.declared.Cell.TheVariants.{Blank, Pair, Leaf, Moved}
use Rattle.cells.specs.declared.causes.Cause.{Cause}
use Rattle.cells.specs.declared.causes.Cause.TheVariants.{SizeOutOfRange, OtherSize, NoSuchHand, Collecting, ValueRefused, NilHand, LeafCell, Spoiled, NoRoom}
use Rattle.store.specs.declared.Mode.TheVariants.{Working}
use Rattle.store.specs.declared.Sight.{Sight}
use Rattle.store.specs.declared.Sight.TheVariants.{Nothing, APair, ALeaf}
use Rattle.store.specs.Model.{Model, hand_of, is_collecting}
use Rattle.store.specs.Fields.{unique, is_nil, unique_field, past, address_of, made_sticky, with_side, let_go, taking}
use Rattle.graph.specs.Places.{field_of, is_node}

-- h and g are hands; a call with a side is about the cell that g refers to
pub data Call (V : Type 0) : Type 0 where
  pair : (h : ℕ) → Call V
  leaf : (h : ℕ) (value : V) → Call V
  copy : (h g : ℕ) → Call V
  load : (h g : ℕ) (side : Side) → Call V
  store : (g : ℕ) (side : Side) (h : ℕ) → Call V
  swap : (g : ℕ) (side : Side) (h : ℕ) → Call V
  clear : (h : ℕ) → Call V
  look : (h : ℕ) → Call V

-- ---- the causes, each with when it applies

-- a hand's number is above 15
abbrev pub no_such_hand : {V : Type 0} → Call V → Bool
no_such_hand (pair h) = nat_lt 15 h
no_such_hand (leaf h v) = nat_lt 15 h
no_such_hand (copy h g) = nat_lt 15 h || nat_lt 15 g
no_such_hand (load h g s) = nat_lt 15 h || nat_lt 15 g
no_such_hand (store g s h) = nat_lt 15 h || nat_lt 15 g
no_such_hand (swap g s h) = nat_lt 15 h || nat_lt 15 g
no_such_hand (clear h) = nat_lt 15 h
no_such_hand (look h) = nat_lt 15 h

-- the value of a leaf is refused by its kind
abbrev pub value_refused : {V : Type 0} → (V → Option V) → Call V → Bool
value_refused tidied (pair h) = false
value_refused tidied (leaf h v) = not (is_some (tidied v))
value_refused tidied (copy h g) = false
value_refused tidied (load h g s) = false
value_refused tidied (store g s h) = false
value_refused tidied (swap g s h) = false
value_refused tidied (clear h) = false
value_refused tidied (look h) = false

-- the hand of a call with a side
abbrev pub sided : {V : Type 0} → Call V → Option ℕ
sided (pair h) = None
sided (leaf h v) = None
sided (copy h g) = None
sided (load h g s) = Some g
sided (store g s h) = Some g
sided (swap g s h) = Some g
sided (clear h) = None
sided (look h) = None

-- whether a hand that is there passes a test
abbrev pub hand_passes : (Field → Bool) → Model → Option ℕ → Bool
hand_passes test m None = false
hand_passes test m (Some h) = test (hand_of m h)

abbrev pub is_leaf : {V : Type 0} → Cell V → Bool
is_leaf Blank = false
is_leaf (Pair l r) = false
is_leaf (Leaf v) = true
is_leaf (Moved f o) = false

-- the cell that a reference leads to is a leaf
abbrev pub leads_to_leaf : {V : Type 0} → List (Cell V) → Field → Bool
leads_to_leaf cells Nil = false
leads_to_leaf cells (To r) = is_leaf (slice_index_or cells r.address Blank)

-- a reference is followed at or past the mark, to a blank cell, or to a moved one
abbrev pub astray : {V : Type 0} → ℕ → List (Cell V) → Field → Bool
astray mark cells Nil = false
astray mark cells (To r) = not (nat_lt r.address mark) || not (is_node (slice_index_or cells r.address Blank))

-- the field on a side of the cell that a reference leads to
abbrev pub field_at : {V : Type 0} → List (Cell V) → Side → Field → Field
field_at cells side Nil = Nil
field_at cells side (To r) = field_of side (slice_index_or cells r.address Blank)

-- a call follows a reference astray, or takes a field at or past the mark into a hand
abbrev pub spoiled : {V : Type 0} → Model → List (Cell V) → Call V → Bool
spoiled m cells (pair h) = false
spoiled m cells (leaf h v) = false
spoiled m cells (copy h g) = false
spoiled m cells (load h g s) = astray m.mark cells (hand_of m g) || past m.mark (field_at cells s (hand_of m g))
spoiled m cells (store g s h) = astray m.mark cells (hand_of m g)
spoiled m cells (swap g s h) = astray m.mark cells (hand_of m g) || past m.mark (field_at cells s (hand_of m g))
spoiled m cells (clear h) = false
spoiled m cells (look h) = astray m.mark cells (hand_of m h)

-- the list is empty, the mark is at the size, and the hand is not UNIQUE
abbrev pub full : Model → ℕ → Bool
full m h = length m.free == 0 && (not (nat_lt m.mark m.size) && not (unique_field (hand_of m h)))

abbrev pub no_room : {V : Type 0} → Model → Call V → Bool
no_room m (pair h) = full m h
no_room m (leaf h v) = full m h
no_room m (copy h g) = false
no_room m (load h g s) = false
no_room m (store g s h) = false
no_room m (swap g s h) = false
no_room m (clear h) = false
no_room m (look h) = false

-- the cause of the first row that applies
abbrev pub first : List (Bool × Cause) → Option Cause
first [] = None
first (row ∷ rows) = cond row.0 (Some row.1) (first rows)

-- The table, in the order of the numbers: the cause for which a call is refused, if any, by the record, how many cells the bank
-- that is handed in has, and its cells.
unfoldable pub cause_of : {V : Type 0} → (V → Option V) → Model → ℕ → List (Cell V) → Call V → Option Cause
cause_of tidied m n cells c =
    first (
    (not (n == m.size), OtherSize)
    ∷ (no_such_hand c, NoSuchHand)
    ∷ (is_collecting m.mode, Collecting)
    ∷ (value_refused tidied c, ValueRefused)
    ∷ (hand_passes is_nil m (sided c), NilHand)
    ∷ (hand_passes (leads_to_leaf cells) m (sided c), LeafCell)
    ∷ (spoiled m cells c, Spoiled)
    ∷ (no_room m c, NoRoom)
    ∷ []
    )

-- a bank over which no store can be made
abbrev pub size_cause : ℕ → Option Cause
size_cause n = cond (n == 0 || nat_lt 32768 n) (Some SizeOutOfRange) None

-- ---- what an accepted call does

-- what a call leaves: the record and the cells of its bank
pub record State (V : Type 0) : Type 0 where
  pub model : Model
  pub cells : List (Cell V)

-- the record with other hands and another list, working
abbrev pub working : Model → List Field → List ℕ → Model
working m hands free = record { size = m.size; mark = m.mark; hands = hands; free = free; mode = Working }

-- A cell is put where an address is taken, once the hand is let go; the hand becomes a UNIQUE reference to it.
abbrev pub placed : {V : Type 0} → State V → ℕ → Cell V → State V
placed s h c =
    let m = s.model in
    let t = taking s.cells m.mark (let_go m.mark (hand_of m h) m.free) in
    record {
      model = record { size = m.size; mark = t.mark; hands = slice_set m.hands h (unique t.address); free = t.free; mode = Working };
      cells = slice_set s.cells t.address c;
    }

-- the cell that hand g refers to, with one side set
abbrev pub with_field : {V : Type 0} → State V → ℕ → Side → Field → List (Cell V)
with_field s g side f =
    let a = address_of (hand_of s.model g) in
    slice_set s.cells a (with_side side f (slice_index_or s.cells a Blank))

unfoldable pub effect : {V : Type 0} → (V → Option V) → State V → Call V → State V
effect tidied s (pair h) = placed s h (Pair Nil Nil)
effect tidied s (leaf h v) = placed s h (Leaf (unwrap_or (tidied v) v))
-- g's reference becomes STICKY, then h is let go and gets the same; a hand copied to itself stays
effect tidied s (copy h g) =
    let m = s.model in
    let f = made_sticky (hand_of m g) in
    record {
      model = cond (h == g) (working m m.hands m.free) (working m (slice_set (slice_set m.hands g f) h f) (let_go m.mark (hand_of m h) m.free));
      cells = s.cells;
    }
-- the field becomes STICKY in the cell, then h is let go, then h is set to the field
effect tidied s (load h g side) =
    let m = s.model in
    let f = made_sticky (field_at s.cells side (hand_of m g)) in
    record { model = working m (slice_set m.hands h f) (let_go m.mark (hand_of m h) m.free); cells = with_field s g side f }
-- h becomes STICKY, then the field is let go, then it is set to h
effect tidied s (store g side h) =
    let m = s.model in
    let f = made_sticky (hand_of m h) in
    record { model = working m (slice_set m.hands h f) (let_go m.mark (field_at s.cells side (hand_of m g)) m.free); cells = with_field s g side f }
-- h and the field are exchanged, tags and all
effect tidied s (swap g side h) =
    let m = s.model in
    record { model = working m (slice_set m.hands h (field_at s.cells side (hand_of m g))) m.free; cells = with_field s g side (hand_of m h) }
effect tidied s (clear h) =
    let m = s.model in
    record { model = working m (slice_set m.hands h Nil) (let_go m.mark (hand_of m h) m.free); cells = s.cells }
effect tidied s (look h) = s

-- ---- answers

-- what a cell shows: a pair with which of its sides are nil, or a leaf with its value
abbrev pub cell_sight : {V : Type 0} → Cell V → Sight V
cell_sight Blank = Nothing
cell_sight (Pair l r) = APair (is_nil l) (is_nil r)
cell_sight (Leaf v) = ALeaf v
cell_sight (Moved f o) = Nothing

-- what a hand shows: nothing, or its cell
abbrev pub sight_of : {V : Type 0} → List (Cell V) → Field → Sight V
sight_of cells Nil = Nothing
sight_of cells (To r) = cell_sight (slice_index_or cells r.address Blank)

-- what an accepted call answers: that it is done, or what it sees
pub data Answer (V : Type 0) : Type 0 where
  done : Answer V
  sight : Sight V → Answer V

abbrev pub answer_of : {V : Type 0} → State V → Call V → Answer V
answer_of s (pair h) = done
answer_of s (leaf h v) = done
answer_of s (copy h g) = done
answer_of s (load h g side) = done
answer_of s (store g side h) = done
answer_of s (swap g side h) = done
answer_of s (clear h) = done
answer_of s (look h) = sight (sight_of s.cells (hand_of s.model h))

-- ---- a call as a whole: a refused one leaves everything as it was

abbrev pub unless : {X Y : Type 0} → Option Cause → Y → (Cause → X) → (Y → X) → X
unless None y bad good = good y
unless (Some c) y bad good = bad c

-- the answer to a call that is handed a bank of n cells
abbrev pub call_answer : {V : Type 0} → (V → Option V) → State V → ℕ → Call V → Result (Answer V) Cause
call_answer tidied s n c = unless (cause_of tidied s.model n s.cells c) (answer_of s c) Err Ok

-- the state after it
abbrev pub call_state : {V : Type 0} → (V → Option V) → State V → ℕ → Call V → State V
call_state tidied s n c = unless (cause_of tidied s.model n s.cells c) (effect tidied s c) (λ _. s) (λ t. t)
