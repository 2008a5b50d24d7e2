-- Runs: a new store, then any calls, each on the record and the banks in use as the one before left them. Assumes nothing.
use Rattle.std.specs.Prelude.{ℕ, List, [], ◌∷◌, length, take, Ok, Err, Option, Result}
use Rattle.cells.specs.declared.Field.{Field}
use Rattle.cells.specs.declared.Cell.{Cell}
use Rattle.cells.specs.declared.causes.Cause.{Cause}
use Rattle.graph.specs.Graphs.{Graph}
use Rattle.store.specs.Model.{new_model}
use Rattle.store.specs.Calls.{Call, State, Answer, cause_of, call_answer, call_state}
use Rattle.collector.specs.Collections.{begin, slice, finish, abandon, Banks, Reply, act_cause, act_answer, act_banks}
use Rattle.runs.specs.Plain.{empty_graph, plain_call, plain_abandon}

-- One call of a run. n is the number of cells of the bank that is handed in as the working or old one, k that of the one
-- handed in as the new one: a bank of the store's size is the one in use, and any other is a wrong bank. Begin is handed any spare.
pub data Event (V : Type 0) : Type 0 where
  calls : (n : ℕ) → Call V → Event V
  begins : (n : ℕ) (spare : List (Cell V)) → Event V
  slices : (n k budget : ℕ) → Event V
  finishes : (n k : ℕ) → Event V
  abandons : (n : ℕ) → Event V

-- The record and the banks in use, the plain graph beside them, and the hands and kept cells as the last Begin found them.
pub record World (V : Type 0) : Type 0 where
  pub banks : Banks V
  pub plain : Graph V
  pub begun_hands : List Field
  pub begun_cells : List (Cell V)

-- a new store over any cells
abbrev pub new_world : {V : Type 0} → List (Cell V) → World V
new_world cells = record {
  banks = record { model = new_model (length cells); cells = cells; fresh = [] };
  plain = empty_graph;
  begun_hands = [];
  begun_cells = [];
}

-- and with any spare bank beside it, which is not in use yet
abbrev pub world_beside : {V : Type 0} → List (Cell V) → List (Cell V) → World V
world_beside cells spare = record {
  banks = record { model = new_model (length cells); cells = cells; fresh = spare };
  plain = empty_graph;
  begun_hands = [];
  begun_cells = [];
}

-- ---- answers

pub data Said (V : Type 0) : Type 0 where
  answered : Answer V → Said V
  replied : Reply → Said V

abbrev pub saying : {X V : Type 0} → (X → Said V) → Result X Cause → Result (Said V) Cause
saying f (Ok x) = Ok (f x)
saying f (Err c) = Err c

abbrev pub state_of : {V : Type 0} → Banks V → State V
state_of b = record { model = b.model; cells = b.cells }

module _ {V : Type 0} (tidied : V → Option V) where
  -- the answer to a call of a run
  abbrev pub answer : World V → Event V → Result (Said V) Cause
  answer w (calls n c) = saying answered (call_answer tidied (state_of w.banks) n c)
  answer w (begins n spare) = saying replied (act_answer w.banks n (length spare) (begin spare))
  answer w (slices n k budget) = saying replied (act_answer w.banks n k (slice budget))
  answer w (finishes n k) = saying replied (act_answer w.banks n k finish)
  answer w (abandons n) = saying replied (act_answer w.banks n n abandon)

  -- the first of the causes that applies, spoiled banks apart
  abbrev pub cause : World V → Event V → Option Cause
  cause w (calls n c) = cause_of tidied w.banks.model n w.banks.cells c
  cause w (begins n spare) = act_cause w.banks.model n (length spare) (begin spare)
  cause w (slices n k budget) = act_cause {V = V} w.banks.model n k (slice budget)
  cause w (finishes n k) = act_cause {V = V} w.banks.model n k finish
  cause w (abandons n) = act_cause {V = V} w.banks.model n n abandon

  -- ---- what a call leaves

  abbrev pub banks_after : Banks V → State V → Banks V
  banks_after b s = record { model = s.model; cells = s.cells; fresh = b.fresh }

  abbrev pub next : World V → Event V → Banks V
  next w (calls n c) = banks_after w.banks (call_state tidied (state_of w.banks) n c)
  next w (begins n spare) = act_banks w.banks n (length spare) (begin spare)
  next w (slices n k budget) = act_banks w.banks n k (slice budget)
  next w (finishes n k) = act_banks w.banks n k finish
  next w (abandons n) = act_banks w.banks n n abandon

  -- what an accepted call does to the plain graph
  abbrev pub plain_after : Graph V → Event V → Graph V
  plain_after G (calls n c) = plain_call tidied G c
  plain_after G (begins n spare) = G
  plain_after G (slices n k budget) = G
  plain_after G (finishes n k) = G
  plain_after G (abandons n) = plain_abandon G

  abbrev pub if_accepted : {X : Type 0} → Result (Said V) Cause → X → X → X
  if_accepted (Ok a) x y = x
  if_accepted (Err c) x y = y

  -- hands, and cells, as an accepted Begin finds them
  abbrev pub begun : {X : Type 0} → Event V → X → X → X
  begun (calls n c) new before = before
  begun (begins n spare) new before = new
  begun (slices n k budget) new before = before
  begun (finishes n k) new before = before
  begun (abandons n) new before = before

  unfoldable pub after : World V → Event V → World V
  after w e = record {
    banks = next w e;
    plain = if_accepted (answer w e) (plain_after w.plain e) w.plain;
    begun_hands = if_accepted (answer w e) (begun e w.banks.model.hands w.begun_hands) w.begun_hands;
    begun_cells = if_accepted (answer w e) (begun e (take w.banks.model.mark w.banks.cells) w.begun_cells) w.begun_cells;
  }

  -- a run on a new store, the calls in their order
  unfoldable pub run : World V → List (Event V) → World V
  unfolding after
  run w [] = w
  run w (e ∷ es) = run (after w e) es
