-- What the code of a collection's calls answers and leaves. Assumes nothing.
use Rattle.std.specs.Prelude.{◌≡◌, ℕ, not, ◌||◌, List, [], ◌∷◌, length, Ok, Err, Result, ◌==◌}
use Rattle.cells.specs.declared.Cell.{Cell}
use Rattle.cells.specs.declared.causes.Cause.{Cause}
use Rattle.cells.specs.declared.causes.Cause.TheVariants.{OtherSize, NotCollecting}
use Rattle.store.specs.Model.{Model, is_collecting}
use Rattle.store.specs.Calls.{first, unless}
use Rattle.collector.specs.declared.tickets.Ticket.{Ticket}
use Rattle.collector.specs.Collections.{Act, Banks, Reply, ready, stepped_by, kept_marks, act_answer, act_banks}
use Rattle.collector.specs.Visits.{banks_at}

-- the answer of each call: a ticket for nothing more than that it is ready, a number of steps, two counts; a refusal gives the ticket back
abbrev pub begun_reply : Result Ticket Cause → Result Reply Cause
begun_reply (Ok t) = Ok ready
begun_reply (Err c) = Err c

abbrev pub sliced_reply : Result ℕ Cause → Result Reply Cause
sliced_reply (Ok n) = Ok (stepped_by n)
sliced_reply (Err c) = Err c

abbrev pub finished_reply : Result (ℕ × ℕ) (Cause × Ticket) → Result Reply Cause
finished_reply (Ok p) = Ok (kept_marks p.0 p.1)
finished_reply (Err e) = Err e.0

abbrev pub abandoned_reply : Result Unit (Cause × Ticket) → Result Reply Cause
abandoned_reply (Ok u) = Ok ready
abandoned_reply (Err e) = Err e.0

-- the same of the parts of Finish and Abandon that need no ticket
abbrev pub settled_reply : Result (ℕ × ℕ) Cause → Result Reply Cause
settled_reply (Ok p) = Ok (kept_marks p.0 p.1)
settled_reply (Err c) = Err c

abbrev pub renewed_reply : Result Unit Cause → Result Reply Cause
renewed_reply (Ok u) = Ok ready
renewed_reply (Err c) = Err c

-- Made on a record and its banks, a call answers r and leaves the record and the banks as they are said to be after.
pub record Acted {V : Type 0} (a : Act V) (b : Banks V) (r : Result Reply Cause) (b' : Banks V) : Type 0 where
  pub answer : r ≡ act_answer b (length b.cells) (length b.fresh) a
  pub after : b' ≡ act_banks b (length b.cells) (length b.fresh) a

-- the banks in use after Finish: an accepted one makes the new bank the working one
abbrev pub exchanged_by : {V X E : Type 0} → Result X E → Model → List (Cell V) → List (Cell V) → Banks V
exchanged_by (Ok x) m old new = banks_at m new old
exchanged_by (Err e) m old new = banks_at m old new

-- whether banks of n and k cells are those of a store
abbrev pub both_sized : Model → ℕ → ℕ → Result Unit Cause
both_sized m n k = unless (first ((not (n == m.size) || not (k == m.size), OtherSize) ∷ [])) tt Err Ok

-- the same of a store that collects
abbrev pub under_way : Model → ℕ → ℕ → Result Unit Cause
under_way m n k = unless (first ((not (n == m.size) || not (k == m.size), OtherSize) ∷ (not (is_collecting m.mode), NotCollecting) ∷ [])) tt Err Ok
