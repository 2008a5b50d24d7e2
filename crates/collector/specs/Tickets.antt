-- What becomes of a ticket. Assumes nothing.
use Rattle.std.specs.Prelude.{Ok, Err, Result}
use Rattle.cells.specs.declared.causes.Cause.{Cause}
use Rattle.collector.specs.declared.tickets.Ticket.{Ticket}

-- a call that is done takes the ticket, and a refusal gives it back
abbrev pub spent_on : {X : Type 0} → Ticket → Result X Cause → Result X (Cause × Ticket)
spent_on t (Ok x) = Ok x
spent_on t (Err c) = Err (c, t)
