-- The arm writes the words of its variant.
use Rattle.images.proofs.faults.FlawDisplay.fmt.Goals as goal

pub returns-in-OutOfOrder-clause-writes : goal.returns-in-OutOfOrder-clause-writes
returns-in-OutOfOrder-clause-writes g c = rw c.in-OutOfOrder.is c.write-in-OutOfOrder.ensures.writes
