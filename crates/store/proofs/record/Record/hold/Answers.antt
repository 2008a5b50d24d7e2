use Rattle.std.proofs.Common.{rules}
use Rattle.store.proofs.Keeping.{keeps_hands}
use Rattle.store.proofs.record.Record.hold.Goals as goal

pub invariant_of-self : goal.invariant_of-self
invariant_of-self c = search (rules, keeps_hands)
