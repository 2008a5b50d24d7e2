use Rattle.std.proofs.Common.{rules}
use Rattle.store.proofs.Keeping.{keeps_pushed, keeps_few}
use Rattle.store.proofs.record.Record.let_go.Goals as goal

pub invariant_of-self : goal.invariant_of-self
invariant_of-self c = search (rules, keeps_pushed, keeps_few)
