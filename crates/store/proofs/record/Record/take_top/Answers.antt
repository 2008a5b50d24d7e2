use Rattle.std.proofs.Common.{rules}
use Rattle.store.proofs.Keeping.{keeps_popped, top_inside}
use Rattle.store.proofs.record.Record.take_top.Goals as goal

pub invariant_of-self : goal.invariant_of-self
invariant_of-self c = search (rules, keeps_popped)

pub returns-clause-inside : goal.returns-clause-inside
returns-clause-inside c = let inside = top_inside _ _ _ c.pop.ensures.answer c.args.self.now.below in search rules
