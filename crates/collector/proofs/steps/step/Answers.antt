use Rattle.std.proofs.Common.{arith}
use Rattle.std.proofs.lemmas.Grind.{common_steps}
use Rattle.collector.specs.Steps.{stepped}
use Rattle.collector.proofs.steps.step.Goals as goal

pub returns-in_err-cell-clause-went : goal.returns-in_err-cell-clause-went
unfolding stepped
returns-in_err-cell-clause-went g c = record { answer = grind (arith, common_steps); after = grind (arith, common_steps) }

pub returns-in-Nil-clause-went : goal.returns-in-Nil-clause-went
unfolding stepped
returns-in-Nil-clause-went g c = record { answer = grind (arith, common_steps); after = grind (arith, common_steps) }

pub returns-in-To-clause-went : goal.returns-in-To-clause-went
unfolding stepped
returns-in-To-clause-went g c = record { answer = grind (arith, common_steps); after = grind (arith, common_steps) }
