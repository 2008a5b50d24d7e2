use Rattle.std.proofs.Common.{arith}
use Rattle.std.proofs.lemmas.Grind.{common_steps}
use Rattle.store.specs.Calls.{cause_of, effect}
use Rattle.store.proofs.record.Record.load.Goals as goal

pub returns-in_err-target-clause-called : goal.returns-in_err-target-clause-called
unfolding cause_of effect
returns-in_err-target-clause-called g c = record { answer = grind (arith, common_steps); after = grind (arith, common_steps) }
