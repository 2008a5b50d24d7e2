use Rattle.runs.proofs.TheLaw.{the_law_beside}
use Rattle.runs.proofs.replays.replay.Goals as goal

pub returns-in_err-answers-clause-law : goal.returns-in_err-answers-clause-law
returns-in_err-answers-clause-law g c = the_law_beside g.met.V.LeafKind.laws

pub returns-in_err-rig-clause-law : goal.returns-in_err-rig-clause-law
returns-in_err-rig-clause-law g c = the_law_beside g.met.V.LeafKind.laws

pub returns-clause-law : goal.returns-clause-law
returns-clause-law g c = the_law_beside g.met.V.LeafKind.laws
