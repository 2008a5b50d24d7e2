use Rattle.runs.proofs.TheLaw.{the_law}
use Rattle.runs.proofs.law_over_runs.Goals as goal

pub returns : goal.returns
returns g c = the_law g.met.V.LeafKind.laws
