use Rattle.graph.proofs.Partners.{alike_keeps_counts}
use Rattle.graph.proofs.alike_keeps_counts.Goals as goal

pub returns : goal.returns
returns g c = alike_keeps_counts g.V.LeafKind.alike
