use Rattle.graph.proofs.Matching.{alike_is_an_equivalence}
use Rattle.graph.proofs.alike_is_an_equivalence.Goals as goal

pub returns : goal.returns
returns g c = alike_is_an_equivalence g.met.V.LeafKind.laws
