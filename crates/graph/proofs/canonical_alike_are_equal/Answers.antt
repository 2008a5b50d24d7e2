use Rattle.graph.proofs.Same.{canonical_alike_are_equal}
use Rattle.graph.proofs.canonical_alike_are_equal.Goals as goal

pub returns : goal.returns
returns g c = canonical_alike_are_equal g.met.V.LeafKind.laws
