use Rattle.graph.proofs.Same.{canonical_stands_for_alike}
use Rattle.graph.proofs.canonical_stands_for_alike.Goals as goal

pub returns : goal.returns
returns g c = canonical_stands_for_alike g.met.V.LeafKind.laws
