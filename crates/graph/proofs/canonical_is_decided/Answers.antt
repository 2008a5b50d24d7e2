use Rattle.graph.proofs.Decided.{canonical_is_decided}
use Rattle.graph.proofs.canonical_is_decided.Goals as goal

pub returns : goal.returns
returns g c = canonical_is_decided
