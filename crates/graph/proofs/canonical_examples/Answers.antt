use Rattle.graph.proofs.Tried.{examples}
use Rattle.graph.proofs.canonical_examples.Goals as goal

pub returns : goal.returns
returns g c = examples
