use Rattle.graph.proofs.Ordered.{met_and_reached}
use Rattle.graph.proofs.canonical_reaches_every_cell.Goals as goal

pub returns : goal.returns
returns g c hands cells C = met_and_reached C
