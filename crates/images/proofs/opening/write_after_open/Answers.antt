use Rattle.images.proofs.Reopened.{written_back}
use Rattle.images.proofs.opening.write_after_open.Goals as goal

pub returns : goal.returns
returns g c = λ image before m after bytes. written_back g.met.V.LeafKind.laws g.V.LeafKind.number image before m after bytes
