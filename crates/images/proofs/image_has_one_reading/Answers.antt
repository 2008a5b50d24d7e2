use Rattle.images.proofs.Spelled.{one_reading}
use Rattle.images.proofs.image_has_one_reading.Goals as goal

pub returns : goal.returns
returns g c = one_reading g.met.V.LeafKind.laws g.V.LeafKind.number
