use Rattle.run_images.proofs.Images.{finished_runs_are_saved}
use Rattle.run_images.proofs.finished_runs_are_saved.Goals as goal

pub returns : goal.returns
returns g c = finished_runs_are_saved g.met.V.LeafKind.laws g.V.LeafKind.number
