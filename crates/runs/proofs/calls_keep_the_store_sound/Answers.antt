use Rattle.runs.proofs.Called.{calls_keep_sound}
use Rattle.runs.proofs.calls_keep_the_store_sound.Goals as goal

pub returns : goal.returns
returns g c = calls_keep_sound g.met.V.LeafKind.laws
