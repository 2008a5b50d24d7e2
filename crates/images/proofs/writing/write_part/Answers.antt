use Rattle.std.proofs.Common.{rules}
use Rattle.images.proofs.Pasted.{put_mid_pasted}
use Rattle.images.proofs.writing.write_part.Goals as goal

pub returns : goal.returns
returns c = search (rules, put_mid_pasted)
