use Rattle.std.proofs.Common.{rules}
use Rattle.banks.proofs.LentBytes.{nine_set_steps}
use Rattle.banks.proofs.packed.write_nine.Goals as goal

pub returns : goal.returns
returns c = search (rules, nine_set_steps)
