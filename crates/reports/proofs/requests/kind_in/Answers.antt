use Rattle.std.proofs.Common.{arith}
use Rattle.reports.specs.Requests.{word_at}
use Rattle.reports.proofs.Asked.{no_kind, word_past}
use Rattle.reports.proofs.requests.kind_in.Goals as goal

pub returns-in_default : goal.returns-in_default
returns-in_default c = no_kind (word_at c.args.words.now 2) (word_past c.args.words.now 2 (λ h. omega arith))
