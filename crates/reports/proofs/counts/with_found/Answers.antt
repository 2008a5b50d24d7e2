use Rattle.std.proofs.Common.{rules}
use Rattle.reports.proofs.counts.with_found.Goals as goal

pub returns : goal.returns
returns g c = search rules
