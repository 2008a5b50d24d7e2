use Rattle.run_examples.proofs.Table.{longer_shown}
use Rattle.run_examples.proofs.longer_runs_show_what_they_must.Goals as goal

pub returns : goal.returns
returns c = longer_shown
