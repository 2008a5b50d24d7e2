use Rattle.run_examples.proofs.Table.{all_shown}
use Rattle.run_examples.proofs.worked_runs_show_what_they_must.Goals as goal

pub returns : goal.returns
returns c = all_shown
