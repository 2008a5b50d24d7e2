use Rattle.std.proofs.Common.{◌∙◌}
use Rattle.store.specs.Record.{view}
use Rattle.collector.specs.Visits.{banks_at}
use Rattle.runs.proofs.Keeping.{began_idle}
use Rattle.runs.proofs.keepers.Keeper.begin.Goals as goal

-- a store that was idle had no ticket
pub keep-requires : goal.keep-requires
keep-requires g c =
    let olds = g.O.Bank.cells c.args.working.now in
    let news = g.N.Bank.cells c.args.spare.now in
    c.args.self.now.held ∙ began_idle (banks_at (view c.args.self.now.store) olds news) (banks_at (view c.begin.new.store) olds news) news c.in_ok-ticket.ensures
