use Rattle.std.proofs.Common.{[], is_some, sym, ap, ◌∙◌}
use Rattle.store.specs.Record.{view}
use Rattle.collector.specs.Visits.{banks_at}
use Rattle.runs.proofs.Keeping.{abandon_sure}
use Rattle.runs.proofs.keepers.Keeper.end.Goals as goal

-- who holds a ticket collects, on a bank of the store's size
pub unreachable-requires : goal.unreachable-requires
unreachable-requires g c =
    let olds = g.W.Bank.cells c.args.working.now in
    abandon_sure (banks_at (view c.args.self.store) olds []) (banks_at (view c.abandon.new.store) olds []) c.in-Err.field-0.0 c.requires
    (sym c.args.self.held ∙ ap is_some c.in-Some.is) (c.in-Err.ensures [])
