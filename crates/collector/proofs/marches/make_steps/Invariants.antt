use Rattle.std.proofs.Common.{◌≡◌, ◌-◌}
use Rattle.store.specs.Record.{view}
use Rattle.collector.specs.Visits.{banks_at}
use Rattle.collector.proofs.Marching.{Remains}
use Rattle.collector.proofs.marches.make_steps.Given as goal

abbrev pub invariant-loop-made : goal.invariant-loop-made
invariant-loop-made g l =
    Remains l.most (banks_at (view l.initial.store) (g.O.Bank.cells l.initial.old) (g.N.Bank.cells l.initial.new))
    (l.most - l.made) (banks_at (view l.store) (g.O.Bank.cells l.old) (g.N.Bank.cells l.new))
    × (g.O.Bank.root l.old ≡ g.O.Bank.root l.initial.old)
    × (g.N.Bank.root l.new ≡ g.N.Bank.root l.initial.new)
