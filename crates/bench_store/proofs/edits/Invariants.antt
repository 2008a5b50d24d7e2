use Rattle.runs.specs.Rigs.{banks_of, Fits}
use Rattle.bench_store.proofs.edits.Given as goal

abbrev pub invariant-loop : goal.invariant-loop
invariant-loop g l = Fits (banks_of g.A.Bank.cells g.B.Bank.cells l.initial.rig) → Fits (banks_of g.A.Bank.cells g.B.Bank.cells l.rig)
