use Rattle.std.proofs.Common.{◌≡◌, ◌++◌, drop}
use Rattle.images.specs.Layout.{stored_cells}
use Rattle.images.proofs.opening.put_cells.Given as goal

abbrev pub invariant-loop-at : goal.invariant-loop-at
invariant-loop-at g l =
    (g.B.Bank.cells l.bank ≡ stored_cells g.V.LeafKind.taken l.body.bytes.now l.at ++ drop l.at (g.B.Bank.cells l.initial.bank))
    × (g.B.Bank.root l.bank ≡ g.B.Bank.root l.initial.bank)
