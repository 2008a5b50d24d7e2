use Rattle.std.proofs.Common.{◌≡◌}
use Rattle.reports.specs.Sharing.{marked_hands, marked_cells}
use Rattle.reports.proofs.sharing.shared_cells.Given as goal

abbrev pub invariant-loop-i : goal.invariant-loop-i
invariant-loop-i g l = l.shared.marks ≡ marked_hands l.image l.i

abbrev pub invariant-loop-at : goal.invariant-loop-at
invariant-loop-at g l = l.shared.marks ≡ marked_cells g.V.LeafKind.taken l.image l.at
