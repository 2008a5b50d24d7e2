use Rattle.std.proofs.Common.{None}
use Rattle.images.specs.Images.{cell_of}
use Rattle.reports.specs.Apart.{FirstApart}
use Rattle.reports.proofs.apart.cell_apart.Given as goal

abbrev pub invariant-loop-at : goal.invariant-loop-at
invariant-loop-at g l = FirstApart (cell_of g.V.LeafKind.taken l.a) (cell_of g.V.LeafKind.taken l.b) l.at None
