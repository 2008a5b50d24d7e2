use Rattle.std.proofs.Common.{ap, ◌∙◌}
use Rattle.cells.specs.Banks.{found_lawful}
use Rattle.reports.proofs.Steps.{found_lawful_lem}
use Rattle.reports.proofs.apart.cell_apart.Goals as goal

pub same_found-requires : goal.same_found-requires
same_found-requires g c =
    record {
      left = ap (found_lawful g.V.LeafKind.lawful) c.cell_of.ensures.found ∙ found_lawful_lem g.met.V.LeafKind.laws c.args.a.now c.loop-at.at;
      right = ap (found_lawful g.V.LeafKind.lawful) c.cell_of-in-loop-at.ensures.found ∙ found_lawful_lem g.met.V.LeafKind.laws c.args.b.now c.loop-at.at;
    }
