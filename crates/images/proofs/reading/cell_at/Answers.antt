use Rattle.std.proofs.Common.{ap, ◌∙◌}
use Rattle.packing.specs.Cells.{unpack_cell}
use Rattle.images.specs.Layout.{stored_cell}
use Rattle.images.proofs.reading.cell_at.Goals as goal

pub returns : goal.returns
unfolding stored_cell
returns g c = c.unpack_cell.ensures.unpacked ∙ ap (unpack_cell g.V.LeafKind.taken) c.part.ensures
