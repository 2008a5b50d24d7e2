use Rattle.std.proofs.Common.{◌+◌, ◌*◌, sym, ap, ◌∙◌, arith}
use Rattle.cells.specs.declared.Cell.TheVariants.{Blank}
use Rattle.packing.specs.Cells.{pack_cell}
use Rattle.packing.proofs.Cells.{cell_length}
use Rattle.images.specs.Writing.{pasted}
use Rattle.images.proofs.Written.{found_here, found_some}
use Rattle.images.proofs.Pasted.{parts_more, pasted_none}
use Rattle.images.proofs.writing.write_cells.Goals as goal
use Rattle.images.proofs.writing.write_cells.Goals.{in-Some, in_default}

pub loop-at-init : goal.loop-at-init
loop-at-init g c = sym (pasted_none c.args.bytes.now 68)

pub loop-at-preserved : goal.loop-at-preserved
loop-at-preserved g c =
    elim c.match-read.branch [
      | in-Some w ↦
          let here = found_here (g.B.Bank.cells c.args.bank.now) c.loop-at.at w.in-Some.cell (omega arith) w.in-Some.ensures.found in
          w.bytes-is
          ∙ w.write_part.ensures
          ∙ ap (pasted c.loop-at.bytes (68 + 9 * c.loop-at.at)) (w.pack_cell.ensures.packed ∙ ap (pack_cell g.V.LeafKind.lawful g.V.LeafKind.word) here)
          ∙ parts_more (pack_cell g.V.LeafKind.lawful g.V.LeafKind.word) 9 (cell_length g.V.LeafKind.lawful g.V.LeafKind.word) c.args.bytes.now c.loop-at.bytes
          (g.B.Bank.cells c.args.bank.now) 68 c.loop-at.at Blank (omega arith) (omega arith) c.loop-at.invariant
      | in_default w ↦ absurd (found_some (g.B.Bank.cells c.args.bank.now) c.loop-at.at (omega arith) w.in_default.ensures.found)
    ]
