use Rattle.std.proofs.Common.{◌+◌, ap, ◌∙◌, arith}
use Rattle.images.specs.Layout.{or_nil}
use Rattle.reports.specs.Sharing.{marked, marked_sides}
use Rattle.reports.proofs.Marks.{hands_start, hands_more, cells_start, cells_more}
use Rattle.reports.proofs.sharing.shared_cells.Goals as goal

pub loop-i-init : goal.loop-i-init
loop-i-init g c = hands_start c.args.image.now

pub loop-i-preserved : goal.loop-i-preserved
loop-i-preserved g c =
    hands_more c.args.image.now c.loop-i.i (c.loop-i.i + 1) c.loop-i.shared.marks c.mark_hand.new.self.marks (omega arith) c.loop-i.invariant
    (c.mark_hand.ensures ∙ ap (λ o. marked c.loop-i.shared.marks (or_nil o)) c.hand_of.ensures.found)

pub loop-at-init : goal.loop-at-init
loop-at-init g c = cells_start g.V.LeafKind.taken c.args.image.now c.loop-i.i c.loop-i.shared.marks (omega arith) c.loop-i.invariant

pub loop-at-preserved : goal.loop-at-preserved
loop-at-preserved g c =
    cells_more g.V.LeafKind.taken c.args.image.now c.loop-at.at (c.loop-at.at + 1) c.loop-at.shared.marks c.mark_sides.new.self.marks (omega arith) c.loop-at.invariant
    (c.mark_sides.ensures ∙ ap (marked_sides c.loop-at.shared.marks) c.cell_of.ensures.found)
