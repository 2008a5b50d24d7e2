use Rattle.std.proofs.Common.{◌++◌, sym, refl, ap, ◌∙◌, arith}
use Rattle.cells.specs.Banks.{after_put}
use Rattle.images.proofs.Reopened.{stored_none, put_more}
use Rattle.images.proofs.opening.put_cells.Goals as goal

pub loop-at-init : goal.loop-at-init
loop-at-init g c = (ap (λ l. l ++ g.B.Bank.cells c.args.bank.now) (sym (stored_none g.V.LeafKind.lawful g.V.LeafKind.taken c.args.body.now.bytes.now)), refl)

pub loop-at-preserved : goal.loop-at-preserved
loop-at-preserved g c = (
  c.put.ensures.after
      ∙ ap (after_put g.V.LeafKind.lawful (g.B.Bank.cells c.loop-at.bank) c.loop-at.at) c.cell.ensures
      ∙ put_more g.V.LeafKind.lawful g.V.LeafKind.taken c.args.body.now.bytes.now (g.B.Bank.cells c.args.bank.now) (g.B.Bank.cells c.loop-at.bank) c.loop-at.at (omega arith) c.loop-at.invariant.0 (c.requires.storables c.loop-at.at (omega arith)),
  c.put.ensures.rooted ∙ c.loop-at.invariant.1,
)
