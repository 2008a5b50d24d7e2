use Rattle.std.proofs.Common.{sym, ◌∙◌}
use Rattle.store.specs.Record.{view}
use Rattle.runs.specs.Scripts.{call_of}
use Rattle.runs.proofs.Keeping.{edit_keeps}
use Rattle.runs.proofs.keepers.Keeper.edit.Goals as goal

pub invariant_of-self : goal.invariant_of-self
invariant_of-self g c = record {
  held = c.args.self.now.held
      ∙ sym (edit_keeps g.V.LeafKind.tidied (view c.args.self.now.store) (view c.edit.new.store) (g.W.Bank.cells c.args.working.now) (g.W.Bank.cells c.edit.new.working) (call_of c.args.call) c.edit.ensures.edited.after);
}
