use Rattle.std.proofs.Common.{length, is_some, sym, refl, ap, ◌∙◌}
use Rattle.store.specs.Record.{view}
use Rattle.runs.specs.Scripts.{idle_cause}
use Rattle.runs.proofs.Keeping.{finish_idle}
use Rattle.runs.proofs.keepers.Keeper.finish.Goals as goal

pub returns-in_default : goal.returns-in_default
returns-in_default g c =
    let m = view c.args.self.now.store in
    let olds = g.O.Bank.cells c.args.old.now in
    let idle = sym c.args.self.now.held ∙ ap is_some (sym c.take.ensures.value ∙ c.in_default.is) in
    let why = c.idle_cause.ensures ∙ ap (λ n. idle_cause m.size n c.size-in_default.result) c.size.ensures ∙ ap (idle_cause m.size (length olds)) c.size-in_default.ensures in
    record { acts = finish_idle m olds (g.N.Bank.cells c.args.new.now) c.idle_cause.result idle why; old_rooted = refl; new_rooted = refl }
