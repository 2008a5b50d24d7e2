use Rattle.std.proofs.Common.{[], length, is_some, sym, ap, ◌∙◌}
use Rattle.store.specs.Record.{view}
use Rattle.collector.specs.Visits.{banks_at}
use Rattle.runs.specs.Scripts.{idle_cause}
use Rattle.runs.proofs.Keeping.{abandon_idle, abandoned_idle, abandon_refused}
use Rattle.runs.proofs.keepers.Keeper.abandon.Goals as goal

pub returns-in_default : goal.returns-in_default
returns-in_default g c =
    let m = view c.args.self.now.store in
    let olds = g.O.Bank.cells c.args.old.now in
    let idle = sym c.args.self.now.held ∙ ap is_some (sym c.take.ensures.value ∙ c.in_default.is) in
    let why = c.idle_cause.ensures ∙ ap (λ n. idle_cause m.size n c.size-in_default.result) c.size.ensures ∙ ap (idle_cause m.size (length olds)) c.size-in_default.ensures in
    λ fresh. abandon_idle m olds fresh c.idle_cause.result idle why

pub invariant_of-self-in-Ok : goal.invariant_of-self-in-Ok
invariant_of-self-in-Ok g c =
    let olds = g.O.Bank.cells c.args.old.now in
    let idle = abandoned_idle (banks_at (view c.args.self.now.store) olds []) (banks_at (view c.abandon.new.store) olds []) (c.in-Ok.ensures []) in
    record { held = ap is_some c.take.ensures.after ∙ sym idle }

pub invariant_of-self-in-Err : goal.invariant_of-self-in-Err
invariant_of-self-in-Err g c =
    let olds = g.O.Bank.cells c.args.old.now in
    let same = abandon_refused (banks_at (view c.args.self.now.store) olds []) (banks_at (view c.abandon.new.store) olds []) c.in-Err.cause (c.in-Err.ensures []) in
    record { held = c.keep.ensures ∙ sym (ap is_some (sym c.take.ensures.value ∙ c.in-Some.is)) ∙ c.args.self.now.held ∙ sym same }
