use Rattle.std.proofs.Common.{[], sym, refl, subst}
use Rattle.runs.specs.Plain.{empty_graph}
use Rattle.runs.specs.Worlds.{World}
use Rattle.runs.specs.Rigs.{banks_of, Fits}
use Rattle.runs.proofs.Fitting.{next_fits}
use Rattle.runs.proofs.TheLaw.{the_law_beside}
use Rattle.runs.proofs.rigs.Rig.call.Goals as goal

pub returns-clause-fits : goal.returns-clause-fits
returns-clause-fits g c fits =
    let w : World g.row.V.Denot = record { banks = banks_of g.A.Bank.cells g.B.Bank.cells c.args.self.now; plain = empty_graph; begun_hands = []; begun_cells = [] } in
    subst Fits (sym (c.made.ensures.made.after w refl)) (next_fits g.V.LeafKind.tidied w fits c.args.call)

pub returns-clause-law : goal.returns-clause-law
returns-clause-law g c = the_law_beside g.met.V.LeafKind.laws
