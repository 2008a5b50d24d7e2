use Rattle.runs.specs.Rigs.{banks_of}
use Rattle.runs.proofs.Opening.{replaced_fits}
use Rattle.runs.proofs.rigs.Rig.open.Goals as goal

pub returns-clause-fits : goal.returns-clause-fits
returns-clause-fits g c =
    let before = banks_of g.A.Bank.cells g.B.Bank.cells c.args.self.now in
    let after = banks_of g.A.Bank.cells g.B.Bank.cells c.opened.new.self in
    replaced_fits g.V.LeafKind.lawful g.V.LeafKind.word g.V.LeafKind.taken g.V.LeafKind.number c.args.image.now before after c.opened.result c.opened.ensures
