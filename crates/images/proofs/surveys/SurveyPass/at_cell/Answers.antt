use Rattle.std.proofs.Common.{◌+◌, ◌*◌, Ok, refl, arith}
use Rattle.std.proofs.lemmas.Result.{err_from_is_err_and}
use Rattle.cells.specs.declared.Field.TheVariants.{Nil}
use Rattle.cells.specs.declared.Side.TheVariants.{Left}
use Rattle.cells.specs.declared.Cell.TheVariants.{Pair, Leaf}
use Rattle.images.specs.declared.faults.Place.TheVariants.{Cell}
use Rattle.images.specs.Layout.{held}
use Rattle.images.proofs.Steps.{side_field, misstep_breaks, surveyed_step, cell_read}
use Rattle.images.proofs.surveys.SurveyPass.at_cell.Goals as goal

pub returns-in_err-visit-in-Pair-clause-kept : goal.returns-in_err-visit-in-Pair-clause-kept
returns-in_err-visit-in-Pair-clause-kept g c =
    let p = err_from_is_err_and c.from_residual-in_err-visit-in-Pair.result c.from_residual-in_err-visit-in-Pair.ensures.1 in
    rw (p.1, p.2)
    (misstep_breaks g.V.LeafKind.taken c.args.body.now.bytes.now c.args.body.now.count (Cell Left c.args.j) c.in-Pair.left c.args.self.now.met c.in_err-visit-in-Pair.field-0.0 (omega arith)
    (side_field g.V.LeafKind.taken c.args.body.now.bytes.now c.args.body.now.count Left c.args.j (Pair c.in-Pair.left c.in-Pair.right) c.requires.within c.in-Pair.ensures) c.requires.before.1.meets c.in_err-visit-in-Pair.ensures.flaw)

pub returns-in_ok-visit-in-Pair-clause-kept : goal.returns-in_ok-visit-in-Pair-clause-kept
returns-in_ok-visit-in-Pair-clause-kept g c =
    cell_read g.V.LeafKind.taken c.args.body.now.bytes.now c.args.body.now.count c.args.j (Pair c.in-Pair.left c.in-Pair.right) c.args.self.now.met c.visit.new.self c.visit-in-Pair.new.self
    c.requires.within c.in-Pair.ensures refl c.requires.before.0 c.in_ok-check_met.ensures c.requires.before.1.meets c.in_ok-visit-in-Pair.ensures.flaw
    (surveyed_step (held g.V.LeafKind.taken c.args.body.now.bytes.now c.args.body.now.count) (16 + 2 * c.args.j) (17 + 2 * c.args.j) c.args.self.now c.visit.new.self c.in-Pair.left (omega arith) c.requires.before.1
    (side_field g.V.LeafKind.taken c.args.body.now.bytes.now c.args.body.now.count Left c.args.j (Pair c.in-Pair.left c.in-Pair.right) c.requires.within c.in-Pair.ensures) c.in_ok-visit-in-Pair.ensures.meets c.in_ok-visit-in-Pair.ensures.tally)
    c.visit-in-Pair.result c.visit-in-Pair.ensures.flaw c.visit-in-Pair.ensures.meets c.visit-in-Pair.ensures.tally

pub returns-in-Leaf-clause-kept : goal.returns-in-Leaf-clause-kept
returns-in-Leaf-clause-kept g c =
    cell_read g.V.LeafKind.taken c.args.body.now.bytes.now c.args.body.now.count c.args.j (Leaf c.in-Leaf.field-0) c.args.self.now.met c.args.self.now c.args.self.now
    c.requires.within c.in-Leaf.ensures refl c.requires.before.0 c.in_ok-check_met.ensures c.requires.before.1.meets refl
    (surveyed_step (held g.V.LeafKind.taken c.args.body.now.bytes.now c.args.body.now.count) (16 + 2 * c.args.j) (17 + 2 * c.args.j) c.args.self.now c.args.self.now Nil (omega arith) c.requires.before.1
    (side_field g.V.LeafKind.taken c.args.body.now.bytes.now c.args.body.now.count Left c.args.j (Leaf c.in-Leaf.field-0) c.requires.within c.in-Leaf.ensures) refl refl)
    (Ok (tt {0})) refl refl refl
