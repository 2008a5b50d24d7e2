use Rattle.std.proofs.Common.{◌≡◌, Some, arith}
use Rattle.images.specs.Layout.{stored_hand}
use Rattle.images.proofs.Steps.{hand_read}
use Rattle.images.proofs.surveys.SurveyPass.at_hand.Goals as goal

pub returns-clause-kept : goal.returns-clause-kept
returns-clause-kept g c =
    let read : Some c.in_ok-field.field ≡ stored_hand c.args.body.now.bytes.now c.args.i = grind (arith, c.in_ok-field.ensures.value) in
    hand_read g.V.LeafKind.taken c.args.body.now.bytes.now c.args.body.now.count c.args.i c.in_ok-field.field c.args.self.now c.visit.new.self c.requires.within read c.requires.before c.visit.result c.visit.ensures.flaw c.visit.ensures.meets c.visit.ensures.tally
