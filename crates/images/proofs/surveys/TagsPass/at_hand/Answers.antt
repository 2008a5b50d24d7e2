use Rattle.std.proofs.Common.{◌+◌, ◌∙◌, arith}
use Rattle.images.specs.declared.faults.Place.TheVariants.{Hand}
use Rattle.images.proofs.Steps.{hand_field, address_tallied, tag_read}
use Rattle.images.proofs.Firsts.{tag_flaw_lem}
use Rattle.images.proofs.surveys.TagsPass.at_hand.Goals as goal

pub check_tag-requires : goal.check_tag-requires
check_tag-requires g c =
    address_tallied g.V.LeafKind.taken c.args.body.now.bytes.now c.args.body.now.count c.args.body.now.few c.requires.before.0 c.args.i c.in-Some.field (omega arith)
    (hand_field g.V.LeafKind.taken c.args.body.now.bytes.now c.args.body.now.count c.args.i c.in-Some.field c.requires.within c.in-Some.ensures)

pub returns-in-Some : goal.returns-in-Some
returns-in-Some g c =
    let field = hand_field g.V.LeafKind.taken c.args.body.now.bytes.now c.args.body.now.count c.args.i c.in-Some.field c.requires.within c.in-Some.ensures in
    record {
      kept = tag_read g.V.LeafKind.taken c.args.body.now.bytes.now c.args.body.now.count c.args.body.now.few c.args.self.now.survey.now (Hand c.args.i) c.in-Some.field (c.args.i + 1) (omega arith) (omega arith) field c.requires.before c.check_tag.result c.check_tag.ensures;
      flaw = c.check_tag.ensures ∙ tag_flaw_lem g.V.LeafKind.taken c.args.body.now.bytes.now c.args.body.now.count c.args.body.now.few c.requires.before.0 c.args.self.now.survey.now c.requires.before.1 (Hand c.args.i) c.in-Some.field (omega arith) field;
    }
