use Rattle.std.proofs.Common.{◌+◌, ◌*◌, Ok, Err, ◌∙◌, arith}
use Rattle.std.specs.Result.{result_err}
use Rattle.std.proofs.lemmas.Result.{err_from_is_err_and}
use Rattle.cells.specs.declared.Side.TheVariants.{Left, Right}
use Rattle.cells.specs.declared.Cell.TheVariants.{Pair}
use Rattle.images.specs.declared.faults.Place.TheVariants.{Cell}
use Rattle.images.proofs.Steps.{side_field, address_tallied, tag_read, tagged_nil, no_pair}
use Rattle.images.proofs.Firsts.{tag_flaw_lem, no_tags, left_tag, right_tag}
use Rattle.images.proofs.surveys.TagsPass.at_cell.Goals as goal

pub returns-in_default : goal.returns-in_default
returns-in_default g c =
    let left = side_field g.V.LeafKind.taken c.args.body.now.bytes.now c.args.body.now.count Left c.args.j c.cell.result c.requires.within c.cell.ensures ∙ no_pair c.cell.result c.in_default.not-Pair Left in
    let right = side_field g.V.LeafKind.taken c.args.body.now.bytes.now c.args.body.now.count Right c.args.j c.cell.result c.requires.within c.cell.ensures ∙ no_pair c.cell.result c.in_default.not-Pair Right in
    record {
      kept = (
        c.requires.before.0,
        c.requires.before.1,
        tagged_nil g.V.LeafKind.taken c.args.body.now.bytes.now c.args.body.now.count (17 + 2 * c.args.j) (18 + 2 * c.args.j) (omega arith) right (tagged_nil g.V.LeafKind.taken c.args.body.now.bytes.now c.args.body.now.count (16 + 2 * c.args.j) (17 + 2 * c.args.j) (omega arith) left c.requires.before.2),
      );
      flaw = no_tags g.V.LeafKind.taken c.args.body.now.bytes.now c.args.body.now.count c.args.j left right;
    }

pub check_tag-requires : goal.check_tag-requires
check_tag-requires g c =
    address_tallied g.V.LeafKind.taken c.args.body.now.bytes.now c.args.body.now.count c.args.body.now.few c.requires.before.0 (16 + 2 * c.args.j) c.in-Pair.left (omega arith)
    (side_field g.V.LeafKind.taken c.args.body.now.bytes.now c.args.body.now.count Left c.args.j (Pair c.in-Pair.left c.in-Pair.right) c.requires.within c.in-Pair.ensures)

pub returns-in_err-check_tag : goal.returns-in_err-check_tag
returns-in_err-check_tag g c =
    let left = side_field g.V.LeafKind.taken c.args.body.now.bytes.now c.args.body.now.count Left c.args.j (Pair c.in-Pair.left c.in-Pair.right) c.requires.within c.in-Pair.ensures in
    let p = err_from_is_err_and c.from_residual.result c.from_residual.ensures.1 in
    rw (p.1, p.2)
    (record {
      kept = tag_read g.V.LeafKind.taken c.args.body.now.bytes.now c.args.body.now.count c.args.body.now.few c.args.self.now.survey.now (Cell Left c.args.j) c.in-Pair.left (17 + 2 * c.args.j) (omega arith) (omega arith) left c.requires.before {T = Unit {0}} (Err c.in_err-check_tag.field-0.0) c.in_err-check_tag.ensures;
      flaw = left_tag g.V.LeafKind.taken c.args.body.now.bytes.now c.args.body.now.count c.args.j c.in_err-check_tag.field-0.0 (c.in_err-check_tag.ensures ∙ tag_flaw_lem g.V.LeafKind.taken c.args.body.now.bytes.now c.args.body.now.count c.args.body.now.few c.requires.before.0 c.args.self.now.survey.now c.requires.before.1 (Cell Left c.args.j) c.in-Pair.left (omega arith) left);
    })

pub check_tag-requires-2 : goal.check_tag-requires-2
check_tag-requires-2 g c =
    address_tallied g.V.LeafKind.taken c.args.body.now.bytes.now c.args.body.now.count c.args.body.now.few c.requires.before.0 (17 + 2 * c.args.j) c.in-Pair.right (omega arith)
    (side_field g.V.LeafKind.taken c.args.body.now.bytes.now c.args.body.now.count Right c.args.j (Pair c.in-Pair.left c.in-Pair.right) c.requires.within c.in-Pair.ensures)

pub returns : goal.returns
returns g c =
    let left = side_field g.V.LeafKind.taken c.args.body.now.bytes.now c.args.body.now.count Left c.args.j (Pair c.in-Pair.left c.in-Pair.right) c.requires.within c.in-Pair.ensures in
    let right = side_field g.V.LeafKind.taken c.args.body.now.bytes.now c.args.body.now.count Right c.args.j (Pair c.in-Pair.left c.in-Pair.right) c.requires.within c.in-Pair.ensures in
    record {
      kept = tag_read g.V.LeafKind.taken c.args.body.now.bytes.now c.args.body.now.count c.args.body.now.few c.args.self.now.survey.now (Cell Right c.args.j) c.in-Pair.right (18 + 2 * c.args.j) (omega arith) (omega arith) right
          (tag_read g.V.LeafKind.taken c.args.body.now.bytes.now c.args.body.now.count c.args.body.now.few c.args.self.now.survey.now (Cell Left c.args.j) c.in-Pair.left (17 + 2 * c.args.j) (omega arith) (omega arith) left c.requires.before (Ok (tt {0})) c.in_ok-check_tag.ensures)
          c.check_tag-2.result c.check_tag-2.ensures;
      flaw = right_tag g.V.LeafKind.taken c.args.body.now.bytes.now c.args.body.now.count c.args.j (result_err c.check_tag-2.result)
          (c.in_ok-check_tag.ensures ∙ tag_flaw_lem g.V.LeafKind.taken c.args.body.now.bytes.now c.args.body.now.count c.args.body.now.few c.requires.before.0 c.args.self.now.survey.now c.requires.before.1 (Cell Left c.args.j) c.in-Pair.left (omega arith) left)
          (c.check_tag-2.ensures ∙ tag_flaw_lem g.V.LeafKind.taken c.args.body.now.bytes.now c.args.body.now.count c.args.body.now.few c.requires.before.0 c.args.self.now.survey.now c.requires.before.1 (Cell Right c.args.j) c.in-Pair.right (omega arith) right);
    }
