use Rattle.std.proofs.Common.{◌^◌, ◌<◌, drop, Some, None, sym, ap, ◌∙◌, subst, rules}
use Rattle.std.proofs.lemmas.Result.{err_from_is_err_and}
use Rattle.images.specs.declared.faults.Fault.TheVariants.{Flawed}
use Rattle.images.specs.Layout.{count_in, hands_in, cells_in}
use Rattle.images.specs.Images.{HeldImage}
use Rattle.images.specs.Faults.{headed}
use Rattle.images.proofs.Stored.{stored_count}
use Rattle.images.proofs.Verdicts.{fault_no_image, headed_right, headed_wrong, surveyed_rest, rules_image}
use Rattle.images.proofs.Firsts.{first_headed, first_surveyed}
use Rattle.images.proofs.examine.Goals as goal

pub returns-in_err-body : goal.returns-in_err-body
returns-in_err-body g c =
    let low : c.kind_number.result < 2 ^ 16 = search rules in
    let small = subst (λ n. n < 2 ^ 16) c.kind_number.ensures low in
    let fault = c.in_err-body.field-0.0 in
    let e = c.in_err-body.ensures.fault ∙ ap (λ n. headed n c.args.image.now) c.kind_number.ensures in
    let wrong = headed_wrong g.V.LeafKind.taken g.V.LeafKind.number c.args.image.now fault e in
    let p = err_from_is_err_and c.from_residual.result c.from_residual.ensures.1 in
    rw (p.1, p.2)
    (record {
      rules = (wrong, fault_no_image g.met.V.LeafKind.laws g.V.LeafKind.number c.args.image.now small fault wrong);
      order = first_headed g.V.LeafKind.taken g.V.LeafKind.number c.args.image.now (Some fault) e;
      rest = tt;
    })

pub returns-in_err-check_body : goal.returns-in_err-check_body
returns-in_err-check_body g c =
    let low : c.kind_number.result < 2 ^ 16 = search rules in
    let small = subst (λ n. n < 2 ^ 16) c.kind_number.ensures low in
    let flaw = c.in_err-check_body.field-0.0 in
    let at = c.in_ok-body.ensures.body in
    let broken = surveyed_rest g.V.LeafKind.taken c.args.image.now (Some flaw) at.0 at.1 c.in_err-check_body.ensures.kept in
    let p = err_from_is_err_and c.from_residual-in_err-check_body.result c.from_residual-in_err-check_body.ensures.1 in
    rw (p.1, p.2)
    (record {
      rules = (broken, fault_no_image g.met.V.LeafKind.laws g.V.LeafKind.number c.args.image.now small (Flawed flaw) broken);
      order = first_surveyed g.V.LeafKind.taken g.V.LeafKind.number c.args.image.now (Some flaw) at.0 at.1 (c.in_ok-body.ensures.fault ∙ ap (λ n. headed n c.args.image.now) c.kind_number.ensures) c.in_err-check_body.ensures.flaw;
      rest = tt;
    })

pub returns : goal.returns
returns g c =
    let e = c.in_ok-body.ensures.fault ∙ ap (λ n. headed n c.args.image.now) c.kind_number.ensures in
    let right = headed_right _ _ e in
    let at = c.in_ok-body.ensures.body in
    let kept = surveyed_rest g.V.LeafKind.taken c.args.image.now None at.0 at.1 c.in_ok-check_body.ensures.kept in
    let whole : HeldImage g.V.LeafKind.lawful g.V.LeafKind.word g.V.LeafKind.taken g.V.LeafKind.number c.args.image.now = rules_image g.met.V.LeafKind.laws g.V.LeafKind.number c.args.image.now (λ k. (c.type_inv.image k).fits) right.0 right.1 right.2 kept.0 kept.1 in
    record {
      rules = ((hands_in c.args.image.now, cells_in g.V.LeafKind.taken c.args.image.now, stored_count g.V.LeafKind.taken (drop 4 c.args.image.now) (count_in c.args.image.now) ∙ sym at.1, whole), whole);
      order = first_surveyed g.V.LeafKind.taken g.V.LeafKind.number c.args.image.now None at.0 at.1 e c.in_ok-check_body.ensures.flaw;
      rest = at;
    }
