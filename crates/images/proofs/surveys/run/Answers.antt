use Rattle.std.proofs.Common.{◌≡◌, ◌+◌, ◌*◌, sym, ap, ◌∙◌, subst, arith}
use Rattle.std.proofs.lemmas.Result.{err_from_is_err_and}
use Rattle.images.specs.First.{or_else, first}
use Rattle.images.proofs.Firsts.{first_start, first_more, first_found}
use Rattle.images.proofs.surveys.run.Goals as goal

pub loop-i-init : goal.loop-i-init
loop-i-init g c = (c.requires, first_start (g.P.Pass.hand_flaw c.args.body.now.bytes.now c.args.body.now.count))

pub loop-i-preserved : goal.loop-i-preserved
loop-i-preserved g c = (
  c.in_ok-at_hand.ensures.kept,
  first_more (g.P.Pass.hand_flaw c.args.body.now.bytes.now c.args.body.now.count) c.loop-i.i (c.loop-i.i + 1) (omega arith) c.loop-i.invariant.1 (sym c.in_ok-at_hand.ensures.flaw),
)

pub returns-in_err-at_hand : goal.returns-in_err-at_hand
returns-in_err-at_hand g c =
    let p = err_from_is_err_and c.from_residual.result c.from_residual.ensures.1 in
    rw (p.1, p.2)
    (record {
      kept = c.in_err-at_hand.ensures.kept;
      flaw = ap (λ o. or_else o (first (g.P.Pass.cell_flaw c.args.body.now.bytes.now c.args.body.now.count) c.args.body.now.count))
          (first_found (g.P.Pass.hand_flaw c.args.body.now.bytes.now c.args.body.now.count) c.loop-i.i 16 c.in_err-at_hand.field-0.0 (omega arith) c.loop-i.invariant.1 (sym c.in_err-at_hand.ensures.flaw));
    })

pub loop-j-init : goal.loop-j-init
loop-j-init g c =
    let e : c.loop-i.i ≡ 16 = omega arith in (
      subst (g.P.Pass.past c.loop-i.pass c.args.body.now.bytes.now c.args.body.now.count) e c.loop-i.invariant.0,
      ap (first (g.P.Pass.hand_flaw c.args.body.now.bytes.now c.args.body.now.count)) (sym e) ∙ c.loop-i.invariant.1,
      first_start (g.P.Pass.cell_flaw c.args.body.now.bytes.now c.args.body.now.count),
    )

pub loop-j-preserved : goal.loop-j-preserved
loop-j-preserved g c =
    let e : 18 + 2 * c.loop-j.j ≡ 16 + 2 * (c.loop-j.j + 1) = omega arith in (
      subst (g.P.Pass.past c.at_cell.new.self c.args.body.now.bytes.now c.args.body.now.count) e c.in_ok-at_cell.ensures.kept,
      c.loop-j.invariant.1,
      first_more (g.P.Pass.cell_flaw c.args.body.now.bytes.now c.args.body.now.count) c.loop-j.j (c.loop-j.j + 1) (omega arith) c.loop-j.invariant.2 (sym c.in_ok-at_cell.ensures.flaw),
    )

pub returns-in_err-at_cell : goal.returns-in_err-at_cell
returns-in_err-at_cell g c =
    let p = err_from_is_err_and c.from_residual-in_err-at_cell.result c.from_residual-in_err-at_cell.ensures.1 in
    rw (p.1, p.2)
    (record {
      kept = c.in_err-at_cell.ensures.kept;
      flaw = first_found (g.P.Pass.cell_flaw c.args.body.now.bytes.now c.args.body.now.count) c.loop-j.j c.args.body.now.count c.in_err-at_cell.field-0.0 (omega arith) c.loop-j.invariant.2 (sym c.in_err-at_cell.ensures.flaw)
          ∙ ap (λ o. or_else o (first (g.P.Pass.cell_flaw c.args.body.now.bytes.now c.args.body.now.count) c.args.body.now.count)) (sym c.loop-j.invariant.1);
    })

pub returns : goal.returns
returns g c =
    let e : c.loop-j.j ≡ c.args.body.now.count = omega arith in
    record {
      kept = subst (λ j. g.P.Pass.past c.loop-j.pass c.args.body.now.bytes.now c.args.body.now.count (16 + 2 * j)) e c.loop-j.invariant.0;
      flaw = sym (ap (λ o. or_else o (first (g.P.Pass.cell_flaw c.args.body.now.bytes.now c.args.body.now.count) c.args.body.now.count)) c.loop-j.invariant.1 ∙ ap (first (g.P.Pass.cell_flaw c.args.body.now.bytes.now c.args.body.now.count)) (sym e) ∙ c.loop-j.invariant.2);
    }
