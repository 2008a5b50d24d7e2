use Rattle.std.proofs.Common.{Err, ◌≡◌, suc, ◌+◌, ◌-◌, sym, ap, ◌∙◌, arith}
use Rattle.std.proofs.lemmas.Result.{err_from_is_err_and}
use Rattle.collector.proofs.Marching.{all_made, none_left, spoiled_there, one_made}
use Rattle.collector.proofs.marches.make_steps.Goals as goal

pub returns-in_default : goal.returns-in_default
returns-in_default g c =
    let some : c.args.most - c.loop-made.made ≡ suc (c.args.most - (c.loop-made.made + 1)) = omega arith in
    let e = none_left _ _ _ _ c.loop-made.invariant.0 _ some (sym c.next_place.ensures ∙ c.in_default.is) in
    record { answer = e.0; after = e.1; old_rooted = c.loop-made.invariant.1; new_rooted = c.loop-made.invariant.2 }

pub returns-in_err-step : goal.returns-in_err-step
returns-in_err-step g c =
    let some : c.args.most - c.loop-made.made ≡ suc (c.args.most - (c.loop-made.made + 1)) = omega arith in
    let e = spoiled_there _ _ _ _ c.loop-made.invariant.0 _ _ some (sym c.in-Some.ensures) _ _ c.in_err-step.ensures.went in
    let p = err_from_is_err_and c.from_residual.result c.from_residual.ensures.1 in
    record {
      answer = p.1 ∙ ap Err p.2 ∙ e.0;
      after = e.1;
      old_rooted = c.step.ensures.old_rooted ∙ c.loop-made.invariant.1;
      new_rooted = c.step.ensures.new_rooted ∙ c.loop-made.invariant.2;
    }

pub loop-made-preserved : goal.loop-made-preserved
loop-made-preserved g c =
    let some : c.args.most - c.loop-made.made ≡ suc (c.args.most - (c.loop-made.made + 1)) = omega arith in (
      one_made _ _ _ _ c.loop-made.invariant.0 _ _ some (sym c.in-Some.ensures) _ _ c.in_ok-step.ensures.went,
      c.step.ensures.old_rooted ∙ c.loop-made.invariant.1,
      c.step.ensures.new_rooted ∙ c.loop-made.invariant.2,
    )

pub returns : goal.returns
returns g c =
    let none : c.args.most - c.loop-made.made ≡ 0 = omega arith in
    let e = all_made _ _ _ _ c.loop-made.invariant.0 none in
    record { answer = e.0; after = e.1; old_rooted = c.loop-made.invariant.1; new_rooted = c.loop-made.invariant.2 }
