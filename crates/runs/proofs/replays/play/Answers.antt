use Rattle.std.proofs.Common.{◌+◌, vec_items, sym, refl, ap, ◌∙◌, add-zero, add_assoc, arith}
use Rattle.runs.specs.Rigs.{banks_of}
use Rattle.runs.specs.Replays.{world_at}
use Rattle.runs.proofs.Replaying.{one_more_lem, played_none, played_one, played_all}
use Rattle.runs.proofs.replays.play.Goals as goal

pub push_reserved-requires : goal.push_reserved-requires
push_reserved-requires g c = omega (arith, c.loop-call.invariant.1, c.loop-call.invariant.2)

pub loop-call-init : goal.loop-call-init
loop-call-init g c =
    let b = banks_of g.A.Bank.cells g.B.Bank.cells c.args.rig.now in
    (played_none g.V.LeafKind.tidied (world_at b) c.args.script.now (vec_items c.args.answers.now), sym (add-zero _), refl, λ fits. fits)

pub loop-call-preserved : goal.loop-call-preserved
loop-call-preserved g c =
    let b = banks_of g.A.Bank.cells g.B.Bank.cells c.args.rig.now in
    let script = c.args.script.now in
    let i = c.loop-call.call-index in
    let more = one_more_lem g.V.LeafKind.tidied script i c.call-item.result c.loop-call-test.true c.call-item.is in (
      played_one g.V.LeafKind.tidied (world_at b) script (vec_items c.args.answers.now) i (banks_of g.A.Bank.cells g.B.Bank.cells c.loop-call.rig) (banks_of g.A.Bank.cells g.B.Bank.cells c.call-answer.new.self)
          (vec_items c.loop-call.answers) (vec_items c.push_reserved.new.self) c.call-item.result c.call-answer.result c.loop-call.invariant.0 more c.call-answer.ensures.made c.push_reserved.ensures.items,
      c.push_reserved.ensures.len ∙ ap (λ n. n + 1) c.loop-call.invariant.1 ∙ add_assoc _ _ _,
      c.push_reserved.ensures.capacity ∙ c.loop-call.invariant.2,
      λ fits. c.call-answer.ensures.fits (c.loop-call.invariant.3 fits),
    )

pub returns : goal.returns
returns g c =
    let b = banks_of g.A.Bank.cells g.B.Bank.cells c.args.rig.now in
    let all = played_all g.V.LeafKind.tidied (world_at b) c.args.script.now (vec_items c.args.answers.now) c.loop-call.call-index (banks_of g.A.Bank.cells g.B.Bank.cells c.loop-call.rig) (vec_items c.loop-call.answers)
    c.loop-call.invariant.0 c.loop-call-test.false in
    record { answers = all.0; after = all.1; fits = c.loop-call.invariant.3 }
