use Rattle.std.proofs.Common.{◌≡◌, ◌+◌, vec_items, vec_len, vec_capacity}
use Rattle.runs.specs.Rigs.{banks_of, Fits}
use Rattle.runs.specs.Replays.{world_at}
use Rattle.runs.proofs.Replaying.{Played}
use Rattle.runs.proofs.replays.play.Given as goal

abbrev pub invariant-loop-call : goal.invariant-loop-call
invariant-loop-call g l =
    Played g.V.LeafKind.tidied (world_at (banks_of g.A.Bank.cells g.B.Bank.cells l.initial.rig)) l.script (vec_items l.initial.answers) l.call-index
    (banks_of g.A.Bank.cells g.B.Bank.cells l.rig) (vec_items l.answers)
    × (vec_len l.answers ≡ vec_len l.initial.answers + l.call-index)
    × (vec_capacity l.answers ≡ vec_capacity l.initial.answers)
    × (Fits (banks_of g.A.Bank.cells g.B.Bank.cells l.initial.rig) → Fits (banks_of g.A.Bank.cells g.B.Bank.cells l.rig))
