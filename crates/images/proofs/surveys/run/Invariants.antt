use Rattle.std.proofs.Common.{◌≡◌, ◌+◌, ◌*◌, None}
use Rattle.images.specs.First.{first}
use Rattle.images.proofs.surveys.run.Given as goal

abbrev pub invariant-loop-i : goal.invariant-loop-i
invariant-loop-i g l =
    g.P.Pass.past l.pass l.body.bytes.now l.body.count l.i
    × (first (g.P.Pass.hand_flaw l.body.bytes.now l.body.count) l.i ≡ None)

abbrev pub invariant-loop-j : goal.invariant-loop-j
invariant-loop-j g l =
    g.P.Pass.past l.pass l.body.bytes.now l.body.count (16 + 2 * l.j)
    × (first (g.P.Pass.hand_flaw l.body.bytes.now l.body.count) 16 ≡ None)
    × (first (g.P.Pass.cell_flaw l.body.bytes.now l.body.count) l.j ≡ None)
