use Rattle.std.proofs.lemmas.Slice.Eq.{slice_eq-Decides}
use Rattle.images.proofs.Verdicts.{equal_decides}
use Rattle.images.proofs.equal_images.Goals as goal
use Rattle.std.proofs.lemmas.Bool.Decides.{Decides-eqb}

pub returns : goal.returns
returns g c =
    let d = slice_eq-Decides Decides-eqb _ _ _ c.eq.ensures in
    record {
      alike = equal_decides g.met.V.LeafKind.laws g.V.LeafKind.number c.args.a.now c.args.b.now c.requires.first c.requires.second c.eq.result d;
      bytes = d;
    }
