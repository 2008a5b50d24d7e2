use Rattle.std.proofs.Common.{refl, ◌∙◌, arith, rules}
use Rattle.std.proofs.lemmas.Iterator.{YieldsList-from_range}
use Rattle.std.proofs.lemmas.Iterator.Consumers.{fold_from_yields_List}
use Rattle.images.specs.Images.{cell_of}
use Rattle.reports.specs.Counts.{with_found}
use Rattle.reports.proofs.Steps.{tallied_folded}
use Rattle.reports.proofs.counts.tally_of.Goals as goal

pub returns : goal.returns
returns g c =
    fold_from_yields_List _ (λ t k. with_found t (cell_of g.V.LeafKind.taken c.args.image.now k)) _ _ c.fold.ensures.ran (YieldsList-from_range 0 c.args.count c.args.count refl (omega arith)) (λ t k u q m. (search rules, search rules))
    ∙ tallied_folded g.V.LeafKind.taken c.args.image.now c.args.count
