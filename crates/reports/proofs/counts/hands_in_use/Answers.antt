use Rattle.std.proofs.Common.{refl, ◌∙◌, rules}
use Rattle.std.proofs.lemmas.List.Sums.{length-filter}
use Rattle.std.proofs.lemmas.Iterator.{YieldsList-from_range}
use Rattle.std.proofs.lemmas.Iterator.Consumers.{YieldsList-from_filter, count_from_yields_List}
use Rattle.std.specs.List.{range_with_len}
use Rattle.images.specs.Images.{hand_of}
use Rattle.reports.specs.Counts.{in_use}
use Rattle.reports.proofs.Steps.{used_counted}
use Rattle.reports.proofs.counts.hands_in_use.Goals as goal

pub returns : goal.returns
returns c =
    count_from_yields_List c.filter.result c.count.result c.count.ensures.ran
    (YieldsList-from_filter _ (λ k. in_use (hand_of c.args.image.now k)) (YieldsList-from_range 0 16 16 c.filter.ensures.source refl) c.filter.ensures.closure (λ x b q m. (search rules, search rules)))
    ∙ length-filter (λ k. in_use (hand_of c.args.image.now k)) (range_with_len 0 16)
    ∙ used_counted c.args.image.now 16
