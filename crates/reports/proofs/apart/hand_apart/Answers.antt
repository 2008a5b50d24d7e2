use Rattle.std.proofs.Common.{◌≡◌, ◌≢◌, rules}
use borrow.Author.Tests.{tests}
use Rattle.std.proofs.lemmas.Iterator.{first_from_Range}
use Rattle.images.specs.Images.{hand_of}
use Rattle.reports.proofs.Steps.{apart_told}
use Rattle.reports.proofs.apart.hand_apart.Goals as goal

pub returns : goal.returns
returns c =
    apart_told (hand_of c.args.a.now) (hand_of c.args.b.now) 16 c.find.result
    (first_from_Range _ _ _ c.find.result (λ k. hand_of c.args.a.now k ≢ hand_of c.args.b.now k) (λ k. hand_of c.args.a.now k ≡ hand_of c.args.b.now k) c.find.ensures.ran (λ x q m. search (rules, tests)) (λ x q m. (search rules, search (rules, tests))))
