use Rattle.std.proofs.Common.{◌≡◌, rules, sym, ap, ◌∙◌, arith}
use Rattle.std.proofs.lemmas.Grind.{common_steps}
use Rattle.store.specs.Fields.{sticky}
use Rattle.collector.specs.Places.{cell_at_place}
use Rattle.collector.proofs.Sources.{hands_from, cells_from}
use Rattle.collector.proofs.steps.Visit.meet_again.Goals as goal

pub returns-clause-went : goal.returns-clause-went
returns-clause-went g c =
    let news = g.N.Bank.cells c.args.new.now in
    let source = c.args.source in
    let f = sticky c.args.address in
    let p = c.in_ok-place.place in
    let found = c.in_ok-place.ensures in
    let at : c.since.result.at ≡ source = c.since.ensures.at ∙ found.1 in
    let cell : c.since.result.cell ≡ cell_at_place (g.N.Bank.cells c.put-2.new.new) p.at = c.since.ensures.cell news c.requires.visiting.cell (found.2 ∙ ap (cell_at_place news) (sym found.1)) ∙ ap (λ x. cell_at_place x p.at) (sym c.put-2.ensures.cells) in
    let hands = hands_from c.args.self.now.copied news source f c.put-2.new.store.hands.fields found.0 in
    let cells = cells_from c.args.self.now.copied news source f (g.N.Bank.cells c.put-2.new.new) found.0 in
    record { answer = search rules; after = grind (arith, common_steps) }
