use Rattle.std.proofs.Common.{◌≡◌, true, false, ℕ, Bool, refl, arith, rules}
use Rattle.std.proofs.lemmas.Iterator.{cases_from_all, YieldsList-from_range}
use Rattle.cells.specs.Banks.{cell_at}
use Rattle.images.specs.Writing.{node_found}
use Rattle.images.proofs.Written.{nodes_told}
use Rattle.images.proofs.writing.all_nodes.Goals as goal

pub returns : goal.returns
returns g c =
    let found : ℕ → Bool = λ k. node_found (cell_at (g.B.Bank.cells c.args.bank.now) k) in
    nodes_told (g.B.Bank.cells c.args.bank.now) c.args.count c.requires c.all.result
    (cases_from_all _ _ _ (λ k. found k ≡ true) (λ k. found k ≡ false) c.all.ensures.ran (YieldsList-from_range 0 c.args.count c.args.count refl (omega arith)) (λ x q k. (search rules, search rules)) (λ x q k. search rules))
