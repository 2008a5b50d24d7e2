use Rattle.std.proofs.Common.{rules, tests, ◌≡◌, ℕ, not, ◌&&◌, List, [], ◌∷◌, refl, ap, ◌∙◌}
use Rattle.std.specs.List.{list_all}
use Rattle.std.proofs.lemmas.Iterator.{YieldsList-from_slice}
use Rattle.std.proofs.lemmas.Iterator.Search.{all_from_yields_List}
use Rattle.cells.specs.declared.Field.{Field}
use Rattle.store.specs.Fields.{past}
use Rattle.store.specs.Bounds.{hands_below}
use Rattle.store.proofs.record.all_below.Goals as goal

list_all-below : (n : ℕ) (fs : List Field) → list_all (λ f. not (past n f)) fs ≡ hands_below n fs
list_all-below n [] = refl
list_all-below n (f ∷ fs) = ap (λ b. not (past n f) && b) (list_all-below n fs)

pub returns : goal.returns
returns c =
    all_from_yields_List (λ f. not (past c.args.bound f)) _ _ _ c.all.ensures.ran (YieldsList-from_slice c.args.fields.now cc) (λ x b q k. search (rules, tests))
    ∙ list_all-below c.args.bound c.args.fields.now
