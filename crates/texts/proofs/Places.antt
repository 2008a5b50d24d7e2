-- Where a list has an entry: in it, and past its end. Assumes nothing.
use Rattle.std.proofs.Common.{◌≡◌, ℕ, zero, suc, ◌<◌, ◌≤◌, List, [], ◌∷◌, ◌++◌, length, get_or, codes, decimal, refl, arith}
use Rattle.texts.specs.declared.lists.Entry.{Entry}
use Rattle.texts.specs.Lists.{place_text}

module _ {V : Type 0} (name : List ℕ) where
  pub place_in : (xs : List (Entry V)) (i : ℕ) (d : Entry V) → i < length xs → place_text name xs i ≡ codes "line " ++ (decimal (get_or xs i d).line ++ (codes " of " ++ name))
  place_in [] i d h = absurd (omega arith)
  place_in (x ∷ xs) zero d h = refl
  place_in (x ∷ xs) (suc i) d h = place_in xs i d (omega arith)

  pub place_past : (xs : List (Entry V)) (i : ℕ) → length xs ≤ i → place_text name xs i ≡ codes "the end of " ++ name
  place_past [] i h = refl
  place_past (x ∷ xs) zero h = absurd (omega arith)
  place_past (x ∷ xs) (suc i) h = place_past xs i (omega arith)
