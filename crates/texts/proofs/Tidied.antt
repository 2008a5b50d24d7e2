-- One tidy entry more. Assumes nothing.
use Rattle.std.proofs.Common.{◌≡◌, zero, suc, Bool, List, [], ◌∷◌, ◌++◌, sym, subst, arith}
use Rattle.texts.specs.declared.lists.Entry.{Entry}
use Rattle.texts.specs.Lists.{Lawful, Tidy}

module _ {V : Type 0} (lawful : V → Bool) where
  tidy_push : (xs : List (Entry V)) (e : Entry V) → Tidy lawful xs → Lawful lawful e.value → Tidy lawful (xs ++ (e ∷ []))
  tidy_push [] e t l zero d h = l
  tidy_push [] e t l (suc k) d h = absurd (omega arith)
  tidy_push (x ∷ xs) e t l zero d h = t zero d (omega arith)
  tidy_push (x ∷ xs) e t l (suc k) d h = tidy_push xs e (λ j d' g. t (suc j) d' (omega arith)) l k d (omega arith)

  pub tidy_more : (xs ys : List (Entry V)) (e : Entry V) → ys ≡ xs ++ (e ∷ []) → Tidy lawful xs → Lawful lawful e.value → Tidy lawful ys
  tidy_more xs ys e p t l = subst (Tidy lawful) (sym p) (tidy_push xs e t l)
