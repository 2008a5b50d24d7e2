-- What a record holds lies inside the bank, and stays there: hands that are read and set, addresses that are listed, and a top that is taken.
use Rattle.std.proofs.Common.{◌≡◌, ℕ, zero, suc, ◌-◌, ◌<◌, ◌≤◌, true, false, List, [], ◌∷◌, ◌++◌, length, get_or, take, set, Option, sym, refl, ap, ◌∙◌, subst, arith}
use Rattle.std.specs.Prelude.{IfSome}
use Rattle.std.proofs.lemmas.Bool.Decides.{nat_tests}
use Rattle.std.proofs.lemmas.List.{length-append}
use Rattle.cells.specs.declared.Field.{Field}
use Rattle.cells.specs.declared.Field.TheVariants.{Nil}
use Rattle.store.specs.Fields.{past, below_top}
use Rattle.store.specs.Bounds.{pushed, top_of, hands_below, listed_below}

pub held_at : (n : ℕ) (fs : List Field) (h : ℕ) → hands_below n fs ≡ true → past n (get_or fs h Nil) ≡ false
held_at n [] h all = refl
held_at n (f ∷ fs) zero all = grind (arith, nat_tests)
held_at n (f ∷ fs) (suc h) all = held_at n fs h (grind (arith, nat_tests))

held_set : (n : ℕ) (fs : List Field) (h : ℕ) (f : Field) → hands_below n fs ≡ true → past n f ≡ false → hands_below n (set fs h f) ≡ true
held_set n [] h f all ok = refl
held_set n (g ∷ fs) zero f all ok = grind (arith, nat_tests)
held_set n (g ∷ fs) (suc h) f all ok = grind (arith, nat_tests, held_set n fs h f)

below_at : (n : ℕ) (xs : List ℕ) (i : ℕ) → listed_below n xs ≡ true → i < length xs → get_or xs i 0 < n
below_at n [] i all lt = omega arith
below_at n (x ∷ xs) zero all lt = grind (arith, nat_tests)
below_at n (x ∷ xs) (suc i) all lt = below_at n xs i (grind (arith, nat_tests)) (grind (arith, nat_tests))

below_append : (n : ℕ) (xs : List ℕ) (a : ℕ) → listed_below n xs ≡ true → a < n → listed_below n (xs ++ (a ∷ [])) ≡ true
below_append n [] a all ok = grind (arith, nat_tests)
below_append n (x ∷ xs) a all ok = grind (arith, nat_tests, below_append n xs a)

below_take : (n k : ℕ) (xs : List ℕ) → listed_below n xs ≡ true → listed_below n (take k xs) ≡ true
below_take n zero xs all = refl
below_take n (suc k) [] all = refl
below_take n (suc k) (x ∷ xs) all = grind (arith, nat_tests, below_take n k xs)

-- the same by what the parts were before
pub keeps_hands : (n : ℕ) (fs gs : List Field) (h : ℕ) (f : Field) → gs ≡ set fs h f → hands_below n fs ≡ true → past n f ≡ false → hands_below n gs ≡ true
keeps_hands n fs gs h f e all inside = ap (hands_below n) e ∙ held_set n fs h f all inside

pub keeps_pushed : (n mark a : ℕ) (xs ys : List ℕ) → ys ≡ pushed a xs → listed_below n xs ≡ true → a < mark → mark ≤ n → listed_below n ys ≡ true
keeps_pushed n mark a xs ys e all lt le = ap (listed_below n) e ∙ grind (arith, nat_tests, below_append n xs a)

pub keeps_few : (a : ℕ) (xs ys : List ℕ) → ys ≡ pushed a xs → length xs ≤ 16 → length ys ≤ 16
keeps_few a xs ys e le = let sum = length-append xs (a ∷ []) in grind (arith, nat_tests, ap length e)

pub keeps_popped : (n : ℕ) (xs ys : List ℕ) → ys ≡ below_top xs → listed_below n xs ≡ true → listed_below n ys ≡ true
keeps_popped n xs ys e all = ap (listed_below n) e ∙ below_take n (length xs - 1) xs all

top_below : (n : ℕ) (xs : List ℕ) → listed_below n xs ≡ true → IfSome (top_of xs) (λ a. a < n)
top_below n [] all = tt
top_below n (x ∷ xs) all = let lt = below_at n (x ∷ xs) (length xs) all (omega arith) in grind (arith, nat_tests)

pub top_inside : (n : ℕ) (xs : List ℕ) (o : Option ℕ) → o ≡ top_of xs → listed_below n xs ≡ true → IfSome o (λ a. a < n)
top_inside n xs o e all = subst (λ x. IfSome x (λ a. a < n)) (sym e) (top_below n xs all)
