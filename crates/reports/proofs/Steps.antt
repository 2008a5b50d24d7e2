-- One hand or one cell more, and that the cells that stand in an image have lawful leaves.
use Rattle.std.proofs.Common.{◌≡◌, ℕ, zero, suc, ◌+◌, ◌*◌, ◌≤◌, ◌<◌, ◌≢◌, Bool, true, cond, ◌&&◌, ltb, leb, List, [], ◌∷◌, ◌++◌, length, take, drop, IfOk, MatchOption, Some, None, Ok, Err, Option, Result, refl, sym, add-zero, zero-add, ap, ◌∙◌, ⊎_elim, arith}
use Rattle.std.specs.List.{range_with_len, fold, count_by}
use Rattle.std.proofs.lemmas.List.Sums.{fold-append, sum_by_push}
use Rattle.std.proofs.lemmas.Bool.{cases_Bool}
use Rattle.cells.specs.declared.Field.{Field}
use Rattle.cells.specs.declared.Field.TheVariants.{Nil, To}
use Rattle.cells.specs.Leaves.{Laws}
use Rattle.cells.specs.Banks.{found_lawful}
use Rattle.packing.proofs.Cells.{cell_lawful}
use Rattle.images.specs.Layout.{stored_cell, count_in}
use Rattle.images.specs.Images.{hand_of, cell_of}
use Rattle.reports.specs.Apart.{FirstApart}
use Rattle.reports.specs.Counts.{in_use, counted, hands_used, with_found, tallied}

-- one number more in a range from 0 on
range_more : (n : ℕ) → range_with_len 0 (suc n) ≡ range_with_len 0 n ++ n ∷ []
range_more n = later 0 n ∙ ap (λ k. range_with_len 0 n ++ k ∷ []) (zero-add n)
  where
    later : (a n : ℕ) → range_with_len a (suc n) ≡ range_with_len a n ++ (a + n) ∷ []
    later a zero = ap (λ k. k ∷ []) (sym (add-zero a))
    later a (suc n) = ap (λ l. a ∷ l) (later (a + 1) n ∙ ap (λ k. range_with_len (a + 1) n ++ k ∷ []) (omega arith))

one_more_used : (n : ℕ) (o : Option Field) → n + cond (in_use o) 1 0 ≡ counted n o
one_more_used n None = add-zero n
one_more_used n (Some Nil) = add-zero n
one_more_used n (Some (To r)) = omega arith

-- the hands in use, and the counts of cells, by a chain over the indices
pub used_counted : (image : List ℕ) (n : ℕ) → count_by (λ k. in_use (hand_of image k)) (range_with_len 0 n) ≡ hands_used image n
unfolding hands_used
used_counted image zero = refl
used_counted image (suc n) =
    ap (count_by (λ k. in_use (hand_of image k))) (range_more n)
    ∙ sum_by_push (λ k. cond (in_use (hand_of image k)) 1 0) (range_with_len 0 n) n
    ∙ ap (λ u. u + cond (in_use (hand_of image n)) 1 0) (used_counted image n)
    ∙ one_more_used (hands_used image n) (hand_of image n)

pub tallied_folded : {V : Type 0} (taken : ℕ → Option V) (image : List ℕ) (n : ℕ) → fold (λ t k. with_found t (cell_of taken image k)) (record { blank = 0; pair = 0; leaf = 0; moved = 0 }) (range_with_len 0 n) ≡ tallied taken image n
unfolding tallied
tallied_folded taken image zero = refl
tallied_folded taken image (suc n) =
    ap (fold (λ t k. with_found t (cell_of taken image k)) (record { blank = 0; pair = 0; leaf = 0; moved = 0 })) (range_more n)
    ∙ fold-append (λ t k. with_found t (cell_of taken image k)) (record { blank = 0; pair = 0; leaf = 0; moved = 0 }) (range_with_len 0 n) (n ∷ [])
    ∙ ap (λ t. with_found t (cell_of taken image n)) (tallied_folded taken image n)

pub found_lawful_lem : {V : Type 0} {lawful : V → Bool} {tidied : V → Option V} {word : V → ℕ} {taken : ℕ → Option V} {alike : V → V → Bool} → Laws lawful tidied word taken alike → (image : List ℕ) (j : ℕ) → found_lawful lawful (cell_of taken image j) ≡ true
unfolding stored_cell
found_lawful_lem {lawful = lawful} {taken = taken} laws image j =
    ⊎_elim
    (λ e. ap (λ t. found_lawful lawful (cond t (Some (stored_cell taken (drop 4 image) j)) None)) e ∙ cell_lawful laws (take 9 (drop (64 + 9 * j) (drop 4 image))) _ refl)
    (λ e. ap (λ t. found_lawful lawful (cond t (Some (stored_cell taken (drop 4 image) j)) None)) e)
    (cases_Bool (ltb j (count_in image) && leb (77 + 9 * j) (length image)))

-- what holds of a value that was made, from what is known of it
pub made_more : {T E : Type 0} (r : Result T E) (P Q : T → Type 0) → ((t : T) → P t → Q t) → IfOk r P → IfOk r Q
made_more (Ok t) P Q f p = f t p
made_more (Err e) P Q f p = tt

-- the first number at which two functions differ, as a search of a range tells it
pub apart_told : {A : Type 0} (f h : ℕ → A) (n : ℕ) (r : Option ℕ) → MatchOption r ((k : ℕ) → 0 ≤ k → k < n → f k ≡ h k) (λ i. (0 ≤ i) × (i < n) × (f i ≢ h i) × ((k : ℕ) → 0 ≤ k → k < i → f k ≡ h k)) → FirstApart f h n r
apart_told f h n None e = λ k l. e k (omega arith) l
apart_told f h n (Some i) e = (e.1, e.2, λ k l. e.3 k (omega arith) l)
