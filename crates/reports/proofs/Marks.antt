-- The marks of shared cells, one hand or one cell more.
use Rattle.std.proofs.Common.{◌≡◌, ℕ, suc, Bool, false, List, replicate, Option, refl, ap, ◌∙◌}
use Rattle.images.specs.Layout.{or_nil}
use Rattle.images.specs.Images.{hand_of, cell_of}
use Rattle.reports.specs.Sharing.{marked, marked_sides, marked_hands, marked_cells}

pub hands_start : (image : List ℕ) → replicate 32768 false ≡ marked_hands image 0
unfolding marked_hands
hands_start image = refl

pub hands_more : (image : List ℕ) (i n : ℕ) (m k : List Bool) → suc i ≡ n → m ≡ marked_hands image i → k ≡ marked m (or_nil (hand_of image i)) → k ≡ marked_hands image n
unfolding marked_hands
hands_more image i n m k next e f = f ∙ ap (λ l. marked l (or_nil (hand_of image i))) e ∙ ap (marked_hands image) next

module _ {V : Type 0} (taken : ℕ → Option V) (image : List ℕ) where
  pub cells_start : (i : ℕ) (m : List Bool) → i ≡ 16 → m ≡ marked_hands image i → m ≡ marked_cells taken image 0
  unfolding marked_cells
  cells_start i m end e = e ∙ ap (marked_hands image) end

  pub cells_more : (j n : ℕ) (m k : List Bool) → suc j ≡ n → m ≡ marked_cells taken image j → k ≡ marked_sides m (cell_of taken image j) → k ≡ marked_cells taken image n
  unfolding marked_cells
  cells_more j n m k next e f = f ∙ ap (λ l. marked_sides l (cell_of taken image j)) e ∙ ap (marked_cells taken image) next
