-- The hands and cells that stand in bytes, and what their places hold.
use Rattle.std.proofs.Common.{◌≡◌, ℕ, ◌+◌, ◌*◌, ◌<◌, ◌≤◌, List, length, get_or, Option, ap, ◌∙◌, arith}
use Rattle.std.proofs.lemmas.List.FromFn.{length-map-range_with_len, get_or-map-range_with_len}
use Rattle.cells.specs.declared.Field.TheVariants.{Nil}
use Rattle.cells.specs.declared.Side.{Side}
use Rattle.cells.specs.declared.Cell.TheVariants.{Blank}
use Rattle.graph.specs.Places.{place_of, field_of}
use Rattle.graph.proofs.Reading.{holds_hand, holds_place, holds_past}
use Rattle.images.specs.Layout.{stored_hand, stored_cell, or_nil, stored_hands, stored_cells, held}

pub stored_sixteen : (rest : List ℕ) → length (stored_hands rest) ≡ 16
unfolding stored_hands
stored_sixteen rest = length-map-range_with_len (λ i. or_nil (stored_hand rest i)) 0 16

pub stored_hand_lem : (rest : List ℕ) (i : ℕ) → i < 16 → get_or (stored_hands rest) i Nil ≡ or_nil (stored_hand rest i)
unfolding stored_hands
stored_hand_lem rest i h = get_or-map-range_with_len (λ k. or_nil (stored_hand rest k)) 0 16 i i Nil h (omega arith)

module _ {V : Type 0} (taken : ℕ → Option V) (rest : List ℕ) (r : ℕ) where
  pub stored_count : length (stored_cells taken rest r) ≡ r
  unfolding stored_cells
  stored_count = length-map-range_with_len (stored_cell taken rest) 0 r

  pub stored_cell_lem : (j : ℕ) → j < r → get_or (stored_cells taken rest r) j Blank ≡ stored_cell taken rest j
  unfolding stored_cells
  stored_cell_lem j h = get_or-map-range_with_len (stored_cell taken rest) 0 r j j Blank h (omega arith)

  pub held_hand : (i : ℕ) → i < 16 → held taken rest r i ≡ or_nil (stored_hand rest i)
  unfolding held
  held_hand i h = holds_hand (stored_hands rest) (stored_cells taken rest r) i h ∙ stored_hand_lem rest i h

  pub held_side : (s : Side) (j : ℕ) → j < r → held taken rest r (place_of s j) ≡ field_of s (stored_cell taken rest j)
  unfolding held
  held_side s j h = holds_place (stored_hands rest) (stored_cells taken rest r) s j ∙ ap (field_of s) (stored_cell_lem j h)

  pub held_past : (p : ℕ) → 16 + 2 * r ≤ p → held taken rest r p ≡ Nil
  unfolding held
  held_past p h = let n = stored_count in holds_past (stored_hands rest) (stored_cells taken rest r) p (omega arith)
