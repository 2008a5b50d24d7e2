-- A source that is a place: what is put there is put at its number.
use Rattle.std.proofs.Common.{◌≡◌, ℕ, true, false, ltb, List, get_or, set, sym, ap, ◌∙◌, arith}
use Rattle.std.proofs.lemmas.Bool.{cond-true, cond-false}
use Rattle.std.proofs.lemmas.Bool.Decides.{nat_tests}
use Rattle.cells.specs.declared.Field.{Field}
use Rattle.cells.specs.declared.Side.{Side}
use Rattle.cells.specs.declared.Side.TheVariants.{Left, Right}
use Rattle.cells.specs.declared.Source.{Source}
use Rattle.cells.specs.declared.Source.TheVariants.{Nowhere, Hand, Cell as CellSide}
use Rattle.cells.specs.declared.Cell.{Cell}
use Rattle.cells.specs.declared.Cell.TheVariants.{Blank}
use Rattle.graph.specs.Places.{place_of, cell_of}
use Rattle.graph.proofs.Reading.{cell_of_place, side_of_place}
use Rattle.store.specs.Fields.{with_side}
use Rattle.collector.specs.Steps.{hands_with, cells_with, place_from, source_good}
use Rattle.collector.specs.Places.{cell_at_place, hands_at, cells_at}

side_far : (s : Side) (a : ℕ) → ltb (place_of s a) 16 ≡ false
side_far Left a = grind (arith, nat_tests)
side_far Right a = grind (arith, nat_tests)

-- a good source is a place
pub hands_from : {V : Type 0} (c : ℕ) (new : List (Cell V)) (source : Source) (f : Field) (hands : List Field) → source_good c new source ≡ true → hands_at source f hands ≡ hands_with (place_from source) f hands
hands_from c new Nowhere f hands good = let no : ◌≡◌ {A = ℕ} 0 1 = cc in absurd (omega arith)
hands_from c new (Hand h) f hands good = sym (cond-true (ltb h 16) _ _ good)
hands_from c new (CellSide a s) f hands good = sym (cond-false (ltb (place_of s a) 16) _ _ (side_far s a))

pub cells_from : {V : Type 0} (c : ℕ) (new : List (Cell V)) (source : Source) (f : Field) (cells : List (Cell V)) → source_good c new source ≡ true
    → cells_at source f (cell_at_place cells source) cells ≡ cells_with (place_from source) f cells
cells_from c new Nowhere f cells good = let no : ◌≡◌ {A = ℕ} 0 1 = cc in absurd (omega arith)
cells_from c new (Hand h) f cells good = sym (cond-true (ltb h 16) _ _ good)
cells_from c new (CellSide a s) f cells good =
    ap (λ j. set cells j (with_side s f (get_or cells j Blank))) (sym (cell_of_place s a)) ∙ ap (λ t. set cells (cell_of (place_of s a)) (with_side t f (get_or cells (cell_of (place_of s a)) Blank))) (sym (side_of_place s a))
    ∙ sym (cond-false (ltb (place_of s a) 16) _ _ (side_far s a))
