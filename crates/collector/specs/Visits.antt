-- What the code of a step asks and what it leads to. What a step means is said without them. Assumes nothing.
use Rattle.std.specs.Prelude.{◌≡◌, ℕ, ◌+◌, ◌*◌, ◌<◌, Bool, true, false, cond, not, List, Ok, Err, Result, nat_lt}
use Rattle.cells.specs.declared.Source.{Source}
use Rattle.cells.specs.declared.Cell.{Cell}
use Rattle.cells.specs.declared.causes.Cause.{Cause}
use Rattle.cells.specs.declared.causes.Cause.TheVariants.{Spoiled}
use Rattle.store.specs.declared.Mode.TheVariants.{Collecting}
use Rattle.store.specs.Model.{Model}
use Rattle.collector.specs.declared.places.Place.{Place}
use Rattle.collector.specs.declared.steps.Visit.{Visit}
use Rattle.collector.specs.Steps.{Tour, source_at, source_good}
use Rattle.collector.specs.Collections.{Banks, steps_of, marks_of, tour_of, standing}
use Rattle.collector.specs.Places.{cell_at_place}

abbrev pub banks_at : {V : Type 0} → Model → List (Cell V) → List (Cell V) → Banks V
banks_at m cells fresh = record { model = m; cells = cells; fresh = fresh }

-- a visit of the next place, on its way in a collection that has places left
pub record Visiting {V : Type 0} (m : Model) (new : List (Cell V)) (v : Visit V) : Type 0 where
  pub mode : m.mode ≡ Collecting (steps_of m.mode) v.copied (marks_of m.mode)
  pub left : steps_of m.mode < 16 + 2 * v.copied
  pub place : v.place.at ≡ source_at (steps_of m.mode)
  pub cell : v.place.cell ≡ cell_at_place new v.place.at

-- A step, or the rest of one, answers this and leaves these banks: it leads on from where the collection stands, unless it is spoiled.
pub record Went {V : Type 0} (spoils : Tour V → Bool) (leads : Tour V → Tour V) (b : Banks V) (r : Result Unit Cause) (b' : Banks V) : Type 0 where
  pub answer : r ≡ cond (spoils (tour_of b)) (Err Spoiled) (Ok tt)
  pub after : b' ≡ cond (spoils (tour_of b)) b (standing b.model.free (leads (tour_of b)))

-- there is no unused new address
abbrev pub roomless : {V : Type 0} → Tour V → Bool
roomless t = not (nat_lt t.copied t.size)

-- a source is found where it is a hand up to 15 or a field of a copied pair, with its cell, and refused where it is neither
abbrev pub FindsSource : {V : Type 0} → ℕ → List (Cell V) → Source → Result (Place V) Cause → Type 0
FindsSource copied new source (Ok p) = (source_good copied new source ≡ true) × (p.at ≡ source) × (p.cell ≡ cell_at_place new source)
FindsSource copied new source (Err c) = (source_good copied new source ≡ false) × (c ≡ Spoiled)
