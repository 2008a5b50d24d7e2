-- The places that a collection visits, and the fields that are put there, by the cell of a place. Assumes nothing.
use Rattle.std.specs.Prelude.{◌+◌, ◌*◌, Bool, true, cond, List, Some, None, Option, nat_lt, slice_index_or, slice_set}
use Rattle.cells.specs.declared.Field.{Field}
use Rattle.cells.specs.declared.Field.TheVariants as field
use Rattle.cells.specs.declared.Source.{Source}
use Rattle.cells.specs.declared.Source.TheVariants.{Nowhere, Hand, Cell as CellSide}
use Rattle.cells.specs.declared.Cell.{Cell}
use Rattle.cells.specs.declared.Cell.TheVariants.{Blank}
use Rattle.graph.specs.Places.{field_of, is_node}
use Rattle.store.specs.declared.Mode.{Mode}
use Rattle.store.specs.declared.Mode.TheVariants.{Settled, Working, Collecting}
use Rattle.store.specs.Model.{Model}
use Rattle.store.specs.Fields.{with_side}
use Rattle.collector.specs.Steps.{is_pair, source_at}

-- the place of the next step, if one is left
abbrev pub place_left : Mode → Option Source
place_left Settled = None
place_left Working = None
place_left (Collecting s c n) = cond (nat_lt s (16 + 2 * c)) (Some (source_at s)) None

-- the new cell that a place belongs to; a hand belongs to none
abbrev pub cell_at_place : {V : Type 0} → List (Cell V) → Source → Cell V
cell_at_place new Nowhere = Blank
cell_at_place new (Hand h) = Blank
cell_at_place new (CellSide a s) = slice_index_or new a Blank

-- the hands, and the new cells, with a field set at a place, where the place's cell is known
abbrev pub hands_at : Source → Field → List Field → List Field
hands_at Nowhere f hands = hands
hands_at (Hand h) f hands = slice_set hands h f
hands_at (CellSide a s) f hands = hands

abbrev pub cells_at : {V : Type 0} → Source → Field → Cell V → List (Cell V) → List (Cell V)
cells_at Nowhere f c cells = cells
cells_at (Hand h) f c cells = cells
cells_at (CellSide a s) f c cells = slice_set cells a (with_side s f c)

abbrev pub with_hands_at : Model → Source → Field → Model
with_hands_at m place f = record { size = m.size; mark = m.mark; hands = hands_at place f m.hands; free = m.free; mode = m.mode }

-- a hand up to 15, or a side of a pair
abbrev pub place_fits : {V : Type 0} → Source → Cell V → Bool
place_fits Nowhere c = true
place_fits (Hand h) c = nat_lt h 16
place_fits (CellSide a s) c = is_pair c

-- whether the cell of a place can be visited: a hand has none, and a new cell is a pair or a leaf
abbrev pub visitable : {V : Type 0} → Source → Cell V → Bool
visitable Nowhere c = true
visitable (Hand h) c = true
visitable (CellSide a s) c = is_node c

-- what the place holds
abbrev pub field_there : {V : Type 0} → List Field → Source → Cell V → Field
field_there hands Nowhere c = field.Nil
field_there hands (Hand h) c = slice_index_or hands h field.Nil
field_there hands (CellSide a s) c = field_of s c
