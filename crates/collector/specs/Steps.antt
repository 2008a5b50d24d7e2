-- One step of a collection. Assumes nothing.
-- Steps visit places: the sixteen hands in the order of their numbers, then left and right of new cells 0, 1, 2 and on. The number
-- of a step is that of its place.
use Rattle.std.specs.Prelude.{ℕ, zero, suc, ◌+◌, ◌*◌, Bool, true, false, cond, not, ◌&&◌, ◌||◌, List, nat_lt, slice_index_or, slice_set}
use Rattle.cells.specs.declared.Tag.{Tag}
use Rattle.cells.specs.declared.Tag.TheVariants.{Unique, Sticky}
use Rattle.cells.specs.declared.Reference.{Reference}
use Rattle.cells.specs.declared.Field.{Field}
use Rattle.cells.specs.declared.Field.TheVariants.{Nil, To}
use Rattle.cells.specs.declared.Source.{Source}
use Rattle.cells.specs.declared.Source.TheVariants.{Nowhere, Hand, Cell as CellSide}
use Rattle.cells.specs.declared.Cell.{Cell}
use Rattle.cells.specs.declared.Cell.TheVariants.{Blank, Pair, Leaf, Moved}
use Rattle.graph.specs.Places.{place_of, cell_of, side_of, holds, is_node}
use Rattle.store.specs.Fields.{unique, sticky, is_unique, with_side}

-- a collection on its way: the bound of the old cells, the room for new ones, the hands, both banks, and what is counted
pub record Tour (V : Type 0) : Type 0 where
  pub mark : ℕ
  pub size : ℕ
  pub hands : List Field
  pub old : List (Cell V)
  pub new : List (Cell V)
  pub steps : ℕ
  pub copied : ℕ
  pub marks : ℕ

-- all places of hands and copied cells are visited
abbrev pub finished : {V : Type 0} → Tour V → Bool
finished t = not (nat_lt t.steps (16 + 2 * t.copied))

-- ---- places

-- the hands, and the new cells, with a field set at a place
abbrev pub hands_with : ℕ → Field → List Field → List Field
hands_with p f hands = cond (nat_lt p 16) (slice_set hands p f) hands

abbrev pub cells_with : {V : Type 0} → ℕ → Field → List (Cell V) → List (Cell V)
cells_with p f cells = cond (nat_lt p 16) cells (slice_set cells (cell_of p) (with_side (side_of p) f (slice_index_or cells (cell_of p) Blank)))

-- a place as the source of a moved cell, and back
abbrev pub source_at : ℕ → Source
source_at p = cond (nat_lt p 16) (Hand p) (CellSide (cell_of p) (side_of p))

abbrev pub place_from : Source → ℕ
place_from Nowhere = 0
place_from (Hand h) = h
place_from (CellSide a s) = place_of s a

abbrev pub is_pair : {V : Type 0} → Cell V → Bool
is_pair Blank = false
is_pair (Pair l r) = true
is_pair (Leaf v) = false
is_pair (Moved f s) = false

-- a source is a hand up to 15 or a field of a copied pair
abbrev pub source_good : {V : Type 0} → ℕ → List (Cell V) → Source → Bool
source_good copied new Nowhere = false
source_good copied new (Hand h) = nat_lt h 16
source_good copied new (CellSide a s) = nat_lt a copied && is_pair (slice_index_or new a Blank)

-- ---- what spoils a step

-- a forward leads to no copied cell, or a source is needed that is no place
abbrev pub forward_spoiled : {V : Type 0} → Tour V → Tag → Reference → Source → Bool
forward_spoiled t Sticky f s = not (nat_lt f.address t.copied)
forward_spoiled t Unique f s = not (nat_lt f.address t.copied) || not (source_good t.copied t.new s)

-- the old cell is blank, there is no unused new address for it, or its forward is wrong
abbrev pub cell_spoiled : {V : Type 0} → Tour V → Cell V → Bool
cell_spoiled t Blank = true
cell_spoiled t (Pair l r) = not (nat_lt t.copied t.size)
cell_spoiled t (Leaf v) = not (nat_lt t.copied t.size)
cell_spoiled t (Moved f s) = forward_spoiled t f.tag f s

-- the reference leads at or past the mark, or to a wrong cell
abbrev pub field_spoiled : {V : Type 0} → Tour V → Field → Bool
field_spoiled t Nil = false
field_spoiled t (To r) = not (nat_lt r.address t.mark) || cell_spoiled t (slice_index_or t.old r.address Blank)

-- the visited new cell is neither a pair nor a leaf, or the field there is wrong
abbrev pub step_spoiled : {V : Type 0} → Tour V → Bool
step_spoiled t =
    (not (nat_lt t.steps 16) && not (is_node (slice_index_or t.new (cell_of t.steps) Blank)))
    || field_spoiled t (holds t.hands t.new t.steps)

-- ---- what a step does

-- nothing but that the place is visited
abbrev pub passed : {V : Type 0} → Tour V → Tour V
passed t = record { mark = t.mark; size = t.size; hands = t.hands; old = t.old; new = t.new; steps = suc t.steps; copied = t.copied; marks = t.marks }

-- the old cell, marked where the reference was STICKY: moved, forward UNIQUE, source this place
abbrev pub marked_old : {V : Type 0} → Tour V → Reference → List (Cell V)
marked_old t r = cond (is_unique r.tag) t.old (slice_set t.old r.address (Moved (record { tag = Unique; address = t.copied }) (source_at t.steps)))

-- A cell is copied to the next unused new address, and the place gets a UNIQUE reference to it.
abbrev pub copied_over : {V : Type 0} → Tour V → Reference → Cell V → Tour V
copied_over t r c =
    let p = t.steps in
    let f = unique t.copied in
    record {
      mark = t.mark;
      size = t.size;
      hands = hands_with p f t.hands;
      old = marked_old t r;
      new = cells_with p f (slice_set t.new t.copied c);
      steps = suc p;
      copied = suc t.copied;
      marks = cond (is_unique r.tag) t.marks (suc t.marks);
    }

-- a STICKY forward is taken over
abbrev pub taken_over : {V : Type 0} → Tour V → Reference → Tour V
taken_over t f =
    let p = t.steps in
    record {
      mark = t.mark;
      size = t.size;
      hands = hands_with p (To f) t.hands;
      old = t.old;
      new = cells_with p (To f) t.new;
      steps = suc p;
      copied = t.copied;
      marks = t.marks;
    }

-- A UNIQUE forward becomes STICKY, at the old cell, at this place and at the source.
abbrev pub second_met : {V : Type 0} → Tour V → Reference → Reference → Source → Tour V
second_met t r f s =
    let p = t.steps in
    let q = place_from s in
    let g = sticky f.address in
    record {
      mark = t.mark;
      size = t.size;
      hands = hands_with q g (hands_with p g t.hands);
      old = slice_set t.old r.address (Moved (record { tag = Sticky; address = f.address }) s);
      new = cells_with q g (cells_with p g t.new);
      steps = suc p;
      copied = t.copied;
      marks = suc t.marks;
    }

abbrev pub forwarded : {V : Type 0} → Tour V → Reference → Tag → Reference → Source → Tour V
forwarded t r Sticky f s = taken_over t f
forwarded t r Unique f s = second_met t r f s

abbrev pub met_cell : {V : Type 0} → Tour V → Reference → Cell V → Tour V
met_cell t r Blank = t
met_cell t r (Pair a b) = copied_over t r (Pair a b)
met_cell t r (Leaf v) = copied_over t r (Leaf v)
met_cell t r (Moved f s) = forwarded t r f.tag f s

abbrev pub met_field : {V : Type 0} → Tour V → Field → Tour V
met_field t Nil = passed t
met_field t (To r) = met_cell t r (slice_index_or t.old r.address Blank)

-- one step that is not spoiled
unfoldable pub stepped : {V : Type 0} → Tour V → Tour V
stepped t = met_field t (holds t.hands t.new t.steps)

-- ---- several steps

-- where a collection stands, and whether the next step is spoiled
pub record Stand (V : Type 0) : Type 0 where
  pub tour : Tour V
  pub broken : Bool

-- as many steps as are allowed, as are left, and as are not spoiled
unfoldable pub march : {V : Type 0} → ℕ → Tour V → Stand V
unfolding stepped
march zero t = record { tour = t; broken = false }
march (suc n) t = cond (finished t) (record { tour = t; broken = false }) (cond (step_spoiled t) (record { tour = t; broken = true }) (march n (stepped t)))
