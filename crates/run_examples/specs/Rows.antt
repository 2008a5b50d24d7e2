-- Runs over points, each with the answers and the image that it must show. Assumes nothing.
use Rattle.std.specs.Prelude.{ℕ, Bool, true, false, List, [], ◌∷◌, ◌++◌, map, replicate, pos, Ok, Err, Option, Result, Float}
use Rattle.std.specs.Float.{fin}
use Rattle.cells.specs.declared.Side.TheVariants.{Left}
use Rattle.cells.specs.declared.Cell.{Cell}
use Rattle.cells.specs.declared.Cell.TheVariants.{Blank}
use Rattle.cells.specs.declared.causes.Cause.{Cause}
use Rattle.cells.specs.declared.causes.Cause.TheVariants.{NoRoom}
use Rattle.kinds.specs.declared.points.Point.{Point}
use Rattle.kinds.specs.PointKind.{lawful_point, tidied_point, word_point}
use Rattle.store.specs.declared.Sight.TheVariants.{ALeaf}
use Rattle.store.specs.Calls.{pair, leaf, copy, load, store, swap, clear, look, done, sight}
use Rattle.collector.specs.Collections.{ready, stepped_by, kept_marks}
use Rattle.runs.specs.Worlds.{Event, calls, begins, slices, finishes, World, Said, answered, replied, new_world, answer, after, run}
use Rattle.runs.specs.Law.{kept}
use Rattle.images.specs.Layout.{image_of}

-- a run on blank cells, and what it must show: each call's answer, and at the end the free list, and the hands and kept cells as an image has them
pub record Row (V : Type 0) : Type 0 where
  pub size : ℕ
  pub events : List (Event V)
  pub answers : List (Result (Said V) Cause)
  pub free : List ℕ
  pub image : List ℕ

abbrev pub blanks : {V : Type 0} → ℕ → List (Cell V)
blanks n = replicate n Blank

-- ---- what is computed

unfoldable pub answers_of : {V : Type 0} → (V → Option V) → World V → List (Event V) → List (Result (Said V) Cause)
unfolding after
answers_of tidied w [] = []
answers_of tidied w (e ∷ es) = answer tidied w e ∷ answers_of tidied (after tidied w e) es

-- the row that the definitions give for the same calls, with the members of the leaf kind and its number
abbrev pub computed : {V : Type 0} → (V → Bool) → (V → Option V) → (V → ℕ) → ℕ → Row V → Row V
computed lawful tidied word number r =
    let w = run tidied (new_world (blanks r.size)) r.events in
    record {
      size = r.size;
      events = r.events;
      answers = answers_of tidied (new_world (blanks r.size)) r.events;
      free = w.banks.model.free;
      image = image_of lawful word number w.banks.model.hands (kept w.banks);
    }

-- ---- calls and answers, shortly

-- a zero with its sign
abbrev pub zero_of : Bool → Float
zero_of negative = fin negative 0 (pos 0)

-- minus zero and zero, as typed and as stored
abbrev pub typed : Point
typed = record { load = zero_of true; reading = zero_of false }

abbrev pub tidy : Point
tidy = record { load = zero_of false; reading = zero_of false }

abbrev pub ok : {V : Type 0} → Result (Said V) Cause
ok = Ok (answered done)

abbrev pub full : {V : Type 0} → Result (Said V) Cause
full = Err NoRoom

abbrev pub begun : {V : Type 0} → Result (Said V) Cause
begun = Ok (replied ready)

abbrev pub keeps : {V : Type 0} → ℕ → ℕ → Result (Said V) Cause
keeps cells marks = Ok (replied (kept_marks cells marks))

-- ---- the table

-- the tidied minus zero under a pair
abbrev pub tidied_under_a_pair : Row Point
tidied_under_a_pair = record {
  size = 2;
  events = calls 2 (leaf 0 typed) ∷ calls 2 (pair 1) ∷ calls 2 (store 1 Left 0) ∷ calls 2 (clear 0) ∷ begins 2 (blanks 2) ∷ finishes 2 2 ∷ [];
  answers = ok ∷ ok ∷ ok ∷ ok ∷ begun ∷ keeps 2 1 ∷ [];
  free = [];
  image =
      0x00 ∷ 0x01 ∷ 0x00 ∷ 0x02 ∷ 0x00 ∷ 0x00 ∷ 0x00 ∷ 0x00 ∷ 0x80 ∷ 0x00 ∷ 0x00 ∷ 0x00
      ∷ (replicate 56 0 ++ (0x40 ∷ 0x80 ∷ 0x00 ∷ 0x00 ∷ 0x01 ∷ 0x00 ∷ 0x00 ∷ 0x00 ∷ 0x00 ∷ 0x80 ∷ replicate 8 0));
}

-- the empty store and its sixteen steps
abbrev pub empty_store : Row Point
empty_store = record {
  size = 1;
  events = begins 1 (blanks 1) ∷ slices 1 1 100 ∷ finishes 1 1 ∷ [];
  answers = begun ∷ Ok (replied (stepped_by 16)) ∷ keeps 0 0 ∷ [];
  free = [];
  image = 0x00 ∷ 0x01 ∷ 0x00 ∷ 0x00 ∷ replicate 64 0;
}

-- a pair that holds itself
abbrev pub holds_itself : Row Point
holds_itself = record {
  size = 2;
  events = calls 2 (pair 0) ∷ calls 2 (store 0 Left 0) ∷ begins 2 (blanks 2) ∷ finishes 2 2 ∷ [];
  answers = ok ∷ ok ∷ begun ∷ keeps 1 2 ∷ [];
  free = [];
  image = 0x00 ∷ 0x01 ∷ 0x00 ∷ 0x01 ∷ 0xC0 ∷ 0x00 ∷ 0x00 ∷ 0x00 ∷ (replicate 60 0 ++ (0x40 ∷ 0xC0 ∷ replicate 7 0));
}

-- a store of one cell
abbrev pub one_cell : Row Point
one_cell = record {
  size = 1;
  events = calls 1 (pair 0) ∷ calls 1 (pair 0) ∷ calls 1 (pair 1) ∷ calls 1 (copy 1 0) ∷ calls 1 (pair 0) ∷ [];
  answers = ok ∷ ok ∷ full ∷ ok ∷ full ∷ [];
  free = [];
  image = 0x00 ∷ 0x01 ∷ 0x00 ∷ 0x01 ∷ 0xC0 ∷ 0x00 ∷ 0x00 ∷ 0x00 ∷ 0xC0 ∷ 0x00 ∷ 0x00 ∷ 0x00 ∷ (replicate 56 0 ++ (0x40 ∷ replicate 8 0));
}

-- the same after Clear and a collection
abbrev pub one_cell_collected : Row Point
one_cell_collected = record {
  size = 1;
  events = one_cell.events ++ (calls 1 (clear 0) ∷ begins 1 (blanks 1) ∷ finishes 1 1 ∷ []);
  answers = one_cell.answers ++ (ok ∷ begun ∷ keeps 1 1 ∷ []);
  free = [];
  image = 0x00 ∷ 0x01 ∷ 0x00 ∷ 0x01 ∷ 0x00 ∷ 0x00 ∷ 0x00 ∷ 0x00 ∷ 0x80 ∷ 0x00 ∷ 0x00 ∷ 0x00 ∷ (replicate 56 0 ++ (0x40 ∷ replicate 8 0));
}

-- a pair swapped into itself, and room again after a collection
abbrev pub swapped_into_itself : Row Point
swapped_into_itself = record {
  size = 1;
  events = calls 1 (pair 0) ∷ calls 1 (swap 0 Left 0) ∷ calls 1 (pair 0) ∷ begins 1 (blanks 1) ∷ finishes 1 1 ∷ calls 1 (pair 0) ∷ [];
  answers = ok ∷ ok ∷ full ∷ begun ∷ keeps 0 0 ∷ ok ∷ [];
  free = [];
  image = 0x00 ∷ 0x01 ∷ 0x00 ∷ 0x01 ∷ 0x80 ∷ 0x00 ∷ 0x00 ∷ 0x00 ∷ (replicate 60 0 ++ (0x40 ∷ replicate 8 0));
}

-- a loaded leaf that outlives its pair
abbrev pub loaded_leaf : Row Point
loaded_leaf = record {
  size = 3;
  events =
      calls 3 (pair 0) ∷ calls 3 (leaf 1 typed) ∷ calls 3 (swap 0 Left 1) ∷ calls 3 (load 0 0 Left) ∷ calls 3 (pair 2) ∷ calls 3 (look 0) ∷ [];
  answers = ok ∷ ok ∷ ok ∷ ok ∷ ok ∷ Ok (answered (sight (ALeaf tidy))) ∷ [];
  free = [];
  image =
      0x00 ∷ 0x01 ∷ 0x00 ∷ 0x02 ∷ 0xC0 ∷ 0x00 ∷ 0x00 ∷ 0x01 ∷ 0x00 ∷ 0x00 ∷ 0x00 ∷ 0x00 ∷ 0x80 ∷ 0x00 ∷ 0x00 ∷ 0x00
      ∷ (replicate 52 0 ++ (0x40 ∷ (replicate 8 0 ++ (0x80 ∷ replicate 8 0))));
}

-- one leaf in two hands
abbrev pub two_hands : Row Point
two_hands = record {
  size = 2;
  events = calls 2 (leaf 0 typed) ∷ calls 2 (copy 1 0) ∷ begins 2 (blanks 2) ∷ finishes 2 2 ∷ [];
  answers = ok ∷ ok ∷ begun ∷ keeps 1 2 ∷ [];
  free = [];
  image = 0x00 ∷ 0x01 ∷ 0x00 ∷ 0x01 ∷ 0xC0 ∷ 0x00 ∷ 0x00 ∷ 0x00 ∷ 0xC0 ∷ 0x00 ∷ 0x00 ∷ 0x00 ∷ (replicate 56 0 ++ (0x80 ∷ replicate 8 0));
}

abbrev pub table : List (Row Point)
table =
    tidied_under_a_pair ∷ empty_store ∷ holds_itself ∷ one_cell ∷ one_cell_collected ∷ swapped_into_itself ∷ loaded_leaf ∷ two_hands ∷ []

-- the table that the definitions give
abbrev pub computed_table : List (Row Point)
computed_table = map (computed lawful_point tidied_point word_point 1) table
