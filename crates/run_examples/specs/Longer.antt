-- Longer runs, with answers from an independent reference. Assumes nothing.
-- Leaves are numbers that stand for themselves: one that does not fit 64 bits is refused.
use Rattle.std.specs.Prelude.{ℕ, ◌^◌, Bool, true, cond, List, [], ◌∷◌, ◌++◌, map, replicate, Some, None, Ok, Err, Option, Result, nat_lt}
use Rattle.cells.specs.declared.Side.TheVariants.{Left, Right}
use Rattle.cells.specs.declared.causes.Cause.{Cause}
use Rattle.cells.specs.declared.causes.Cause.TheVariants.{Collecting, LeafCell, NilHand, NoRoom, NoSuchHand, NotCollecting, OtherSize, ValueRefused}
use Rattle.store.specs.declared.Sight.{Sight}
use Rattle.store.specs.declared.Sight.TheVariants.{Nothing, APair}
use Rattle.store.specs.Calls.{pair, leaf, copy, load, store, swap, clear, look, sight}
use Rattle.collector.specs.Collections.{stepped_by}
use Rattle.runs.specs.Worlds.{calls, begins, slices, finishes, abandons, Said, answered, replied}
use Rattle.run_examples.specs.Rows.{Row, blanks, computed, ok, begun, keeps}

abbrev pub small : ℕ → Bool
small n = nat_lt n (2 ^ 64)

abbrev pub tidied : ℕ → Option ℕ
tidied n = cond (small n) (Some n) None

abbrev pub no : Cause → Result (Said ℕ) Cause
no c = Err c

abbrev pub sees : Sight ℕ → Result (Said ℕ) Cause
sees s = Ok (answered (sight s))

abbrev pub steps : ℕ → Result (Said ℕ) Cause
steps n = Ok (replied (stepped_by n))

-- banks of other sizes are refused, and leave everything as it was
abbrev pub other_sizes : Row ℕ
other_sizes = record {
  size = 2;
  events =
      calls 2 (pair 0) ∷ calls 3 (pair 0) ∷ begins 2 (blanks 3) ∷ begins 1 (blanks 2) ∷ begins 2 (blanks 2) ∷ slices 2 1 5 ∷ finishes 3 2 ∷ abandons 1
      ∷ finishes 2 2 ∷ [];
  answers =
      ok ∷ no OtherSize ∷ no OtherSize ∷ no OtherSize ∷ begun ∷ no OtherSize ∷ no OtherSize ∷ no OtherSize ∷ keeps 1 0 ∷ [];
  free = [];
  image = 0x00 ∷ 0x07 ∷ 0x00 ∷ 0x01 ∷ 0x80 ∷ 0x00 ∷ 0x00 ∷ 0x00 ∷ (replicate 60 0 ++ (0x40 ∷ replicate 8 0));
}

abbrev pub first : Row ℕ
first = record {
  size = 9;
  events =
      slices 9 9 100000 ∷ calls 9 (store 14 Left 3) ∷ calls 9 (store 12 Right 6) ∷ calls 9 (swap 16 Left 12) ∷ slices 9 9 1 ∷
      calls 9 (pair 12) ∷ finishes 9 9 ∷ calls 9 (look 16) ∷ calls 9 (leaf 1 0x3DCCCCCD46EA5F00) ∷ calls 9 (look 7) ∷
      slices 9 9 5 ∷ [];
  answers =
      no NotCollecting ∷ no NilHand ∷ no NilHand ∷ no NoSuchHand ∷ no NotCollecting ∷ ok ∷ no NotCollecting ∷ no NoSuchHand ∷ ok ∷
      sees Nothing ∷ no NotCollecting ∷ [];
  free = [];
  image = (0x00 ∷ 0x07 ∷ 0x00 ∷ 0x02 ∷ 0x00 ∷ 0x00 ∷ 0x00 ∷ 0x00 ∷ 0x80 ∷ 0x00 ∷ 0x00 ∷ 0x01 ∷ (replicate 40 0 ++ (0x80 ∷ (replicate 15 0 ++ (0x40 ∷ (replicate 8 0 ++ (0x80 ∷ 0x3D ∷ 0xCC ∷ 0xCC ∷ 0xCD ∷ 0x46 ∷ 0xEA ∷ 0x5F ∷ 0x00 ∷ [])))))));
}

abbrev pub second : Row ℕ
second = record {
  size = 25;
  events =
      calls 25 (load 0 1 Left) ∷ calls 25 (look 16) ∷ calls 25 (look 14) ∷ calls 25 (pair 9) ∷ calls 25 (copy 13 4) ∷
      calls 25 (look 17) ∷ calls 25 (pair 17) ∷ begins 25 (blanks 25) ∷ finishes 25 25 ∷ finishes 25 25 ∷
      calls 25 (leaf 9 0x10000000000000000) ∷ calls 25 (leaf 12 0x10000000000000000) ∷ calls 25 (look 10) ∷ calls 25 (look 14) ∷
      calls 25 (clear 10) ∷ slices 25 25 1 ∷ slices 25 25 0 ∷ begins 25 (blanks 25) ∷ finishes 25 25 ∷
      calls 25 (load 14 15 Right) ∷ calls 25 (store 15 Right 16) ∷ begins 25 (blanks 25) ∷ calls 25 (pair 10) ∷ finishes 25 25 ∷
      calls 25 (leaf 8 0xFFFFFFFF) ∷ calls 25 (leaf 3 0x10000000000000000) ∷ calls 25 (leaf 8 0x1F0700007FFFFFFF) ∷
      calls 25 (pair 3) ∷ begins 25 (blanks 25) ∷ finishes 25 25 ∷ finishes 25 25 ∷ calls 25 (look 13) ∷
      calls 25 (load 12 9 Right) ∷ calls 25 (clear 0) ∷ calls 25 (leaf 9 0x10000000000000000) ∷ calls 25 (pair 3) ∷
      begins 25 (blanks 25) ∷ finishes 25 25 ∷ [];
  answers =
      no NilHand ∷ no NoSuchHand ∷ sees Nothing ∷ ok ∷ ok ∷ no NoSuchHand ∷ no NoSuchHand ∷ begun ∷ keeps 1 0 ∷ no NotCollecting ∷
      no ValueRefused ∷ no ValueRefused ∷ sees Nothing ∷ sees Nothing ∷ ok ∷ no NotCollecting ∷ no NotCollecting ∷ begun ∷
      keeps 1 0 ∷ no NilHand ∷ no NoSuchHand ∷ begun ∷ no Collecting ∷ keeps 1 0 ∷ ok ∷ no ValueRefused ∷ ok ∷ ok ∷ begun ∷
      keeps 3 0 ∷ no NotCollecting ∷ sees Nothing ∷ ok ∷ ok ∷ no ValueRefused ∷ ok ∷ begun ∷ keeps 3 0 ∷ [];
  free = [];
  image = (0x00 ∷ 0x07 ∷ 0x00 ∷ 0x03 ∷ (replicate 12 0 ++ (0x80 ∷ (replicate 19 0 ++ (0x80 ∷ 0x00 ∷ 0x00 ∷ 0x01 ∷ 0x80 ∷ 0x00 ∷ 0x00 ∷ 0x02 ∷ (replicate 24 0 ++ (0x40 ∷ (replicate 8 0 ++ (0x80 ∷ 0x1F ∷ 0x07 ∷ 0x00 ∷ 0x00 ∷ 0x7F ∷ 0xFF ∷ 0xFF ∷ 0xFF ∷ 0x40 ∷ (replicate 8 0 ++ []))))))))));
}

abbrev pub third : Row ℕ
third = record {
  size = 2;
  events =
      begins 2 (blanks 2) ∷ finishes 2 2 ∷ calls 2 (swap 1 Left 3) ∷ slices 2 2 100000 ∷ calls 2 (leaf 1 0x47F120653DCCCCCD) ∷
      calls 2 (load 3 0 Right) ∷ slices 2 2 100000 ∷ calls 2 (swap 2 Left 0) ∷ calls 2 (look 2) ∷
      calls 2 (leaf 3 0x7F7FFFFF00000000) ∷ calls 2 (store 2 Left 1) ∷ calls 2 (pair 2) ∷ [];
  answers =
      begun ∷ keeps 0 0 ∷ no NilHand ∷ no NotCollecting ∷ ok ∷ no NilHand ∷ no NotCollecting ∷ no NilHand ∷ sees Nothing ∷ ok ∷
      no NilHand ∷ no NoRoom ∷ [];
  free = [];
  image = (0x00 ∷ 0x07 ∷ 0x00 ∷ 0x02 ∷ 0x00 ∷ 0x00 ∷ 0x00 ∷ 0x00 ∷ 0x80 ∷ 0x00 ∷ 0x00 ∷ 0x00 ∷ 0x00 ∷ 0x00 ∷ 0x00 ∷ 0x00 ∷ 0x80 ∷ 0x00 ∷ 0x00 ∷ 0x01 ∷ (replicate 48 0 ++ (0x80 ∷ 0x47 ∷ 0xF1 ∷ 0x20 ∷ 0x65 ∷ 0x3D ∷ 0xCC ∷ 0xCC ∷ 0xCD ∷ 0x80 ∷ 0x7F ∷ 0x7F ∷ 0xFF ∷ 0xFF ∷ 0x00 ∷ 0x00 ∷ 0x00 ∷ 0x00 ∷ [])));
}

abbrev pub fourth : Row ℕ
fourth = record {
  size = 5;
  events =
      calls 5 (pair 2) ∷ begins 5 (blanks 5) ∷ finishes 5 5 ∷ calls 5 (leaf 3 0x10000000000000000) ∷ calls 5 (load 1 2 Right) ∷
      finishes 5 5 ∷ calls 5 (pair 3) ∷ calls 5 (copy 0 3) ∷ slices 5 5 0 ∷ calls 5 (clear 1) ∷ calls 5 (pair 1) ∷
      calls 5 (look 2) ∷ calls 5 (leaf 3 0x10000000000000000) ∷ calls 5 (pair 0) ∷ calls 5 (leaf 1 0x10000000000000000) ∷
      calls 5 (load 3 3 Left) ∷ calls 5 (look 3) ∷ calls 5 (leaf 0 0x10000007FFFFFFF) ∷ slices 5 5 1 ∷ calls 5 (pair 0) ∷
      finishes 5 5 ∷ calls 5 (pair 2) ∷ calls 5 (leaf 2 0x10000000000000000) ∷ calls 5 (swap 3 Left 3) ∷ calls 5 (clear 2) ∷
      begins 5 (blanks 5) ∷ finishes 5 5 ∷ calls 5 (swap 0 Left 1) ∷ calls 5 (store 1 Right 1) ∷ calls 5 (pair 0) ∷
      calls 5 (store 1 Left 2) ∷ calls 5 (load 2 3 Right) ∷ slices 5 5 100000 ∷ slices 5 5 0 ∷ calls 5 (store 1 Left 2) ∷
      calls 5 (pair 0) ∷ finishes 5 5 ∷ calls 5 (clear 3) ∷ calls 5 (leaf 0 0x10000000000000000) ∷ calls 5 (swap 2 Left 2) ∷
      calls 5 (pair 1) ∷ [];
  answers =
      ok ∷ begun ∷ keeps 1 0 ∷ no ValueRefused ∷ ok ∷ no NotCollecting ∷ ok ∷ ok ∷ no NotCollecting ∷ ok ∷ ok ∷
      sees (APair true true) ∷ no ValueRefused ∷ ok ∷ no ValueRefused ∷ ok ∷ sees Nothing ∷ ok ∷ no NotCollecting ∷ ok ∷
      no NotCollecting ∷ ok ∷ no ValueRefused ∷ no NilHand ∷ ok ∷ begun ∷ keeps 2 0 ∷ ok ∷ no NilHand ∷ ok ∷ no NilHand ∷
      no NilHand ∷ no NotCollecting ∷ no NotCollecting ∷ no NilHand ∷ ok ∷ no NotCollecting ∷ ok ∷ no ValueRefused ∷ no NilHand ∷
      ok ∷ [];
  free = [];
  image = (0x00 ∷ 0x07 ∷ 0x00 ∷ 0x02 ∷ 0x80 ∷ 0x00 ∷ 0x00 ∷ 0x00 ∷ 0x80 ∷ 0x00 ∷ 0x00 ∷ 0x01 ∷ (replicate 56 0 ++ (0x40 ∷ (replicate 8 0 ++ (0x40 ∷ (replicate 8 0 ++ []))))));
}

abbrev pub fifth : Row ℕ
fifth = record {
  size = 9;
  events =
      calls 9 (look 2) ∷ calls 9 (pair 0) ∷ abandons 9 ∷ calls 9 (load 1 9 Left) ∷ calls 9 (copy 13 1) ∷ finishes 9 9 ∷
      finishes 9 9 ∷ slices 9 9 100000 ∷ calls 9 (clear 14) ∷ calls 9 (store 2 Left 4) ∷ calls 9 (store 6 Right 9) ∷ [];
  answers =
      sees Nothing ∷ ok ∷ no NotCollecting ∷ no NilHand ∷ ok ∷ no NotCollecting ∷ no NotCollecting ∷ no NotCollecting ∷ ok ∷
      no NilHand ∷ no NilHand ∷ [];
  free = [];
  image = (0x00 ∷ 0x07 ∷ 0x00 ∷ 0x01 ∷ 0x80 ∷ (replicate 63 0 ++ (0x40 ∷ (replicate 8 0 ++ []))));
}

abbrev pub sixth : Row ℕ
sixth = record {
  size = 25;
  events =
      calls 25 (look 8) ∷ calls 25 (load 9 9 Left) ∷ calls 25 (swap 9 Left 6) ∷ calls 25 (leaf 14 0x10000000000000000) ∷
      calls 25 (look 5) ∷ finishes 25 25 ∷ begins 25 (blanks 25) ∷ finishes 25 25 ∷ calls 25 (pair 11) ∷
      calls 25 (leaf 13 0x7F7FFFFF41440000) ∷ calls 25 (pair 9) ∷ finishes 25 25 ∷ [];
  answers =
      sees Nothing ∷ no NilHand ∷ no NilHand ∷ no ValueRefused ∷ sees Nothing ∷ no NotCollecting ∷ begun ∷ keeps 0 0 ∷ ok ∷ ok ∷
      ok ∷ no NotCollecting ∷ [];
  free = [];
  image = (0x00 ∷ 0x07 ∷ 0x00 ∷ 0x03 ∷ (replicate 36 0 ++ (0x80 ∷ 0x00 ∷ 0x00 ∷ 0x02 ∷ 0x00 ∷ 0x00 ∷ 0x00 ∷ 0x00 ∷ 0x80 ∷ 0x00 ∷ 0x00 ∷ 0x00 ∷ 0x00 ∷ 0x00 ∷ 0x00 ∷ 0x00 ∷ 0x80 ∷ 0x00 ∷ 0x00 ∷ 0x01 ∷ (replicate 8 0 ++ (0x40 ∷ (replicate 8 0 ++ (0x80 ∷ 0x7F ∷ 0x7F ∷ 0xFF ∷ 0xFF ∷ 0x41 ∷ 0x44 ∷ 0x00 ∷ 0x00 ∷ 0x40 ∷ (replicate 8 0 ++ []))))))));
}

abbrev pub seventh : Row ℕ
seventh = record {
  size = 9;
  events =
      calls 9 (leaf 15 0x10000000000000000) ∷ calls 9 (copy 3 15) ∷ calls 9 (look 12) ∷ calls 9 (leaf 3 0x3000080000000) ∷
      calls 9 (pair 15) ∷ finishes 9 9 ∷ calls 9 (leaf 0 0x700000080000000) ∷ calls 9 (pair 13) ∷ calls 9 (copy 11 14) ∷
      slices 9 9 17 ∷ calls 9 (leaf 9 0x10000000000000000) ∷ calls 9 (look 14) ∷ calls 9 (clear 2) ∷ finishes 9 9 ∷
      calls 9 (pair 6) ∷ calls 9 (load 1 15 Left) ∷ calls 9 (leaf 15 0x10000000000000000) ∷ calls 9 (pair 6) ∷
      calls 9 (leaf 12 0x10000000000000000) ∷ calls 9 (load 11 10 Right) ∷ slices 9 9 5 ∷ begins 9 (blanks 9) ∷ abandons 9 ∷
      calls 9 (leaf 14 0x70000007FFFFFFF) ∷ calls 9 (copy 14 1) ∷ calls 9 (look 7) ∷ calls 9 (load 13 9 Left) ∷ calls 9 (look 5) ∷
      calls 9 (swap 2 Right 6) ∷ calls 9 (pair 12) ∷ calls 9 (copy 10 7) ∷ calls 9 (load 5 4 Left) ∷ calls 9 (clear 12) ∷
      calls 9 (leaf 8 0x100000080000000) ∷ finishes 9 9 ∷ calls 9 (store 1 Left 3) ∷ calls 9 (look 7) ∷ slices 9 9 5 ∷
      calls 9 (pair 7) ∷ [];
  answers =
      no ValueRefused ∷ ok ∷ sees Nothing ∷ ok ∷ ok ∷ no NotCollecting ∷ ok ∷ ok ∷ ok ∷ no NotCollecting ∷ no ValueRefused ∷
      sees Nothing ∷ ok ∷ no NotCollecting ∷ ok ∷ ok ∷ no ValueRefused ∷ ok ∷ no ValueRefused ∷ no NilHand ∷ no NotCollecting ∷
      begun ∷ begun ∷ ok ∷ ok ∷ sees Nothing ∷ no NilHand ∷ sees Nothing ∷ no NilHand ∷ ok ∷ ok ∷ no NilHand ∷ ok ∷ ok ∷
      no NotCollecting ∷ no NilHand ∷ sees Nothing ∷ no NotCollecting ∷ ok ∷ [];
  free = [];
  image = (0x00 ∷ 0x07 ∷ 0x00 ∷ 0x02 ∷ (replicate 28 0 ++ (0x80 ∷ 0x00 ∷ 0x00 ∷ 0x01 ∷ 0x80 ∷ (replicate 31 0 ++ (0x80 ∷ 0x01 ∷ 0x00 ∷ 0x00 ∷ 0x00 ∷ 0x80 ∷ 0x00 ∷ 0x00 ∷ 0x00 ∷ 0x40 ∷ (replicate 8 0 ++ []))))));
}

abbrev pub eighth : Row ℕ
eighth = record {
  size = 25;
  events =
      calls 25 (store 1 Right 1) ∷ calls 25 (pair 1) ∷ calls 25 (clear 1) ∷ calls 25 (swap 1 Right 1) ∷ begins 25 (blanks 25) ∷
      slices 25 25 17 ∷ begins 25 (blanks 25) ∷ finishes 25 25 ∷ calls 25 (pair 1) ∷ [];
  answers =
      no NilHand ∷ ok ∷ ok ∷ no NilHand ∷ begun ∷ steps 16 ∷ no Collecting ∷ keeps 0 0 ∷ ok ∷ [];
  free = [];
  image = (0x00 ∷ 0x07 ∷ 0x00 ∷ 0x01 ∷ 0x00 ∷ 0x00 ∷ 0x00 ∷ 0x00 ∷ 0x80 ∷ (replicate 59 0 ++ (0x40 ∷ (replicate 8 0 ++ []))));
}

abbrev pub ninth : Row ℕ
ninth = record {
  size = 1;
  events =
      calls 1 (leaf 0 0x10000000000000000) ∷ finishes 1 1 ∷ calls 1 (copy 0 0) ∷ begins 1 (blanks 1) ∷ calls 1 (look 0) ∷
      slices 1 1 17 ∷ calls 1 (swap 0 Left 0) ∷ finishes 1 1 ∷ calls 1 (leaf 1 0x10000000000000000) ∷
      calls 1 (leaf 1 0x10000000000000000) ∷ calls 1 (leaf 1 0x30000FFFFFFFF) ∷ calls 1 (copy 0 0) ∷
      calls 1 (leaf 0 0x10000000000000000) ∷ calls 1 (leaf 0 0x3000000000000) ∷ calls 1 (load 1 1 Right) ∷
      calls 1 (leaf 0 0x700007FFFFFFF) ∷ calls 1 (copy 1 0) ∷ begins 1 (blanks 1) ∷ finishes 1 1 ∷ calls 1 (clear 1) ∷
      calls 1 (load 1 1 Right) ∷ calls 1 (pair 1) ∷ calls 1 (leaf 1 0x300000000004D) ∷ calls 1 (store 0 Left 1) ∷
      calls 1 (load 0 0 Left) ∷ calls 1 (load 0 0 Right) ∷ calls 1 (look 0) ∷ calls 1 (pair 0) ∷ slices 1 1 5 ∷
      calls 1 (load 1 0 Left) ∷ calls 1 (look 0) ∷ calls 1 (swap 1 Left 1) ∷ calls 1 (store 1 Left 1) ∷ calls 1 (swap 1 Left 1) ∷ [];
  answers =
      no ValueRefused ∷ no NotCollecting ∷ ok ∷ begun ∷ no Collecting ∷ steps 16 ∷ no Collecting ∷ keeps 0 0 ∷ no ValueRefused ∷
      no ValueRefused ∷ ok ∷ ok ∷ no ValueRefused ∷ no NoRoom ∷ no LeafCell ∷ no NoRoom ∷ ok ∷ begun ∷ keeps 0 0 ∷ ok ∷
      no NilHand ∷ ok ∷ ok ∷ no NilHand ∷ no NilHand ∷ no NilHand ∷ sees Nothing ∷ no NoRoom ∷ no NotCollecting ∷ no NilHand ∷
      sees Nothing ∷ no LeafCell ∷ no LeafCell ∷ no LeafCell ∷ [];
  free = [];
  image = (0x00 ∷ 0x07 ∷ 0x00 ∷ 0x01 ∷ 0x00 ∷ 0x00 ∷ 0x00 ∷ 0x00 ∷ 0x80 ∷ (replicate 59 0 ++ (0x80 ∷ 0x00 ∷ 0x03 ∷ 0x00 ∷ 0x00 ∷ 0x00 ∷ 0x00 ∷ 0x00 ∷ 0x4D ∷ [])));
}

abbrev pub tenth : Row ℕ
tenth = record {
  size = 5;
  events =
      finishes 5 5 ∷ calls 5 (load 1 1 Right) ∷ calls 5 (look 1) ∷ calls 5 (store 0 Left 1) ∷ calls 5 (store 1 Left 1) ∷
      calls 5 (leaf 0 0x800000BF800000) ∷ calls 5 (load 1 1 Left) ∷ begins 5 (blanks 5) ∷ calls 5 (clear 0) ∷ slices 5 5 0 ∷
      calls 5 (leaf 0 0x10000000000000000) ∷ [];
  answers =
      no NotCollecting ∷ no NilHand ∷ sees Nothing ∷ no NilHand ∷ no NilHand ∷ ok ∷ no NilHand ∷ begun ∷ no Collecting ∷ steps 0 ∷
      no Collecting ∷ [];
  free = [];
  image = (0x00 ∷ 0x07 ∷ 0x00 ∷ 0x01 ∷ 0x80 ∷ (replicate 63 0 ++ (0x80 ∷ 0x00 ∷ 0x80 ∷ 0x00 ∷ 0x00 ∷ 0xBF ∷ 0x80 ∷ 0x00 ∷ 0x00 ∷ [])));
}

abbrev pub eleventh : Row ℕ
eleventh = record {
  size = 3;
  events =
      calls 3 (store 1 Left 0) ∷ calls 3 (pair 3) ∷ calls 3 (pair 0) ∷ calls 3 (store 1 Left 1) ∷ slices 3 3 5 ∷
      calls 3 (leaf 0 0x10000000000000000) ∷ calls 3 (swap 0 Right 0) ∷ calls 3 (swap 3 Left 2) ∷ begins 3 (blanks 3) ∷
      finishes 3 3 ∷ begins 3 (blanks 3) ∷ finishes 3 3 ∷ calls 3 (pair 3) ∷ calls 3 (copy 2 1) ∷ slices 3 3 1 ∷ slices 3 3 0 ∷
      finishes 3 3 ∷ calls 3 (look 2) ∷ slices 3 3 1 ∷ calls 3 (copy 1 1) ∷ calls 3 (store 0 Right 3) ∷ slices 3 3 17 ∷
      calls 3 (clear 1) ∷ calls 3 (leaf 3 0x70000000000004D) ∷ calls 3 (load 2 1 Left) ∷ calls 3 (swap 0 Left 3) ∷
      calls 3 (leaf 3 0x10000000000000000) ∷ calls 3 (pair 1) ∷ calls 3 (leaf 2 0x7000080000000) ∷ calls 3 (store 1 Left 1) ∷
      calls 3 (load 0 2 Right) ∷ finishes 3 3 ∷ calls 3 (leaf 1 0x100000080000000) ∷ calls 3 (leaf 3 0x10000000000000000) ∷
      calls 3 (pair 0) ∷ calls 3 (clear 1) ∷ finishes 3 3 ∷ begins 3 (blanks 3) ∷ [];
  answers =
      no NilHand ∷ ok ∷ ok ∷ no NilHand ∷ no NotCollecting ∷ no ValueRefused ∷ ok ∷ ok ∷ begun ∷ keeps 1 0 ∷ begun ∷ keeps 1 0 ∷
      ok ∷ ok ∷ no NotCollecting ∷ no NotCollecting ∷ no NotCollecting ∷ sees Nothing ∷ no NotCollecting ∷ ok ∷ no NilHand ∷
      no NotCollecting ∷ ok ∷ ok ∷ no NilHand ∷ no NilHand ∷ no ValueRefused ∷ ok ∷ ok ∷ ok ∷ no LeafCell ∷ no NotCollecting ∷
      no NoRoom ∷ no ValueRefused ∷ no NoRoom ∷ ok ∷ no NotCollecting ∷ begun ∷ [];
  free = [];
  image = (0x00 ∷ 0x07 ∷ 0x00 ∷ 0x03 ∷ (replicate 8 0 ++ (0x80 ∷ 0x00 ∷ 0x00 ∷ 0x02 ∷ 0x80 ∷ (replicate 51 0 ++ (0x80 ∷ 0x07 ∷ 0x00 ∷ 0x00 ∷ 0x00 ∷ 0x00 ∷ 0x00 ∷ 0x00 ∷ 0x4D ∷ 0x40 ∷ 0xC0 ∷ 0x00 ∷ 0x00 ∷ 0x01 ∷ 0x00 ∷ 0x00 ∷ 0x00 ∷ 0x00 ∷ 0x80 ∷ 0x00 ∷ 0x07 ∷ 0x00 ∷ 0x00 ∷ 0x80 ∷ 0x00 ∷ 0x00 ∷ 0x00 ∷ [])))));
}

abbrev pub longer : List (Row ℕ)
longer = other_sizes ∷ first ∷ second ∷ third ∷ fourth ∷ fifth ∷ sixth ∷ seventh ∷ eighth ∷ ninth ∷ tenth ∷ eleventh ∷ []

-- the table that the definitions give
abbrev pub computed_longer : List (Row ℕ)
computed_longer = map (computed small tidied (λ n. n) 7) longer
