-- Lent bytes, nine to a cell: the nine bytes at an address, and what a put leaves of the others and of the cells.
use Rattle.std.proofs.Common.{◌≡◌, ℕ, suc, ◌+◌, ◌*◌, ◌/◌, ◌<◌, ◌≤◌, Bool, true, ◌≢◌, ◌⊎◌, List, [], ◌∷◌, ◌++◌, length, get_or, take, drop, set, Some, Option, sym, ap, ◌∙◌, ⊎_elim, add-suc, arith, lit<, drop-cons, rules}
use borrow.Rule.Slice.PartMut.{put_mid}
use Rattle.std.proofs.lemmas.List.{places, same_lists, drop_more, drop_at, drop-append-le, take-append-le, take-append-drop, length-append, length-drop, length-take-le, get_or-take, get_or-drop, get_or-set_same, get_or-set_other, length-set}
use Rattle.std.proofs.lemmas.List.FromFn.{length-map-range_with_len, get_or-map-range_with_len}
use Rattle.std.proofs.lemmas.Bool.{cases_eq, cases_lt, lt-ltb, le-ltb, cond-true, cond-false}
use Rattle.std.proofs.lemmas.Bool.Decides.{nat_tests}
use Rattle.cells.specs.declared.Cell.{Cell}
use Rattle.cells.specs.declared.Cell.TheVariants.{Blank}
use Rattle.cells.specs.Banks.{cell_at, after_put}
use Rattle.cells.specs.Leaves.{Laws}
use Rattle.packing.specs.Cells.{pack_cell, unpack_cell}
use Rattle.packing.proofs.Cells.{cell_length, cell_only}
use Rattle.banks.specs.Packed.{size_of, left_over, nine_at, nine_set, cell_in, packed_cells, packed_takes, packed_after}
use Rattle.banks.proofs.LentCells.{cell_at_in, cell_at_past}

-- nine bytes, written out
pub nine_listed : (bs : List ℕ) (p : ℕ) → p + 9 ≤ length bs
    → get_or bs p 0 ∷ get_or bs (p + 1) 0 ∷ get_or bs (p + 2) 0 ∷ get_or bs (p + 3) 0 ∷ get_or bs (p + 4) 0 ∷ get_or bs (p + 5) 0 ∷ get_or bs (p + 6) 0 ∷ get_or bs (p + 7) 0 ∷ get_or bs (p + 8) 0 ∷ [] ≡ take 9 (drop p bs)
nine_listed bs p h =
    let step : (k : ℕ) → k < 9 → drop (p + k) bs ≡ get_or bs (p + k) 0 ∷ drop (p + suc k) bs = λ k i. rw (add-suc p k) (drop-cons bs (p + k) 0 (omega arith)) in
    let start : drop p bs ≡ get_or bs p 0 ∷ drop (p + 1) bs = drop_more bs p 0 (omega arith) in
    cc (start, step 1 (lit< tt), step 2 (lit< tt), step 3 (lit< tt), step 4 (lit< tt), step 5 (lit< tt), step 6 (lit< tt), step 7 (lit< tt), step 8 (lit< tt))

-- a part of n elements: where it was written, and where it was not
part_here : (n p : ℕ) (xs ys : List ℕ) → p ≤ length xs → length ys ≡ n → take n (drop p (take p xs ++ (ys ++ drop (p + n) xs))) ≡ ys
part_here n p xs ys h l = same_lists _ _ (search (rules, places)) (λ k d i. grind (arith, places))

part_other : (n p q : ℕ) (xs ys : List ℕ) → p + n ≤ length xs → length ys ≡ n → (q + n ≤ p) ⊎ (p + n ≤ q) → take n (drop q (take p xs ++ (ys ++ drop (p + n) xs))) ≡ take n (drop q xs)
part_other n p q xs ys h l apart = same_lists _ _ (search (rules, places)) (λ k d i. grind (arith, places))

pub nine_at_here : (bs : List ℕ) (a : ℕ) (nine : List ℕ) → 9 * a ≤ length bs → length nine ≡ 9 → nine_at (nine_set bs a nine) a ≡ nine
nine_at_here bs a nine h l = part_here 9 (9 * a) bs nine h l

pub nine_at_other : (bs : List ℕ) (a b : ℕ) (nine : List ℕ) → 9 * a + 9 ≤ length bs → length nine ≡ 9 → b ≢ a → nine_at (nine_set bs a nine) b ≡ nine_at bs b
nine_at_other bs a b nine h l other =
    let apart : (9 * b + 9 ≤ 9 * a) ⊎ (9 * a + 9 ≤ 9 * b) = grind (arith, cases_lt a b) in
    part_other 9 (9 * a) (9 * b) bs nine h l apart

pub length_nine_set : (bs : List ℕ) (a : ℕ) (nine : List ℕ) → 9 * a + 9 ≤ length bs → length nine ≡ 9 → length (nine_set bs a nine) ≡ length bs
length_nine_set bs a nine h l = search (rules, places)

-- a part written in two steps: first what follows its first element, then that element
two_steps : (n p : ℕ) (xs ys : List ℕ) → p + (n + 1) ≤ length xs → length ys ≡ n + 1
    → set (put_mid (p + 1) n xs (take n (drop 1 ys))) p (get_or ys 0 0) ≡ take p xs ++ (ys ++ drop (p + (n + 1)) xs)
two_steps n p xs ys h l = same_lists _ _ (search (rules, places)) (λ k d i. grind (arith, places, get_or-set_same, cases_eq k p))

pub nine_set_steps : (bs : List ℕ) (a k : ℕ) (nine body : List ℕ) → 9 * a + 9 ≤ length bs → length nine ≡ 9 → k ≡ 8 → body ≡ take 8 (drop 1 nine)
    → set (put_mid (9 * a + 1) k bs body) (9 * a) (get_or nine 0 0) ≡ nine_set bs a nine
nine_set_steps bs a k nine body h l e f = rw (e, f) (two_steps 8 (9 * a) bs nine h l)

module _ {V : Type 0} (taken : ℕ → Option V) where
  pub length_packed : (bs : List ℕ) → length (packed_cells taken bs) ≡ size_of bs
  length_packed bs = length-map-range_with_len (λ a. unpack_cell taken (nine_at bs a)) 0 (size_of bs)

  get_d_packed : (bs : List ℕ) (a : ℕ) (d : Cell V) → a < size_of bs → get_or (packed_cells taken bs) a d ≡ unpack_cell taken (nine_at bs a)
  get_d_packed bs a d h = get_or-map-range_with_len (λ k. unpack_cell taken (nine_at bs k)) 0 (size_of bs) a a d h (omega arith)

  pub cell_at_packed : (bs : List ℕ) (a : ℕ) → cell_at (packed_cells taken bs) a ≡ cell_in taken bs a
  cell_at_packed bs a =
      let l = length_packed bs in
      ⊎_elim
      (λ h. cell_at_in (packed_cells taken bs) a Blank (omega arith) ∙ ap Some (get_d_packed bs a Blank h) ∙ sym (cond-true _ _ _ (lt-ltb a (size_of bs) h)))
      (λ h. cell_at_past (packed_cells taken bs) a (omega arith) ∙ sym (cond-false _ _ _ (le-ltb a (size_of bs) h)))
      (cases_lt a (size_of bs))

  packed_set : (bs : List ℕ) (a : ℕ) (nine : List ℕ) (c : Cell V) → a < size_of bs → length nine ≡ 9 → unpack_cell taken nine ≡ c → packed_cells taken (nine_set bs a nine) ≡ set (packed_cells taken bs) a c
  packed_set bs a nine c h l e =
      let long : 9 * a + 9 ≤ length bs = omega arith in
      let size : size_of (nine_set bs a nine) ≡ size_of bs = ap (λ n. n / 9) (length_nine_set bs a nine long l) in
      let was = length_packed bs in
      let is = length_packed (nine_set bs a nine) in
      let kept = length-set (packed_cells taken bs) a c in
      same_lists _ _ (omega arith)
      (λ k d i.
      let below : k < size_of bs = omega arith in
      get_d_packed (nine_set bs a nine) k d (omega arith)
      ∙ ⊎_elim
      (λ same.
      ap (λ b. unpack_cell taken (nine_at (nine_set bs a nine) b)) same
      ∙ ap (unpack_cell taken) (nine_at_here bs a nine (omega arith) l)
      ∙ e
      ∙ sym (ap (λ b. get_or (set (packed_cells taken bs) a c) b d) same ∙ get_or-set_same (packed_cells taken bs) a c d (omega arith)))
      (λ other. ap (unpack_cell taken) (nine_at_other bs a k nine long l other) ∙ sym (get_d_packed bs k d below) ∙ sym (get_or-set_other (packed_cells taken bs) a k c d other))
      (cases_eq k a))

  -- the meaning follows a put
  pub packed_after_lem : (lawful : V → Bool) (word : V → ℕ) (bs : List ℕ) (a : ℕ) (c : Cell V) → (packed_takes lawful bs a c ≡ true → unpack_cell taken (pack_cell lawful word c) ≡ c)
      → packed_cells taken (packed_after lawful word bs a c) ≡ after_put lawful (packed_cells taken bs) a c
  packed_after_lem lawful word bs a c back = grind (arith, nat_tests, length_packed bs, packed_set bs a (pack_cell lawful word c) c, cell_length lawful word c)

  -- the cells of bytes whose end belongs to none
  pub packed_front : (n : ℕ) (xs rest : List ℕ) → length xs ≡ 9 * n → length rest < 9 → packed_cells taken (xs ++ rest) ≡ packed_cells taken xs
  packed_front n xs rest l few =
      let sum = length-append xs rest in
      let was = length_packed xs in
      let is = length_packed (xs ++ rest) in
      same_lists _ _ (omega arith)
      (λ k d i.
      let below : k < n = omega arith in
      let inside : nine_at (xs ++ rest) k ≡ nine_at xs k = rw (drop-append-le (9 * k) xs rest (omega arith)) (take-append-le 9 (drop (9 * k) xs) rest (simp length-drop (omega arith))) in
      get_d_packed (xs ++ rest) k d (omega arith) ∙ ap (unpack_cell taken) inside ∙ sym (get_d_packed xs k d (omega arith)))

  -- so the bytes of the cells alone hold all the cells
  pub packed_used : (bs : List ℕ) (used : ℕ) → used ≡ 9 * size_of bs → packed_cells taken (take used bs) ≡ packed_cells taken bs
  packed_used bs used e =
      let long = length-take-le used bs (omega arith) in
      sym (packed_front (size_of bs) (take used bs) (drop used bs) (omega arith) (simp length-drop (omega arith))) ∙ ap (packed_cells taken) (take-append-drop used bs)

pub left_over_front : (n : ℕ) (xs rest : List ℕ) → length xs ≡ 9 * n → length rest < 9 → left_over (xs ++ rest) ≡ rest
left_over_front n xs rest l few =
    let sum = length-append xs rest in
    drop_at xs rest (9 * size_of (xs ++ rest)) (omega arith)

-- for a leaf kind that keeps its laws: a cell that is not blank is held by its own nine bytes
pub packed_bytes : {V : Type 0} {lawful : V → Bool} {tidied : V → Option V} {word : V → ℕ} {taken : ℕ → Option V} {alike : V → V → Bool} → Laws lawful tidied word taken alike
    → (bs : List ℕ) (a : ℕ) (c : Cell V) → ((k : ℕ) → get_or bs k 0 < 256) → cell_at (packed_cells taken bs) a ≡ Some c → (c ≡ Blank → ⊥) → nine_at bs a ≡ pack_cell lawful word c
packed_bytes {taken} laws bs a c small found full =
    let read : cell_in taken bs a ≡ Some c = sym (cell_at_packed taken bs a) ∙ found in
    let inside : (a < size_of bs) × (unpack_cell taken (nine_at bs a) ≡ c) = grind (arith, nat_tests) in
    let size = inside.0 in
    let len : length (nine_at bs a) ≡ 9 = length-take-le 9 (drop (9 * a) bs) (simp length-drop (omega arith)) in
    sym (cell_only laws (nine_at bs a) len (λ k h. rw (get_or-take 9 (drop (9 * a) bs) k 0 h, get_or-drop (9 * a) bs k 0) (small (9 * a + k))) c inside.1 full)
