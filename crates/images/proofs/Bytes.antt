-- Bytes at an offset: numbers are known by their bytes, and a list of parts of one size by its parts.
use Rattle.std.proofs.Common.{◌≡◌, ℕ, zero, suc, ◌+◌, ◌*◌, ◌/◌, ◌%◌, ◌^◌, ◌<◌, ◌≤◌, List, [], ◌∷◌, ◌++◌, length, get_or, take, drop, sym, ap, ◌∙◌, ap₂, add-zero, mul-zero, mul-suc, arith, lit<, length-append, length-drop, drop-cons}
use Rattle.std.specs.List.{flat_map}
use Rattle.std.proofs.lemmas.List.{append_assoc, take-append-drop, take_at, drop_at, drop-drop, nil_from_length, get_or-take, get_or-drop}
use Rattle.images.specs.Layout.{two_bytes, four_bytes, two_at, four_at}

-- four elements from p on, written out
pub four_listed : (bs : List ℕ) (p : ℕ) → p + 4 ≤ length bs → take 4 (drop p bs) ≡ get_or bs p 0 ∷ get_or bs (p + 1) 0 ∷ get_or bs (p + 2) 0 ∷ get_or bs (p + 3) 0 ∷ []
four_listed bs p h =
    let s0 : drop p bs ≡ get_or bs p 0 ∷ drop (suc p) bs = drop-cons bs p 0 (omega arith) in
    let s1 : drop (suc p) bs ≡ get_or bs (suc p) 0 ∷ drop (suc (suc p)) bs = drop-cons bs (suc p) 0 (omega arith) in
    let s2 : drop (suc (suc p)) bs ≡ get_or bs (suc (suc p)) 0 ∷ drop (suc (suc (suc p))) bs = drop-cons bs (suc (suc p)) 0 (omega arith) in
    let s3 : drop (suc (suc (suc p))) bs ≡ get_or bs (suc (suc (suc p))) 0 ∷ drop (suc (suc (suc (suc p)))) bs = drop-cons bs (suc (suc (suc p))) 0 (omega arith) in
    rw (s0, s1, s2, s3) (grind arith)

pub part_get_d : (bs : List ℕ) (n p k : ℕ) → k < n → get_or (take n (drop p bs)) k 0 ≡ get_or bs (p + k) 0
part_get_d bs n p k h = get_or-take n (drop p bs) k 0 h ∙ get_or-drop p bs k 0

four_number : (w : ℕ) → w < 2 ^ 32 → four_at (four_bytes w) 0 ≡ w
four_number w small =
    let a : w / 2 ^ 8 ≡ w / 2 ^ 16 * 256 + w / 2 ^ 8 % 256 = omega arith in
    let b : w / 2 ^ 16 ≡ w / 2 ^ 24 * 256 + w / 2 ^ 16 % 256 = omega arith in
    let c : w / 2 ^ 24 % 256 ≡ w / 2 ^ 24 = omega arith in
    let d : w ≡ w / 2 ^ 8 * 256 + w % 256 = omega arith in
    omega arith

-- the number of four bytes, and the bytes of the number
pub four_at_lem : (bs : List ℕ) (p w : ℕ) → w < 2 ^ 32 → take 4 (drop p bs) ≡ four_bytes w → four_at bs p ≡ w
four_at_lem bs p w small e =
    let at : (k : ℕ) → k < 4 → get_or (four_bytes w) k 0 ≡ get_or bs (p + k) 0 = λ k h. sym (ap (λ l. get_or l k 0) e) ∙ part_get_d bs 4 p k h in
    let a0 : w / 2 ^ 24 % 256 ≡ get_or bs p 0 = at 0 (lit< tt) ∙ ap (λ k. get_or bs k 0) (add-zero p) in
    let a1 : w / 2 ^ 16 % 256 ≡ get_or bs (p + 1) 0 = at 1 (lit< tt) in
    let a2 : w / 2 ^ 8 % 256 ≡ get_or bs (p + 2) 0 = at 2 (lit< tt) in
    let a3 : w % 256 ≡ get_or bs (p + 3) 0 = at 3 (lit< tt) in
    rw (← a0, ← a1, ← a2, ← a3) (four_number w small)

four_digits : (a b c d : ℕ) → a < 256 → b < 256 → c < 256 → d < 256 → four_bytes (a * 2 ^ 24 + b * 2 ^ 16 + c * 2 ^ 8 + d) ≡ a ∷ b ∷ c ∷ d ∷ []
four_digits a b c d ha hb hc hd = grind arith

pub bytes_four : (bs : List ℕ) (p : ℕ) → p + 4 ≤ length bs → ((k : ℕ) → get_or bs k 0 < 256) → four_bytes (four_at bs p) ≡ take 4 (drop p bs)
bytes_four bs p h small =
    four_digits (get_or bs p 0) (get_or bs (p + 1) 0) (get_or bs (p + 2) 0) (get_or bs (p + 3) 0) (small p) (small (p + 1)) (small (p + 2)) (small (p + 3))
    ∙ sym (four_listed bs p h)

two_digits : (a b : ℕ) → a < 256 → b < 256 → two_bytes (a * 2 ^ 8 + b) ≡ a ∷ b ∷ []
two_digits a b ha hb = grind arith

-- bytes with their first four as two numbers
pub bytes_headed : (bs : List ℕ) → 4 ≤ length bs → ((k : ℕ) → get_or bs k 0 < 256) → bs ≡ two_bytes (two_at bs 0) ++ (two_bytes (two_at bs 2) ++ drop 4 bs)
bytes_headed bs h small =
    sym (take-append-drop 4 bs) ∙ ap (λ l. l ++ drop 4 bs) (four_listed bs 0 (omega arith))
    ∙ sym (ap₂ (λ k l. k ++ (l ++ drop 4 bs)) (two_digits (get_or bs 0 0) (get_or bs 1 0) (small 0) (small 1)) (two_digits (get_or bs 2 0) (get_or bs 3 0) (small 2) (small 3)))

-- parts of n bytes each, one after another
module _ {X : Type 0} (f : X → List ℕ) (n : ℕ) (even : (x : X) → length (f x) ≡ n) where
  pub length_parts : (xs : List X) → length (flat_map f xs) ≡ n * length xs
  length_parts [] = sym (mul-zero n)
  length_parts (x ∷ xs) = length-append (f x) (flat_map f xs) ∙ (let e = even x in let i = length_parts xs in let m = mul-suc n (length xs) in omega arith)

  -- the part with an index, whatever follows
  pub part_of : (xs : List X) (more : List ℕ) (k : ℕ) (d : X) → k < length xs → take n (drop (n * k) (flat_map f xs ++ more)) ≡ f (get_or xs k d)
  part_of [] more k d h = absurd (omega arith)
  part_of (x ∷ xs) more zero d h =
      ap (λ m. take n (drop m ((f x ++ flat_map f xs) ++ more))) (mul-zero n) ∙ ap (take n) (append_assoc (f x) (flat_map f xs) more) ∙ take_at (f x) (flat_map f xs ++ more) n (even x)
  part_of (x ∷ xs) more (suc k) d h =
      let m : n * suc k ≡ n + n * k = let s = mul-suc n k in omega arith in
      ap (λ i. take n (drop i ((f x ++ flat_map f xs) ++ more))) m
      ∙ ap (λ l. take n (drop (n + n * k) l)) (append_assoc (f x) (flat_map f xs) more)
      ∙ ap (take n) (sym (drop-drop (n * k) n (f x ++ (flat_map f xs ++ more))) ∙ ap (drop (n * k)) (drop_at (f x) (flat_map f xs ++ more) n (even x)))
      ∙ part_of xs more k d (omega arith)

  -- bytes are known by their parts
  pub parts_make : (xs : List X) (bs : List ℕ) (d : X) → length bs ≡ n * length xs → ((k : ℕ) → k < length xs → take n (drop (n * k) bs) ≡ f (get_or xs k d)) → bs ≡ flat_map f xs
  parts_make [] bs d len each = nil_from_length bs (len ∙ mul-zero n)
  parts_make (x ∷ xs) bs d len each =
      let m : n * suc (length xs) ≡ n + n * length xs = let s = mul-suc n (length xs) in omega arith in
      let l : length (drop n bs) ≡ n * length xs = length-drop n bs ∙ (omega arith) in
      sym (take-append-drop n bs)
      ∙ ap₂ ◌++◌
      (ap (λ i. take n (drop i bs)) (sym (mul-zero n)) ∙ each 0 (omega arith))
      (parts_make xs (drop n bs) d l
      (λ k h. ap (take n) (drop-drop (n * k) n bs) ∙ ap (λ i. take n (drop i bs)) (let s = mul-suc n k in omega arith) ∙ each (suc k) (omega arith)))
