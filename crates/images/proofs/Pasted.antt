-- Bytes with a part written over some of them: one part after another is the two joined.
use Rattle.std.proofs.Common.{◌≡◌, ℕ, ◌+◌, ◌*◌, ◌<◌, ◌≤◌, List, [], ◌++◌, length, get_or, take, drop, sym, ap, ◌∙◌, mul-add, arith, rules}
use borrow.Rule.Slice.PartMut.{put_mid}
use Rattle.std.specs.List.{flat_map}
use Rattle.std.proofs.lemmas.List.{places, same_lists, drop-drop, take-append-drop, take_more, flat_map_more, length-append, length-take-le}
use Rattle.images.specs.Writing.{pasted}
use Rattle.images.proofs.Bytes.{length_parts}

pub put_mid_pasted : (at k : ℕ) (bytes part now : List ℕ) → k ≡ length part → now ≡ part → put_mid at k bytes now ≡ pasted bytes at part
put_mid_pasted at k bytes part now e f = rw (f, drop-drop, e)

pub length_pasted : (bytes part : List ℕ) (at : ℕ) → at + length part ≤ length bytes → length (pasted bytes at part) ≡ length bytes
length_pasted bytes part at h = search (rules, places)

pub pasted_none : (bytes : List ℕ) (at : ℕ) → pasted bytes at [] ≡ bytes
pasted_none bytes at = let e : at + 0 ≡ at = omega arith in ap (λ n. take at bytes ++ drop n bytes) e ∙ take-append-drop at bytes

-- one part straight after another
pub pasted_after : (bytes xs ys : List ℕ) (at next : ℕ) → next ≡ at + length xs → next + length ys ≤ length bytes → pasted (pasted bytes at xs) next ys ≡ pasted bytes at (xs ++ ys)
pasted_after bytes xs ys at next e h = let l = length-append xs ys in same_lists _ _ (search (rules, places)) (λ k d i. grind (arith, places))

-- parts of n bytes each, written one after another
module _ {X : Type 0} (f : X → List ℕ) (n : ℕ) (even : (x : X) → length (f x) ≡ n) where
  pub parts_more : (bytes now : List ℕ) (xs : List X) (at i : ℕ) (d : X) → i < length xs → at + n * (i + 1) ≤ length bytes → now ≡ pasted bytes at (flat_map f (take i xs))
      → pasted now (at + n * i) (f (get_or xs i d)) ≡ pasted bytes at (flat_map f (take (i + 1) xs))
  parts_more bytes now xs at i d h room e =
      let l : length (flat_map f (take i xs)) ≡ n * i = length_parts f n even (take i xs) ∙ ap (λ k. n * k) (length-take-le i xs (omega arith)) in
      let m = mul-add n i 1 in
      let s = even (get_or xs i d) in
      ap (λ b. pasted b (at + n * i) (f (get_or xs i d))) e
      ∙ pasted_after bytes (flat_map f (take i xs)) (f (get_or xs i d)) at (at + n * i) (omega arith) (omega arith)
      ∙ ap (pasted bytes at) (flat_map_more f [] (take i xs) (get_or xs i d) ∙ ap (flat_map f) (sym (take_more xs i d h)))
