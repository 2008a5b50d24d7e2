-- Points keep the laws of a leaf kind, by what holds of each of their two numbers. Assumes nothing.
use Rattle.std.specs.Prelude.{◌≡◌, ℕ, ◌+◌, ◌*◌, ◌/◌, ◌%◌, ◌^◌, ◌<◌, true, ◌&&◌, Some, None, Option, ◌==◌, nat_eq, Float}
use Rattle.std.proofs.Common.{ap, ◌∙◌, arith}
use Rattle.std.specs.Float.Ieee.{eq}
use Rattle.std.proofs.lemmas.Bool.Decides.{nat_tests}
use Rattle.cells.specs.Leaves.{Laws}
use Rattle.kinds.specs.declared.points.Point.{Point}
use Rattle.kinds.specs.Numbers.{plain, tidied_number, pattern, taken_number}
use Rattle.kinds.specs.PointKind.{lawful_point, both, tidied_point, word_point, taken_point, alike_point}
use Rattle.kinds.specs.NumberFacts.{plain_kept, tidied_plain, pattern_fits, taken_pattern, pattern_taken, same_number}

both_parts : (p q : Option Float) (v : Point) → both p q ≡ Some v → (p ≡ Some v.load) × (q ≡ Some v.reading)
both_parts None q v h = (grind (arith, nat_tests), grind (arith, nat_tests))
both_parts (Some x) None v h = (grind (arith, nat_tests), grind (arith, nat_tests))
both_parts (Some x) (Some y) v h = (grind (arith, nat_tests), grind (arith, nat_tests))

both_made : (p q : Option Float) (v : Point) → p ≡ Some v.load → q ≡ Some v.reading → both p q ≡ Some v
both_made p q v e f = ap (λ o. both o q) e ∙ ap (both (Some v.load)) f

-- two words are equal exactly when both halves are
halves : (a b c d : ℕ) → b < 2 ^ 32 → d < 2 ^ 32 → (a == c && b == d) ≡ (a * 2 ^ 32 + b == c * 2 ^ 32 + d)
halves a b c d h k = grind (arith, nat_tests)

load_plain : (v : Point) → lawful_point v ≡ true → plain v.load ≡ true
load_plain v h = grind (arith, nat_tests)

reading_plain : (v : Point) → lawful_point v ≡ true → plain v.reading ≡ true
reading_plain v h = grind (arith, nat_tests)

word_fits : (v : Point) → lawful_point v ≡ true → word_point v < 2 ^ 64
word_fits v h = let p = pattern_fits v.load (load_plain v h) in let q = pattern_fits v.reading (reading_plain v h) in omega arith

word_back : (v : Point) → lawful_point v ≡ true → taken_point (word_point v) ≡ Some v
word_back v h =
    let q = pattern_fits v.reading (reading_plain v h) in
    let e : word_point v / 2 ^ 32 ≡ pattern v.load = omega arith in
    let f : word_point v % 2 ^ 32 ≡ pattern v.reading = omega arith in
    both_made (taken_number (word_point v / 2 ^ 32)) (taken_number (word_point v % 2 ^ 32)) v
    (ap taken_number e ∙ taken_pattern v.load (load_plain v h))
    (ap taken_number f ∙ taken_pattern v.reading (reading_plain v h))

word_only : (w : ℕ) (v : Point) → taken_point w ≡ Some v → (lawful_point v ≡ true) × (word_point v ≡ w)
word_only w v h =
    let b = both_parts (taken_number (w / 2 ^ 32)) (taken_number (w % 2 ^ 32)) v h in
    let p = pattern_taken (w / 2 ^ 32) v.load b.0 in
    let q = pattern_taken (w % 2 ^ 32) v.reading b.1 in
    let p0 : plain v.load ≡ true = p.0 in
    let q0 : plain v.reading ≡ true = q.0 in
    (grind (arith, nat_tests), omega (arith, p.1, q.1))

tidied_lawful : (v x : Point) → tidied_point v ≡ Some x → lawful_point x ≡ true
tidied_lawful v x h =
    let b = both_parts (tidied_number v.load) (tidied_number v.reading) x h in
    let p : plain x.load ≡ true = tidied_plain v.load x.load b.0 in
    let q : plain x.reading ≡ true = tidied_plain v.reading x.reading b.1 in
    grind (arith, nat_tests)

words_same : (a b x y : Point) → tidied_point a ≡ Some x → tidied_point b ≡ Some y → alike_point a b ≡ (word_point x == word_point y)
words_same a b x y h k =
    let i = both_parts (tidied_number a.load) (tidied_number a.reading) x h in
    let j = both_parts (tidied_number b.load) (tidied_number b.reading) y k in
    let l : eq a.load b.load ≡ nat_eq (pattern x.load) (pattern y.load) = same_number a.load b.load x.load y.load i.0 j.0 in
    let r : eq a.reading b.reading ≡ nat_eq (pattern x.reading) (pattern y.reading) = same_number a.reading b.reading x.reading y.reading i.1 j.1 in
    let p = pattern_fits x.reading (tidied_plain a.reading x.reading i.1) in
    let q = pattern_fits y.reading (tidied_plain b.reading y.reading j.1) in
    ap (λ t. t && eq a.reading b.reading) l ∙ ap (λ t. (pattern x.load == pattern y.load) && t) r
    ∙ halves (pattern x.load) (pattern x.reading) (pattern y.load) (pattern y.reading) p q

pub point_laws : Laws lawful_point tidied_point word_point taken_point alike_point
point_laws = record {
  keeps = λ v h. both_made (tidied_number v.load) (tidied_number v.reading) v (plain_kept v.load (load_plain v h)) (plain_kept v.reading (reading_plain v h));
  tidies = tidied_lawful;
  fits = word_fits;
  back = word_back;
  only = word_only;
  same = words_same;
}
