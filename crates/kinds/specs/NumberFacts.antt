-- What the float library lacks, over one number: a zero by its digits, equal numbers by the patterns of the tidied ones,
-- plain by the pattern, and the round trips of a plain number. Assumes nothing.
use Rattle.std.specs.Prelude.{◌≡◌, ℕ, zero, suc, ◌+◌, ◌-◌, ◌*◌, ◌/◌, ◌%◌, ◌^◌, ◌<◌, Bool, true, false, cond, not, ◌&&◌, T, ℤ, pos, negsuc, Some, ◌==◌, nat_eq, nat_le, nat_lt, refl, Float}
use Rattle.std.proofs.Common.{sym, ap, ◌∙◌, subst, mul_comm, mul_assoc, mul-pos, zero-lt-suc, arith, pow_pos}
use Rattle.std.proofs.Math.Nat.{pow-succ'}
use Rattle.std.proofs.Math.Dec.{eqb-suc-zero}
use Rattle.std.specs.Float.Ieee.{up, down, size, odd, fits, eq, is_nan, hid, top, of_fields, of_bits, to_bits}
use Rattle.std.specs.Float.Ieee.Bits.{is_true, of_bits-to_bits, to_bits-lt, of_bits-fits, to_bits-of_bits}
use Rattle.std.specs.Float.Ieee.Fits.{up_pos, down_pos}
use Rattle.std.specs.Float.Ieee.Nearest.{div_same}
use Rattle.std.specs.Float as floats
use Rattle.std.specs.Float.{float_is_finite, is_sign_negative, nan, inf, fin, binary32}
use Rattle.std.proofs.lemmas.Bool.Decides.{nat_tests}
use Rattle.kinds.specs.Numbers.{accepted, plain, tidied_number, pattern, plain_pattern, taken_number}

iff : (a b : Bool) → (a ≡ true → b ≡ true) → (b ≡ true → a ≡ true) → a ≡ b
iff true b p q = sym (p refl)
iff false true p q = q refl
iff false false p q = refl

holds : {b : Bool} → b ≡ true → T b
holds e = subst T (sym e) tt

-- ---- zeros

-- a number with digits m is a zero exactly where m is 0
eq_zero : (s : Bool) (m : ℕ) (e : ℤ) → eq (fin s m e) floats.float_zero ≡ (m == 0)
unfolding eq
eq_zero s zero e = grind (arith, nat_tests)
eq_zero s (suc m) e = let h : 0 < suc m * up e = mul-pos (zero-lt-suc m) (up_pos e) in grind (arith, nat_tests)

-- a zero that fits is written with the exponent 0
zero_exponent : (e : ℤ) → up e * down e ≡ 1 → e ≡ pos 0
zero_exponent (pos zero) h = refl
zero_exponent (pos (suc k)) h = absurd (let p : 0 < 2 ^ k = pow_pos k in let q : 2 ^ suc k ≡ 2 * 2 ^ k = pow-succ' 2 k in omega arith)
zero_exponent (negsuc k) h = absurd (let p : 0 < 2 ^ k = pow_pos k in let q : 2 ^ suc k ≡ 2 * 2 ^ k = pow-succ' 2 k in omega arith)

zero_fits : (s : Bool) (e : ℤ) → fits binary32 (fin s 0 e) ≡ true → fin s 0 e ≡ fin s 0 (pos 0)
unfolding fits
zero_fits s e h = ap (fin s 0) (zero_exponent e (grind (arith, nat_tests)))

accepted_fits : (x : Float) → accepted x ≡ true → fits binary32 x ≡ true
unfolding accepted
accepted_fits x h = grind (arith, nat_tests)

accepted_number : (x : Float) → accepted x ≡ true → T (not (is_nan x))
unfolding accepted float_is_finite is_nan
accepted_number nan h = absurd (let z : ◌≡◌ {A = ℕ} 0 1 = grind (arith, nat_tests) in omega arith)
accepted_number (inf s) h = tt
accepted_number (fin s m e) h = tt

-- an accepted negative zero is the one with the pattern of the sign alone
negative_zero : (x : Float) → accepted x ≡ true → (is_sign_negative x && eq x floats.float_zero) ≡ true → x ≡ fin true 0 (pos 0)
unfolding accepted float_is_finite is_sign_negative
negative_zero nan h g = grind (arith, nat_tests)
negative_zero (inf s) h g = grind (arith, nat_tests)
negative_zero (fin s zero e) h g =
    let q : fin s 0 e ≡ fin s 0 (pos 0) = zero_fits s e (grind (arith, nat_tests)) in let p : s ≡ true = grind (arith, nat_tests) in q ∙ ap (λ b. fin b 0 (pos 0)) p
negative_zero (fin s (suc m) e) h g = let z : eq (fin s (suc m) e) floats.float_zero ≡ false = eq_zero s (suc m) e ∙ eqb-suc-zero m in grind (arith, nat_tests)

sign_forth : (x : Float) → x ≡ fin true 0 (pos 0) → (to_bits binary32 x == 0x8000_0000) ≡ true
unfolding to_bits size
sign_forth x e = ap (λ y. nat_eq (to_bits binary32 y) 0x8000_0000) e

sign_back : (x : Float) → fits binary32 x ≡ true → to_bits binary32 x ≡ 0x8000_0000 → (is_sign_negative x && eq x floats.float_zero) ≡ true
unfolding is_sign_negative eq of_bits
sign_back x f n = ap (λ y. is_sign_negative y && eq y floats.float_zero) (sym (of_bits-to_bits binary32 x (holds f)) ∙ ap (of_bits binary32) n)

pattern_of : (x : Float) → pattern x ≡ to_bits binary32 x
unfolding pattern
pattern_of x = refl

pub negative_zero_by_pattern : (x : Float) → accepted x ≡ true → (is_sign_negative x && eq x floats.float_zero) ≡ (pattern x == 0x8000_0000)
unfolding pattern
negative_zero_by_pattern x h =
    iff (is_sign_negative x && eq x floats.float_zero) (to_bits binary32 x == 0x8000_0000)
    (λ g. sign_forth x (negative_zero x h g))
    (λ g. sign_back x (accepted_fits x h) (grind (arith, nat_tests)))

-- ---- tidying

pub plain_kept : (x : Float) → plain x ≡ true → tidied_number x ≡ Some x
unfolding plain tidied_number accepted float_is_finite is_sign_negative
plain_kept nan h = grind (arith, nat_tests)
plain_kept (inf s) h = grind (arith, nat_tests)
plain_kept (fin true zero e) h = let z : eq (fin true 0 e) floats.float_zero ≡ true = eq_zero true 0 e in grind (arith, nat_tests)
plain_kept (fin false zero e) h =
    let z : eq (fin false 0 e) floats.float_zero ≡ true = eq_zero false 0 e in
    let q : fin false 0 e ≡ floats.float_zero = zero_fits false e (grind (arith, nat_tests)) in
    grind (arith, nat_tests)
plain_kept (fin s (suc m) e) h = let z : eq (fin s (suc m) e) floats.float_zero ≡ false = eq_zero s (suc m) e ∙ eqb-suc-zero m in grind (arith, nat_tests)

plain_zero : plain floats.float_zero ≡ true
unfolding plain accepted fits float_is_finite is_sign_negative
plain_zero = refl

plain_other : (x : Float) → accepted x ≡ true → eq x floats.float_zero ≡ false → plain x ≡ true
unfolding plain
plain_other x a z = grind (arith, nat_tests)

pub tidied_plain : (x y : Float) → tidied_number x ≡ Some y → plain y ≡ true
unfolding tidied_number
tidied_plain x y h = go (accepted x) refl (eq x floats.float_zero) refl
  where
    go : (b : Bool) → accepted x ≡ b → (d : Bool) → eq x floats.float_zero ≡ d → plain y ≡ true
    go false a d z = grind (arith, nat_tests)
    go true a true z = let e : y ≡ floats.float_zero = grind (arith, nat_tests) in ap plain e ∙ plain_zero
    go true a false z = let e : y ≡ x = grind (arith, nat_tests) in ap plain e ∙ plain_other x a z

plain_accepted : (x : Float) → plain x ≡ true → accepted x ≡ true
unfolding plain
plain_accepted x h = grind (arith, nat_tests)

pub plain_number : (x : Float) → plain x ≡ true → T (not (is_nan x))
plain_number x h = accepted_number x (plain_accepted x h)

-- ---- patterns

pub pattern_fits : (x : Float) → plain x ≡ true → pattern x < 2 ^ 32
unfolding pattern
pattern_fits x h = to_bits-lt binary32 x (holds (accepted_fits x (plain_accepted x h)))

pub taken_pattern : (x : Float) → plain x ≡ true → taken_number (pattern x) ≡ Some x
unfolding pattern taken_number
taken_pattern x h =
    let e : of_bits binary32 (to_bits binary32 x) ≡ x = of_bits-to_bits binary32 x (holds (accepted_fits x (plain_accepted x h))) in
    let l : to_bits binary32 x < 2 ^ 32 = pattern_fits x h in
    grind (arith, nat_tests)

pub pattern_taken : (n : ℕ) (x : Float) → taken_number n ≡ Some x → (plain x ≡ true) × (pattern x ≡ n)
unfolding pattern taken_number
pattern_taken n x h =
    let l : n < 2 ^ 32 = grind (arith, nat_tests) in
    let e : of_bits binary32 n ≡ x = grind (arith, nat_tests) in
    let p : plain (of_bits binary32 n) ≡ true = grind (arith, nat_tests) in
    let k : T (not (is_nan (of_bits binary32 n))) = plain_number (of_bits binary32 n) p in
    (sym (ap plain e) ∙ p, sym (ap (to_bits binary32) e) ∙ to_bits-of_bits binary32 n l k)

-- ---- equal numbers

tidy : Float → Float
tidy x = cond (eq x floats.float_zero) floats.float_zero x

tidy_zero : (s : Bool) (e : ℤ) → tidy (fin s 0 e) ≡ floats.float_zero
unfolding tidy
tidy_zero s e = let z : eq (fin s 0 e) floats.float_zero ≡ true = eq_zero s 0 e in grind (arith, nat_tests)

tidy_more : (s : Bool) (m : ℕ) (e : ℤ) → tidy (fin s (suc m) e) ≡ fin s (suc m) e
unfolding tidy
tidy_more s m e = let z : eq (fin s (suc m) e) floats.float_zero ≡ false = eq_zero s (suc m) e ∙ eqb-suc-zero m in grind (arith, nat_tests)

scaled : (x y z w k : ℕ) → x * z ≡ y * w → x * k * z ≡ y * k * w
scaled x y z w k h = mul_assoc x k z ∙ ap (λ v. x * v) (mul_comm k z) ∙ sym (mul_assoc x z k) ∙ ap (λ v. v * k) h ∙ mul_assoc y w k ∙ ap (λ v. y * v) (mul_comm w k) ∙ sym (mul_assoc y k w)

-- two numbers of one sign and one size have one pattern
one_pattern : (s : Bool) (m n : ℕ) (e d : ℤ) → m * up e * down d ≡ n * up d * down e → to_bits binary32 (fin s m e) ≡ to_bits binary32 (fin s n d)
unfolding to_bits
one_pattern s m n e d h =
    ap (λ k. cond s (top binary32) 0 + (size k - 24) * hid binary32 + k / 2 ^ (size k - 24)) (div_same (m * up e * 2 ^ 149) (down e) (n * up d * 2 ^ 149) (down d) (down_pos e) (down_pos d) (scaled (m * up e) (n * up d) (down d) (down e) (2 ^ 149) h))

equal_forth : (s t : Bool) (m n : ℕ) (e d : ℤ) → eq (fin s m e) (fin t n d) ≡ true → to_bits binary32 (tidy (fin s m e)) ≡ to_bits binary32 (tidy (fin t n d))
unfolding eq
equal_forth s t zero zero e d h = ap (to_bits binary32) (tidy_zero s e ∙ sym (tidy_zero t d))
equal_forth s t zero (suc n) e d h = let p : 0 < suc n * up d * down e = mul-pos (mul-pos (zero-lt-suc n) (up_pos d)) (down_pos e) in grind (arith, nat_tests)
equal_forth s t (suc m) zero e d h = let p : 0 < suc m * up e * down d = mul-pos (mul-pos (zero-lt-suc m) (up_pos e)) (down_pos d) in grind (arith, nat_tests)
equal_forth s t (suc m) (suc n) e d h =
    let p : 0 < suc m * up e * down d = mul-pos (mul-pos (zero-lt-suc m) (up_pos e)) (down_pos d) in
    let c : suc m * up e * down d ≡ suc n * up d * down e = grind (arith, nat_tests) in
    let q : t ≡ s = grind (arith, nat_tests) in
    ap (to_bits binary32) (tidy_more s m e) ∙ one_pattern s (suc m) (suc n) e d c ∙ ap (λ b. to_bits binary32 (fin b (suc n) d)) (sym q) ∙ sym (ap (to_bits binary32) (tidy_more t n d))

equal_back : (s t : Bool) (m n : ℕ) (e d : ℤ) → tidy (fin s m e) ≡ tidy (fin t n d) → eq (fin s m e) (fin t n d) ≡ true
unfolding eq
equal_back s t zero zero e d h = grind (arith, nat_tests)
equal_back s t zero (suc n) e d h = let q : floats.float_zero ≡ fin t (suc n) d = sym (tidy_zero s e) ∙ h ∙ tidy_more t n d in grind (arith, nat_tests)
equal_back s t (suc m) zero e d h = let q : fin s (suc m) e ≡ floats.float_zero = sym (tidy_more s m e) ∙ h ∙ tidy_zero t d in grind (arith, nat_tests)
equal_back s t (suc m) (suc n) e d h = let q : fin s (suc m) e ≡ fin t (suc n) d = sym (tidy_more s m e) ∙ h ∙ tidy_more t n d in grind (arith, nat_tests)

tidied_parts : (a x : Float) → tidied_number a ≡ Some x → (accepted a ≡ true) × (x ≡ tidy a)
unfolding tidied_number tidy
tidied_parts a x h = (grind (arith, nat_tests), grind (arith, nat_tests))

tidy_back : (a x : Float) → tidied_number a ≡ Some x → of_bits binary32 (to_bits binary32 x) ≡ x
tidy_back a x h = of_bits-to_bits binary32 x (holds (accepted_fits x (plain_accepted x (tidied_plain a x h))))

same_finite : (a b x y : Float) → tidied_number a ≡ Some x → tidied_number b ≡ Some y → accepted a ≡ true → accepted b ≡ true → x ≡ tidy a → y ≡ tidy b
    → eq a b ≡ (to_bits binary32 x == to_bits binary32 y)
unfolding accepted float_is_finite
same_finite nan b x y p q f g u v = grind (arith, nat_tests)
same_finite (inf s) b x y p q f g u v = grind (arith, nat_tests)
same_finite (fin s m e) nan x y p q f g u v = grind (arith, nat_tests)
same_finite (fin s m e) (inf t) x y p q f g u v = grind (arith, nat_tests)
same_finite (fin s m e) (fin t n d) x y p q f g u v =
    iff (eq (fin s m e) (fin t n d)) (to_bits binary32 x == to_bits binary32 y)
    (λ h. let k : to_bits binary32 x ≡ to_bits binary32 y = ap (to_bits binary32) u ∙ equal_forth s t m n e d h ∙ sym (ap (to_bits binary32) v) in grind (arith, nat_tests))
    (λ h. let k : to_bits binary32 x ≡ to_bits binary32 y = grind (arith, nat_tests) in
    equal_back s t m n e d (sym u ∙ sym (tidy_back (fin s m e) x p) ∙ ap (of_bits binary32) k ∙ tidy_back (fin t n d) y q ∙ v))

pub same_number : (a b x y : Float) → tidied_number a ≡ Some x → tidied_number b ≡ Some y → eq a b ≡ (pattern x == pattern y)
unfolding pattern
same_number a b x y p q = let i = tidied_parts a x p in let j = tidied_parts b y q in same_finite a b x y p q i.0 j.0 i.1 j.1

-- ---- plain by the pattern

finite_odd : (d : ℕ) (s : Bool) (q k l : ℕ) → float_is_finite (odd d s q k l) ≡ true
unfolding odd float_is_finite
finite_odd d s zero k l = refl
finite_odd d s (suc q) k l = refl

finite_fields : (s : Bool) (x t : ℕ) → float_is_finite (of_fields binary32 s x t) ≡ not (x == 255)
unfolding of_fields float_is_finite
finite_fields s zero t = finite_odd 24 s t 0 149
finite_fields s (suc x) t = let f = finite_odd 24 s (hid binary32 + t) x 149 in grind (arith, nat_tests)

exponent_below : (m : ℕ) → m < 2 ^ 31 → not (m / 2 ^ 23 == 255) ≡ nat_lt m 0x7f80_0000
exponent_below m h = grind (arith, nat_tests)

finite_by_pattern : (n : ℕ) → float_is_finite (of_bits binary32 n) ≡ nat_lt (n % 2 ^ 31) 0x7f80_0000
unfolding of_bits
finite_by_pattern n = finite_fields (nat_le (2 ^ 31) n) (n % 2 ^ 31 / 2 ^ 23) (n % 2 ^ 23) ∙ exponent_below (n % 2 ^ 31) (omega arith)

pub plain_parts : (x : Float) → fits binary32 x ≡ true → plain x ≡ (float_is_finite x && not (is_sign_negative x && eq x floats.float_zero))
unfolding plain accepted
plain_parts x f = grind (arith, nat_tests)

pub accepted_finite : (x : Float) → fits binary32 x ≡ true → float_is_finite x ≡ true → accepted x ≡ true
unfolding accepted
accepted_finite x f g = grind (arith, nat_tests)

pub plain_by_pattern : (n : ℕ) → n < 2 ^ 32 → plain (of_bits binary32 n) ≡ plain_pattern n
plain_by_pattern n h = go (float_is_finite (of_bits binary32 n)) refl
  where
    f : fits binary32 (of_bits binary32 n) ≡ true
    f = is_true (fits binary32 (of_bits binary32 n)) (of_bits-fits binary32 n)

    go : (b : Bool) → float_is_finite (of_bits binary32 n) ≡ b → plain (of_bits binary32 n) ≡ plain_pattern n
    go false e = let p = plain_parts (of_bits binary32 n) f in let q = finite_by_pattern n in grind (arith, nat_tests)
    go true e =
        let a : accepted (of_bits binary32 n) ≡ true = accepted_finite (of_bits binary32 n) f e in
        let p = plain_parts (of_bits binary32 n) f in
        let q = finite_by_pattern n in
        let z : (is_sign_negative (of_bits binary32 n) && eq (of_bits binary32 n) floats.float_zero) ≡ nat_eq n 0x8000_0000 =
        negative_zero_by_pattern (of_bits binary32 n) a ∙ ap (λ k. nat_eq k 0x8000_0000) (back a) in
        grind (arith, nat_tests)
      where
        back : accepted (of_bits binary32 n) ≡ true → pattern (of_bits binary32 n) ≡ n
        back a = pattern_of (of_bits binary32 n) ∙ to_bits-of_bits binary32 n h (accepted_number (of_bits binary32 n) a)
