-- The laws of a leaf kind. Assumes nothing.
-- A number of the logic may be wider than the Rust type that holds it (a `u8` is any natural number, an `f32` any float),
-- so a kind puts the fit into `lawful`: without it the laws would be asked of values that no program has, and be false there.
use Rattle.std.specs.Prelude.{◌≡◌, ℕ, ◌^◌, ◌<◌, Bool, true, cond, Some, None, Ok, Err, Option, Result, ◌==◌}
use Rattle.cells.specs.declared.causes.Cause.{Cause}
use Rattle.cells.specs.declared.causes.Cause.TheVariants.{ValueRefused}

pub record Laws {V : Type 0} (lawful : V → Bool) (tidied : V → Option V) (word : V → ℕ) (taken : ℕ → Option V) (alike : V → V → Bool) : Type 0 where
  -- a lawful value is tidied to itself
  pub keeps : (v : V) → lawful v ≡ true → tidied v ≡ Some v
  -- what tidying gives is lawful
  pub tidies : (v x : V) → tidied v ≡ Some x → lawful x ≡ true
  -- a word fits 64 bits
  pub fits : (v : V) → lawful v ≡ true → word v < 2 ^ 64
  -- a lawful value's word taken back gives the value
  pub back : (v : V) → lawful v ≡ true → taken (word v) ≡ Some v
  -- a pattern that is taken back is the word of the lawful value that it gives
  pub only : (w : ℕ) (v : V) → taken w ≡ Some v → (lawful v ≡ true) × (word v ≡ w)
  -- two accepted raw values are alike exactly when their tidied words are equal
  pub same : (a b x y : V) → tidied a ≡ Some x → tidied b ≡ Some y → alike a b ≡ (word x == word y)

-- the word of a lawful value, and none of any other
abbrev pub word_if : Bool → ℕ → Option ℕ
word_if b w = cond b (Some w) None

-- the answer to whether two raw values are alike, by what they are tidied to
abbrev pub comparison : {V : Type 0} → Option V → Option V → Bool → Result Bool Cause
comparison None y same = Err ValueRefused
comparison (Some x) None same = Err ValueRefused
comparison (Some x) (Some y) same = Ok same
