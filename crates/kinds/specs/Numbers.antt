-- One number of a point. Assumes nothing.
use Rattle.std.specs.Prelude.{ℕ, ◌%◌, ◌^◌, Bool, cond, not, ◌&&◌, Some, None, Option, ◌==◌, from_bits, nat_lt, to_bits, Float}
use Rattle.std.specs.Float.Ieee.{fits, eq}
use Rattle.std.specs.Float.{float_zero, float_is_finite, is_sign_negative, binary32}

-- finite, and such that an `f32` holds it
unfoldable pub accepted : Float → Bool
accepted x = fits binary32 x && float_is_finite x

-- accepted, and no negative zero
unfoldable pub plain : Float → Bool
unfolding accepted
plain x = accepted x && not (is_sign_negative x && eq x float_zero)

-- an accepted number, a zero of either sign being zero
unfoldable pub tidied_number : Float → Option Float
unfolding accepted
tidied_number x = cond (accepted x) (Some (cond (eq x float_zero) float_zero x)) None

-- the 32 bits that IEEE 754 gives a number
unfoldable pub pattern : Float → ℕ
pattern x = to_bits binary32 x

-- The patterns of plain numbers: the bits below the sign stay below those of an infinity, and there is not the sign alone.
-- A proof ties this to what the number with that pattern is.
abbrev pub plain_pattern : ℕ → Bool
plain_pattern n = nat_lt (n % 2 ^ 31) 0x7f80_0000 && not (n == 0x8000_0000)

-- the plain number that has a pattern, or none
unfoldable pub taken_number : ℕ → Option Float
unfolding plain
taken_number n = cond (nat_lt n (2 ^ 32) && plain (from_bits binary32 n)) (Some (from_bits binary32 n)) None
