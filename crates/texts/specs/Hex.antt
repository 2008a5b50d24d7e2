-- Numbers in hexadecimal. Assumes nothing.
use Rattle.std.specs.Prelude.{ℕ, zero, suc, ◌+◌, ◌/◌, ◌%◌, cond, List, [], ◌∷◌, ◌++◌, nat_lt}

-- 0 to 9, then A to F
abbrev pub hex_digit : ℕ → ℕ
hex_digit n = cond (nat_lt n 10) (48 + n) (55 + n)

-- the lowest k digits of w, the highest of them first
abbrev pub hex : ℕ → ℕ → List ℕ
hex zero w = []
hex (suc k) w = hex k (w / 16) ++ (hex_digit (w % 16) ∷ [])
