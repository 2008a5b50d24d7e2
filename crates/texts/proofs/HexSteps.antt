-- One digit more. Assumes nothing.
use Rattle.std.proofs.Common.{◌≡◌, ℕ, zero, suc, ◌-◌, ◌/◌, ◌%◌, ◌<◌, [], ◌∷◌, ◌++◌, sym, ap, arith}
use Rattle.texts.specs.Hex.{hex_digit, hex}

pub hex_more : (k w : ℕ) → 0 < k → hex k w ≡ hex (k - 1) (w / 16) ++ (hex_digit (w % 16) ∷ [])
hex_more zero w h = absurd (omega arith)
hex_more (suc k) w h = let e : suc k - 1 ≡ k = omega arith in ap (λ n. hex n (w / 16) ++ (hex_digit (w % 16) ∷ [])) (sym e)
