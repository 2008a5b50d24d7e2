-- The words by their number, and that no kind has an empty one.
use Rattle.std.proofs.Common.{◌≡◌, ℕ, zero, suc, ◌<◌, List, [], ◌∷◌, length, get_or, string_bytes, codes, String, refl, ap, ◌∙◌, arith}
use Rattle.reports.specs.declared.requests.Kind.{Kind}
use Rattle.reports.specs.declared.requests.Kind.TheVariants.{Point, Instruction}
use Rattle.reports.specs.Requests.{word_at, kind_word}

pub no_kind : (w : List ℕ) → [] ≡ w → (k : Kind) → w ≡ kind_word k → ⊥
no_kind w none Point e = let z : [] ≡ codes "point" = none ∙ e in grind arith
no_kind w none Instruction e = let z : [] ≡ codes "instruction" = none ∙ e in grind arith

-- a word that is read, and one past the last
pub word_read : {Z : Type 0} (ws : List (String Z)) (i : ℕ) (w : String Z) → i < length ws → w ≡ get_or ws i w → string_bytes w ≡ word_at ws i
word_read [] i w l e = absurd (omega arith)
word_read (x ∷ ws) zero w l e = ap string_bytes e
word_read (x ∷ ws) (suc i) w l e = word_read ws i w (omega arith) e

pub word_past : {Z : Type 0} (ws : List (String Z)) (i : ℕ) → (i < length ws → ⊥) → [] ≡ word_at ws i
word_past [] i l = refl
word_past (x ∷ ws) zero l = absurd (l (omega arith))
word_past (x ∷ ws) (suc i) l = word_past ws i (λ h. l (omega arith))
