-- A kind's byte and a body of 64 bits are known by their nine bytes, and nine bytes by them.
use Rattle.std.proofs.Common.{◌≡◌, ℕ, suc, ◌^◌, ◌<◌, List, [], ◌∷◌, length, get_or, drop, sym, ◌∙◌, arith, lit<, drop-cons}
use Rattle.std.proofs.lemmas.List.{drop_all}
use Rattle.packing.specs.Cells.{nine_bytes, body_of}

pub body_nine : (kind body : ℕ) → body < 2 ^ 64 → body_of (nine_bytes kind body) ≡ body
body_nine kind body small = omega arith

-- nine elements, written out
listed : (bs : List ℕ) → length bs ≡ 9 → bs ≡ get_or bs 0 0 ∷ get_or bs 1 0 ∷ get_or bs 2 0 ∷ get_or bs 3 0 ∷ get_or bs 4 0 ∷ get_or bs 5 0 ∷ get_or bs 6 0 ∷ get_or bs 7 0 ∷ get_or bs 8 0 ∷ []
listed bs len =
    let step : (k : ℕ) → k < 9 → drop k bs ≡ get_or bs k 0 ∷ drop (suc k) bs = λ k h. drop-cons bs k 0 (omega arith) in
    let end : drop 9 bs ≡ [] = drop_all 9 bs (omega arith) in
    cc (step 0 (lit< tt), step 1 (lit< tt), step 2 (lit< tt), step 3 (lit< tt), step 4 (lit< tt), step 5 (lit< tt), step 6 (lit< tt), step 7 (lit< tt), step 8 (lit< tt))

-- a number's bytes are the bytes that it was made of
digits : (k a b c d e f g h : ℕ) → a < 256 → b < 256 → c < 256 → d < 256 → e < 256 → f < 256 → g < 256 → h < 256
    → nine_bytes k (body_of (k ∷ a ∷ b ∷ c ∷ d ∷ e ∷ f ∷ g ∷ h ∷ [])) ≡ k ∷ a ∷ b ∷ c ∷ d ∷ e ∷ f ∷ g ∷ h ∷ []
digits k a b c d e f g h ha hb hc hd he hf hg hh = grind arith

pub nine_body : (bs : List ℕ) → length bs ≡ 9 → ((k : ℕ) → k < 9 → get_or bs k 0 < 256) → nine_bytes (get_or bs 0 0) (body_of bs) ≡ bs
nine_body bs len bytes =
    digits (get_or bs 0 0) (get_or bs 1 0) (get_or bs 2 0) (get_or bs 3 0) (get_or bs 4 0) (get_or bs 5 0) (get_or bs 6 0) (get_or bs 7 0) (get_or bs 8 0)
    (bytes 1 (lit< tt)) (bytes 2 (lit< tt)) (bytes 3 (lit< tt)) (bytes 4 (lit< tt)) (bytes 5 (lit< tt)) (bytes 6 (lit< tt)) (bytes 7 (lit< tt)) (bytes 8 (lit< tt))
    ∙ sym (listed bs len)
