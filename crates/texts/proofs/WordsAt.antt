-- The bytes of one word among several, and how many words there are. Assumes nothing.
use Rattle.std.proofs.Common.{◌≡◌, ℕ, ◌<◌, List, [], length, get_or, Option, sym, ◌∙◌, subst, Bor}
use Rattle.std.proofs.lemmas.List.{get_or-map, length-map}
use Rattle.texts.specs.Typed.{word_bytes, Counted}

pub word_at : (ws : List (Bor (List ℕ))) (i : ℕ) (d : Bor (List ℕ)) → i < length ws → (get_or ws i d).now ≡ get_or (word_bytes ws) i []
word_at ws i d h = sym (get_or-map (λ x. x.now) ws i d [] h)

-- what holds of a word holds of its bytes in the list
pub at_word : (P : List ℕ → Type 0) (ws : List (Bor (List ℕ))) (i : ℕ) (d : Bor (List ℕ)) → i < length ws → P (get_or ws i d).now → P (get_or (word_bytes ws) i [])
at_word P ws i d h p = subst P (word_at ws i d h) p

pub counted : {X : Type 0} (n : ℕ) (ws : List (Bor (List ℕ))) (r : Option X) (P : Type 0) → length ws ≡ n → P → Counted n (word_bytes ws) r P
counted n ws r P e p = (λ _. p, λ h. absurd (h (length-map ws (λ x. x.now) ∙ e)))
