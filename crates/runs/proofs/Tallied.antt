-- How many numbers pass a test, when the test changes at one of them. Assumes nothing.
use Rattle.std.proofs.Common.{◌≡◌, ℕ, zero, suc, ◌+◌, ◌<◌, Bool, true, false, cond, not, sym, refl, ap, ◌∙◌, inl, inr, arith}
use Rattle.std.proofs.lemmas.Bool.{cases_eq, cases_Bool}
use Rattle.graph.proofs.Counting.{how_many}

-- tests that agree below k count alike
pub tally_same : (f g : ℕ → Bool) (k : ℕ) → ((i : ℕ) → i < k → g i ≡ f i) → how_many g k ≡ how_many f k
tally_same f g zero e = refl
tally_same f g (suc k) e =
    ap (λ b. cond b (suc (how_many g k)) (how_many g k)) (e k (omega arith))
    ∙ ap (λ n. cond (f k) (suc n) n) (tally_same f g k (λ i l. e i (omega arith)))

-- one number more that passes
pub tally_flip : (f g : ℕ → Bool) (k j : ℕ) → j < k → f j ≡ false → g j ≡ true → ((i : ℕ) → i < k → (i ≡ j → ⊥) → g i ≡ f i) → how_many g k ≡ suc (how_many f k)
tally_flip f g zero j l a b e = absurd (omega arith)
tally_flip f g (suc k) j l a b e = elim (cases_eq k j) [
  | inl x ↦
      ap (λ t. cond t (suc (how_many g k)) (how_many g k)) (ap g x ∙ b)
      ∙ ap suc (tally_same f g k (λ i h. e i (omega arith) (λ y. omega arith)))
      ∙ sym (ap (λ t. suc (cond t (suc (how_many f k)) (how_many f k))) (ap f x ∙ a))
  | inr x ↦
      ap (λ t. cond t (suc (how_many g k)) (how_many g k)) (e k (omega arith) x)
      ∙ ap (λ n. cond (f k) (suc n) n) (tally_flip f g k j (omega arith) a b (λ i h y. e i (omega arith) y))
      ∙ lift (f k) (how_many f k)
]
  where
    lift : (t : Bool) (n : ℕ) → cond t (suc (suc n)) (suc n) ≡ suc (cond t (suc n) n)
    lift true n = refl
    lift false n = refl

-- what passes and what does not are all
pub tally_both : (f : ℕ → Bool) (k : ℕ) → how_many f k + how_many (λ i. not (f i)) k ≡ k
tally_both f zero = refl
tally_both f (suc k) = elim (cases_Bool (f k)) [
  | inl x ↦ ap (λ t. cond t (suc (how_many f k)) (how_many f k) + cond (not t) (suc (how_many (λ i. not (f i)) k)) (how_many (λ i. not (f i)) k)) x ∙ (let h = tally_both f k in omega arith)
  | inr x ↦ ap (λ t. cond t (suc (how_many f k)) (how_many f k) + cond (not t) (suc (how_many (λ i. not (f i)) k)) (how_many (λ i. not (f i)) k)) x ∙ (let h = tally_both f k in omega arith)
]
