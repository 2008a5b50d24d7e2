-- How many places refer to an address, and whether another place than a given one does.
use Rattle.std.proofs.Common.{◌≡◌, ℕ, zero, suc, ◌<◌, ◌≤◌, min, true, false, leb, Decides, sym, refl, ap, ◌∙◌, ⊎_elim, arith}
use Rattle.std.proofs.lemmas.Bool.Decides.{nat_tests}
use Rattle.std.proofs.lemmas.Bool.{cases_eq, cases_lt, cases_Bool}
use Rattle.cells.specs.declared.Field.{Field}
use Rattle.cells.specs.declared.Field.TheVariants.{Nil}
use Rattle.graph.specs.Places.{refers_to, Another}
use Rattle.images.specs.First.{references}

module _ (at : ℕ → Field) (a : ℕ) where
  pub references_start : references at a 0 ≡ 0
  unfolding references
  references_start = refl

  -- one more place
  pub references_here : (p : ℕ) → refers_to a (at p) ≡ true → references at a (suc p) ≡ suc (references at a p)
  unfolding references
  references_here p e = rw e

  pub references_not : (p : ℕ) → refers_to a (at p) ≡ false → references at a (suc p) ≡ references at a p
  unfolding references
  references_not p e = rw e

  references_rise : (n : ℕ) → references at a n ≤ references at a (suc n)
  references_rise n = ⊎_elim (λ e. omega (arith, references_here n e)) (λ e. omega (arith, references_not n e)) (cases_Bool (refers_to a (at n)))

  -- one place that refers there, for a count of one
  one_from : (n : ℕ) → 1 ≤ references at a n → (q : ℕ) × (q < n) × (refers_to a (at q) ≡ true)
  one_from zero h = absurd (omega (arith, references_start))
  one_from (suc n) h =
      ⊎_elim
      (λ e. (n, omega arith, e))
      (λ e. let w = one_from n (omega (arith, references_not n e)) in (w.0, omega (arith, w.1), w.2))
      (cases_Bool (refers_to a (at n)))

  -- one that is not p, for a count of two
  other_from : (n p : ℕ) → 2 ≤ references at a n → Another at p a
  other_from zero p h = absurd (omega (arith, references_start))
  other_from (suc n) p h =
      ⊎_elim
      (λ e. ⊎_elim
      (λ same. let w = one_from n (omega (arith, references_here n e)) in (w.0, (λ z. omega (arith, w.1)), w.2))
      (λ ne. (n, ne, e))
      (cases_eq n p))
      (λ e. other_from n p (omega (arith, references_not n e)))
      (cases_Bool (refers_to a (at n)))

  -- and back
  to_one : (n q : ℕ) → q < n → refers_to a (at q) ≡ true → 1 ≤ references at a n
  to_one zero q l e = absurd (omega arith)
  to_one (suc n) q l e =
      ⊎_elim
      (λ same. let h : refers_to a (at n) ≡ true = ap (λ k. refers_to a (at k)) (sym same) ∙ e in omega (arith, references_here n h))
      (λ ne. let i = to_one n q (omega arith) e in let s = references_rise n in omega arith)
      (cases_eq q n)

  to_two : (n p q : ℕ) → p < n → q < n → (q ≡ p → ⊥) → refers_to a (at p) ≡ true → refers_to a (at q) ≡ true → 2 ≤ references at a n
  to_two zero p q l k ne e f = absurd (omega arith)
  to_two (suc n) p q l k ne e f =
      ⊎_elim
      (λ same. let h : refers_to a (at n) ≡ true = ap (λ i. refers_to a (at i)) (sym same) ∙ e in let i = to_one n q (omega arith) f in omega (arith, references_here n h))
      (λ np. ⊎_elim
      (λ same. let h : refers_to a (at n) ≡ true = ap (λ i. refers_to a (at i)) (sym same) ∙ f in let i = to_one n p (omega arith) e in omega (arith, references_here n h))
      (λ nq. let i = to_two n p q (omega arith) (omega arith) ne e f in let s = references_rise n in omega arith)
      (cases_eq q n))
      (cases_eq p n)

  -- a tally of two tells that another place than one that refers there does so too
  pub tally_decides : (n p : ℕ) → ((q : ℕ) → n ≤ q → at q ≡ Nil) → p < n → refers_to a (at p) ≡ true → (t : ℕ) → t ≡ min 2 (references at a n) → Decides (leb 2 t) (Another at p a)
  tally_decides n p past l e t is = (there, here)
    where
      there : leb 2 t ≡ true → Another at p a
      there h = other_from n p (grind (arith, nat_tests))

      below : (q : ℕ) → refers_to a (at q) ≡ true → q < n
      below q f = ⊎_elim (λ k. k) (λ k. absurd (let z : refers_to a Nil ≡ true = ap (refers_to a) (sym (past q k)) ∙ f in grind arith)) (cases_lt q n)

      here : Another at p a → leb 2 t ≡ true
      here w = let two = to_two n p w.0 l (below w.0 w.2) w.1 e w.2 in grind (arith, nat_tests)
