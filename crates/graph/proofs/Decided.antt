-- The computed test of canonical hands and cells says what it should.
use Rattle.std.proofs.Common.{◌≡◌, ℕ, ◌+◌, ◌*◌, ◌<◌, ◌≤◌, Bool, true, false, not, ◌&&◌, eqb, ltb, leb, ◌↔◌, length, get_or, Decides, sym, refl, ap, ◌∙◌, subst, ⊎_elim, arith}
use Rattle.std.proofs.lemmas.Bool.Decides.{nat_tests, Decides-eqb, Decides-ltb, Decides-and, Decides-not, Decides-like, Decides-below_and, Decides-below_or}
use Rattle.std.proofs.lemmas.Bool.{cases_lt}
use Rattle.cells.specs.declared.Tag.{Tag}
use Rattle.cells.specs.declared.Tag.TheVariants.{Unique, Sticky}
use Rattle.cells.specs.declared.Reference.{Reference}
use Rattle.cells.specs.declared.Field.{Field}
use Rattle.cells.specs.declared.Field.TheVariants.{Nil, To}
use Rattle.cells.specs.declared.Cell.TheVariants.{Blank}
use Rattle.graph.specs.Places.{holds, refers_to, Another, Exact, met, is_node}
use Rattle.graph.specs.Checks.{every, some, addressed, tagged, another, rightly, is_canonical}
use Rattle.graph.specs.Theorems.{CanonicalIsDecided}
use Rattle.graph.proofs.Reading.{holds_past}

decides_addressed : (test : ℕ → Bool) (P : ℕ → Type 0) → ((a : ℕ) → Decides (test a) (P a)) → (f : Field) → Decides (addressed test f) ((r : Reference) → f ≡ To r → P r.address)
decides_addressed test P d Nil = (λ t r e. absurd (grind arith), λ h. refl)
decides_addressed test P d (To s) = (λ t r e. let same : s ≡ r = cc in subst P (ap (λ (x : Reference). x.address) same) ((d s.address).0 t), λ h. (d s.address).1 (h s refl))

-- the same of a test on places, for those below n
decides_places : (held : ℕ → Field) (test : ℕ → ℕ → Bool) (P : ℕ → ℕ → Type 0) → ((p a : ℕ) → Decides (test p a) (P p a)) → (n : ℕ) → Decides (every (λ p. addressed (test p) (held p)) n) ((p : ℕ) (r : Reference) → p < n → held p ≡ To r → P p r.address)
decides_places held test P d n =
    Decides-like (every (λ p. addressed (test p) (held p)) n) (λ h p r l. h p l r) (λ h p l r. h p r l)
    (Decides-below_and (λ p. addressed (test p) (held p)) (λ p. (r : Reference) → held p ≡ To r → P p r.address) (every (λ p. addressed (test p) (held p))) (λ p. decides_addressed (test p) (P p) (d p) (held p)) refl (λ _. refl) n)

decides_leb : (a b : ℕ) → Decides (leb a b) (a ≤ b)
decides_leb a b = (λ e. grind (arith, nat_tests), λ l. grind (arith, nat_tests))

pub decides_tagged : (t : Tag) (b : Bool) {S : Type 0} → Decides b S → Decides (tagged t b) ((t ≡ Sticky) ↔ S)
decides_tagged Unique b {S} d = (λ e. (λ u. absurd (grind arith), λ x. absurd (let y = d.1 x in grind arith)), λ h. unshared h b refl)
  where
    unshared : ((Unique ≡ Sticky) ↔ S) → (c : Bool) → b ≡ c → not b ≡ true
    unshared h true e = absurd (let y = h.1 (d.0 e) in grind arith)
    unshared h false e = rw e
decides_tagged Sticky b d = (λ e. (λ u. d.0 e, λ x. refl), λ h. d.1 (h.0 refl))

decides_rightly : (f : Field) (shared : ℕ → Bool) (S : ℕ → Type 0) → ((a : ℕ) → Decides (shared a) (S a)) → Decides (rightly f shared) ((r : Reference) → f ≡ To r → (r.tag ≡ Sticky) ↔ S r.address)
decides_rightly Nil shared S d = (λ t r e. absurd (grind arith), λ h. refl)
decides_rightly (To s) shared S d =
    let w = decides_tagged s.tag (shared s.address) (d s.address) in
    let P : Reference → Type 0 = λ r. (r.tag ≡ Sticky) ↔ S r.address in
    (λ t r e. let same : s ≡ r = cc in subst P same (w.0 t), λ h. w.1 (h s refl))

-- past the n places nothing refers to anything
module _ (held : ℕ → Field) (n : ℕ) (past : (p : ℕ) → n ≤ p → held p ≡ Nil) where
  refers_below : (p a : ℕ) → refers_to a (held p) ≡ true → p < n
  refers_below p a e = ⊎_elim (λ l. l) (λ l. absurd (let z = past p l in let t : refers_to a Nil ≡ true = sym (ap (refers_to a) z) ∙ e in grind arith)) (cases_lt p n)

  decides_another : (p a : ℕ) → Decides (another held n p a) (Another held p a)
  decides_another p a =
      Decides-like (another held n p a)
      (λ w. (w.0, w.2.0, w.2.1))
      (λ w. (w.0, refers_below w.0 a w.2, (w.1, w.2)))
      (Decides-below_or (λ q. not (eqb q p) && refers_to a (held q)) (λ q. (q ≡ p → ⊥) × (refers_to a (held q) ≡ true)) (some (λ q. not (eqb q p) && refers_to a (held q)))
      (λ q. Decides-and (not (eqb q p)) (refers_to a (held q)) (Decides-not (eqb q p) (Decides-eqb q p)) (λ e. e, λ e. e))
      refl (λ _. refl) n)

  decides_exact : Decides (every (λ p. rightly (held p) (another held n p)) n) (Exact held)
  decides_exact =
      Decides-like (every (λ p. rightly (held p) (another held n p)) n)
      (λ h p r e. ⊎_elim (λ l. h p l r e) (λ l. absurd (let z = past p l in grind arith)) (cases_lt p n))
      (λ h p l r e. h p r e)
      (Decides-below_and (λ p. rightly (held p) (another held n p)) (λ p. (r : Reference) → held p ≡ To r → (r.tag ≡ Sticky) ↔ Another held p r.address) (every (λ p. rightly (held p) (another held n p)))
      (λ p. decides_rightly (held p) (another held n p) (Another held p) (decides_another p)) refl (λ _. refl) n)

pub canonical_is_decided : {V : Type 0} → CanonicalIsDecided V
canonical_is_decided hands cells =
    let held : ℕ → Field = holds hands cells in
    let r : ℕ = length cells in
    let n : ℕ = 16 + 2 * r in
    let t₀ : Bool = eqb (length hands) 16 in
    let t₁ : Bool = every (λ j. is_node (get_or cells j Blank)) r in
    let t₂ : Bool = every (λ p. addressed (λ a. ltb a r) (held p)) n in
    let t₃ : Bool = every (λ p. addressed (λ a. leb a (met held p)) (held p)) n in
    let t₄ : Bool = every (λ j. ltb j (met held (16 + 2 * j))) r in
    let t₅ : Bool = eqb (met held n) r in
    let t₆ : Bool = every (λ p. rightly (held p) (another held n p)) n in
    Decides-like (is_canonical hands cells)
    (λ w. record { sixteen = w.0; kinds = w.1.0; inside = w.1.1.0; order = w.1.1.1.0; early = w.1.1.1.1.0; all = w.1.1.1.1.1.0; tags = w.1.1.1.1.1.1 })
    (λ C. (C.sixteen, (C.kinds, (C.inside, (C.order, (C.early, (C.all, C.tags)))))))
    (Decides-and t₀ (t₁ && (t₂ && (t₃ && (t₄ && (t₅ && t₆))))) (Decides-eqb (length hands) 16)
    (Decides-and t₁ (t₂ && (t₃ && (t₄ && (t₅ && t₆)))) (Decides-below_and (λ j. is_node (get_or cells j Blank)) (λ j. is_node (get_or cells j Blank) ≡ true) (every (λ j. is_node (get_or cells j Blank))) (λ j. (λ e. e, λ e. e)) refl (λ _. refl) r)
    (Decides-and t₂ (t₃ && (t₄ && (t₅ && t₆))) (decides_places held (λ p a. ltb a r) (λ p a. a < r) (λ p a. Decides-ltb a r) n)
    (Decides-and t₃ (t₄ && (t₅ && t₆)) (decides_places held (λ p a. leb a (met held p)) (λ p a. a ≤ met held p) (λ p a. decides_leb a (met held p)) n)
    (Decides-and t₄ (t₅ && t₆) (Decides-below_and (λ j. ltb j (met held (16 + 2 * j))) (λ j. j < met held (16 + 2 * j)) (every (λ j. ltb j (met held (16 + 2 * j)))) (λ j. Decides-ltb j (met held (16 + 2 * j))) refl (λ _. refl) r)
    (Decides-and t₅ t₆ (Decides-eqb (met held n) r) (decides_exact held n (holds_past hands cells))))))))
