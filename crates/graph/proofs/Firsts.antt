-- The rules of order from the places at which addresses are first met: they rise, and each comes before its cell's own.
use Rattle.std.proofs.Common.{◌≡◌, ℕ, zero, suc, ◌+◌, ◌*◌, ◌<◌, ◌≤◌, Bool, true, false, ◌↔◌, sym, refl, ap, ◌∙◌, ⊎_elim, arith}
use Rattle.std.proofs.lemmas.Bool.Decides.{nat_tests}
use Rattle.std.proofs.lemmas.Bool.{cases_lt}
use Rattle.cells.specs.declared.Reference.{Reference}
use Rattle.cells.specs.declared.Field.{Field}
use Rattle.cells.specs.declared.Field.TheVariants.{Nil, To}
use Rattle.graph.specs.Graphs.{link_of}
use Rattle.graph.specs.Places.{refers_to, meeting, met}
use Rattle.graph.proofs.Reading.{link_refers, met_step, met_start}

-- first j is the least place that refers to j, for each of r addresses
pub record Firsts (held : ℕ → Field) (r : ℕ) (first : ℕ → ℕ) : Type 0 where
  pub rise : (i j : ℕ) → i < j → j < r → first i < first j
  pub here : (j : ℕ) → j < r → refers_to j (held (first j)) ≡ true
  pub soon : (j : ℕ) → j < r → first j < 16 + 2 * j
  pub least : (p a : ℕ) → p < 16 + 2 * r → refers_to a (held p) ≡ true → (a < r) × (first a ≤ p)

meeting_new : (m : ℕ) (f : Field) → refers_to m f ≡ true → meeting m f ≡ suc m
meeting_new m f e = rw e

meeting_old : (m : ℕ) (f : Field) → refers_to m f ≡ false → meeting m f ≡ m
meeting_old m f e = rw e

meeting_most : (m : ℕ) (f : Field) → meeting m f ≤ suc m
meeting_most m Nil = omega arith
meeting_most m (To x) = grind (arith, nat_tests)

module _ {held : ℕ → Field} {r : ℕ} {first : ℕ → ℕ} (F : Firsts held r first) where
  -- the addresses below the counter are those whose first place has been read
  abbrev Level : ℕ → Type 0
  Level p = (met held p ≤ r) × ((j : ℕ) → j < r → (first j < p) ↔ (j < met held p))

  level_step : (p : ℕ) → p < 16 + 2 * r → Level p → Level (suc p)
  level_step p l level = go (refers_to (met held p) (held p)) refl
    where
      m : ℕ
      m = met held p

      go : (b : Bool) → refers_to (met held p) (held p) ≡ b → Level (suc p)
      go true e =
          let w = F.least p m l e in
          let step : met held (suc p) ≡ suc m = met_step held p ∙ meeting_new m (held p) e in
          let here : first m ≡ p = ⊎_elim (λ h. absurd (let t = (level.1 m w.0).0 h in omega arith)) (λ h. omega (arith, w.1)) (cases_lt (first m) p) in (
            omega (arith, w.0),
            λ j k. (λ h. ⊎_elim (λ x. absurd (let t = F.rise m j x k in omega arith)) (λ x. omega arith) (cases_lt m j), λ h. ⊎_elim (λ x. let t = (level.1 j k).1 x in omega arith) (λ (x : m ≤ j). let same : j ≡ m = omega arith in let t : first j ≡ p = ap first same ∙ here in omega arith) (cases_lt j m)),
          )
      go false e =
          let step : met held (suc p) ≡ m = met_step held p ∙ meeting_old m (held p) e in (
            omega (arith, level.0),
            λ j k. (λ h. ⊎_elim (λ x. let t = (level.1 j k).0 x in omega arith) (λ x. let t = other j k (omega arith) in omega arith) (cases_lt (first j) p), λ h. let t = (level.1 j k).1 (omega arith) in omega arith),
          )
        where
          -- an address first met at p is below the counter, since it is not the counter
          other : (j : ℕ) → j < r → first j ≡ p → j < m
          other j k here =
              let refers : refers_to j (held p) ≡ true = ap (λ q. refers_to j (held q)) (sym here) ∙ F.here j k in
              ⊎_elim
              (λ x. x)
              (λ x. absurd (⊎_elim (λ y. let t = (level.1 m (omega arith)).0 (let u = F.rise m j y k in omega arith) in omega arith) (λ y. let same : m ≡ j = omega arith in let t : refers_to m (held p) ≡ true = rw same refers in grind arith) (cases_lt m j)))
              (cases_lt j m)

  level : (p : ℕ) → p ≤ 16 + 2 * r → Level p
  level zero l = let s = met_start held in (omega arith, λ j k. (λ h. absurd (omega arith), λ h. absurd (omega arith)))
  level (suc p) l = level_step p (omega arith) (level p (omega arith))

  -- the three rules of canonical hands and cells on the order of references
  pub firsts_order : (p : ℕ) (x : Reference) → p < 16 + 2 * r → held p ≡ To x → x.address ≤ met held p
  firsts_order p x l e =
      let w = F.least p x.address l (link_refers (held p) x.address (ap link_of e)) in
      let t = ((level (suc p) (omega arith)).1 x.address w.0).0 (omega (arith, w.1)) in
      let s = met_step held p in
      let u = meeting_most (met held p) (held p) in
      omega arith

  pub firsts_early : (j : ℕ) → j < r → j < met held (16 + 2 * j)
  firsts_early j k = ((level (16 + 2 * j) (omega arith)).1 j k).0 (F.soon j k)

  pub firsts_all : met held (16 + 2 * r) ≡ r
  firsts_all =
      let top = level (16 + 2 * r) (omega arith) in
      ⊎_elim (λ h. absurd (let m = met held (16 + 2 * r) in let t = (top.1 m h).0 (let s = F.soon m h in omega arith) in omega arith)) (λ h. omega (arith, top.0)) (cases_lt (met held (16 + 2 * r)) r)
