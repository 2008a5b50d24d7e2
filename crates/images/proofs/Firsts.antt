-- The first that is found at the numbers below one, a number more; and what the second pass finds.
use Rattle.std.proofs.Common.{◌≡◌, ℕ, zero, suc, ◌+◌, ◌*◌, ◌<◌, ◌≤◌, ltb, leb, List, length, get_or, drop, Some, None, Option, sym, refl, ap, ◌∙◌, ap₂, ⊎_elim, arith}
use Rattle.std.proofs.lemmas.Bool.{cases_eq, cases_Bool}
use Rattle.std.proofs.lemmas.Bool.Decides.{nat_tests}
use Rattle.cells.specs.declared.Field.{Field}
use Rattle.cells.specs.declared.Field.TheVariants.{Nil, To}
use Rattle.cells.specs.declared.Side.TheVariants.{Left, Right}
use Rattle.images.specs.declared.faults.Place.{Place}
use Rattle.images.specs.declared.faults.Place.TheVariants.{Cell as Of}
use Rattle.images.specs.declared.faults.Flaw.{Flaw}
use Rattle.images.specs.declared.faults.Fault.{Fault}
use Rattle.images.specs.declared.surveys.Survey.{Survey}
use Rattle.images.specs.Layout.{held, count_in}
use Rattle.images.specs.Faults.{number_of, headed}
use Rattle.images.specs.First.{or_else, first, references, tag_step, tag_flaw, cell_tags, first_flaw, flawed, first_fault}
use Rattle.images.specs.Surveys.{Surveyed, mistag, Kept}

module _ {A : Type 0} (at : ℕ → Option A) where
  pub first_start : first at 0 ≡ None
  unfolding first
  first_start = refl

  first_step : (n : ℕ) → first at (suc n) ≡ or_else (first at n) (at n)
  unfolding first
  first_step n = refl

  pub first_more : (i n : ℕ) → suc i ≡ n → first at i ≡ None → at i ≡ None → first at n ≡ None
  first_more i n next e h = ap (first at) (sym next) ∙ first_step i ∙ ap (λ o. or_else o (at i)) e ∙ h

  pub first_found : (i n : ℕ) (x : A) → i < n → first at i ≡ None → at i ≡ Some x → Some x ≡ first at n
  first_found i zero x l e h = absurd (omega arith)
  first_found i (suc n) x l e h =
      ⊎_elim
      (λ same. sym (first_step n ∙ ap (λ k. or_else (first at k) (at k)) (sym same) ∙ ap (λ o. or_else o (at i)) e ∙ h))
      (λ ne. let before = first_found i n x (omega arith) e h in sym (first_step n ∙ ap (λ o. or_else o (at n)) (sym before)))
      (cases_eq i n)

module _ {V : Type 0} (taken : ℕ → Option V) (rest : List ℕ) (r : ℕ) where
  -- a tally up to two tells a tag's flaw as well as the count does
  pub tag_flaw_lem : r ≤ 32768 → Kept taken rest r (16 + 2 * r) → (s : Survey) → Surveyed (held taken rest r) (16 + 2 * r) s → (place : Place) (f : Field) → number_of place < 16 + 2 * r → held taken rest r (number_of place) ≡ f → mistag place f s.references ≡ tag_flaw taken rest r place
  tag_flaw_lem few K s S place f l e = counted f e ∙ ap (tag_step (λ a. references (held taken rest r) a (16 + 2 * r)) place) (sym e)
    where
      counted : (f : Field) → held taken rest r (number_of place) ≡ f → mistag place f s.references ≡ tag_step (λ a. references (held taken rest r) a (16 + 2 * r)) place f
      counted Nil z = refl
      counted (To x) z =
          let a = K.inside (number_of place) x l z in
          let t = S.tally x.address (omega arith) in
          let same : leb 2 (get_or s.references x.address 0) ≡ leb 2 (references (held taken rest r) x.address (16 + 2 * r)) = grind (arith, nat_tests) in
          rw same

-- the tags on the sides of a cell, one after the other
module _ {V : Type 0} (taken : ℕ → Option V) (rest : List ℕ) (r : ℕ) (j : ℕ) where
  pub no_tags : held taken rest r (16 + 2 * j) ≡ Nil → held taken rest r (17 + 2 * j) ≡ Nil → None ≡ cell_tags taken rest r j
  no_tags left right =
      let step : Place → Field → Option Flaw = tag_step (λ a. references (held taken rest r) a (16 + 2 * r)) in
      sym (ap₂ (λ x y. or_else (step (Of Left j) x) (step (Of Right j) y)) left right)

  pub left_tag : (flaw : Flaw) → Some flaw ≡ tag_flaw taken rest r (Of Left j) → Some flaw ≡ cell_tags taken rest r j
  left_tag flaw e = sym (ap (λ o. or_else o (tag_flaw taken rest r (Of Right j))) (sym e))

  pub right_tag : (o : Option Flaw) → None ≡ tag_flaw taken rest r (Of Left j) → o ≡ tag_flaw taken rest r (Of Right j) → o ≡ cell_tags taken rest r j
  right_tag o ok e = e ∙ sym (ap (λ w. or_else w (tag_flaw taken rest r (Of Right j))) (sym ok))

-- the first fault is the heading's, if it has one, and else that of hands and cells
pub first_headed : {V : Type 0} (taken : ℕ → Option V) (number : ℕ) (bytes : List ℕ) (o : Option Fault) → o ≡ headed number bytes → or_else o (flawed (first_flaw taken (drop 4 bytes) (count_in bytes))) ≡ first_fault taken number bytes
first_headed taken number bytes o e =
    ap (λ h. or_else h (flawed (first_flaw taken (drop 4 bytes) (count_in bytes)))) e
    ∙ ⊎_elim (λ t. rw t) (λ t. rw t) (cases_Bool (ltb (length bytes) 4))

pub first_surveyed : {V : Type 0} (taken : ℕ → Option V) (number : ℕ) (bytes : List ℕ) {rest : List ℕ} {r : ℕ} (o : Option Flaw) → rest ≡ drop 4 bytes → r ≡ count_in bytes → None ≡ headed number bytes → o ≡ first_flaw taken rest r → flawed o ≡ first_fault taken number bytes
first_surveyed taken number bytes o here n e f =
    ap flawed (f ∙ ap₂ (λ rest r. first_flaw taken rest r) here n) ∙ first_headed taken number bytes None e
