-- The array that `from_fn` makes of calls that change no capture.
use Rattle.std.proofs.Common.{◌≡◌, ℕ, zero, suc, ◌+◌, ◌<◌, ◌≤◌, List, get_or, sym, refl, ap, ◌∙◌, subst, ⊎_elim, arith}
use Rattle.std.proofs.lemmas.Bool.{cases_eq}
use Rattle.std.specs.Fn.{Called}
use Rattle.std.specs.Array.{IsFromFnResultFrom, IsFromFnResult}
use denote.Param.Members.{Mut}

module _ {F B : Type 0} (g : Mut F (ℕ × Unit {0}) B) (f : F) (h : ℕ → B) (step : (i : ℕ) (y : B) (q : F) → Called g f (i, tt) y q → (y ≡ h i) × (q ≡ f)) where
  each_made : (ys : List B) (d : B) (n i : ℕ) (p : F) → p ≡ f → IsFromFnResultFrom g p ys i n → (k : ℕ) → i ≤ k → k < i + n → get_or ys k d ≡ h k
  each_made ys d zero i p e made k l u = absurd (omega arith)
  each_made ys d (suc n) i p e made k l u =
      let one = step i made.1 made.0 (subst (λ s. Called g s (i, tt) made.1 made.0) e made.3) in
      ⊎_elim
      (λ same. ap (λ j. get_or ys j d) same ∙ made.2.1 d ∙ one.0 ∙ ap h (sym same))
      (λ ne. each_made ys d n (i + 1) made.0 one.1 made.4 k (omega arith) (omega arith))
      (cases_eq k i)

  pub at_index : (ys : List B) (n : ℕ) → IsFromFnResult g f ys n → (k : ℕ) (d : B) → k < n → get_or ys k d ≡ h k
  at_index ys n made k d l = each_made ys d n 0 f refl made.each k (omega arith) (omega arith)
