-- The free list, and lists in general. Assumes nothing.
use Rattle.std.proofs.Common.{◌≡◌, ℕ, zero, suc, ◌+◌, ◌<◌, ◌⊎◌, List, [], ◌∷◌, ◌++◌, length, get_or, sym, refl, ap, ◌∙◌, inl, inr, arith, length-append}
use Rattle.std.proofs.lemmas.Bool.Decides.{nat_tests}
use Rattle.std.proofs.lemmas.Bool.{cases_lt}
use Rattle.runs.specs.Sound.{Listed}
use Rattle.cells.specs.declared.Tag.{Tag}
use Rattle.cells.specs.declared.Tag.TheVariants.{Unique, Sticky}
use Rattle.cells.specs.declared.Reference.{Reference}
use Rattle.cells.specs.declared.Field.{Field}
use Rattle.cells.specs.declared.Field.TheVariants.{Nil, To}
use Rattle.store.specs.Fields.{let_go}

-- an element of a list with one more at its end
pub get_d_push : {X : Type 0} (xs : List X) (x d : X) (i : ℕ) → i < length xs → get_or (xs ++ (x ∷ [])) i d ≡ get_or xs i d
get_d_push [] x d i h = absurd (omega arith)
get_d_push (y ∷ xs) x d zero h = refl
get_d_push (y ∷ xs) x d (suc i) h = get_d_push xs x d i (omega arith)

pub get_d_end : {X : Type 0} (xs : List X) (x d : X) → get_or (xs ++ (x ∷ [])) (length xs) d ≡ x
get_d_end [] x d = refl
get_d_end (y ∷ xs) x d = get_d_end xs x d

pub length_push : {X : Type 0} (xs : List X) (x : X) → length (xs ++ (x ∷ [])) ≡ length xs + 1
length_push xs x = length-append xs (x ∷ [])

-- what is listed after one more address is listed
pub listed_push : (free : List ℕ) (x a : ℕ) → Listed (free ++ (x ∷ [])) a → Listed free a ⊎ (a ≡ x)
listed_push free x a (i, h, e) =
    elim (cases_lt i (length free)) [
      | inl l ↦ inl (i, l, sym (get_d_push free x 0 i l) ∙ e)
      | inr l ↦ inr (let q : i ≡ length free = omega (arith, length_push free x) in sym e ∙ ap (λ k. get_or (free ++ (x ∷ [])) k 0) q ∙ get_d_end free x 0)
    ]

pub listed_more : (free : List ℕ) (x a : ℕ) → Listed free a → Listed (free ++ (x ∷ [])) a
listed_more free x a (i, h, e) = (i, omega (arith, length_push free x), get_d_push free x 0 i h ∙ e)

pub listed_last : (free : List ℕ) (x : ℕ) → Listed (free ++ (x ∷ [])) x
listed_last free x = (length free, omega (arith, length_push free x), get_d_end free x 0)

-- a field that is let go with effect
pub record Lets (mark : ℕ) (f : Field) (a : ℕ) : Type 0 where
  pub reference : Reference
  pub is : f ≡ To reference
  pub sole : reference.tag ≡ Unique
  pub low : reference.address < mark
  pub same : reference.address ≡ a

-- letting go lists at most the address of a UNIQUE reference below the mark
pub letgo_cases : (mark : ℕ) (f : Field) (free : List ℕ)
    → (let_go mark f free ≡ free) ⊎ ((a : ℕ) × Lets mark f a × (let_go mark f free ≡ free ++ (a ∷ [])) × (length free < 16))
letgo_cases mark Nil free = inl refl
letgo_cases mark (To r) free = go r.tag refl
  where
    go : (t : Tag) → r.tag ≡ t → (let_go mark (To r) free ≡ free) ⊎ ((a : ℕ) × Lets mark (To r) a × (let_go mark (To r) free ≡ free ++ (a ∷ [])) × (length free < 16))
    go Sticky e = inl (grind (arith, nat_tests))
    go Unique e =
        elim (cases_lt r.address mark) [
          | inr h ↦ inl (grind (arith, nat_tests))
          | inl h ↦ elim (cases_lt (length free) 16) [
            | inr k ↦ inl (grind (arith, nat_tests))
            | inl k ↦ inr (r.address, record { reference = r; is = refl; sole = e; low = h; same = refl }, grind (arith, nat_tests), k)
          ]
        ]
