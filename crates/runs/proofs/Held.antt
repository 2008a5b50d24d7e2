-- What places hold after a write to a hand or to a side of a cell. Assumes nothing.
use Rattle.std.proofs.Common.{◌≡◌, ℕ, ◌%◌, ◌<◌, ◌≤◌, cond, eqb, List, length, get_or, set, sym, ap, ◌∙◌, inl, inr, arith, get_or-set_other, get_or-set_same}
use Rattle.std.proofs.lemmas.Bool.Decides.{nat_tests}
use Rattle.std.proofs.lemmas.Bool.{cases_lt, cases_eq}
use Rattle.cells.specs.declared.Field.{Field}
use Rattle.cells.specs.declared.Field.TheVariants.{Nil}
use Rattle.cells.specs.declared.Side.{Side}
use Rattle.cells.specs.declared.Side.TheVariants.{Left, Right}
use Rattle.cells.specs.declared.Cell.{Cell}
use Rattle.cells.specs.declared.Cell.TheVariants.{Blank, Pair}
use Rattle.graph.specs.Places.{place_of, cell_of, side_of, field_of, holds}
use Rattle.graph.proofs.Reading.{holds_hand, holds_side, cell_of_place, place_from_16}
use Rattle.store.specs.Fields.{with_side}

-- what a place holds after a field is written at p
abbrev pub upd : ℕ → Field → (ℕ → Field) → ℕ → Field
upd p f held q = cond (eqb q p) f (held q)

pub upd_here : (p : ℕ) (f : Field) (held : ℕ → Field) → upd p f held p ≡ f
upd_here p f held = grind (arith, nat_tests)

pub upd_there : (p q : ℕ) (f : Field) (held : ℕ → Field) → (q ≡ p → ⊥) → upd p f held q ≡ held q
upd_there p q f held h = grind (arith, nat_tests)

module _ {V : Type 0} (hands : List Field) (cells : List (Cell V)) where
  pub hand_set : (h : ℕ) (f : Field) → h < 16 → length hands ≡ 16 → (q : ℕ) → holds (set hands h f) cells q ≡ upd h f (holds hands cells) q
  hand_set h f k l q =
      elim (cases_eq q h) [
        | inl e ↦
            let b : h < length hands = omega arith in
            ap (holds (set hands h f) cells) e ∙ holds_hand (set hands h f) cells h k ∙ get_or-set_same hands h f Nil b
            ∙ sym (ap (upd h f (holds hands cells)) e ∙ upd_here h f (holds hands cells))
        | inr n ↦ elim (cases_lt q 16) [
          | inl s ↦ holds_hand (set hands h f) cells q s ∙ get_or-set_other hands h q f Nil n ∙ sym (holds_hand hands cells q s) ∙ sym (upd_there h q f (holds hands cells) n)
          | inr s ↦ holds_side (set hands h f) cells q s ∙ sym (holds_side hands cells q s) ∙ sym (upd_there h q f (holds hands cells) n)
        ]
      ]

  -- a place of a cell is its left or its right side
  pub place_side : (q : ℕ) → 16 ≤ q → q ≡ place_of (side_of q) (cell_of q)
  place_side q h =
      elim (cases_eq (q % 2) 0) [
        | inl e ↦ let t : side_of q ≡ Left = grind (arith, nat_tests) in (omega arith) ∙ sym (ap (λ x. place_of x (cell_of q)) t)
        | inr e ↦ let t : side_of q ≡ Right = grind (arith, nat_tests) in (omega arith) ∙ sym (ap (λ x. place_of x (cell_of q)) t)
      ]

  -- the two sides of a pair, one of them set
  sides_set : (a q : ℕ) (s t : Side) (f l r : Field) → q ≡ place_of t a → field_of t (with_side {V = V} s f (Pair l r)) ≡ cond (eqb q (place_of s a)) f (field_of {V = V} t (Pair l r))
  sides_set a q Left Left f l r e = grind (arith, nat_tests)
  sides_set a q Left Right f l r e = grind (arith, nat_tests)
  sides_set a q Right Left f l r e = grind (arith, nat_tests)
  sides_set a q Right Right f l r e = grind (arith, nat_tests)

  pub side_set : (a : ℕ) (s : Side) (f l r : Field) → a < length cells → get_or cells a Blank ≡ Pair l r
      → (q : ℕ) → holds hands (set cells a (with_side s f (get_or cells a Blank))) q ≡ upd (place_of s a) f (holds hands cells) q
  side_set a s f l r h e q =
      elim (cases_lt q 16) [
        | inl k ↦
            let n : q ≡ place_of s a → ⊥ = λ x. (let m = place_from_16 s a in omega arith) in
            holds_hand hands (set cells a (with_side s f (get_or cells a Blank))) q k ∙ sym (holds_hand hands cells q k) ∙ sym (upd_there (place_of s a) q f (holds hands cells) n)
        | inr k ↦ elim (cases_eq (cell_of q) a) [
          | inl x ↦
              let p : q ≡ place_of (side_of q) a = place_side q k ∙ ap (place_of (side_of q)) x in
              holds_side hands (set cells a (with_side s f (get_or cells a Blank))) q k
              ∙ ap (λ j. field_of (side_of q) (get_or (set cells a (with_side s f (get_or cells a Blank))) j Blank)) x
              ∙ ap (field_of (side_of q)) (get_or-set_same cells a (with_side s f (get_or cells a Blank)) Blank h)
              ∙ ap (λ c. field_of (side_of q) (with_side s f c)) e
              ∙ sides_set a q s (side_of q) f l r p
              ∙ sym (ap (λ c. cond (eqb q (place_of s a)) f (field_of (side_of q) c)) (ap (λ j. get_or cells j Blank) x ∙ e))
              ∙ sym (ap (λ g. cond (eqb q (place_of s a)) f g) (holds_side hands cells q k))
          | inr n ↦
              let m : q ≡ place_of s a → ⊥ = λ x. n (ap cell_of x ∙ cell_of_place s a) in
              holds_side hands (set cells a (with_side s f (get_or cells a Blank))) q k
              ∙ ap (field_of (side_of q)) (get_or-set_other cells a (cell_of q) (with_side s f (get_or cells a Blank)) Blank n)
              ∙ sym (holds_side hands cells q k)
              ∙ sym (upd_there (place_of s a) q f (holds hands cells) m)
        ]
      ]
