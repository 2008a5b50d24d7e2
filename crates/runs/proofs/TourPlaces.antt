-- Banks in a collection: what places and cells hold after a write at a place, or of a copied cell. Assumes nothing.
use Rattle.std.proofs.Common.{◌≡◌, ℕ, zero, suc, ◌+◌, ◌*◌, ◌<◌, ◌≤◌, Bool, true, false, ltb, List, length, get_or, set, sym, refl, ap, ◌∙◌, subst, inl, inr, arith, length-set, get_or-set_other, get_or-set_same}
use Rattle.std.proofs.lemmas.Bool.Decides.{nat_tests}
use Rattle.std.proofs.lemmas.Bool.{cases_lt, cases_eq, and_from}
use Rattle.cells.specs.declared.Reference.{Reference}
use Rattle.cells.specs.declared.Field.{Field}
use Rattle.cells.specs.declared.Field.TheVariants.{Nil, To}
use Rattle.cells.specs.declared.Side.{Side}
use Rattle.cells.specs.declared.Side.TheVariants.{Left, Right}
use Rattle.cells.specs.declared.Source.TheVariants.{Hand, Cell as CellSide}
use Rattle.cells.specs.declared.Cell.{Cell}
use Rattle.cells.specs.declared.Cell.TheVariants.{Blank, Pair, Leaf, Moved}
use Rattle.graph.specs.Places.{cell_of, side_of, field_of, holds, is_node}
use Rattle.graph.proofs.Reading.{holds_hand, holds_side, holds_past}
use Rattle.graph.proofs.Counting.{how_many}
use Rattle.store.specs.Fields.{with_side}
use Rattle.collector.specs.Steps.{hands_with, cells_with, source_at, place_from, is_pair, source_good}
use Rattle.runs.proofs.Tagging.{no_reference}
use Rattle.runs.proofs.Held.{upd, hand_set, side_set}
use Rattle.runs.proofs.TourVisits.{place_side}

-- a cell with its sides left out
abbrev pub bare : {V : Type 0} → Cell V → Cell V
bare Blank = Blank
bare (Pair l r) = Pair Nil Nil
bare (Leaf v) = Leaf v
bare (Moved f s) = Moved f s

pub bare_with : {V : Type 0} (s : Side) (f : Field) (c : Cell V) → bare (with_side s f c) ≡ bare c
bare_with Left f Blank = refl
bare_with Right f Blank = refl
bare_with Left f (Pair l r) = refl
bare_with Right f (Pair l r) = refl
bare_with Left f (Leaf v) = refl
bare_with Right f (Leaf v) = refl
bare_with Left f (Moved g o) = refl
bare_with Right f (Moved g o) = refl

pub bare_node : {V : Type 0} (c d : Cell V) → bare c ≡ bare d → is_node d ≡ true → is_node c ≡ true
bare_node {V} c d e h = sym (kind c) ∙ ap is_node e ∙ kind d ∙ h
  where
    kind : (x : Cell V) → is_node (bare x) ≡ is_node x
    kind Blank = refl
    kind (Pair l r) = refl
    kind (Leaf v) = refl
    kind (Moved f s) = refl

-- a cell with a reference on a side is a pair
pub pair_at : {V : Type 0} (s : Side) (c : Cell V) (r : Reference) → field_of s c ≡ To r → (x : Field) × (y : Field) × (c ≡ Pair x y)
pair_at s Blank r e = absurd (no_reference e)
pair_at s (Pair x y) r e = (x, y, refl)
pair_at s (Leaf v) r e = absurd (no_reference e)
pair_at s (Moved f o) r e = absurd (no_reference e)

module _ {V : Type 0} (hands : List Field) (cells : List (Cell V)) where
  hands_low : (p : ℕ) (f : Field) → p < 16 → hands_with p f hands ≡ set hands p f
  hands_low p f h = grind (arith, nat_tests)

  hands_high : (p : ℕ) (f : Field) → 16 ≤ p → hands_with p f hands ≡ hands
  hands_high p f h = grind (arith, nat_tests)

  cells_low : (p : ℕ) (f : Field) → p < 16 → cells_with p f cells ≡ cells
  cells_low p f h = grind (arith, nat_tests)

  cells_high : (p : ℕ) (f : Field) → 16 ≤ p → cells_with p f cells ≡ set cells (cell_of p) (with_side (side_of p) f (get_or cells (cell_of p) Blank))
  cells_high p f h = grind (arith, nat_tests)

  -- a reference at a place is replaced
  pub with_holds : (p : ℕ) (f : Field) (r : Reference) → length hands ≡ 16 → holds hands cells p ≡ To r
      → (q : ℕ) → holds (hands_with p f hands) (cells_with p f cells) q ≡ upd p f (holds hands cells) q
  with_holds p f r l e q =
      elim (cases_lt p 16) [
        | inl h ↦ ap (λ x. holds x (cells_with p f cells) q) (hands_low p f h) ∙ ap (λ x. holds (set hands p f) x q) (cells_low p f h) ∙ hand_set hands cells p f h l q
        | inr h ↦
            let x = pair_at (side_of p) (get_or cells (cell_of p) Blank) r (sym (holds_side hands cells p h) ∙ e) in
            ap (λ x. holds x (cells_with p f cells) q) (hands_high p f h) ∙ ap (λ x. holds hands x q) (cells_high p f h)
            ∙ side_set hands cells (cell_of p) (side_of p) f x.0 x.1 (inside h) x.2 q
            ∙ ap (λ z. upd z f (holds hands cells) q) (sym (place_side p h))
      ]
    where
      inside : 16 ≤ p → cell_of p < length cells
      inside h =
          elim (cases_lt p (16 + 2 * length cells)) [
            | inl k ↦ omega arith
            | inr k ↦ absurd (no_reference (sym (holds_past hands cells p k) ∙ e))
          ]

  -- a cell is written: the places before its own are as they were, and its own are its sides
  pub copy_before : (k : ℕ) (c : Cell V) (q : ℕ) → q < 16 + 2 * k → holds hands (set cells k c) q ≡ holds hands cells q
  copy_before k c q h =
      elim (cases_lt q 16) [
        | inl l ↦ holds_hand hands (set cells k c) q l ∙ sym (holds_hand hands cells q l)
        | inr l ↦
            holds_side hands (set cells k c) q l
            ∙ ap (field_of (side_of q)) (get_or-set_other cells k (cell_of q) c Blank (λ e. omega arith))
            ∙ sym (holds_side hands cells q l)
      ]

  pub copy_own : (k : ℕ) (c : Cell V) (q : ℕ) → k < length cells → 16 + 2 * k ≤ q → q < 16 + 2 * suc k → holds hands (set cells k c) q ≡ field_of (side_of q) c
  copy_own k c q b h g =
      let e : cell_of q ≡ k = omega arith in
      holds_side hands (set cells k c) q (omega arith)
      ∙ ap (λ z. field_of (side_of q) (get_or (set cells k c) z Blank)) e
      ∙ ap (field_of (side_of q)) (get_or-set_same cells k c Blank b)

  -- sizes and kinds stay
  pub hands_length : (p : ℕ) (f : Field) → length (hands_with p f hands) ≡ length hands
  hands_length p f =
      elim (cases_lt p 16) [
        | inl h ↦ ap length (hands_low p f h) ∙ length-set hands p f
        | inr h ↦ ap length (hands_high p f h)
      ]

  pub cells_length : (p : ℕ) (f : Field) → length (cells_with p f cells) ≡ length cells
  cells_length p f =
      elim (cases_lt p 16) [
        | inl h ↦ ap length (cells_low p f h)
        | inr h ↦ ap length (cells_high p f h) ∙ length-set cells (cell_of p) (with_side (side_of p) f (get_or cells (cell_of p) Blank))
      ]

  pub cells_bare : (p : ℕ) (f : Field) (i : ℕ) → i < length cells → bare (get_or (cells_with p f cells) i Blank) ≡ bare (get_or cells i Blank)
  cells_bare p f i b =
      elim (cases_lt p 16) [
        | inl h ↦ ap (λ x. bare (get_or x i Blank)) (cells_low p f h)
        | inr h ↦ ap (λ x. bare (get_or x i Blank)) (cells_high p f h) ∙ elim (cases_eq i (cell_of p)) [
          | inl e ↦
              let n : cell_of p < length cells = subst (λ z. z < length cells) e b in
              ap (λ z. bare (get_or (set cells (cell_of p) (with_side (side_of p) f (get_or cells (cell_of p) Blank))) z Blank)) e
              ∙ ap bare (get_or-set_same cells (cell_of p) (with_side (side_of p) f (get_or cells (cell_of p) Blank)) Blank n)
              ∙ bare_with (side_of p) f (get_or cells (cell_of p) Blank)
              ∙ ap (λ z. bare (get_or cells z Blank)) (sym e)
          | inr n ↦ ap bare (get_or-set_other cells (cell_of p) i (with_side (side_of p) f (get_or cells (cell_of p) Blank)) Blank n)
        ]
      ]

  -- a place with a reference is a good source
  pub source_good_lem : (k p : ℕ) (r : Reference) → p < 16 + 2 * k → holds hands cells p ≡ To r → source_good k cells (source_at p) ≡ true
  source_good_lem k p r h e =
      elim (cases_lt p 16) [
        | inl l ↦ ap (source_good k cells) (let x : source_at p ≡ Hand p = grind (arith, nat_tests) in x) ∙ grind (arith, nat_tests)
        | inr l ↦
            let x = pair_at (side_of p) (get_or cells (cell_of p) Blank) r (sym (holds_side hands cells p l) ∙ e) in
            let y : ltb (cell_of p) k ≡ true = grind (arith, nat_tests) in
            ap (source_good k cells) (let x : source_at p ≡ CellSide (cell_of p) (side_of p) = grind (arith, nat_tests) in x)
            ∙ and_from (ltb (cell_of p) k) (is_pair (get_or cells (cell_of p) Blank)) y (ap is_pair x.2)
      ]

pub place_from_source : (p : ℕ) → place_from (source_at p) ≡ p
place_from_source p =
    elim (cases_lt p 16) [
      | inl l ↦ ap place_from (let x : source_at p ≡ Hand p = grind (arith, nat_tests) in x)
      | inr l ↦ ap place_from (let x : source_at p ≡ CellSide (cell_of p) (side_of p) = grind (arith, nat_tests) in x) ∙ sym (place_side p l)
    ]

-- ---- numbers that pass a test

pub many_like : (f g : ℕ → Bool) (k : ℕ) → ((j : ℕ) → j < k → f j ≡ g j) → how_many f k ≡ how_many g k
many_like f g zero e = refl
many_like f g (suc k) e = let x = many_like f g k (λ j h. e j (omega arith)) in let y = e k (omega arith) in grind (arith, nat_tests)

pub many_more : (f g : ℕ → Bool) (k j : ℕ) → j < k → f j ≡ false → g j ≡ true → ((i : ℕ) → i < k → (i ≡ j → ⊥) → g i ≡ f i) → how_many g k ≡ suc (how_many f k)
many_more f g zero j h a b e = absurd (omega arith)
many_more f g (suc k) j h a b e =
    elim (cases_eq k j) [
      | inl q ↦
          let x = many_like g f k (λ i l. e i (omega arith) (λ z. omega arith)) in
          let y : f k ≡ false = ap f q ∙ a in
          let z : g k ≡ true = ap g q ∙ b in
          grind (arith, nat_tests)
      | inr n ↦
          let x = many_more f g k j (omega arith) a b (λ i l. e i (omega arith)) in
          let y = e k (omega arith) n in
          grind (arith, nat_tests)
    ]
