-- Where two images first differ, and the line that says so. Assumes nothing.
use Rattle.std.specs.Prelude.{◌≡◌, ℕ, ◌<◌, Bool, List, ◌++◌, Some, None, codes, decimal, Option, ◌≢◌}
use Rattle.cells.specs.declared.Cell.{Cell}
use Rattle.images.specs.Layout.{or_nil}
use Rattle.images.specs.Images.{hand_of, cell_of}
use Rattle.cells.specs.Shown.{field_text}
use Rattle.dumps.specs.Shown.{CellText}
use Rattle.reports.specs.declared.apart.Difference.{Difference}
use Rattle.reports.specs.declared.apart.Difference.TheVariants.{Hand, Cell as At}

-- two functions of a number first differ, below a limit, at this number; none where they do not
abbrev pub FirstApart : {A : Type 0} → (ℕ → A) → (ℕ → A) → ℕ → Option ℕ → Type 0
FirstApart f g limit None = (k : ℕ) → k < limit → f k ≡ g k
FirstApart f g limit (Some i) = (i < limit) × (f i ≢ g i) × ((k : ℕ) → k < i → f k ≡ g k)

-- the first difference of two images: of their hands, else of their cells, one of which may have ended
abbrev pub Differs : {V : Type 0} → (ℕ → Option V) → List ℕ → List ℕ → Option Difference → Type 0
Differs taken a b (Some (Hand i)) = FirstApart (hand_of a) (hand_of b) 16 (Some i)
Differs taken a b (Some (At j)) = FirstApart (hand_of a) (hand_of b) 16 None × FirstApart (cell_of taken a) (cell_of taken b) 65536 (Some j)
Differs taken a b None = FirstApart (hand_of a) (hand_of b) 16 None × FirstApart (cell_of taken a) (cell_of taken b) 65536 None

-- a cell in words, or that there is none
abbrev pub FoundText : {V : Type 0} → (V → Bool) → (V → ℕ) → (V → List ℕ → Type 0) → Option (Cell V) → List ℕ → Type 0
FoundText lawful word shows None bs = bs ≡ codes "past the last"
FoundText lawful word shows (Some c) bs = CellText lawful word shows c bs

-- where a difference is
abbrev pub difference_words : Difference → List ℕ
difference_words (Hand i) = codes "hand " ++ decimal i
difference_words (At j) = codes "cell " ++ decimal j

-- the line of a difference, where this stands there in the one and that in the other
abbrev pub apart_line : Difference → List ℕ → List ℕ → List ℕ
apart_line d x y = codes "different: " ++ (difference_words d ++ (codes " is " ++ (x ++ (codes " in the first and " ++ (y ++ codes " in the second")))))

-- the line of a difference; how a leaf's value is shown is its kind's
abbrev pub DifferenceLine : {V : Type 0} → (V → Bool) → (V → ℕ) → (V → List ℕ → Type 0) → (ℕ → Option V) → List ℕ → List ℕ → Difference → List ℕ → Type 0
DifferenceLine lawful word shows taken a b (Hand i) bs = bs ≡ apart_line (Hand i) (field_text (or_nil (hand_of a i))) (field_text (or_nil (hand_of b i)))
DifferenceLine lawful word shows taken a b (At j) bs =
    (x : List ℕ) × (y : List ℕ) × FoundText lawful word shows (cell_of taken a j) x × FoundText lawful word shows (cell_of taken b j) y × (bs ≡ apart_line (At j) x y)
