-- Cells as lines of text. Assumes nothing.
use Rattle.std.specs.Prelude.{◌≡◌, ℕ, ◌+◌, ◌-◌, ◌^◌, min, Bool, true, false, List, ◌++◌, codes, decimal}
use Rattle.cells.specs.declared.Reference.{Reference}
use Rattle.cells.specs.declared.Field.{Field}
use Rattle.cells.specs.declared.Source.{Source}
use Rattle.cells.specs.declared.Cell.{Cell}
use Rattle.cells.specs.declared.Cell.TheVariants.{Blank, Pair, Leaf, Moved}
use Rattle.cells.specs.Shown.{reference_text, field_text, source_text}
use Rattle.texts.specs.Hex.{hex}
use Rattle.dumps.specs.declared.Tally.{Tally}

abbrev pub pair_text : Field → Field → List ℕ
pair_text l r = codes "pair " ++ (field_text l ++ (codes " " ++ field_text r))

abbrev pub leaf_text : List ℕ → ℕ → List ℕ
leaf_text value w = (codes "leaf " ++ (value ++ codes " word ")) ++ hex 16 w

abbrev pub moved_text : Reference → Source → List ℕ
moved_text f s = codes "moved " ++ (reference_text f ++ (codes " from " ++ source_text s))

-- what a cell is shown as; a leaf's value as its kind shows it, and a leaf that is not lawful as blank
abbrev pub CellText : {V : Type 0} → (V → Bool) → (V → ℕ) → (V → List ℕ → Type 0) → Cell V → List ℕ → Type 0
CellText lawful word shows Blank bs = bs ≡ codes "blank"
CellText lawful word shows (Pair l r) bs = bs ≡ pair_text l r
CellText lawful word shows (Leaf v) bs =
    (lawful v ≡ true → (value : List ℕ) × shows v value × (bs ≡ leaf_text value (word v))) × (lawful v ≡ false → bs ≡ codes "blank")
CellText lawful word shows (Moved f s) bs = bs ≡ moved_text f s

-- the line of the cell at an address
abbrev pub line_of : ℕ → List ℕ → List ℕ
line_of a text = decimal a ++ (codes ": " ++ text)

-- ---- how many cells there are of each kind

abbrev pub one_more : ℕ → ℕ
one_more n = min (n + 1) (2 ^ 64 - 1)

-- a cell counted with those of its kind; a count stays at the largest that there is
abbrev pub noted : {V : Type 0} → Tally → Cell V → Tally
noted t Blank = record { blank = one_more t.blank; pair = t.pair; leaf = t.leaf; moved = t.moved }
noted t (Pair l r) = record { blank = t.blank; pair = one_more t.pair; leaf = t.leaf; moved = t.moved }
noted t (Leaf v) = record { blank = t.blank; pair = t.pair; leaf = one_more t.leaf; moved = t.moved }
noted t (Moved f s) = record { blank = t.blank; pair = t.pair; leaf = t.leaf; moved = one_more t.moved }

-- the counts, and the bytes that belong to no cell
abbrev pub tally_text : Tally → ℕ → List ℕ
tally_text t left =
    codes "blank " ++ (decimal t.blank ++ (codes " pair " ++ (decimal t.pair ++ (codes " leaf " ++ (decimal t.leaf
    ++ (codes " moved " ++ (decimal t.moved ++ (codes " left over " ++ decimal left))))))))
