-- Faults in words. Assumes nothing.
use Rattle.std.specs.Prelude.{ℕ, List, ◌++◌, codes, decimal}
use Rattle.cells.specs.declared.Tag.{Tag}
use Rattle.cells.specs.declared.Tag.TheVariants.{Unique, Sticky}
use Rattle.cells.specs.Shown.{side_text}
use Rattle.images.specs.declared.faults.Place.{Place}
use Rattle.images.specs.declared.faults.Place.TheVariants.{Hand, Cell}
use Rattle.images.specs.declared.faults.Flaw.{Flaw}
use Rattle.images.specs.declared.faults.Flaw.TheVariants.{BadHand, BadCell, Outside, OutOfOrder, Unmet, WrongTag}
use Rattle.images.specs.declared.faults.Fault.{Fault}
use Rattle.images.specs.declared.faults.Fault.TheVariants.{TooShort, WrongKind, TooManyCells, WrongLength, Flawed}

abbrev pub place_words : Place → List ℕ
place_words (Hand i) = codes "hand " ++ decimal i
place_words (Cell side j) = side_text side ++ (codes " of cell " ++ decimal j)

abbrev pub tag_words : Tag → List ℕ
tag_words Unique = codes " is tagged UNIQUE, but another reference leads to the same cell"
tag_words Sticky = codes " is tagged STICKY, but no other reference leads to the same cell"

abbrev pub flaw_words : Flaw → List ℕ
flaw_words (BadHand i) = codes "hand " ++ (decimal i ++ codes " is no packed field")
flaw_words (BadCell j) = codes "cell " ++ (decimal j ++ codes " is neither a pair nor a leaf")
flaw_words (Outside p a) = place_words p ++ (codes " refers to cell " ++ (decimal a ++ codes ", but the cells end before it"))
flaw_words (OutOfOrder p a next) =
    place_words p ++ (codes " refers to cell " ++ (decimal a ++ (codes ", but cell " ++ (decimal next ++ codes " is the next to come"))))
flaw_words (Unmet j) = codes "cell " ++ (decimal j ++ codes " is read before anything refers to it")
flaw_words (WrongTag p x) = place_words p ++ tag_words x.tag

abbrev pub fault_words : Fault → List ℕ
fault_words TooShort = codes "there are fewer than four bytes"
fault_words (WrongKind k) = codes "the image is of kind " ++ (decimal k ++ codes ", which is not the wanted one")
fault_words (TooManyCells n) = decimal n ++ codes " cells are more than 32768"
fault_words (WrongLength n r) =
    codes "the length does not fit the number of cells: " ++ (decimal n ++ (codes " bytes for " ++ (decimal r ++ codes " cells")))
fault_words (Flawed flaw) = flaw_words flaw
