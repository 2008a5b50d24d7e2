-- How tags, references, fields, sides and sources are shown. Assumes nothing.
use Rattle.std.specs.Prelude.{ℕ, List, ◌++◌, codes, decimal}
use Rattle.cells.specs.declared.Tag.{Tag}
use Rattle.cells.specs.declared.Tag.TheVariants.{Unique, Sticky}
use Rattle.cells.specs.declared.Reference.{Reference}
use Rattle.cells.specs.declared.Field.{Field}
use Rattle.cells.specs.declared.Field.TheVariants.{Nil, To}
use Rattle.cells.specs.declared.Side.{Side}
use Rattle.cells.specs.declared.Side.TheVariants.{Left, Right}
use Rattle.cells.specs.declared.Source.{Source}
use Rattle.cells.specs.declared.Source.TheVariants.{Nowhere, Hand, Cell as SideOf}

abbrev pub tag_text : Tag → List ℕ
tag_text Unique = codes "unique"
tag_text Sticky = codes "sticky"

abbrev pub reference_text : Reference → List ℕ
reference_text r = tag_text r.tag ++ (codes " " ++ decimal r.address)

abbrev pub field_text : Field → List ℕ
field_text Nil = codes "nil"
field_text (To r) = reference_text r

abbrev pub side_text : Side → List ℕ
side_text Left = codes "left"
side_text Right = codes "right"

abbrev pub source_text : Source → List ℕ
source_text Nowhere = codes "nowhere"
source_text (Hand h) = codes "hand " ++ decimal h
source_text (SideOf a s) = side_text s ++ (codes " of " ++ decimal a)
