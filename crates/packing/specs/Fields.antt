-- A field and a source as words of 32 bits. Assumes nothing.
-- Both words have their marks in the upper sixteen bits and a number in the lower sixteen. Reading compares the whole upper
-- half, so that every reserved bit is checked.
use Rattle.std.specs.Prelude.{ℕ, ◌+◌, ◌*◌, ◌/◌, ◌%◌, ◌^◌, Bool, true, cond, Some, None, Option, ◌==◌, nat_lt}
use Rattle.cells.specs.declared.Tag.{Tag}
use Rattle.cells.specs.declared.Tag.TheVariants.{Unique, Sticky}
use Rattle.cells.specs.declared.Reference.{Reference}
use Rattle.cells.specs.declared.Field.{Field}
use Rattle.cells.specs.declared.Field.TheVariants.{Nil, To}
use Rattle.cells.specs.declared.Side.{Side}
use Rattle.cells.specs.declared.Side.TheVariants.{Left, Right}
use Rattle.cells.specs.declared.Source.{Source}
use Rattle.cells.specs.declared.Source.TheVariants.{Nowhere, Hand, Cell}

-- the upper half of a reference's word: the present bit, the sticky bit, fourteen zero bits
abbrev pub tag_mark : Tag → ℕ
tag_mark Unique = 0x8000
tag_mark Sticky = 0xC000

abbrev pub pack_reference : Reference → ℕ
pack_reference r = tag_mark r.tag * 2 ^ 16 + r.address

abbrev pub unpack_reference : ℕ → Option Reference
unpack_reference w =
    cond (w / 2 ^ 16 == 0x8000) (Some (record { tag = Unique; address = w % 2 ^ 16 }))
    (cond (w / 2 ^ 16 == 0xC000) (Some (record { tag = Sticky; address = w % 2 ^ 16 })) None)

unfoldable pub pack_field : Field → ℕ
pack_field Nil = 0
pack_field (To r) = pack_reference r

-- a field that holds the reference, if there is one
abbrev pub to_reference : Option Reference → Option Field
to_reference None = None
to_reference (Some r) = Some (To r)

unfoldable pub unpack_field : ℕ → Option Field
unpack_field w = cond (w == 0) (Some Nil) (to_reference (unpack_reference w))

-- the upper half of a source's word: two bits that say which source it is, fourteen zero bits
abbrev pub side_mark : Side → ℕ
side_mark Left = 0x8000
side_mark Right = 0xC000

abbrev pub pack_source : Source → ℕ
pack_source Nowhere = 0
pack_source (Hand h) = 0x4000 * 2 ^ 16 + h
pack_source (Cell a side) = side_mark side * 2 ^ 16 + a

abbrev pub unpack_source : ℕ → Option Source
unpack_source w =
    cond (w == 0) (Some Nowhere)
    (cond (w / 2 ^ 16 == 0x4000) (Some (Hand (w % 2 ^ 16)))
    (cond (w / 2 ^ 16 == 0x8000) (Some (Cell (w % 2 ^ 16) Left))
    (cond (w / 2 ^ 16 == 0xC000) (Some (Cell (w % 2 ^ 16) Right)) None)))

-- whether the numbers fit sixteen bits, as all that the code holds do: a number of the logic may be wider
abbrev pub reference_fits : Reference → Bool
reference_fits r = nat_lt r.address (2 ^ 16)

abbrev pub field_fits : Field → Bool
field_fits Nil = true
field_fits (To r) = reference_fits r

abbrev pub source_fits : Source → Bool
source_fits Nowhere = true
source_fits (Hand h) = nat_lt h (2 ^ 16)
source_fits (Cell a side) = nat_lt a (2 ^ 16)
