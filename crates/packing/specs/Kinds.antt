-- The first byte of a cell, which says its kind. Assumes nothing.
use Rattle.std.specs.Prelude.{ℕ, cond, Some, None, Option, ◌==◌}
use Rattle.packing.specs.declared.Kind.{Kind}
use Rattle.packing.specs.declared.Kind.TheVariants.{Blank, Pair, Leaf, Moved}

-- the kind that a byte says, if it says one
abbrev pub kind_of : ℕ → Option Kind
kind_of b = cond (b == 0x00) (Some Blank) (cond (b == 0x40) (Some Pair) (cond (b == 0x80) (Some Leaf) (cond (b == 0xC0) (Some Moved) None)))
