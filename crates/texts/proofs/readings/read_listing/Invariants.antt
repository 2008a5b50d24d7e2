use Rattle.std.proofs.Common.{◌+◌, drop, vec_items}
use Rattle.texts.specs.Splits.{lines_of}
use Rattle.texts.specs.Lists.{Listing, after, Listed}
use Rattle.texts.proofs.readings.read_listing.Given as goal

abbrev pub invariant-loop-i : goal.invariant-loop-i
invariant-loop-i g l =
    (r : Listing g.row.V.Denot) → Listed g.V.TypedLeaf.reads g.V.LeafKind.tidied (l.i + 1) (drop l.i (lines_of l.text)) r
    → Listed g.V.TypedLeaf.reads g.V.LeafKind.tidied 1 (lines_of l.text) (after (vec_items l.entries) r)
