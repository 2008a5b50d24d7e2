use Rattle.std.proofs.Common.{◌≡◌, ◌≤◌, [], ◌++◌, drop, vec_items}
use Rattle.std.specs.List.{between}
use Rattle.std.specs.Str.{IsCharBoundary}
use Rattle.texts.specs.Typed.{word_bytes}
use Rattle.texts.specs.Splits.{pieces_from}
use Rattle.texts.proofs.splits.split.Given as goal

abbrev pub invariant-loop-i : goal.invariant-loop-i
invariant-loop-i l =
    (l.start ≤ l.i) × IsCharBoundary l.text l.start
    × (word_bytes (vec_items l.pieces) ++ pieces_from l.by (between l.start l.i l.text) (drop l.i l.text) ≡ pieces_from l.by [] l.text)
