use Rattle.std.proofs.Common.{◌≡◌, take}
use Rattle.std.specs.List.{flat_map}
use Rattle.images.specs.Layout.{hand_bytes}
use Rattle.images.specs.Writing.{pasted}
use Rattle.images.proofs.writing.write_hands.Given as goal

abbrev pub invariant-loop-i : goal.invariant-loop-i
invariant-loop-i l = l.bytes ≡ pasted l.initial.bytes 4 (flat_map hand_bytes (take l.i l.hands))
