use Rattle.std.proofs.Common.{◌≡◌, take}
use Rattle.std.specs.List.{flat_map}
use Rattle.packing.specs.Cells.{pack_cell}
use Rattle.images.specs.Writing.{pasted}
use Rattle.images.proofs.writing.write_cells.Given as goal

abbrev pub invariant-loop-at : goal.invariant-loop-at
invariant-loop-at g l = l.bytes ≡ pasted l.initial.bytes 68 (flat_map (pack_cell g.V.LeafKind.lawful g.V.LeafKind.word) (take l.at (g.B.Bank.cells l.bank)))
