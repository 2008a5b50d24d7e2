use Rattle.std.proofs.Common.{◌++◌, length, take, Ok, sym, ap, ◌∙◌, arith}
use Rattle.std.specs.List.{flat_map}
use Rattle.packing.specs.Cells.{pack_cell}
use Rattle.store.specs.Record.{view}
use Rattle.images.specs.Layout.{two_bytes, hand_bytes}
use Rattle.images.specs.Writing.{length_for, pasted}
use Rattle.images.proofs.Written.{none_tells, accepted}
use Rattle.images.proofs.writing.write.Goals as goal

pub returns : goal.returns
returns g c =
    let t = none_tells (view c.args.record.now) (g.B.Bank.cells c.args.bank.now) (length c.args.bytes.now) c.in_ok-check_writable.ensures in
    let done =
    accepted g.V.LeafKind.lawful g.V.LeafKind.word g.V.LeafKind.number (view c.args.record.now) (g.B.Bank.cells c.args.bank.now) c.args.bytes.now
    c.write_heading.new.bytes c.write_hands.new.bytes c.write_cells.new.bytes (sym c.in_ok-check_writable.ensures) (ap length (sym c.hands.ensures.held) ∙ c.hands.ensures.sixteen) (omega arith) (omega arith)
    (c.write_heading.ensures ∙ ap (λ n. pasted c.args.bytes.now 0 (two_bytes g.V.LeafKind.number ++ two_bytes n)) c.mark-count.ensures.value)
    (c.write_hands.ensures ∙ ap (λ hs. pasted c.write_heading.new.bytes 4 (flat_map hand_bytes hs)) c.hands.ensures.held)
    (c.write_cells.ensures ∙ ap (λ n. pasted c.write_hands.new.bytes 68 (flat_map (pack_cell g.V.LeafKind.lawful g.V.LeafKind.word) (take n (g.B.Bank.cells c.args.bank.now)))) c.mark-count.ensures.value) in
    record { answer = ap Ok (c.image_length.ensures ∙ ap length_for c.mark-count.ensures.value) ∙ done.0; after = done.1 }
