use Rattle.std.proofs.Common.{◌≡◌, ◌+◌, ◌*◌, get_or, ap, ◌∙◌, arith}
use Rattle.cells.specs.declared.Field.TheVariants.{Nil}
use Rattle.images.specs.Layout.{four_bytes, hand_bytes}
use Rattle.images.specs.Writing.{pasted}
use Rattle.images.proofs.Spelled.{hand_length}
use Rattle.images.proofs.Pasted.{parts_more}
use Rattle.images.proofs.writing.write_hands.Goals as goal

pub loop-i-preserved : goal.loop-i-preserved
loop-i-preserved c =
    let four : c.to_be_bytes.result ≡ hand_bytes (get_or c.args.hands.now c.loop-i.i Nil) = c.to_be_bytes.ensures ∙ ap four_bytes c.pack_field.ensures.packed in
    c.write_part.ensures
    ∙ ap (pasted c.loop-i.bytes (4 + 4 * c.loop-i.i)) four
    ∙ parts_more hand_bytes 4 hand_length c.args.bytes.now c.loop-i.bytes c.args.hands.now 4 c.loop-i.i Nil (omega arith) (omega arith) c.loop-i.invariant
