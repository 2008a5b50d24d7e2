use Rattle.std.proofs.Common.{◌*◌, ap, ◌∙◌, w32, arith}
use Rattle.std.specs.Int.{from_be_bytes}
use Rattle.packing.specs.Fields.{unpack_field}
use Rattle.images.specs.Layout.{stored_hand}
use Rattle.images.proofs.Bytes.{four_listed}
use Rattle.images.proofs.reading.hand_at.Goals as goal

pub returns : goal.returns
unfolding stored_hand
returns c =
    c.unpack_field.ensures.unpacked
    ∙ ap unpack_field (c.from_be_bytes.ensures ∙ ap (from_be_bytes w32) (c.part.ensures ∙ four_listed c.args.rest.now (4 * c.args.i) (omega arith)))
