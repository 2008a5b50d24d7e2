-- Both definitions open, each clause is a computation on the word.
use Rattle.std.proofs.Common.{rules}
use Rattle.packing.specs.Fields.{pack_field, unpack_field}
use Rattle.packing.proofs.pack_field.Goals as goal

pub returns-in-Nil : goal.returns-in-Nil
unfolding pack_field unpack_field
returns-in-Nil c = search rules

pub returns-in-To : goal.returns-in-To
unfolding pack_field unpack_field
returns-in-To c = search rules
