-- The definitions open, each way is a computation on the word.
use Rattle.std.proofs.Common.{arith}
use Rattle.std.proofs.lemmas.Bool.Decides.{nat_tests}
use Rattle.packing.specs.Fields.{pack_field, unpack_field}
use Rattle.packing.proofs.unpack_field.Goals as goal

pub returns-then-w-eq0-clause-unpacked : goal.returns-then-w-eq0-clause-unpacked
unfolding unpack_field
returns-then-w-eq0-clause-unpacked c = grind (arith, nat_tests)

pub returns-then-w-eq0-clause-only : goal.returns-then-w-eq0-clause-only
unfolding pack_field
returns-then-w-eq0-clause-only c = grind (arith, nat_tests)

pub returns-clause-unpacked : goal.returns-clause-unpacked
unfolding unpack_field
returns-clause-unpacked c = grind (arith, nat_tests)

pub returns-clause-only : goal.returns-clause-only
unfolding pack_field
returns-clause-only c = grind (arith, nat_tests)

pub returns-in_err-unpack_reference-clause-unpacked : goal.returns-in_err-unpack_reference-clause-unpacked
unfolding unpack_field
returns-in_err-unpack_reference-clause-unpacked c = grind (arith, nat_tests)
