-- The test on the pattern says that the number that has it is plain.
use Rattle.std.proofs.Common.{◌≡◌, true, not, T, sym, ◌∙◌, subst, arith}
use lib.Ieee.{binary32, of_bits}
use lib.Ieee.Bits.{nan_bits_is}
use Rattle.std.proofs.lemmas.Bool.Decides.{nat_tests}
use Rattle.kinds.specs.Numbers.{plain, taken_number}
use Rattle.kinds.specs.NumberFacts.{plain_by_pattern, plain_number}
use Rattle.kinds.proofs.numbers.from_pattern.Goals as goal

passed : (c : goal.Then-is_plain) → plain (of_bits binary32 c.args.bits) ≡ true
passed c = plain_by_pattern c.args.bits c.ranges.bits.fits ∙ sym c.if-is_plain.ensures

pub float_from_bits-result : goal.float_from_bits-result
float_from_bits-result c = subst (λ b. T (not b)) (sym (nan_bits_is binary32 c.args.bits)) (plain_number (of_bits binary32 c.args.bits) (passed c))

pub returns-then-is_plain : goal.returns-then-is_plain
unfolding taken_number
returns-then-is_plain c = let p = passed c in grind (arith, nat_tests)

pub returns-else-is_plain : goal.returns-else-is_plain
unfolding taken_number
returns-else-is_plain c = let p = plain_by_pattern c.args.bits c.ranges.bits.fits ∙ sym c.if-is_plain.ensures in grind (arith, nat_tests)
