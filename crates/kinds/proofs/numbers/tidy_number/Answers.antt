use Rattle.std.proofs.Common.{◌≡◌, true, arith}
use lib.Ieee.{binary32, fits, of_bits}
use Rattle.std.proofs.lemmas.Bool.Decides.{nat_tests}
use Rattle.kinds.specs.Numbers.{tidied_number, accepted}
use Rattle.kinds.proofs.numbers.tidy_number.Goals as goal

pub returns-then-not-is_finite : goal.returns-then-not-is_finite
unfolding tidied_number accepted
returns-then-not-is_finite c = let e = c.if-not-is_finite.ensures.value in grind (arith, nat_tests)

pub returns-then-x : goal.returns-then-x
unfolding tidied_number accepted of_bits
returns-then-x c =
    let f : fits binary32 c.args.x ≡ true = c.well_formed.0.1 in
    let e = c.if-not-is_finite.ensures.value in
    let t = c.if-x.true in
    grind (arith, nat_tests)

pub returns-else-x : goal.returns-else-x
unfolding tidied_number accepted of_bits
returns-else-x c =
    let f : fits binary32 c.args.x ≡ true = c.well_formed.0.1 in
    let e = c.if-not-is_finite.ensures.value in
    let t = c.if-x.false in
    grind (arith, nat_tests)
