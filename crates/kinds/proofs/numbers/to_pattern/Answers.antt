-- An accepted number is plain unless its pattern is that of the negative zero.
use Rattle.std.proofs.Common.{◌≡◌, true, arith}
use lib.Ieee.{binary32, fits}
use Rattle.std.proofs.lemmas.Bool.Decides.{nat_tests}
use Rattle.kinds.specs.Numbers.{plain, accepted, pattern}
use Rattle.kinds.specs.NumberFacts.{accepted_finite, plain_parts, negative_zero_by_pattern}
use Rattle.kinds.proofs.numbers.to_pattern.Goals as goal

pub returns-then-not-is_finite : goal.returns-then-not-is_finite
unfolding plain accepted
returns-then-not-is_finite c = let e = c.if-not-is_finite.ensures.value in grind (arith, nat_tests)

pub returns-then-bits : goal.returns-then-bits
unfolding pattern
returns-then-bits c =
    let f : fits binary32 c.args.x ≡ true = c.well_formed.0.1 in
    let e = c.if-not-is_finite.ensures.value in
    let a : accepted c.args.x ≡ true = accepted_finite c.args.x f (grind (arith, nat_tests)) in
    let p = plain_parts c.args.x f in
    let z = negative_zero_by_pattern c.args.x a in
    let t = c.if-bits.true in
    grind (arith, nat_tests)

pub returns-else-bits : goal.returns-else-bits
unfolding pattern
returns-else-bits c =
    let f : fits binary32 c.args.x ≡ true = c.well_formed.0.1 in
    let e = c.if-not-is_finite.ensures.value in
    let a : accepted c.args.x ≡ true = accepted_finite c.args.x f (grind (arith, nat_tests)) in
    let p = plain_parts c.args.x f in
    let z = negative_zero_by_pattern c.args.x a in
    let t = c.if-bits.false in
    grind (arith, nat_tests)
