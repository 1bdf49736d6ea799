use Rattle.std.proofs.Common.{rules, arith}
use Rattle.geo_requests.proofs.Decimals.{number_over}
use Rattle.geo_requests.proofs.digits.number.Goals as goal

pub returns-in_default-clause-value : goal.returns-in_default-clause-value
returns-in_default-clause-value c = number_over c.args.most c.loop-byte.value c.loop-byte.byte-index c.args.word.now c.loop-byte-test.true c.loop-byte.invariant.same (search rules) (omega (arith, c.if-not-is_ascii_digit.ensures.cases)) (omega (arith, c.if-not-is_ascii_digit.ensures.cases)) (omega (arith, c.in_default.ensures, c.ranges.most.fits))

pub returns-in_default-checked_add-clause-value : goal.returns-in_default-checked_add-clause-value
returns-in_default-checked_add-clause-value c = number_over c.args.most c.loop-byte.value c.loop-byte.byte-index c.args.word.now c.loop-byte-test.true c.loop-byte.invariant.same (search rules) (omega (arith, c.if-not-is_ascii_digit.ensures.cases)) (omega (arith, c.if-not-is_ascii_digit.ensures.cases)) (omega (arith, c.in-Some.ensures, c.in_default-checked_add.ensures, c.ranges.most.fits))

pub returns-then-next-most-clause-value : goal.returns-then-next-most-clause-value
returns-then-next-most-clause-value c = number_over c.args.most c.loop-byte.value c.loop-byte.byte-index c.args.word.now c.loop-byte-test.true c.loop-byte.invariant.same (search rules) (omega (arith, c.if-not-is_ascii_digit.ensures.cases)) (omega (arith, c.if-not-is_ascii_digit.ensures.cases)) (omega (arith, c.in-Some.ensures, c.in-Some-checked_add.ensures, c.if-next-most.true))
