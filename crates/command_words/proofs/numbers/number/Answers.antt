use Rattle.std.proofs.Common.{arith}
use Rattle.command_words.proofs.WordLemmas.{read-is, number-read, number-plain}
use Rattle.command_words.proofs.numbers.number.Goals as goal

pub returns-then-not-is_plain : goal.returns-then-not-is_plain
returns-then-not-is_plain c = λ n h. let k = c.is_plain.ensures.1 (number-plain c.args.least c.args.most n c.args.word.now (omega (arith, c.ranges.most.fits)) h) in grind (arith, k, c.if-not-is_plain.true)

pub returns-in-Ok : goal.returns-in-Ok
returns-in-Ok c = record { low = omega (arith, c.if-least-number.true); high = omega (arith, c.if-number-most.true); is = read-is c.args.word.now c.in-Ok.number c.parse.result (c.is_plain.ensures.0 (grind (arith, c.if-not-is_plain.false))) c.in-Ok.is c.parse.ensures.value.0 }

pub returns-in_default : goal.returns-in_default
returns-in_default c = λ n h. let k = number-read c.args.least c.args.most n c.args.word.now c.parse.result (omega (arith, c.ranges.most.fits)) h c.parse.ensures.value.0 in grind (arith, k, c.in-Ok.is, h.high, c.if-number-most.false)

pub returns-in_default-2 : goal.returns-in_default-2
returns-in_default-2 c = λ n h. let k = number-read c.args.least c.args.most n c.args.word.now c.parse.result (omega (arith, c.ranges.most.fits)) h c.parse.ensures.value.0 in grind (arith, k, c.in-Ok.is, h.low, c.if-least-number.false)

pub returns-in_default-3 : goal.returns-in_default-3
returns-in_default-3 c = λ n h. let k = number-read c.args.least c.args.most n c.args.word.now c.parse.result (omega (arith, c.ranges.most.fits)) h c.parse.ensures.value.0 in grind (arith, k, c.in_default.is)
