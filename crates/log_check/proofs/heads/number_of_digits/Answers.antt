use Rattle.std.proofs.Common.{arith}
use Rattle.log_check.proofs.Numbers.{at_start, no_digit, one_more, space, too_large}
use Rattle.log_check.proofs.heads.number_of_digits.Goals as goal

pub loop-byte-init : goal.loop-byte-init
loop-byte-init c = at_start c.args.bytes.now

pub returns-then-byte-eq32 : goal.returns-then-byte-eq32
returns-then-byte-eq32 c =
    space c.args.bytes.now c.loop-byte.value c.loop-byte.rest.now c.loop-byte.invariant c.in-Some.byte.now c.in-Some.after.now
    c.in-Some.ensures.cases.0 c.if-byte-eq32.true

pub returns-then-digit-gt9 : goal.returns-then-digit-gt9
returns-then-digit-gt9 c =
    no_digit c.args.bytes.now c.loop-byte.value c.loop-byte.rest.now c.loop-byte.invariant c.in-Some.byte.now c.in-Some.after.now
    c.in-Some.ensures.cases.0 c.if-byte-eq32.false (λ low high. absurd (omega (arith, low, high, c.if-digit-gt9.true)))

pub returns-in_default-checked_mul : goal.returns-in_default-checked_mul
returns-in_default-checked_mul c =
    too_large c.args.bytes.now c.loop-byte.value c.loop-byte.rest.now c.loop-byte.invariant c.in-Some.byte.now c.in-Some.after.now
    c.in-Some.ensures.cases.0 c.if-byte-eq32.false (λ low high. omega (arith, c.in_default-checked_mul.ensures))

pub returns-in_default-checked_add : goal.returns-in_default-checked_add
returns-in_default-checked_add c =
    too_large c.args.bytes.now c.loop-byte.value c.loop-byte.rest.now c.loop-byte.invariant c.in-Some.byte.now c.in-Some.after.now
    c.in-Some.ensures.cases.0 c.if-byte-eq32.false
    (λ low high. omega (arith, low, high, c.in-Some-checked_mul.ensures, c.from.ensures, c.in_default-checked_add.ensures))

pub loop-byte-preserved : goal.loop-byte-preserved
loop-byte-preserved c =
    one_more c.args.bytes.now c.loop-byte.value c.loop-byte.rest.now c.loop-byte.invariant c.in-Some.byte.now c.in-Some.after.now
    c.in-Some.ensures.cases.0 c.if-byte-eq32.false c.in-Some-checked_add.more
    (λ low high. omega (arith, low, high, c.in-Some-checked_mul.ensures, c.from.ensures, c.in-Some-checked_add.ensures))
