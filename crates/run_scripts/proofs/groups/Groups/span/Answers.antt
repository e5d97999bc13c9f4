use Rattle.std.proofs.Common.{length, ap, arith}
use Rattle.irq_base.specs.declared.devices.Part.TheVariants as parts
use Rattle.run_scripts.specs.Groups.{span_in}
use Rattle.run_scripts.proofs.groups.Groups.span.Goals as goal

pub returns-in-Some-Primary-clause-within : goal.returns-in-Some-Primary-clause-within
returns-in-Some-Primary-clause-within g c =
    let h = c.self.invariant c.args.dev parts.Primary in
    let from = ap (λ o. (span_in o parts.Primary).from) c.in-Some-Primary.ensures in
    let len = ap (λ o. (span_in o parts.Primary).len) c.in-Some-Primary.ensures in
    let long = ap (λ v. length v.items) c.self.view_is in
    omega (arith, h, from, len, long)

pub returns-in-Some-Thread-clause-within : goal.returns-in-Some-Thread-clause-within
returns-in-Some-Thread-clause-within g c =
    let h = c.self.invariant c.args.dev parts.Thread in
    let from = ap (λ o. (span_in o parts.Thread).from) c.in-Some-Thread.ensures in
    let len = ap (λ o. (span_in o parts.Thread).len) c.in-Some-Thread.ensures in
    let long = ap (λ v. length v.items) c.self.view_is in
    omega (arith, h, from, len, long)
