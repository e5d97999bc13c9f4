use Rattle.std.proofs.Common.{ap, ◌∙◌}
use Rattle.irq_base.specs.Packed.{entry_of}
use Rattle.irq_base.proofs.Unpacking.{unpack-narrow}
use Rattle.irq_base.proofs.packed.Packed.pack.Goals as goal

pub returns-clause-back : goal.returns-clause-back
returns-clause-back c wide =
    unpack-narrow wide c.of_parts.result c.of_parts.ensures.narrow ∙ (ap entry_of c.of_parts.ensures.parts ∙ c.in_ok-parts.ensures.entry)
