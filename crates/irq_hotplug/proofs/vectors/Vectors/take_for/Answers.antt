use Rattle.std.proofs.Common.{false, length, ap, ◌∙◌, sym}
use Rattle.std.specs.Option.{option_or}
use Rattle.irq_hotplug.specs.Placing.{first_free, is_asked}
use Rattle.irq_hotplug.specs.Held.{HeldSeen, held_in}
use Rattle.irq_hotplug.proofs.Lowest.{held_still}
use Rattle.irq_hotplug.proofs.vectors.Vectors.take_for.Goals as goal

pub returns-in-None-clause-found : goal.returns-in-None-clause-found
returns-in-None-clause-found c =
    let online = c.args.online.now in
    let others = λ (h : HeldSeen). first_free (held_in h) h.vectors (is_asked online c.args.mask false) (length online) in
    c.take_among-in-None.ensures.found
    ∙ ap others (held_still c.args.self.now c.take_among.new.self c.take_among.result c.take_among.ensures.held c.in-None.is)
    ∙ ap (λ p. option_or p (others c.args.self.now)) (sym c.in-None.is ∙ c.take_among.ensures.found)
