use Rattle.std.proofs.Common.{arith, ◌≡◌, length, sym, ap, ◌∙◌}
use Rattle.std.proofs.lemmas.List.{length-take-le}
use Rattle.irq_base.specs.PathLevels.{IsPath-push}
use Rattle.irq_base.proofs.domains.Path.push.Goals as goal

pub invariant_of-self : goal.invariant_of-self
invariant_of-self c =
    let p = c.self.inside in
    let within : p.len ≡ length c.args.self.now =
    sym (length-take-le p.len p.levels (omega (arith, c.self.invariant.within, c.self.invariant.full))) ∙ ap length c.self.view_is in
    IsPath-push p c.args.level c.self.invariant (omega (arith, within, c.requires))
