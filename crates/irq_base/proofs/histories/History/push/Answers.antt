use Rattle.std.proofs.Common.{◌++◌, ◌∷◌, [], map, ap, ◌∙◌, arith}
use Rattle.irq_base.specs.Packed.{unpack}
use Rattle.irq_base.proofs.Unpacking.{unpacked-wide}
use Rattle.irq_base.proofs.histories.History.push.Goals as goal

pub returns-in-None-clause-entries : goal.returns-in-None-clause-entries
returns-in-None-clause-entries c =
    let wide = c.self.inside.wide.items in
    let words = c.self.inside.words.items in
    ap (λ w. map (unpack w) c.push_reserved-in-None-2.new.self.items) c.push_reserved-in-None.ensures.items
    ∙ (ap (λ ws. map (unpack (wide ++ c.args.entry ∷ [])) ws) c.push_reserved-in-None-2.ensures.items
    ∙ (unpacked-wide wide c.args.entry c.next_wide-word.result words c.self.invariant c.next_wide-word.ensures.wide (omega arith)
    ∙ ap (λ s. s.entries ++ c.args.entry ∷ []) c.self.view_is))
