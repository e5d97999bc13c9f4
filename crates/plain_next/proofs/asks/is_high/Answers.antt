use Rattle.std.proofs.Common.{rules, ◌≡◌, Bool, true, not, nat_lt, ◌∙◌, sym, ap, ◌&&◌}
use Rattle.std.specs.List.{list_any}
use Rattle.irq_base.specs.declared.numbers.DevNo.{DevNo}
use Rattle.irq_model.specs.Lines.{is_level_line}
use Rattle.irq_model.specs.Asks.{unserved_asks, is_quiet}
use Rattle.plain_next.proofs.asks.is_high.Goals as goal

pub returns-then-is_level_line : goal.returns-then-is_level_line
returns-then-is_level_line c =
    let past = c.args.past.now in
    let holds : DevNo → Bool = λ d. not (is_quiet past d) && nat_lt 0 (unserved_asks c.args.def.now d past) in
    let found = c.any_device.ensures holds (λ d b h. search rules) in
    let level : is_level_line c.args.def.now ≡ true = sym c.if-is_level_line.ensures in
    found ∙ ap (λ b. b && list_any (λ x. holds x.dev) c.args.def.now.devices) (sym level)
