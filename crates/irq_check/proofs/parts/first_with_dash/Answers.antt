use Rattle.std.proofs.Common.{take, refl}
use Rattle.irq_check.proofs.Skipping.{dash_found, none_found}
use Rattle.irq_check.proofs.parts.first_with_dash.Goals as goal

pub returns-in-Some : goal.returns-in-Some
returns-in-Some c =
    let text = c.args.text.now in
    dash_found text (take c.in-Some.dash text) c.in-Some.dash c.last_line_start.result c.in-Some.ensures refl
    c.last_line_start.ensures.within c.last_line_start.ensures.begins

pub returns-in-None : goal.returns-in-None
returns-in-None c = none_found c.args.text.now c.in-None.ensures
