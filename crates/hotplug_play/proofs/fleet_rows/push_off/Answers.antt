use Rattle.std.proofs.Common.{◌++◌, codes, decimal, ap, sym, ◌∙◌, append_assoc}
use Rattle.hotplug_play.specs.Rows.{off_text}
use Rattle.hotplug_play.proofs.fleet_rows.push_off.Goals as goal

pub returns-in-NoVector-clause-text : goal.returns-in-NoVector-clause-text
returns-in-NoVector-clause-text c =
    let number = decimal c.in-NoVector.line.0 in
    c.push_number.ensures.text
    ∙ ap (λ text. text ++ number) c.push_bytes-in-NoVector.ensures
    ∙ append_assoc c.args.row.now (codes " refused no-vector ") number
    ∙ ap (λ answer. c.args.row.now ++ off_text answer) (sym c.in-NoVector.is)
