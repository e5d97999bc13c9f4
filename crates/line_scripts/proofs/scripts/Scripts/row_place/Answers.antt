use Rattle.std.proofs.Common.{position, sym, ap, ◌∙◌}
use Rattle.std.specs.Map.{keys_of}
use Rattle.irq_model.specs.Kinds.{same_driver}
use Rattle.line_scripts.proofs.FirstRow.{first_place}
use Rattle.line_scripts.proofs.scripts.Scripts.row_place.Goals as goal

pub returns-then-eq : goal.returns-then-eq
returns-then-eq c =
    first_place c.self.inside.rows.entries c.in-Some.first.now c.args.who _ c.in-Some.ensures.entry
    (sym c.eq.ensures ∙ c.if-eq.true)
    ∙ ap (λ rows. position (same_driver c.args.who) (keys_of rows)) c.self.view_is
