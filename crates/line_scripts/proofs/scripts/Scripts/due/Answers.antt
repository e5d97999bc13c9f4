use Rattle.std.proofs.Common.{List, sym, ap, ◌∙◌}
use Rattle.irq_base.specs.declared.numbers.DriverNo.{DriverNo}
use Rattle.irq_model.specs.Laid.{with_count}
use Rattle.line_scripts.specs.Rows.{RowSeen, row_of, call_in}
use Rattle.line_scripts.proofs.FirstRow.{first_row}
use Rattle.line_scripts.proofs.scripts.Scripts.due.Goals as goal

pub returns-then-eq : goal.returns-then-eq
returns-then-eq c =
    let first = first_row c.self.inside.rows.entries c.in-Some.first.now c.args.who c.in-Some.row.now
    c.in-Some.ensures.entry (sym c.eq.ensures ∙ c.if-eq.true) in
    c.due.ensures ∙ (ap (λ (x : RowSeen). with_count (call_in x) x.within) (sym first)
    ∙ ap (λ (s : List (DriverNo × RowSeen)). with_count (call_in (row_of s c.args.who)) (row_of s c.args.who).within) c.self.view_is)
