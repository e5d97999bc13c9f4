use Rattle.std.proofs.Common.{rules, ◌≡◌, Option, Some, sym, ap, ◌∙◌}
use Rattle.device_table.specs.Rows.{at}
use Rattle.line_marks.specs.Due.{due_of_row, due_at_stage}
use Rattle.act_thread.specs.declared.rows.Stage.{Stage}
use Rattle.act_thread.specs.declared.rows.ThreadRow.{ThreadRow}
use Rattle.line_state.proofs.state.LineState.due_of_thread.Goals as goal

pub returns-in-Returned-clause-due : goal.returns-in-Returned-clause-due
returns-in-Returned-clause-due g c def scripted =
    let s = c.args.self.now.state in
    let row = c.in_ok-row.row in
    let there : at c.args.self.now.state.threads c.args.dev ≡ Some c.in_ok-row.row = search rules in
    c.due_after_return.ensures.due def row there c.in-Returned.is
    ∙ sym (ap (λ (o : Option ThreadRow). due_of_row def s c.args.dev o) there ∙ ap (λ (x : Stage). due_at_stage def x s c.args.dev row) c.in-Returned.is)
