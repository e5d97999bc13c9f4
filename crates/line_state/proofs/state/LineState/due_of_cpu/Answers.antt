use Rattle.std.proofs.Common.{sym, ◌∙◌}
use Rattle.std.proofs.lemmas.Bool.{cond-false}
use Rattle.line_state.proofs.state.LineState.due_of_cpu.Goals as goal

pub returns-else-is_in_flow-clause-due : goal.returns-else-is_in_flow-clause-due
returns-else-is_in_flow-clause-due g c def scripted = c.due_take.ensures.due def ∙ sym (cond-false _ _ _ (sym c.is_in_flow.ensures ∙ c.if-is_in_flow.false))
