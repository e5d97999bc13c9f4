use Rattle.std.proofs.Common.{sym, ap, ◌∙◌}
use Rattle.std.specs.List.{list_any}
use Rattle.irq_model.specs.ValidRuns.{may_wait}
use Rattle.run_scripts.specs.Runs.{RunsSeen}
use Rattle.line_core.proofs.Unwaiting.{none_hung}
use Rattle.line_core.proofs.hanging.lowest_hung.Goals as goal

pub returns-then-not-may_wait : goal.returns-then-not-may_wait
returns-then-not-may_wait g c = λ def runs scripted.
    none_hung def c.args.state.now runs scripted
    (sym (ap (λ (r : RunsSeen). list_any may_wait r.calls.items) c.runs.ensures) ∙ (sym c.may_wait.ensures ∙ c.if-not-may_wait.true))
    c.args.scripts.now
