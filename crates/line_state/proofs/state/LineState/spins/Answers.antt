use Rattle.std.proofs.Common.{◌≡◌, sym, ap, ◌∙◌}
use Rattle.std.specs.List.{list_any}
use Rattle.irq_model.specs.ValidRuns.{may_wait}
use Rattle.line_state.proofs.Could.{spins_not}
use Rattle.line_state.specs.Seen.{LineStateSeen}
use Rattle.line_state.proofs.state.LineState.spins.Goals as goal

pub returns-then-not-may_wait : goal.returns-then-not-may_wait
returns-then-not-may_wait g c = λ def runs scripted.
    sym (spins_not def c.args.self.now runs scripted
    (sym (ap (λ (l : LineStateSeen). list_any may_wait l.fixed.calls.items) c.self.view_is) ∙ (sym c.may_wait.ensures ∙ c.if-not-may_wait.true)))
