use Rattle.irq_base.specs.declared.lines.LineDef.{LineDef}
use Rattle.line_state.proofs.Ranks.{IsLooked}
use Rattle.line_state.specs.Seen.{IsScripted}
use Rattle.line_core.specs.Hanging.{is_thread_hung}
use Rattle.line_core.proofs.hanging.lowest_hung_thread.Given as goal

abbrev pub invariant-loop-rank : goal.invariant-loop-rank
invariant-loop-rank g l = (def : LineDef) → IsScripted def l.state
    → IsLooked (is_thread_hung def l.state.state l.scripts) l.state.state.threads l.rank
