use Rattle.irq_base.specs.declared.lines.LineDef.{LineDef}
use Rattle.line_state.proofs.Could.{is_due}
use Rattle.line_state.proofs.Ranks.{IsLooked}
use Rattle.line_state.specs.Seen.{IsScripted}
use Rattle.line_state.proofs.state.LineState.lowest_that_moves.Given as goal

abbrev pub invariant-loop-rank : goal.invariant-loop-rank
invariant-loop-rank g l = (def : LineDef) → IsScripted def l.self → IsLooked (is_due def l.self.state) l.self.state.threads l.rank
