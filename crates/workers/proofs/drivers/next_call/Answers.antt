use Rattle.std.proofs.Common.{◌≡◌, inl, inr}
use Rattle.board_def.specs.declared.rows.ScriptCall.{ScriptCall}
use Rattle.workers.specs.Fit.{IsPlaceOf}
use Rattle.std.proofs.Common.{None}
use Rattle.workers.proofs.Lists.{two}
use Rattle.workers.proofs.Manning.{read_here}
use Rattle.workers.proofs.drivers.next_call.Goals as goal

pub loop-at-preserved : goal.loop-at-preserved
loop-at-preserved g c = λ k d from less at mine. elim (two k c.loop-at.at less) [
  | inl before ↦ c.loop-at.invariant k d from before at mine
  | inr here ↦ read_here c.args.calls.now k c.loop-at.at _ d
      (λ (x : ScriptCall). x.driver ≡ c.args.driver → IsPlaceOf c.args.lines.now x.line None)
      (c.is_own.ensures.no c.if-is_own.false) c.loop-at-test.true here at mine
]
