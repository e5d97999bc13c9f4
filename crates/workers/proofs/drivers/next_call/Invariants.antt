use Rattle.std.proofs.Common.{◌≡◌, ℕ, ◌<◌, ◌≤◌, Some, None, slice_get}
use Rattle.board_def.specs.declared.rows.ScriptCall.{ScriptCall}
use Rattle.workers.specs.Fit.{IsPlaceOf}
use Rattle.workers.proofs.drivers.next_call.Given as goal

abbrev pub invariant-loop-at : goal.invariant-loop-at
invariant-loop-at g l = (k : ℕ) (c : ScriptCall) → l.from ≤ k → k < l.at → slice_get l.calls k ≡ Some c → c.driver ≡ l.driver → IsPlaceOf l.lines c.line None
