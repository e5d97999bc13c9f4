use Rattle.std.proofs.Common.{◌≡◌, ◌-◌}
use Rattle.irq_base.specs.declared.lines.LineDef.{LineDef}
use Rattle.line_state.specs.Seen.{IsScripted}
use Rattle.line_core.specs.Hanging.{is_thread_hung, leads_to}
use Rattle.line_core.proofs.hanging.is_thread_hung.Given as goal

-- the waits that are left of three lead where all three do
abbrev pub invariant-loop : goal.invariant-loop
invariant-loop g l = (def : LineDef) → IsScripted def l.state
    → is_thread_hung def l.state.state l.scripts l.dev ≡ leads_to def l.state.state l.scripts (3 - l.counter) l.dev l.at
