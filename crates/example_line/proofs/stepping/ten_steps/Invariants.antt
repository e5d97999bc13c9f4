use Rattle.callbacks.specs.Heard.{Heard}
use Rattle.example_line.specs.Runs.{runs_on}
use Rattle.example_line.proofs.stepping.ten_steps.Given as goal

abbrev pub invariant-loop-i : goal.invariant-loop-i
invariant-loop-i g l = Heard g.H.Handler.hears (runs_on (g.L.IrqLine.seen l.line)) l.fn.handlers l.handlers
