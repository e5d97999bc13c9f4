use Rattle.std.proofs.Common.{Err}
use Rattle.board_core.proofs.Handing.{handed_on}
use Rattle.irq_sleeper.specs.Steps.{inner_of, last_of}
use Rattle.irq_sleeper.proofs.Wanting.{either_wants}
use Rattle.irq_sleeper.proofs.sleeper.Sleeper.step_disabling.Goals as goal

pub returns-in_err-step-clause-memory : goal.returns-in_err-step-clause-memory
returns-in_err-step-clause-memory g c =
    let s = c.args.self.now.system in
    rw (handed_on c.from_residual.ensures.1)
    (either_wants g.L.IrqLine.may_want s (last_of s) (inner_of s) (Err c.in_err-step.field-0.0) c.in_err-step.ensures.memory)
