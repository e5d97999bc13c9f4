use Rattle.board_core.proofs.Standing.{can_step, steps_by_move}
use Rattle.board_core.proofs.Wanting.{wants_there}
use Rattle.board_core.proofs.system.System.step_at.Goals as goal

pub step_stand-requires : goal.step_stand-requires
step_stand-requires g c = can_step c.args.self.now c.args.actor c.args.stand c.requires

pub returns-clause-steps : goal.returns-clause-steps
returns-clause-steps g c = steps_by_move c.args.self.now _ c.args.actor c.args.stand _ c.requires c.step_stand.ensures.steps

pub returns-clause-memory : goal.returns-clause-memory
returns-clause-memory g c = wants_there g.L.IrqLine.may_want c.args.self.now c.args.actor c.args.stand _ c.requires c.step_stand.ensures.memory
