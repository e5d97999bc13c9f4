use Rattle.std.proofs.Common.{Option, refl, ap, subst}
use Rattle.board_play.specs.Lines.{BoardLine}
use Rattle.board_play.specs.Order.{due_on}
use Rattle.board_core.specs.Turned.{StepsBy}
use Rattle.board_core.specs.Wanted.{WantsOn}
use Rattle.board_core.proofs.system.System.step_on.Goals as goal

pub returns-in_default-clause-steps : goal.returns-in_default-clause-steps
returns-in_default-clause-steps g c = (ap (λ (o : Option BoardLine). due_on o c.args.actor) c.in_default.ensures, refl)

pub step_stand-requires : goal.step_stand-requires
step_stand-requires g c = c.in-Some.ensures.0

pub returns-clause-steps : goal.returns-clause-steps
returns-clause-steps g c = subst (λ (o : Option BoardLine). StepsBy c.args.self.now (due_on o c.args.actor) c.step_stand.result
    c.step_stand.new.self) c.in-Some.ensures.1 c.step_stand.ensures.steps

pub returns-clause-memory : goal.returns-clause-memory
returns-clause-memory g c = subst (λ (o : Option BoardLine). WantsOn g.L.IrqLine.may_want c.args.self.now o c.args.actor
    c.step_stand.result) c.in-Some.ensures.1 c.step_stand.ensures.memory
