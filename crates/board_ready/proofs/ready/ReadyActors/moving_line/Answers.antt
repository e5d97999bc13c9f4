use Rattle.std.proofs.Common.{Bool, Some, None, cond, sym, ap, ◌∙◌}
use Rattle.board_ready.proofs.Searching.{moving, moving_nowhere}
use Rattle.board_ready.proofs.ready.ReadyActors.moving_line.Goals as goal

pub returns-then-spins_on : goal.returns-then-spins_on
returns-then-spins_on c =
    sym (ap (λ (b : Bool). cond b None (Some c.in-Some.line)) c.if-spins_on.true)
    ∙ moving c.args.self.now.lines c.args.cpu.0 c.in-Some.line c.spins_on.result c.in-Some.ensures c.spins_on.ensures

pub returns-else-spins_on : goal.returns-else-spins_on
returns-else-spins_on c =
    sym (ap (λ (b : Bool). cond b None (Some c.in-Some.line)) c.if-spins_on.false)
    ∙ moving c.args.self.now.lines c.args.cpu.0 c.in-Some.line c.spins_on.result c.in-Some.ensures c.spins_on.ensures

pub returns-in-None : goal.returns-in-None
returns-in-None c = moving_nowhere c.args.self.now.lines c.args.cpu.0 c.in-None.ensures
