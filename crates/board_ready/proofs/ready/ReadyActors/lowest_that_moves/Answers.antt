use Rattle.std.proofs.Common.{sym, ◌∙◌, arith}
use Rattle.board_ready.proofs.Searching.{more_stand, moves_first, nobody_moves}
use Rattle.board_ready.proofs.ready.ReadyActors.lowest_that_moves.Goals as goal

pub loop-cpu-preserved : goal.loop-cpu-preserved
loop-cpu-preserved c = more_stand c.args.self.now.lines c.loop-cpu.cpu c.is_moving.result c.loop-cpu.invariant c.is_moving.ensures c.if-is_moving.false

pub returns-then-is_moving-clause-first : goal.returns-then-is_moving-clause-first
returns-then-is_moving-clause-first c =
    moves_first c.args.self.now.lines c.loop-cpu.cpu (omega arith) (sym c.is_moving.ensures ∙ c.if-is_moving.true) c.loop-cpu.invariant

pub returns-clause-first : goal.returns-clause-first
returns-clause-first c = nobody_moves c.args.self.now.lines (λ i less. c.loop-cpu.invariant i (omega (arith, less)))
