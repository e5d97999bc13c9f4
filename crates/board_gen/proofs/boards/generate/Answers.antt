use Rattle.std.proofs.Common.{arith}
use Rattle.board_gen.specs.Drawing.{x_after}
use Rattle.board_gen.proofs.Planning.{goes_on, goes_first, machine_up_to, is_generated}
use Rattle.board_gen.proofs.boards.generate.Goals as goal

pub loop-i-init : goal.loop-i-init
loop-i-init c = record {
  goes = goes_first c.args.n c.in_ok-board.board c.draw-lines.new.self.x c.draw-lines.ensures.x
      c.in_ok-board.ensures;
  up_to = machine_up_to c.in_ok-board.board c.in_ok-board.ensures;
}

pub loop-i-preserved : goal.loop-i-preserved
loop-i-preserved c =
    let done = c.in_ok-first.ensures in
    record {
      goes = goes_on c.loop-i.i (x_after 1 c.args.n) c.loop-i.board c.add_line.new.board c.loop-i.first c.loop-i.draws.x
          c.add_line.new.draws.x c.in_ok-first.field-0 c.loop-i.invariant.goes done.devices done.drawn done.line;
      up_to = done.up_to;
    }

pub returns : goal.returns
returns c = is_generated c.args.n c.draw-lines.result c.loop-i.i c.draw-lines.new.self.x c.loop-i.board c.loop-i.first
    c.loop-i.draws.x c.draw-lines.ensures.x c.draw-lines.ensures.drawn (omega arith) c.loop-i.invariant.goes
