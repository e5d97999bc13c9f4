use Rattle.std.proofs.Common.{sym, ap, ◌∙◌, slice_get}
use Rattle.board_core.specs.Seen.{board_lines}
use Rattle.board_def.specs.Seen.{BoardSeen}
use Rattle.irq_sleeper.specs.Seen.{SleeperSeen}
use Rattle.irq_sleeper.proofs.Asking.{found_driver, passed_driver}
use Rattle.irq_sleeper.proofs.sleeper.Sleeper.first_asking.Goals as goal

pub returns-then-asks_next : goal.returns-then-asks_next
returns-then-asks_next g c =
    found_driver c.args.self.now.system.board (board_lines c.args.self.now.system.lines) c.args.self.now.system.board.drivers c.loop-j.j c.in-Some.driver
    (sym c.in-Some.is ∙ (c.driver.ensures ∙ ap (λ (b : BoardSeen). slice_get b.drivers c.loop-j.j)
    (c.board-in-loop-j.ensures ∙ ap (λ (s : SleeperSeen). s.system.board) c.self.view_is))) c.if-asks_next.ensures
    c.loop-j.invariant

pub loop-j-preserved : goal.loop-j-preserved
loop-j-preserved g c =
    passed_driver c.args.self.now.system.board (board_lines c.args.self.now.system.lines) c.args.self.now.system.board.drivers c.loop-j.j c.in-Some.driver
    (sym c.in-Some.is ∙ (c.driver.ensures ∙ ap (λ (b : BoardSeen). slice_get b.drivers c.loop-j.j)
    (c.board-in-loop-j.ensures ∙ ap (λ (s : SleeperSeen). s.system.board) c.self.view_is))) c.if-asks_next.ensures
    c.loop-j.invariant
