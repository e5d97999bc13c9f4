use Rattle.std.proofs.Common.{sym, ◌∙◌}
use Rattle.board_core.proofs.RisingNumbers.{driver_pushed}
use Rattle.board_core.proofs.refreshing.numbers_of_drivers.Goals as goal

pub loop-i-preserved : goal.loop-i-preserved
loop-i-preserved c = driver_pushed c.args.board.now.drivers c.loop-i.i c.in-Some.driver c.loop-i.numbers.items
    c.push.new.self.items (sym c.driver.ensures ∙ c.in-Some.is) c.loop-i.invariant c.in_ok-push.ensures.items
