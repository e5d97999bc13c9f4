use Rattle.std.proofs.Common.{sym, ◌∙◌}
use Rattle.board_core.proofs.Cutting.{empty_more}
use Rattle.board_core.proofs.making.empty_scripts.Goals as goal

pub loop-i-preserved : goal.loop-i-preserved
loop-i-preserved c = empty_more c.args.board.now c.loop-i.i c.in-Some.driver c.loop-i.scripts.items
    c.push.new.self.items c.new.result (sym c.driver.ensures ∙ c.in-Some.is) c.new.ensures c.in_ok-push.ensures.items
    c.loop-i.invariant
