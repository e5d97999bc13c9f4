use Rattle.std.proofs.Common.{rules, List, subst, arith}
use Rattle.log_check.specs.JudgeSeen.{JudgeSeen}
use Rattle.log_check.specs.Judging.{Concludes}
use Rattle.log_check.proofs.WholeLog.{at_next, concluded, malformed, rooms}
use Rattle.log_check.proofs.checking.check_log.Goals as goal

pub judge_first-requires-clause-room : goal.judge_first-requires-clause-room
judge_first-requires-clause-room g c =
    rooms c.args.board.now c.args.log.now c.loop-rest.rest.now c.loop-rest.row c.loop-rest.judges.items c.loop-rest.invariant
    (omega (arith, c.requires.few))

pub returns-in_default : goal.returns-in_default
returns-in_default g c =
    malformed c.args.board.now c.args.log.now c.loop-rest.rest.now c.loop-rest.row c.loop-rest.judges.items c.loop-rest.invariant
    (search rules) (rw c.in_default.is at c.in_ok-after.ensures)

pub loop-rest-preserved : goal.loop-rest-preserved
loop-rest-preserved g c =
    at_next c.args.board.now c.args.log.now c.loop-rest.rest.now c.in-Some.after.now c.loop-rest.row c.loop-rest.judges.items
    c.judge_first.new.judges.items c.loop-rest.invariant (rw c.in-Some.is at c.in_ok-after.ensures)

pub returns : goal.returns
returns g c =
    concluded c.args.board.now c.args.log.now c.loop-rest.rest.now c.loop-rest.row c.loop-rest.judges.items c.verdict_of.result c.loop-rest.invariant
    (search rules)
    (subst (λ (js : List JudgeSeen). Concludes c.args.board.now js c.verdict_of.result) c.deref.ensures.value c.verdict_of.ensures)
