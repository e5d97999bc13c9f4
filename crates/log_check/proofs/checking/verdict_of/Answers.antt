use Rattle.std.proofs.Common.{◌≡◌, Some, sym, ap, ◌∙◌, arith}
use Rattle.std.specs.List.{slice_get}
use Rattle.std.proofs.lemmas.Option.{slice_get_within}
use Rattle.log_check.specs.JudgeSeen.{JudgeSeen}
use Rattle.log_check.proofs.Lines.{there}
use Rattle.log_check.proofs.WholeLog.{all_due, one_undue}
use Rattle.log_check.proofs.checking.verdict_of.Goals as goal

pub returns-in-loop-i : goal.returns-in-loop-i
returns-in-loop-i g c =
    let judges = c.args.judges.now in
    let judge = c.index-judges-i.result in
    let row = c.in-Some-line.row in
    let atl : slice_get c.args.board.now.lines c.loop-i.i ≡ Some row = sym c.in-Some-line.ensures in
    one_undue c.args.board.now judges c.loop-i.i c.in-Some.entry row judge c.loop-i.invariant atl
    (there judges c.loop-i.i judge (omega (arith, c.loop-i-test.true)) ∙ ap (λ (j : JudgeSeen). Some j) (sym c.index-judges-i.is))
    (sym c.in-Some.ensures) (slice_get_within c.args.board.now.lines c.loop-i.i row atl)

pub returns : goal.returns
returns g c = all_due c.args.board.now c.args.judges.now c.loop-i.i (omega (arith, c.loop-i-test.false)) c.loop-i.invariant
