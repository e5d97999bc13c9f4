use Rattle.log_check.proofs.Lines.{passed_over, unended}
use Rattle.log_check.proofs.checking.pass_over.Goals as goal

pub returns-in_err-after : goal.returns-in_err-after
returns-in_err-after c = rw c.from_residual.ensures (unended c.args.text.now c.in_err-after.ensures.rows.0 c.in_err-after.ensures.rows.1)

pub returns : goal.returns
returns c =
    passed_over c.args.text.now c.in_ok-after.field-0-0.now c.in_ok-after.after.now c.in_ok-after.ensures.rows c.in_ok-after.ensures.shorter
    c.requires.hash
