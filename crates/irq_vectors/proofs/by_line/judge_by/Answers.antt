use Rattle.log_check.specs.Judged.{Judged}
use Rattle.irq_vectors.proofs.by_line.judge_by.Goals as goal

pub returns : goal.returns
returns g c =
    let judged : Judged c.args.def.now c.args.entries.now c.in_ok-judge.field-0 =
    rw (c.in_ok-line.ensures.def, c.in_ok-history.ensures) at c.in_ok-judge.ensures in
    c.verdict_of.ensures c.args.def.now c.args.entries.now judged
