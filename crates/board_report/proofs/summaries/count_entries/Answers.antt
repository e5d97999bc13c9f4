use Rattle.std.proofs.Common.{sym, arith}
use Rattle.board_report.proofs.Summing.{one_more, summable_at}
use Rattle.board_report.proofs.summaries.count_entries.Goals as goal

pub loop-i-preserved : goal.loop-i-preserved
loop-i-preserved c =
    let few = (summable_at c.args.reports.now.reports c.loop-i.i c.in-Some.report.now c.requires.summable (sym c.in-Some.ensures)).few in
    let more = one_more c.args.reports.now.reports c.loop-i.i c.in-Some.report.now (sym c.in-Some.ensures) in
    let long = c.len.ensures in
    record { total = omega (arith, more, long, c.loop-i.invariant.total); small = omega (arith, few, long, c.loop-i.invariant.small) }
