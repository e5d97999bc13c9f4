use Rattle.std.proofs.Common.{reverse}
use Rattle.log_summary.proofs.RowWords.{row_is}
use Rattle.log_summary.proofs.summaries.summary_row.Goals as goal

pub returns : goal.returns
returns c =
    let h = c.args.history.now.entries in
    row_is c.args.line h c.summarize.result.0 c.word.result.now c.from.result c.len.result
    c.summarize.ensures.counts (c.word.ensures.word (reverse h) c.summarize.ensures.standing) c.from.ensures c.len.ensures
    c.clear.new.self c.push_bytes.new.self c.push_number.new.row c.push_count.new.row c.push_counts.new.row c.push_word.new.row c.push.new.self
    c.clear.ensures c.push_bytes.ensures c.push_number.ensures.text c.push_count.ensures.text c.push_counts.ensures.text c.push_word.ensures.text c.push.ensures
