use Rattle.std.proofs.Common.{sym, ◌∙◌}
use Rattle.std.proofs.lemmas.Bool.{false≢true}
use Rattle.log_read.proofs.RowCutting.{row_read, row_unread}
use Rattle.log_read.proofs.rows.read_row.Goals as goal

pub returns-then-is_done : goal.returns-then-is_done
returns-then-is_done c =
    row_read c.args.row.now c.of_row-words.result c.number.new.words c.entry-entry.new.words c.number.result
    c.entry-entry.result c.of_row-words.ensures c.number.ensures c.entry-entry.ensures
    (c.is_done.ensures.0 c.if-is_done.true)

pub returns-else-is_done : goal.returns-else-is_done
returns-else-is_done c =
    row_unread c.args.row.now c.of_row-words.result c.number.new.words c.entry-entry.new.words c.number.result
    c.entry-entry.result c.of_row-words.ensures c.number.ensures c.entry-entry.ensures
    (λ done. false≢true (sym c.if-is_done.false ∙ c.is_done.ensures.1 done))
