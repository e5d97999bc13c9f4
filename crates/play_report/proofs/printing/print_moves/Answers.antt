use Rattle.std.proofs.Common.{◌≡◌, IfSome, Option, sym, ◌∙◌, subst, All}
use Rattle.std.proofs.lemmas.List.Elements.{All-drop}
use Rattle.std.proofs.lemmas.Option.{slice_get_within}
use Rattle.std.proofs.lemmas.Result.{err_from_is_err_and}
use Rattle.irq_base.specs.declared.entries.Entry.{Entry}
use Rattle.board_play.specs.Lines.{Move}
use Rattle.log_text.specs.EntryWords.{IsPrintable}
use Rattle.log_text.specs.Rows.{entry_text}
use Rattle.play_report.specs.Printing.{HasRow}
use Rattle.play_report.specs.Report.{moves_text}
use Rattle.play_report.proofs.RowByRow.{first_has, first_text, row_printed, row_failed}
use Rattle.play_report.proofs.printing.print_moves.Goals as goal

pub row_at-row-requires-clause-within : goal.row_at-row-requires-clause-within
row_at-row-requires-clause-within g c =
    let stands = c.in-Some.ensures.first in
    slice_get_within c.in-Some.at.history.now.entries c.in-Some.at.place stands.0 stands.1

pub row_at-row-requires-clause-printable : goal.row_at-row-requires-clause-printable
row_at-row-requires-clause-printable g c =
    let stands = c.in-Some.ensures.first in
    subst (λ (o : Option Entry). IfSome o IsPrintable) (sym stands.1)
    (first_has HasRow c.loop-at.moves (c.in-Some.at.line, stands.0) c.loop-at.invariant.rows stands.2)

pub loop-at-preserved : goal.loop-at-preserved
loop-at-preserved g c =
    let sink = g.O.Sink.written in
    let stands = c.in-Some.ensures.first in
    let left = c.loop-at.moves in
    let after = c.next_place.new.self in
    let row = c.row_at-row.result.now in
    let is = subst (λ (o : Option Entry). IfSome o (λ (e : Entry). row ≡ entry_text c.in-Some.at.line e)) stands.1 c.row_at-row.ensures in
    record {
      printing =
          row_printed (sink c.args.out.now) (sink c.loop-at.out) (sink c.write_all.new.sink) (moves_text c.args.moves.now) (moves_text left) row
          (moves_text after)
          (first_text (λ (m : Move). entry_text m.0 m.1) left after (c.in-Some.at.line, stands.0) row stands.2 c.in-Some.ensures.rest is)
          c.loop-at.invariant.printing c.in_ok-write_all.ensures.content;
      rows = subst (All HasRow) (sym c.in-Some.ensures.rest) (All-drop HasRow 1 left c.loop-at.invariant.rows);
      faults = c.in_ok-write_all.ensures.cause ∙ c.loop-at.invariant.faults;
    }

pub returns-in_err-write_all-clause-content : goal.returns-in_err-write_all-clause-content
returns-in_err-write_all-clause-content g c =
    let p = err_from_is_err_and c.from_residual.result c.from_residual.ensures.1 in
    let sink = g.O.Sink.written in
    let stands = c.in-Some.ensures.first in
    let left = c.loop-at.moves in
    let after = c.next_place.new.self in
    let row = c.row_at-row.result.now in
    let is = subst (λ (o : Option Entry). IfSome o (λ (e : Entry). row ≡ entry_text c.in-Some.at.line e)) stands.1 c.row_at-row.ensures in
    rw (p.1, p.2) (row_failed (sink c.args.out.now) (sink c.loop-at.out) (sink c.write_all.new.sink) (moves_text c.args.moves.now) (moves_text left) row
    (moves_text after)
    (first_text (λ (m : Move). entry_text m.0 m.1) left after (c.in-Some.at.line, stands.0) row stands.2 c.in-Some.ensures.rest is)
    c.loop-at.invariant.printing c.in_err-write_all.field-0.0 c.in_err-write_all.ensures.content)
