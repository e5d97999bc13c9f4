-- What holds of the reports of a run, so that they can be printed and summed up.
use Rattle.std.proofs.Common.{◌≡◌, ℕ, zero, suc, ◌≤◌, Bool, true, false, Some, List, [], ◌∷◌, length, map, reverse, slice_get, refl, sym, ap, ◌∙◌, subst, arith}
use Rattle.std.specs.List.{All}
use Rattle.std.proofs.Math.ListN.{length-map}
use Rattle.std.proofs.lemmas.List.{reverse-reverse}
use Rattle.std.proofs.lemmas.List.Elements.{All-nil, All-cons}
use Rattle.irq_base.specs.declared.entries.Entry.{Entry}
use Rattle.irq_base.specs.declared.lines.LineDef.{LineDef}
use Rattle.irq_base.specs.declared.reporting.LineReport.{LineReport}
use Rattle.irq_line.specs.Seen.{LineSeen}
use Rattle.irq_model.specs.Legal.{IsLegal, IsLegalPast}
use Rattle.irq_laws.proofs.Chosen.{the_same}
use Rattle.log_summary.specs.Lasts.{TellsLasts}
use Rattle.log_summary.proofs.LastLaws.{legal_tells}
use Rattle.log_text.specs.EntryWords.{IsPrintable}
use Rattle.board_core.specs.Making.{AreSound}
use Rattle.board_core.specs.Seen.{board_line, board_lines}
use Rattle.board_def.specs.Layout.{layout_of}
use Rattle.board_def.specs.LineOf.{line_of_row}
use Rattle.board_def.specs.Rules.{IsBoard}
use Rattle.board_def.specs.Seen.{BoardSeen}
use Rattle.board_def.specs.declared.rows.LineRow.{LineRow}
use Rattle.board_play.specs.Kept.{AreKept}
use Rattle.board_play.specs.Lines.{BoardLine}
use Rattle.board_report.specs.Reporting.{entries_in}
use Rattle.board_report.specs.Headline.{LineHistory, told_by}
use Rattle.board_report.specs.Summable.{IsSummable}
use Rattle.board_report.proofs.OfRows.{is_mapped_at}
use Rattle.board_report.proofs.Printable.{printable, turned}
use Rattle.board_report.specs.Headline.{Histories, histories_of}
use Rattle.board_report.specs.Rows.{HasRows}
use Rattle.board_report.proofs.Kept.{legal_row}
use Rattle.board_report.proofs.Laid.{its_entries, line_laid, no_entries}

-- ---- a line's entries

legal_printable : (def : LineDef) (past : List Entry) → IsLegalPast def past → All IsPrintable past
legal_printable def [] legal = All-nil IsPrintable
legal_printable def (e ∷ past) legal = All-cons IsPrintable e past (printable def past e legal.0) (legal_printable def past legal.1)

all_printable : (def : LineDef) (h : List Entry) → IsLegal def h → All IsPrintable h
all_printable def h legal = subst (All IsPrintable) (reverse-reverse h) (turned IsPrintable (reverse h) (legal_printable def (reverse h) legal))

-- a line as the board sees it, and as it is seen itself
record OfSeen (seen : List LineSeen) (place : ℕ) (y : BoardLine) : Type 0 where
  line : LineSeen
  at : slice_get seen place ≡ Some line
  is : board_line line ≡ y

of_seen : (seen : List LineSeen) (i : ℕ) (y : BoardLine) → slice_get (board_lines seen) i ≡ Some y → OfSeen seen i y
of_seen [] i y at = cc
of_seen (x ∷ xs) zero y at = record { line = x; at = refl; is = the_same (board_line x) y at }
of_seen (x ∷ xs) (suc i) y at = let o = of_seen xs i y at in record { line = o.line; at = o.at; is = o.is }

-- ---- all reports

-- what holds of the entries of each row holds of each report of them
each_report : (P : List Entry → Type 0) (Q : LineReport → Type 0) → ((r : LineReport) → P r.history.entries → Q r)
    → (entries : Histories) (reports : List LineReport) (rows : List LineRow)
    → map told_by reports ≡ map (λ (row : LineRow). (row.line, entries row.line)) rows
    → ((i : ℕ) (row : LineRow) → slice_get rows i ≡ Some row → P (entries row.line)) → All Q reports
each_report P Q from entries [] rows told each = All-nil Q
each_report P Q from entries (r ∷ reports) [] told each = cc
each_report P Q from entries (r ∷ reports) (row ∷ rows) told each =
    let pair : LineHistory = (row.line, entries row.line) in
    let both = first (told_by r) pair (map told_by reports) (map (λ (row : LineRow). (row.line, entries row.line)) rows) told in
    let its : r.history.entries ≡ entries row.line = ap (λ (h : LineHistory). h.1) both.0 in
    All-cons Q r reports (from r (subst P (sym its) (each zero row refl))) (each_report P Q from entries reports rows both.1 (λ i row at. each (suc i) row at))
  where
    first : (h k : LineHistory) (hs ks : List LineHistory) → h ∷ hs ≡ k ∷ ks → (h ≡ k) × (hs ≡ ks)
    first h k hs ks is = (cc, cc)

module _ (b : BoardSeen) (board : IsBoard b) (seen : List LineSeen) (k : AreKept b (board_lines seen))
    (reports : List LineReport) (told : map told_by reports ≡ histories_of b (entries_in (board_lines seen))) where
  -- of a row that takes part, and of one that doesn't
  by_row : (P : List Entry → Type 0) → P [] → (i : ℕ) (row : LineRow) → slice_get b.lines i ≡ Some row
      → (is_mapped_at (slice_get (layout_of b) i) ≡ true → P (entries_in (board_lines seen) row.line)) → P (entries_in (board_lines seen) row.line)
  by_row P none i row at there = by_test (is_mapped_at (slice_get (layout_of b) i)) refl
    where
      by_test : (t : Bool) → is_mapped_at (slice_get (layout_of b) i) ≡ t → P (entries_in (board_lines seen) row.line)
      by_test true laid = there laid
      by_test false laid = subst P (sym (no_entries b board (board_lines seen) k i row at laid)) none

  pub all_have_rows : All HasRows reports
  all_have_rows =
      each_report (λ es. All IsPrintable es) HasRows (λ r rows. rows) (entries_in (board_lines seen)) reports b.lines told
      (λ i row at. by_row (λ es. All IsPrintable es) (All-nil IsPrintable) i row at
      (λ laid. all_printable (line_of_row b row) (entries_in (board_lines seen) row.line) (legal_row b board (board_lines seen) k i row at laid)))

  is_short : AreSound seen → (i : ℕ) (row : LineRow) → slice_get b.lines i ≡ Some row
      → is_mapped_at (slice_get (layout_of b) i) ≡ true → length (entries_in (board_lines seen) row.line) ≤ 100000000
  is_short sound i row at laid =
      let h = line_laid b board (board_lines seen) k i row at laid in
      let o = of_seen seen h.place h.line h.at in
      let entries : entries_in (board_lines seen) row.line ≡ o.line.entries =
      its_entries b board (board_lines seen) k i row at h ∙ (ap (λ (y : BoardLine). reverse y.past) (sym o.is) ∙ reverse-reverse o.line.entries) in
      let long = ap (λ (es : List Entry). length es) entries in
      let few = (sound h.place o.line o.at).log in
      let limit : o.line.def.log ≡ b.log = ap (λ (y : BoardLine). y.def.log) o.is ∙ ap (λ (def : LineDef). def.log) h.is in
      let small = board.small_log in
      omega (arith, long, few, limit, small)

  pub all_summable : AreSound seen → All IsSummable reports
  all_summable sound =
      each_report (λ es. (length es ≤ 100000000) × TellsLasts es) IsSummable
      (λ r both. record { few = both.0; lasts = both.1 }) (entries_in (board_lines seen)) reports b.lines told
      (λ i row at. by_row (λ es. (length es ≤ 100000000) × TellsLasts es) (omega arith, tt) i row at
      (λ laid. (
        is_short sound i row at laid,
        legal_tells (line_of_row b row) (entries_in (board_lines seen) row.line)
            (legal_row b board (board_lines seen) k i row at laid),
      )))

  pub few_reports : length reports ≤ 64
  few_reports =
      let m = length-map reports told_by in
      let history : LineRow → LineHistory = λ row. (row.line, entries_in (board_lines seen) row.line) in
      let n : length (histories_of b (entries_in (board_lines seen))) ≡ length b.lines = length-map b.lines history in
      let e : length (map told_by reports) ≡ length (histories_of b (entries_in (board_lines seen))) = ap (λ (hs : List LineHistory). length hs) told in
      let f = board.few_lines in
      omega (arith, m, n, e, f)
