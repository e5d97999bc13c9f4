-- The headline's parts, of lines that keep what every move keeps.
use Rattle.std.proofs.Common.{◌≡◌, ℕ, true, Some, List, [], reverse, slice_get, sym, ap, subst}
use Rattle.std.proofs.lemmas.List.{reverse-reverse}
use Rattle.irq_base.specs.declared.entries.Entry.{Entry}
use Rattle.irq_base.specs.declared.lines.LineDef.{LineDef}
use Rattle.irq_model.specs.Legal.{IsLegal, IsLegalPast}
use Rattle.irq_model.specs.Waits.{IsAtRest}
use Rattle.board_def.specs.Layout.{layout_of}
use Rattle.board_def.specs.LineOf.{line_of_row}
use Rattle.board_def.specs.Rules.{IsBoard}
use Rattle.board_def.specs.Seen.{BoardSeen}
use Rattle.board_def.specs.declared.rows.LineRow.{LineRow}
use Rattle.board_def.proofs.Validity.{valid_row}
use Rattle.board_play.specs.Hanging.{NobodyMoves, NobodyHangs}
use Rattle.board_play.specs.Kept.{AreKept}
use Rattle.board_play.specs.Lines.{BoardLine}
use Rattle.board_play.proofs.Rest.{lines_are_at_rest}
use Rattle.board_report.specs.Reporting.{entries_in}
use Rattle.board_report.specs.Headline.{EachMapped, EachRefused, KeepsLaws, LineHeadline}
use Rattle.board_report.proofs.LineLaws.{keeps_laws, line_headline}
use Rattle.board_report.proofs.OfRows.{is_mapped_at}
use Rattle.board_report.proofs.Laid.{HasLine, its_entries, line_laid, no_entries}

module _ (b : BoardSeen) (board : IsBoard b) (lines : List BoardLine) (k : AreKept b lines) where
  -- what holds of the entries of the line that a row has holds of the entries of the row's number
  pub of_row : (P : LineDef → List Entry → Type 0) (i : ℕ) (row : LineRow) (at : slice_get b.lines i ≡ Some row) (h : HasLine lines (line_of_row b row))
      → P h.line.def (reverse h.line.past) → P (line_of_row b row) (entries_in lines row.line)
  of_row P i row at h p =
      subst (λ (es : List Entry). P (line_of_row b row) es) (sym (its_entries b board lines k i row at h))
      (subst (λ (def : LineDef). P def (reverse h.line.past)) h.is p)

  pub legal_there : (def : LineDef) (h : HasLine lines def) → IsLegal h.line.def (reverse h.line.past)
  legal_there def h = subst (λ (past : List Entry). IsLegalPast h.line.def past) (sym (reverse-reverse h.line.past)) (k.legal h.place h.line h.at)

  pub legal_row : (i : ℕ) (row : LineRow) → slice_get b.lines i ≡ Some row
      → is_mapped_at (slice_get (layout_of b) i) ≡ true → IsLegal (line_of_row b row) (entries_in lines row.line)
  legal_row i row at laid =
      let h = line_laid b board lines k i row at laid in
      of_row (λ def es. IsLegal def es) i row at h (legal_there (line_of_row b row) h)

  pub all_keep_laws : EachMapped b (λ row. KeepsLaws (line_of_row b row) (entries_in lines row.line))
  all_keep_laws i row virq path at laid = keeps_laws (line_of_row b row) (entries_in lines row.line)
      (valid_row b i row board at) (legal_row i row at (ap is_mapped_at laid))

  pub refused_have_none : EachRefused b (λ row. entries_in lines row.line ≡ [])
  refused_have_none i row why at laid = no_entries b board lines k i row at (ap is_mapped_at laid)

  -- when none of the board's actors can move, and none is hung
  pub all_end_well : NobodyMoves b lines → NobodyHangs lines
      → EachMapped b (λ row. LineHeadline (line_of_row b row) (entries_in lines row.line))
  all_end_well rest unhung i row virq path at laid =
      let h = line_laid b board lines k i row at (ap is_mapped_at laid) in
      line_headline (line_of_row b row) (entries_in lines row.line) (valid_row b i row board at) (legal_row i row at (ap is_mapped_at laid))
      (of_row (λ def es. IsAtRest def es) i row at h (lines_are_at_rest b lines board k rest unhung h.place h.line h.at))
