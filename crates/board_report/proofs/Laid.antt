-- Where the line of a row stands among a board's lines; and its entries are the entries of its
-- number.
use Rattle.std.proofs.Common.{◌≡◌, ℕ, zero, suc, true, false, Some, List, [], ◌∷◌, map, reverse, slice_get, refl, sym, ap, ◌∙◌, subst}
use Rattle.irq_base.specs.declared.lines.LineDef.{LineDef}
use Rattle.irq_laws.proofs.Chosen.{the_same}
use Rattle.board_def.specs.Layout.{layout_of}
use Rattle.board_def.specs.LineOf.{line_of_row}
use Rattle.board_def.specs.Rules.{IsBoard}
use Rattle.board_def.specs.Seen.{BoardSeen}
use Rattle.board_def.specs.declared.rows.LineRow.{LineRow}
use Rattle.board_play.specs.Kept.{AreKept}
use Rattle.board_play.specs.Lines.{BoardLine}
use Rattle.board_play.proofs.KeptAlways.{apart_kept}
use Rattle.board_play.proofs.Members.{find_there}
use Rattle.board_report.specs.Reporting.{entries_in, entries_of}
use Rattle.board_report.proofs.OfRows.{is_mapped_at, takes_no_part, takes_part}

-- a line of that definition
pub record HasLine (lines : List BoardLine) (def : LineDef) : Type 0 where
  pub place : ℕ
  pub line : BoardLine
  pub at : slice_get lines place ≡ Some line
  pub is : line.def ≡ def

further : (y : BoardLine) (lines : List BoardLine) (def : LineDef) → HasLine lines def → HasLine (y ∷ lines) def
further y lines def h = record { place = suc h.place; line = h.line; at = h.at; is = h.is }

of_def : (lines : List BoardLine) (i : ℕ) (def : LineDef) → slice_get (map (λ (x : BoardLine). x.def) lines) i ≡ Some def → HasLine lines def
of_def [] i def at = cc
of_def (x ∷ xs) zero def at = record { place = 0; line = x; at = refl; is = the_same x.def def at }
of_def (x ∷ xs) (suc i) def at = further x xs def (of_def xs i def at)

module _ (b : BoardSeen) (board : IsBoard b) (lines : List BoardLine) (k : AreKept b lines) (i : ℕ) (row : LineRow) (at : slice_get b.lines i ≡ Some row) where
  -- the line of a row that the layout maps
  pub line_laid : is_mapped_at (slice_get (layout_of b) i) ≡ true → HasLine lines (line_of_row b row)
  line_laid laid =
      let s = takes_part b i row at laid in
      of_def lines s.place (line_of_row b row) (subst (λ (ds : List LineDef). slice_get ds s.place ≡ Some (line_of_row b row)) (sym k.defs) s.at)

  pub its_entries : (h : HasLine lines (line_of_row b row)) → entries_in lines row.line ≡ reverse h.line.past
  its_entries h =
      ap (λ (def : LineDef). entries_in lines def.line) (sym h.is) ∙ ap entries_of (find_there lines (apart_kept b board lines k) h.place h.line h.at)

  -- one that the layout refuses has none
  pub no_entries : is_mapped_at (slice_get (layout_of b) i) ≡ false → entries_in lines row.line ≡ []
  no_entries not = ap entries_of (takes_no_part b board lines k.defs i row at not)
