-- The rows of one report after another.
use Rattle.std.proofs.Common.{◌≡◌, ℕ, Some, List, [], ◌∷◌, ◌++◌, All, map, slice_get, refl, ap, subst}
use Rattle.std.specs.List.{flat_map}
use Rattle.std.proofs.lemmas.List.Elements.{All-get_or}
use Rattle.std.proofs.lemmas.Option.{slice_get_within, get_or_from_slice_get}
use Rattle.irq_base.specs.declared.reporting.LineReport.{LineReport}
use Rattle.log_text.specs.Rows.{history_text}
use Rattle.board_report.specs.Headline.{told_by}
use Rattle.irq_run.specs.Report.{lines_text}

-- the rows of a report
abbrev pub report_rows : LineReport → List ℕ
report_rows r = history_text r.line r.history.entries

pub rows_of_reports : (reports : List LineReport) → flat_map report_rows reports ≡ lines_text (map told_by reports)
rows_of_reports [] = refl
rows_of_reports (r ∷ reports) = ap (λ (text : List ℕ). report_rows r ++ text) (rows_of_reports reports)

-- what holds of each item holds of the one at a place
pub all_at : {X : Type 0} (P : X → Type 0) (xs : List X) (i : ℕ) (x : X) → All P xs → slice_get xs i ≡ Some x → P x
all_at P xs i x all at = subst P (get_or_from_slice_get xs i x x at) (All-get_or P xs i x (slice_get_within xs i x at) all)
