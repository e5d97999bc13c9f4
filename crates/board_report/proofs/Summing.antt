-- The summary of one report after another.
use Rattle.std.proofs.Common.{◌≡◌, ℕ, ◌+◌, Some, List, [], ◌∷◌, ◌++◌, All, length, map, take, slice_get, refl, sum, sym, ap, subst, ◌∙◌}
use Rattle.std.specs.List.{flat_map, sum_by}
use Rattle.std.proofs.lemmas.List.Sums.{sum_by_more, sum-map}
use Rattle.std.proofs.lemmas.List.Elements.{All-get_or}
use Rattle.std.proofs.lemmas.Option.{slice_get_within, get_or_from_slice_get}
use Rattle.irq_base.specs.declared.reporting.LineReport.{LineReport}
use Rattle.log_summary.specs.Texts.{summary_text}
use Rattle.board_report.specs.Headline.{LineHistory, told_by}
use Rattle.board_report.specs.Totals.{count_of_entries, summaries_text}
use Rattle.board_report.specs.Summable.{IsSummable}

-- the row of a report, and how many entries it has
abbrev pub report_row : LineReport → List ℕ
report_row r = summary_text r.line r.history.entries

abbrev pub entries_in : LineReport → ℕ
entries_in r = length r.history.entries

pub rows_of_reports : (reports : List LineReport) → flat_map report_row reports ≡ summaries_text (map told_by reports)
rows_of_reports [] = refl
rows_of_reports (r ∷ reports) = ap (λ (text : List ℕ). report_row r ++ text) (rows_of_reports reports)

lengths : (reports : List LineReport) → map entries_in reports ≡ map (λ (h : LineHistory). length h.1) (map told_by reports)
lengths [] = refl
lengths (r ∷ reports) = ap (λ (ns : List ℕ). entries_in r ∷ ns) (lengths reports)

pub entries_of_reports : (reports : List LineReport) → sum_by entries_in reports ≡ count_of_entries (map told_by reports)
entries_of_reports reports = sym (sum-map entries_in reports)
    ∙ (ap (λ (ns : List ℕ). sum ns) (lengths reports) ∙ sum-map (λ (h : LineHistory). length h.1) (map told_by reports))

pub summable_at : (reports : List LineReport) (i : ℕ) (r : LineReport) → All IsSummable reports → slice_get reports i ≡ Some r → IsSummable r
summable_at reports i r all at = subst IsSummable (get_or_from_slice_get reports i r r at)
    (All-get_or IsSummable reports i r (slice_get_within reports i r at) all)

pub one_more : (reports : List LineReport) (i : ℕ) (r : LineReport) → slice_get reports i ≡ Some r
    → sum_by entries_in (take (i + 1) reports) ≡ sum_by entries_in (take i reports) + entries_in r
one_more reports i r at =
    sum_by_more entries_in reports i r (slice_get_within reports i r at)
    ∙ ap (λ (x : LineReport). sum_by entries_in (take i reports) + entries_in x)
    (get_or_from_slice_get reports i r r at)
