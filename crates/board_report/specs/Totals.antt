-- What a summary of a board's lines prints after the layout.
use Rattle.std.specs.Prelude.{ℕ, List, ◌++◌, length, sum_by}
use Rattle.std.specs.List.{flat_map}
use Rattle.log_summary.specs.Texts.{summary_text, total_text}
use Rattle.board_report.specs.Headline.{LineHistory}

-- a summary row for each line
abbrev pub summaries_text : List LineHistory → List ℕ
summaries_text histories = flat_map (λ h. summary_text h.0 h.1) histories

-- how many entries the lines have together
abbrev pub count_of_entries : List LineHistory → ℕ
count_of_entries histories = sum_by (λ h. length h.1) histories

-- the summary rows and the total
abbrev pub totals_text : List LineHistory → List ℕ
totals_text histories = summaries_text histories ++ total_text (count_of_entries histories)
