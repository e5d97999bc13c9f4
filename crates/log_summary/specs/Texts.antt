-- The rows of a summary, as bytes.
use Rattle.std.specs.Prelude.{ℕ, if◌then◌else◌, List, [], ◌∷◌, length, reverse, count_by, sum_by}
use Rattle.std.specs.Prelude.{codes, decimal}
use Rattle.irq_base.specs.declared.numbers.LineNo.{LineNo}
use Rattle.irq_base.specs.declared.entries.Entry.{Entry}
use Rattle.irq_model.specs.Kinds.{is_any_ask, is_take}
use Rattle.irq_model.specs.Links.{is_none_linked, is_disabled}
use Rattle.log_text.specs.Rows.{row_of}
use Rattle.log_summary.specs.Counted.{is_run, is_thread_run, served_by}

-- how a line is left after what happened to it, the newest entry first
abbrev pub state_word : List Entry → List ℕ
state_word past =
    if is_none_linked past then codes "stopped"
    else (if is_disabled past then codes "disabled" else codes "enabled")

-- what a line's history, the oldest entry first, comes to
abbrev pub summary_words : LineNo → List Entry → List (List ℕ)
summary_words line h =
    codes "line" ∷ decimal line.0 ∷ codes "entries" ∷ decimal (length h)
    ∷ codes "asks" ∷ decimal (count_by is_any_ask h) ∷ codes "takes" ∷ decimal (count_by is_take h)
    ∷ codes "runs" ∷ decimal (count_by is_run h) ∷ codes "threads"
    ∷ decimal (count_by is_thread_run h)
    ∷ codes "served" ∷ decimal (sum_by served_by h) ∷ state_word (reverse h) ∷ []

-- the summary row of a line
abbrev pub summary_text : LineNo → List Entry → List ℕ
summary_text line h = row_of (summary_words line h)

-- the row of the total: how many entries all lines have
abbrev pub total_text : ℕ → List ℕ
total_text n = row_of (codes "total" ∷ codes "entries" ∷ decimal n ∷ [])
