-- The rows of a layout, as bytes.
use Rattle.std.specs.Prelude.{ℕ, Option, Some, None, List, [], ◌∷◌, ◌++◌, length, ◌≤◌, map, codes}
use Rattle.std.specs.Prelude.{decimal, slice_get}
use Rattle.std.specs.List.{flat_map, range_with_len}
use Rattle.irq_base.specs.declared.numbers.LineNo.{LineNo}
use Rattle.board_def.specs.Layout.{layout_of}
use Rattle.board_def.specs.Names.{name_bytes}
use Rattle.board_def.specs.Seen.{BoardSeen}
use Rattle.domain_rules.specs.declared.layouts.Placement.{Placement}
use Rattle.domain_rules.specs.declared.layouts.Placement.TheVariants as placements
use Rattle.domain_rules.specs.declared.layouts.Unmapped.{Unmapped}
use Rattle.domain_rules.specs.declared.layouts.Unmapped.TheVariants as reasons
use Rattle.board_def.specs.declared.rows.DomainRow.{DomainRow}
use Rattle.board_def.specs.declared.rows.LineRow.{LineRow}
use Rattle.log_text.specs.Rows.{row_of}

abbrev pub name_in : Option DomainRow → List ℕ
name_in (Some row) = name_bytes row.name
name_in None = []

-- a level of a path: the domain's name, and the line's number there
abbrev pub level_word : List DomainRow → ℕ × ℕ → List ℕ
level_word domains level = name_in (slice_get domains level.0) ++ codes ":" ++ decimal level.1

abbrev pub unmapped_word : Unmapped → List ℕ
unmapped_word reasons.Taken = codes "taken"
unmapped_word reasons.OutOfRange = codes "out-of-range"
unmapped_word reasons.NoMask = codes "no-mask"

-- the virq and the levels, leaf first; or why the line is refused
abbrev pub placement_words : List DomainRow → Placement → List (List ℕ)
placement_words domains (placements.Mapped virq path) =
    codes "virq" ∷ decimal virq ∷ map (level_word domains) path
placement_words domains (placements.Refused why) = codes "refused" ∷ unmapped_word why ∷ []

-- a path has at most eight levels
abbrev pub IsShort : Placement → Type 0
IsShort (placements.Mapped virq path) = length path ≤ 8
IsShort (placements.Refused why) = Unit {0}

-- the row of a line with this placement
abbrev pub layout_text : List DomainRow → LineNo → Placement → List ℕ
layout_text domains line placement =
    row_of (codes "#" ∷ codes "irq" ∷ decimal line.0 ∷ placement_words domains placement)

abbrev pub text_of_both : List DomainRow → Option LineRow → Option Placement → List ℕ
text_of_both domains (Some row) (Some placement) = layout_text domains row.line placement
text_of_both domains _ _ = []

-- the row of the board's line at index i, counted from 0
abbrev pub layout_row_text : BoardSeen → ℕ → List ℕ
layout_row_text b i = text_of_both b.domains (slice_get b.lines i) (slice_get (layout_of b) i)

-- the rows of all lines, in the board's order
abbrev pub layout_rows : BoardSeen → List ℕ
layout_rows b = flat_map (layout_row_text b) (range_with_len 0 (length b.lines))
