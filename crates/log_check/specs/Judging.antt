-- How the lines of a board judge the rows of a log.
use Rattle.std.specs.Prelude.{◌≡◌, ◌⊎◌, ℕ, ◌<◌, ◌≤◌, true, false, Option, Some, None, IfSome}
use Rattle.std.specs.Prelude.{List, [], ◌∷◌}
use Rattle.std.specs.Prelude.{◌++◌, length, map, slice_get}
use Rattle.board_def.specs.Layout.{layout_of}
use Rattle.board_def.specs.LineOf.{line_of_row}
use Rattle.board_def.specs.Seen.{BoardSeen}
use Rattle.board_def.specs.declared.rows.LineRow.{LineRow}
use Rattle.domain_rules.specs.declared.layouts.Placement.{Placement}
use Rattle.domain_rules.specs.declared.layouts.Placement.TheVariants as placements
use Rattle.irq_base.specs.Seen.{HistorySeen}
use Rattle.irq_base.specs.declared.entries.Actor.{Actor}
use Rattle.irq_base.specs.declared.entries.Entry.{Entry}
use Rattle.irq_base.specs.declared.lines.LineDef.{LineDef}
use Rattle.irq_base.specs.declared.numbers.LineNo.{LineNo}
use Rattle.irq_laws.specs.LogLimit.{with_log}
use Rattle.irq_line.specs.Seen.{LineSeen}
use Rattle.irq_model.specs.Legal.{IsLegal}
use Rattle.irq_model.specs.Next.{next}
use Rattle.log_check.specs.Heads.{BeginsWith, IsFormedOn, IsNoEntryOn, IsWrong}
use Rattle.log_check.specs.JudgeSeen.{JudgeSeen}
use Rattle.log_check.specs.Judged.{IsFirstUndue}
use Rattle.log_check.specs.Verdicts.{IsVerdict}
use Rattle.log_check.specs.declared.verdict.Verdict.{Verdict}
use Rattle.log_read.specs.LogOf.{IsRowOn, LineEntry, entries_on, is_passed_over}
use Rattle.log_read.specs.Versions.{may_have}
use Rattle.log_text.specs.Formed.{IsRowOf, IsSmall, IsWritable}
use Rattle.log_text.specs.Rows.{entry_text}

-- ---- one line

-- the most entries of a line that is judged
abbrev pub most : ℕ
most = 100000000

-- the line's history isn't full
pub record HasRoom (line : LineSeen) : Type 0 where
  pub below : length line.entries < line.def.log
  pub few : length line.entries < most

-- these bytes follow the entry's row in the text; none: the text doesn't begin with the row
abbrev pub Follows : List ℕ → LineNo → Entry → Option (List ℕ) → Type 0
Follows text number e (Some after) = text ≡ entry_text number e ++ after
Follows text number e None = (after : List ℕ) → text ≡ entry_text number e ++ after → ⊥

-- the entry was due of the actor, the line has it, and these bytes follow its row in the text;
-- none:
-- no such row
abbrev pub Adds : BoardSeen → List ℕ → LineNo → Actor → Option (List ℕ) → LineSeen → LineSeen
    → Type 0
Adds b text number actor (Some after) old new =
    (e : Entry) × IsSmall number.0 × IsWritable e × (may_have b.version e ≡ true)
    × (text ≡ entry_text number e ++ after) × (next old.def old.entries actor ≡ Some e)
    × (new.def ≡ old.def)
    × (new.entries ≡ old.entries ++ e ∷ [])
Adds b text number actor None old new =
    (e : Entry) (after : List ℕ) → next old.def old.entries actor ≡ Some e
    → may_have b.version e ≡ true → text ≡ entry_text number e ++ after → ⊥

-- the judge is of a line whose entry of this number, said by the text's first row, isn't due; none:
-- the row isn't that of an entry that the board's log may have
abbrev pub Stops : BoardSeen → List ℕ → ℕ → Option (List ℕ) → JudgeSeen → Type 0
Stops b text number (Some after) new =
    (row : List ℕ) × BeginsWith row after text × IsFormedOn b row
    × (new ≡ record { line = None; first = Some number })
Stops b text number None new = IsNoEntryOn b text

-- What the judge of a line says of its entries so far. Of a line that takes part: each was due, and
-- the line has them; or this is the first that wasn't. Of one that takes no part: it has none; or
-- its first wasn't due.
abbrev pub Stands : Option LineDef → Option LineSeen → Option ℕ → List Entry → Type 0
Stands (Some def) (Some line) None entries =
    IsLegal def entries × (line.def ≡ with_log def most) × (line.entries ≡ entries)
Stands (Some def) None (Some number) entries = IsFirstUndue def entries number
Stands None None None entries = entries ≡ []
Stands None None (Some number) entries = (1 ≤ length entries) × (number ≡ 1)
Stands _ _ _ entries = ⊥

-- the row is that of an entry that the board's log may have, and the judge says of the line's
-- entries with it what it said of those before, whatever they are
abbrev pub TakesRow : BoardSeen → List ℕ → LineNo → JudgeSeen → JudgeSeen → Type 0
TakesRow b row number old new =
    (part : Option LineDef) (entries : List Entry) → IfSome part (λ def. def.line ≡ number)
    → Stands part old.line old.first entries
    → (e : Entry) × IsRowOf row number e × (may_have b.version e ≡ true)
    × Stands part new.line new.first (entries ++ e ∷ [])

-- the judge took the text's first row, and these bytes follow it; none: the row isn't that of an
-- entry that the board's log may have
abbrev pub Takes : BoardSeen → List ℕ → LineNo → Option (List ℕ) → JudgeSeen → JudgeSeen → Type 0
Takes b text number (Some after) old new =
    (row : List ℕ) × BeginsWith row after text × TakesRow b row number old new
Takes b text number None old new = IsNoEntryOn b text

-- ---- all lines

-- the definition of the board's line at index i, if it takes part
abbrev pub part_of : BoardSeen → LineRow → Option Placement → Option LineDef
part_of b row (Some (placements.Mapped virq path)) = Some (line_of_row b row)
part_of b row _ = None

abbrev pub part_at : BoardSeen → LineRow → ℕ → Option LineDef
part_at b row i = part_of b row (slice_get (layout_of b) i)

-- the judges, one for each line of the board, have judged these entries, each said by a row
pub record HaveJudged (b : BoardSeen) (said : List LineEntry) (judges : List JudgeSeen)
    : Type 0 where
  pub many : length judges ≡ length b.lines
  pub each : (i : ℕ) (row : LineRow) (judge : JudgeSeen) → slice_get b.lines i ≡ Some row
      → slice_get judges i ≡ Some judge
      → Stands (part_at b row i) judge.line judge.first (entries_on said row.line)

-- each line has room for a step
abbrev pub HaveRoom : List JudgeSeen → Type 0
HaveRoom judges =
    (i : ℕ) (judge : JudgeSeen) → slice_get judges i ≡ Some judge → IfSome judge.line HasRoom

-- nothing is wrong with the row, and what it says, if it isn't passed over, is judged with what was
-- said before
abbrev pub JudgesRow : BoardSeen → List ℕ → List JudgeSeen → List JudgeSeen → Type 0
JudgesRow b row old new =
    (said : List LineEntry) → HaveJudged b said old
    → ((is_passed_over row ≡ true) × HaveJudged b said new)
    ⊎ ((s : LineEntry) × IsRowOn b row s × (is_passed_over row ≡ false)
    × HaveJudged b (said ++ s ∷ []) new)

-- the text's first row is judged, and these bytes follow it; none: something is wrong with it
abbrev pub JudgesFirst : BoardSeen → List ℕ → Option (List ℕ) → List JudgeSeen → List JudgeSeen
    → Type 0
JudgesFirst b text (Some after) old new =
    (row : List ℕ) × BeginsWith row after text × JudgesRow b row old new
JudgesFirst b text None old new = IsWrong b text

-- the text's first row is passed over, and these bytes follow it; none: something is wrong with it
abbrev pub PassesOver : List ℕ → Option (List ℕ) → Type 0
PassesOver text (Some after) =
    (row : List ℕ) × BeginsWith row after text × (is_passed_over row ≡ true)
PassesOver text None = (b : BoardSeen) → IsWrong b text

-- the histories that are said, one for each line, in the board's order
abbrev pub logs_of : List LineRow → List LineEntry → List HistorySeen
logs_of lines said =
    map (λ (row : LineRow). record { entries = entries_on said row.line; spare = 0 }) lines

-- the verdict on whatever entries the judges have judged
abbrev pub Concludes : BoardSeen → List JudgeSeen → Verdict → Type 0
Concludes b judges verdict =
    (said : List LineEntry) → HaveJudged b said judges → IsVerdict b (logs_of b.lines said) verdict

-- ---- making

-- the maker makes each line that takes part, of its virq and its definition, but for the log limit
abbrev pub MakesEach : (ℕ → LineDef → Type 0) → BoardSeen → Type 0
MakesEach makes b =
    (i virq : ℕ) (path : List (ℕ × ℕ)) (row : LineRow) → slice_get b.lines i ≡ Some row
    → slice_get (layout_of b) i ≡ Some (placements.Mapped virq path)
    → makes virq (with_log (line_of_row b row) most)

-- the maker makes the line of this definition, if it takes part
abbrev pub MakesFor : (ℕ → LineDef → Type 0) → LineDef → Option Placement → Type 0
MakesFor makes def (Some (placements.Mapped virq path)) = makes virq (with_log def most)
MakesFor makes def _ = Unit {0}

-- the line of the definition, to which nothing has happened; none if it takes no part
abbrev pub IsMade : LineDef → Option Placement → Option LineSeen → Type 0
IsMade def (Some (placements.Mapped virq path)) (Some line) =
    (line.def ≡ with_log def most) × (line.entries ≡ [])
IsMade def (Some (placements.Mapped virq path)) None = ⊥
IsMade def _ line = line ≡ None
