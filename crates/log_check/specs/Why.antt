-- Why a line's history isn't legal.
use Rattle.std.specs.Prelude.{◌≡◌, ◌⊎◌, ℕ, ◌+◌, ◌-◌, ◌≤◌, true, false, Option, Some, None, List}
use Rattle.std.specs.Prelude.{[], ◌∷◌, ◌++◌}
use Rattle.std.specs.Prelude.{length, reverse, slice_get, take}
use Rattle.irq_base.specs.Who.{actor_of}
use Rattle.irq_base.specs.declared.entries.Entry.{Entry}
use Rattle.irq_base.specs.declared.lines.LineDef.{LineDef}
use Rattle.irq_base.specs.declared.numbers.LineNo.{LineNo}
use Rattle.irq_line.specs.Seen.{LineSeen}
use Rattle.irq_model.specs.Legal.{IsLegal}
use Rattle.irq_model.specs.Next.{next}
use Rattle.line_obstacles.specs.Obstacles.{in_way}
use Rattle.log_read.specs.LogOf.{LineEntry, entries_on, is_passed_over, saying}
use Rattle.log_text.specs.EntryWords.{IsPrintable}
use Rattle.log_text.specs.Formed.{IsRowOf}
use Rattle.log_check.specs.Judging.{most}
use Rattle.log_check.specs.declared.why.DueThen.{DueThen}
use Rattle.log_check.specs.declared.why.DueThen.TheVariants as dues
use Rattle.log_check.specs.declared.why.Undue.{Undue}

-- After these entries the table of steps has something else for the entry's actor, or nothing; and
-- then what stands in its way. A line that takes no part has nothing for anybody.
abbrev pub IsDueThen : Option LineDef → List Entry → Entry → DueThen → Type 0
IsDueThen (Some def) es e (dues.Entry due) =
    (next def es (actor_of e) ≡ Some due) × (due ≡ e → ⊥)
IsDueThen (Some def) es e (dues.Nothing obstacle) =
    (next def es (actor_of e) ≡ None) × (obstacle ≡ in_way def (reverse es) (actor_of e))
IsDueThen None es e due = due ≡ dues.Nothing None

-- what was due has a row
abbrev pub IsPrintableDue : DueThen → Type 0
IsPrintableDue (dues.Entry e) = IsPrintable e
IsPrintableDue (dues.Nothing obstacle) = Unit {0}

-- ---- a row

-- the line has this entry more, which was due; or it wasn't, and this was due in its place
abbrev pub Tries : LineSeen → Entry → Option DueThen → LineSeen → Type 0
Tries old e None new = (next old.def old.entries (actor_of e) ≡ Some e) × (new.def ≡ old.def)
    × (new.entries ≡ old.entries ++ e ∷ [])
Tries old e (Some due) new = IsDueThen (Some old.def) old.entries e due

-- the same, where the line may take no part
abbrev pub TriesOn : Option LineSeen → Entry → Option DueThen → Option LineSeen → Type 0
TriesOn (Some old) e due (Some new) = Tries old e due new
TriesOn (Some old) e due None = ⊥
TriesOn None e due new = due ≡ Some (dues.Nothing None)

-- the entry is another line's; or this line's, and was tried
abbrev pub TriesIfOwn : LineNo → LineNo → Entry → Option DueThen → Option LineSeen
    → Option LineSeen → Type 0
TriesIfOwn of number e due old new = ((of ≡ number → ⊥) × (due ≡ None) × (new ≡ old))
    ⊎ ((of ≡ number) × TriesOn old e due new)

-- the row is passed over; or it is that of no entry; or that of an entry, which was tried if it is
-- this line's
abbrev pub Finds : List ℕ → LineNo → Option DueThen → Option LineSeen → Option LineSeen → Type 0
Finds row number due old new =
    ((is_passed_over row ≡ true) × (due ≡ None) × (new ≡ old))
    ⊎ ((is_passed_over row ≡ false)
    × (((of : LineNo) (e : Entry) → IsRowOf row of e → ⊥)
    ⊎ ((of : LineNo) × (e : Entry) × IsRowOf row of e × TriesIfOwn of number e due old new)))

-- one entry more at most
abbrev pub GrowsByOne : Option LineSeen → Option LineSeen → Type 0
GrowsByOne (Some old) (Some new) =
    (new.def ≡ old.def) × (length new.entries ≤ length old.entries + 1)
GrowsByOne (Some old) None = ⊥
GrowsByOne None new = new ≡ None

-- nothing has happened to the line, and its log limit is that of one that judges
abbrev pub IsNew : Option LineSeen → Type 0
IsNew None = Unit {0}
IsNew (Some line) = (line.entries ≡ []) × (line.def.log ≡ most)

-- the history is legal; that of a line that takes no part is empty
abbrev pub IsLegalOf : Option LineDef → List Entry → Type 0
IsLegalOf (Some def) es = IsLegal def es
IsLegalOf None es = es ≡ []

-- the row is that of the line's first entry that wasn't due, and this was due in its place
pub record IsUndue (part : Option LineDef) (number : LineNo) (rows : List (List ℕ))
    (said : List LineEntry) (undue : Undue) : Type 0 where
  pub before : List LineEntry
  pub entry : Entry
  pub after : List LineEntry
  pub said_is : said ≡ before ++ (number, entry) ∷ after
  pub legal : IsLegalOf part (entries_on before number)
  pub due : IsDueThen part (entries_on before number) entry undue.due
  pub row : List ℕ
  pub counted : 1 ≤ undue.row
  pub row_at : slice_get rows (undue.row - 1) ≡ Some row
  pub says : is_passed_over row ≡ false
  pub place : length (saying (take (undue.row - 1) rows)) ≡ length before

-- what is found of the line's entries among those that the rows say; none: the history is legal
abbrev pub Explains : Option LineDef → LineNo → List (List ℕ) → List LineEntry → Option Undue
    → Type 0
Explains part number rows said None = IsLegalOf part (entries_on said number)
Explains part number rows said (Some undue) = IsUndue part number rows said undue
