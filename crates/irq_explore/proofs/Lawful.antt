-- A log that was found is lawful: its text is that of a log of the board, on which `check` says so.
use Rattle.std.proofs.Common.{◌≡◌, ℕ, zero, suc, ◌<◌, Bool, true, false, not, ◌&&◌, ◌||◌, cond, eqb, Some, None, List, [], ◌∷◌}
use Rattle.std.proofs.Common.{Vec, Global, length, map, slice_get, reverse, codes, All, refl, sym, ap, subst, ◌∙◌, append_assoc, arith}
use Rattle.std.specs.List.{AllZip, filter, join_with_byte}
use Rattle.std.specs.Option.{option_map}
use Rattle.std.proofs.lemmas.Bool.{eqb-true}
use Rattle.std.proofs.lemmas.List.{length-map, reverse-reverse}
use Rattle.std.proofs.lemmas.List.Elements.{All-cons, All-head, All-nil, All-tail}
use Rattle.std.proofs.lemmas.Option.{same_Some, slice_get-map}
use Rattle.board_def.specs.Layout.{layout_of}
use Rattle.board_def.specs.LineOf.{line_defs_of, line_of_row}
use Rattle.board_def.specs.Rules.{has_line}
use Rattle.board_def.specs.Seen.{BoardSeen}
use Rattle.board_def.specs.Unnamed.{defs_of, leaf_of, leaves_of}
use Rattle.board_def.specs.declared.rows.LineRow.{LineRow}
use Rattle.board_report.proofs.Printable.{printable, turned}
use Rattle.board_words.specs.Versions.{has_runs}
use Rattle.domain_rules.proofs.Placed.{laid_all}
use Rattle.domain_rules.specs.declared.layouts.Placement.{Placement}
use Rattle.domain_rules.specs.declared.layouts.Placement.TheVariants as placements
use Rattle.irq_base.specs.Seen.{HistorySeen}
use Rattle.irq_base.specs.declared.entries.Entry.{Entry}
use Rattle.irq_base.specs.declared.lines.LineDef.{LineDef}
use Rattle.irq_base.specs.declared.numbers.LineNo.{LineNo}
use Rattle.irq_model.specs.Legal.{IsLegal, IsLegalPast}
use Rattle.line_survey.specs.Answers.{IsAnswer}
use Rattle.line_survey.specs.declared.answer.Answer.{Answer}
use Rattle.line_survey.specs.declared.answer.Answer.TheVariants as answers
use Rattle.line_wanted.specs.Wanted.{Meets}
use Rattle.line_wanted.specs.declared.wanted.Wanted.{Wanted}
use Rattle.line_wanted.specs.declared.wanted.Wanted.TheVariants as wants
use Rattle.log_check.specs.Judging.{logs_of}
use Rattle.log_check.specs.Verdicts.{ChecksLog, JudgedAt, JudgedLine}
use Rattle.log_check.specs.declared.verdict.Verdict.TheVariants as verdicts
use Rattle.log_read.specs.Adding.{IsPlaceOf}
use Rattle.log_read.specs.LogOf.{IsRowOn, LineEntry, Tell, entries_of, entries_on}
use Rattle.log_read.specs.LogOf.{is_passed_over, is_whole, rows_of, saying}
use Rattle.log_read.specs.Versions.{may_have, needs_runs}
use Rattle.log_text.proofs.Splitting.{row_within, row_words}
use Rattle.log_text.specs.EntryWords.{IsPrintable}
use Rattle.log_text.specs.Formed.{HasSmallNumbers, IsSmall, IsWritable}
use Rattle.log_text.specs.Rows.{entry_text, history_text}
use Rattle.explore_picks.proofs.Allowed.{may_have_row}
use Rattle.explore_picks.proofs.Lawful.{no_hash, of_all, row_first}
use Rattle.board_stated.specs.OfVersion.{HasOldRows, IsOfItsVersion}
use Rattle.irq_explore.specs.Answered.{Answered, AnsweredLine, AnsweredRefused, IsLawful}
use Rattle.irq_explore.specs.Printing.{HasSmallAnswer, IsPrintableAnswer}

-- ---- the entries can be written

pub legal_of : (def : LineDef) (wanted : Wanted) (past : List Entry) → Meets def wanted past → IsLegalPast def past
legal_of def (wants.Row e) past meets = meets.0
legal_of def (wants.Rest left) past meets = meets.0

pub legal_printable : (def : LineDef) (past : List Entry) → IsLegalPast def past → All IsPrintable past
legal_printable def [] legal = All-nil IsPrintable
legal_printable def (e ∷ past) legal = All-cons IsPrintable e past (printable def past e legal.0) (legal_printable def past legal.1)

all_printable : (def : LineDef) (h : List Entry) → IsLegal def h → All IsPrintable h
all_printable def h legal = subst (All IsPrintable) (reverse-reverse h) (turned IsPrintable (reverse h) (legal_printable def (reverse h) legal))

all_writable : (es : List Entry) → All IsPrintable es → All HasSmallNumbers es → All IsWritable es
all_writable [] p s = All-nil IsWritable
all_writable (e ∷ es) p s =
    All-cons IsWritable e es (record { printable = All-head IsPrintable e es p; small = All-head HasSmallNumbers e es s })
    (all_writable es (All-tail IsPrintable e es p) (All-tail HasSmallNumbers e es s))

-- ---- the rows of the text

module _ (line : LineNo) (number : IsSmall line.0) where
  abbrev words : Entry → List ℕ
  words e = join_with_byte 32 (row_words line e)

  text_rows : (es : List Entry) → All IsWritable es → rows_of (history_text line es) ≡ map (entry_text line) es
  text_rows [] w = refl
  text_rows (e ∷ es) w =
      ap rows_of (append_assoc (words e) (codes "\n") (history_text line es))
      ∙ (row_first (words e) (history_text line es) (row_within line e number (All-head IsWritable e es w))
      ∙ ap (λ rows. entry_text line e ∷ rows) (text_rows es (All-tail IsWritable e es w)))

  unpassed : (e : Entry) → IsWritable e → is_passed_over (entry_text line e) ≡ false
  unpassed e w = ap (λ t. t && is_whole (entry_text line e)) (no_hash line e number)

  all_say : (es : List Entry) → All IsWritable es → saying (map (entry_text line) es) ≡ map (entry_text line) es
  all_say [] w = refl
  all_say (e ∷ es) w =
      ap (λ t. cond (not t) (entry_text line e ∷ saying (map (entry_text line) es)) (saying (map (entry_text line) es)))
      (unpassed e (All-head IsWritable e es w))
      ∙ ap (λ rows. entry_text line e ∷ rows) (all_say es (All-tail IsWritable e es w))

  -- what the rows say
  abbrev said_of : List Entry → List LineEntry
  said_of es = map (λ (e : Entry). (line, e)) es

  rows_on : (b : BoardSeen) → has_line b.lines line ≡ true → (es : List Entry) → All IsWritable es → All (λ e. may_have b.version e ≡ true) es
      → AllZip (IsRowOn b) (map (entry_text line) es) (said_of es)
  rows_on b there [] w v = tt
  rows_on b there (e ∷ es) w v = (
    record {
      formed = record { text = refl; number = number; writable = All-head IsWritable e es w };
      allowed = All-head (λ e. may_have b.version e ≡ true) e es v;
      declared = there;
    },
    rows_on b there es (All-tail IsWritable e es w) (All-tail (λ e. may_have b.version e ≡ true) e es v),
  )

  -- the entries that they say of a line
  on_it : (es : List Entry) (other : LineNo) → eqb line.0 other.0 ≡ true → entries_on (said_of es) other ≡ es
  on_it [] other same = refl
  on_it (e ∷ es) other same =
      ap (λ t. map (λ (x : LineEntry). x.1) (cond t ((line, e) ∷ filter (λ (x : LineEntry). eqb x.0.0 other.0) (said_of es))
      (filter (λ (x : LineEntry). eqb x.0.0 other.0) (said_of es)))) same
      ∙ ap (λ xs. e ∷ xs) (on_it es other same)

  on_another : (es : List Entry) (other : LineNo) → eqb line.0 other.0 ≡ false → entries_on (said_of es) other ≡ []
  on_another [] other differ = refl
  on_another (e ∷ es) other differ =
      ap (λ t. map (λ (x : LineEntry). x.1) (cond t ((line, e) ∷ filter (λ (x : LineEntry). eqb x.0.0 other.0) (said_of es))
      (filter (λ (x : LineEntry). eqb x.0.0 other.0) (said_of es)))) differ
      ∙ on_another es other differ

entries_are : (lines : List LineRow) (said : List LineEntry) → entries_of (logs_of lines said) ≡ map (λ (row : LineRow). entries_on said row.line) lines
entries_are [] said = refl
entries_are (row ∷ lines) said = ap (λ hs. entries_on said row.line ∷ hs) (entries_are lines said)

-- the entries of a log that was found
abbrev IsFound : Answer → List Entry → Type 0
IsFound (answers.Found v) es = v.items ≡ es
IsFound answers.Never es = ⊥
IsFound (answers.NotWithin n) es = ⊥

abbrev line_no : ℕ → LineNo
line_no n = record { 0 = n }

-- ---- the verdict

-- of a line that the layout refuses nothing but the empty history is found
none_found : (wanted : Wanted) (v : Vec Entry Global) → AnsweredRefused wanted (answers.Found v) → v.items ≡ []
none_found (wants.Row e) v says = let no : answers.Found v ≡ answers.Never = says in cc
none_found (wants.Rest left) v says = says.1

on_own : (states : ℕ) (b : BoardSeen) (row : LineRow) (placement : Placement) (wanted : Wanted) (answer : Answer) (es : List Entry) → IsFound answer es
    → AnsweredLine states b row placement wanted answer → JudgedLine b row placement es None
on_own states b row (placements.Mapped virq path) wanted (answers.Found v) es found says =
    subst (IsLegal (line_of_row b row)) found (legal_of (line_of_row b row) wanted (reverse v.items) says.meets)
on_own states b row (placements.Refused why) wanted (answers.Found v) es found says = sym found ∙ none_found wanted v says
on_own states b row placement wanted answers.Never es found says = absurd found
on_own states b row placement wanted (answers.NotWithin n) es found says = absurd found

on_none : (b : BoardSeen) (row : LineRow) (placement : Placement) → JudgedLine b row placement [] None
on_none b row (placements.Mapped virq path) = tt
on_none b row (placements.Refused why) = refl

module _ (states : ℕ) (b : BoardSeen) (line : LineNo) (wanted : Wanted) (answer : Answer) (answered : Answered states b line wanted answer)
    (es : List Entry) (found : IsFound answer es) (there : has_line b.lines line ≡ true) (number : IsSmall line.0) (writable : All IsWritable es)
    (allowed : All (λ e. may_have b.version e ≡ true) es) where
  abbrev said : List LineEntry
  said = said_of line number es

  abbrev log_of : LineRow → HistorySeen
  log_of row = record { entries = entries_on said row.line; spare = 0 }

  tells : Tell b (rows_of (history_text line es)) (entries_of (logs_of b.lines said))
  tells = record {
    said = said;
    each = subst (λ rows. AllZip (IsRowOn b) rows said)
        (sym (ap saying (text_rows line number es writable) ∙ all_say line number es writable)) (rows_on line number b there es writable allowed);
    are = entries_are b.lines said;
  }

  judged : (i : ℕ) (row : LineRow) (placement : Placement) → slice_get b.lines i ≡ Some row → slice_get (layout_of b) i ≡ Some placement
      → JudgedLine b row placement (entries_on said row.line) None
  judged i row placement at placed = by (eqb line.0 row.line.0) refl
    where
      by : (t : Bool) → eqb line.0 row.line.0 ≡ t → JudgedLine b row placement (entries_on said row.line) None
      by true is =
          let named : row.line ≡ line = ap line_no (sym (eqb-true line.0 row.line.0 is)) in
          subst (λ (xs : List Entry). JudgedLine b row placement xs None) (sym (on_it line number es row.line is))
          (on_own states b row placement wanted answer es found (answered i row placement at named placed))
      by false is =
          subst (λ (xs : List Entry). JudgedLine b row placement xs None) (sym (on_another line number es row.line is)) (on_none b row placement)

  verdict : (i : ℕ) → i < length b.lines → JudgedAt b (logs_of b.lines said) i None
  verdict i within row placement history at placed kept =
      let same : log_of row ≡ history = same_Some (log_of row) history (sym (slice_get-map log_of b.lines i ∙ ap (option_map log_of) at) ∙ kept) in
      subst (λ (h : HistorySeen). JudgedLine b row placement h.entries None) same (judged i row placement at placed)

  checks : ChecksLog b (history_text line es) verdicts.Lawful
  checks = (logs_of b.lines said, tells, verdict)

-- the board's log may have each row of what was found, if the board has what its version has
past_allowed : (def : LineDef) (version : ℕ) (own : has_runs version ≡ false → HasOldRows def) (past : List Entry) → IsLegalPast def past
    → All (λ e. may_have version e ≡ true) past
past_allowed def version own [] legal = All-nil (λ e. may_have version e ≡ true)
past_allowed def version own (e ∷ past) legal =
    All-cons (λ e. may_have version e ≡ true) e past (by (has_runs version) refl) (past_allowed def version own past legal.1)
  where
    by : (t : Bool) → has_runs version ≡ t → may_have version e ≡ true
    by true is = ap (λ r. r || not (needs_runs e)) is
    by false is = may_have_row def (own is) version e past legal.1 legal.0

row_allowed : (b : BoardSeen) (row : LineRow) (i : ℕ) → IsOfItsVersion b → slice_get b.lines i ≡ Some row → (es : List Entry)
    → IsLegal (line_of_row b row) es → All (λ e. may_have b.version e ≡ true) es
row_allowed b row i own at es legal =
    subst (All (λ e. may_have b.version e ≡ true)) (reverse-reverse es)
    (turned (λ e. may_have b.version e ≡ true) (reverse es) (past_allowed (line_of_row b row) b.version old (reverse es) legal))
  where
    there : slice_get (line_defs_of b) i ≡ Some (line_of_row b row)
    there = slice_get-map (line_of_row b) b.lines i ∙ ap (option_map (line_of_row b)) at

    old : has_runs b.version ≡ false → HasOldRows (line_of_row b row)
    old is = of_all HasOldRows (line_defs_of b) i (line_of_row b row) (own is) there

-- of a line with its place in the layout
found_allowed : (states : ℕ) (b : BoardSeen) (row : LineRow) (i : ℕ) → IsOfItsVersion b → slice_get b.lines i ≡ Some row → (placement : Placement)
    (wanted : Wanted) (v : Vec Entry Global) → AnsweredLine states b row placement wanted (answers.Found v)
    → All (λ e. may_have b.version e ≡ true) v.items
found_allowed states b row i own at (placements.Mapped virq path) wanted v says =
    row_allowed b row i own at v.items (legal_of (line_of_row b row) wanted (reverse v.items) says.meets)
found_allowed states b row i own at (placements.Refused why) wanted v says =
    subst (All (λ e. may_have b.version e ≡ true)) (sym (none_found wanted v says)) (All-nil (λ e. may_have b.version e ≡ true))

there_at : {X : Type 0} (xs : List X) (i : ℕ) → i < length xs → (x : X) × (slice_get xs i ≡ Some x)
there_at [] i within = absurd (omega (arith, within))
there_at (x ∷ xs) zero within = (x, refl)
there_at (x ∷ xs) (suc i) within = there_at xs i (omega (arith, within))

-- there is a place in the layout for each line
layout_length : (b : BoardSeen) → length (layout_of b) ≡ length b.lines
layout_length b = laid_all (defs_of b.domains) [] (leaves_of b.lines) ∙ length-map b.lines leaf_of

-- the place of a line that the board has
place_of : (lines : List LineRow) (line : LineNo) → has_line lines line ≡ true → (i : ℕ) × IsPlaceOf lines line i × (i < length lines)
place_of [] line there = cc
place_of (row ∷ rows) line there = by (eqb row.line.0 line.0) refl (place_of rows line)
  where
    by : (t : Bool) → eqb row.line.0 line.0 ≡ t → (has_line rows line ≡ true → (i : ℕ) × IsPlaceOf rows line i × (i < length rows))
        → (i : ℕ) × IsPlaceOf (row ∷ rows) line i × (i < length (row ∷ rows))
    by true is behind = (0, (row, refl, ap line_no (eqb-true row.line.0 line.0 is)), omega arith)
    by false is behind =
        let rest = behind (sym (ap (λ t. t || has_line rows line) is) ∙ there) in
        (suc rest.0, rest.1, omega (arith, rest.2))

pub lawful : (states : ℕ) (b : BoardSeen) (line : LineNo) (wanted : Wanted) (answer : Answer) → Answered states b line wanted answer
    → has_line b.lines line ≡ true → IsSmall line.0 → IsPrintableAnswer answer → HasSmallAnswer answer → IsOfItsVersion b → IsLawful b line answer
lawful states b line wanted (answers.Found v) answered there number printable small own =
    let o = place_of b.lines line there in
    let row = o.1.0 in
    let placed = there_at (layout_of b) o.0 (omega (arith, o.2, layout_length b)) in
    checks states b line wanted (answers.Found v) answered v.items refl there number (all_writable v.items printable small)
    (found_allowed states b row o.0 own o.1.1 placed.0 wanted v (answered o.0 row placed.0 o.1.1 o.1.2 placed.1))
lawful states b line wanted answers.Never answered there number printable small own = tt
lawful states b line wanted (answers.NotWithin n) answered there number printable small own = tt

-- what is answered of a line can be printed
pub printable_said : (states : ℕ) (def : LineDef) (wanted : Wanted) (answer : Answer) → IsAnswer states def wanted answer → IsPrintableAnswer answer
printable_said states def wanted (answers.Found v) is = all_printable def v.items (legal_of def wanted (reverse v.items) is.meets)
printable_said states def wanted answers.Never is = tt
printable_said states def wanted (answers.NotWithin n) is = tt
