-- The rows of a log so far, and the verdict on all of them.
use Rattle.std.proofs.Common.{◌≡◌, ◌⊎◌, inl, inr, ℕ, zero, suc, ◌+◌, ◌<◌, ◌≤◌, Bool, true, false, not, cond}
use Rattle.std.proofs.Common.{Option, Some, None, List, [], ◌∷◌, ◌++◌, length, map, take, drop, refl}
use Rattle.std.proofs.Common.{sym, ap, subst, ◌∙◌, arith}
use Rattle.std.specs.List.{AllZip, slice_get}
use Rattle.std.specs.Option.{option_map}
use Rattle.std.proofs.lemmas.Bool.{cases_eq}
use Rattle.std.proofs.lemmas.List.{append-nil}
use Rattle.std.proofs.lemmas.List.Elements.{filter-append}
use Rattle.std.proofs.lemmas.Option.{same_Some, slice_get-map}
use Rattle.board_def.specs.Seen.{BoardSeen}
use Rattle.board_def.specs.declared.rows.LineRow.{LineRow}
use Rattle.domain_rules.specs.declared.layouts.Placement.{Placement}
use Rattle.domain_rules.specs.declared.layouts.Placement.TheVariants as placements
use Rattle.irq_base.specs.Seen.{HistorySeen}
use Rattle.irq_base.specs.declared.entries.Entry.{Entry}
use Rattle.irq_line.specs.Seen.{LineSeen}
use Rattle.log_read.specs.LogOf.{IsFirstMalformed, IsRowOn, LineEntry, entries_of, entries_on, is_feed, is_passed_over, onto_first, rows_of, saying}
use Rattle.log_read.proofs.Telling.{all_taken, drop_next, few_saying, first_malformed, take_next, zip_push, zip_short}
use Rattle.log_check.specs.Heads.{IsWrong}
use Rattle.log_check.specs.JudgeSeen.{JudgeSeen}
use Rattle.log_check.specs.Judging.{Concludes, HaveJudged, HaveRoom, JudgesFirst, Stands, logs_of, most, part_of}
use Rattle.log_check.specs.Verdicts.{ChecksLog, HasVerdict, JudgedAt, JudgedLine}
use Rattle.log_check.specs.declared.verdict.Verdict.{Verdict}
use Rattle.log_check.specs.declared.verdict.Verdict.TheVariants as verdicts
use Rattle.log_check.proofs.Lines.{get_there, have_room}

-- ---- the rows so far

-- what the rows say was judged
pub record AreJudged (b : BoardSeen) (rows : List (List ℕ)) (judges : List JudgeSeen) : Type 0 where
  pub said : List LineEntry
  pub each : AllZip (IsRowOn b) (saying rows) said
  pub have : HaveJudged b said judges

-- the first n rows of the log were judged, and the rest is left
pub record IsAt (b : BoardSeen) (log rest : List ℕ) (n : ℕ) (judges : List JudgeSeen) : Type 0 where
  pub left : rows_of rest ≡ drop n (rows_of log)
  pub within : n + length rest ≤ length log
  pub judged : AreJudged b (take n (rows_of log)) judges

pub at_start : (b : BoardSeen) (log : List ℕ) (judges : List JudgeSeen) → HaveJudged b [] judges → IsAt b log log 0 judges
at_start b log judges have = record { left = refl; within = omega arith; judged = record { said = []; each = tt; have = have } }

abbrev says : List ℕ → Bool
says row = not (is_passed_over row)

module _ (b : BoardSeen) (rows : List (List ℕ)) (row : List ℕ) (old new : List JudgeSeen) (now : AreJudged b rows old) where
  by_kind : ((is_passed_over row ≡ true) × HaveJudged b now.said new)
      ⊎ ((s : LineEntry) × IsRowOn b row s × (is_passed_over row ≡ false) × HaveJudged b (now.said ++ s ∷ []) new)
      → AreJudged b (rows ++ row ∷ []) new
  by_kind (inl (passed, have)) =
      let same : saying (rows ++ row ∷ []) ≡ saying rows = filter-append says rows (row ∷ [])
      ∙ (ap (λ t. saying rows ++ cond (not t) (row ∷ []) []) passed ∙ append-nil (saying rows)) in
      record { said = now.said; each = subst (λ rs. AllZip (IsRowOn b) rs now.said) (sym same) now.each; have = have }
  by_kind (inr (s, on, unpassed, have)) =
      let same : saying (rows ++ row ∷ []) ≡ saying rows ++ row ∷ [] = filter-append says rows (row ∷ [])
      ∙ ap (λ t. saying rows ++ cond (not t) (row ∷ []) []) unpassed in
      record {
        said = now.said ++ s ∷ [];
        each = subst (λ rs. AllZip (IsRowOn b) rs (now.said ++ s ∷ [])) (sym same)
            (zip_push (IsRowOn b) (saying rows) now.said row s now.each on);
        have = have;
      }

pub at_next : (b : BoardSeen) (log rest after : List ℕ) (n : ℕ) (old new : List JudgeSeen) → IsAt b log rest n old
    → JudgesFirst b rest (Some after) old new → IsAt b log after (n + 1) new
at_next b log rest after n old new now (row, begins, judges) =
    let rows = rows_of log in
    let at : drop n rows ≡ row ∷ rows_of after = sym now.left ∙ begins.rows in
    let within = now.within in
    let shorter = begins.shorter in
    record {
      left = sym (drop_next rows n row (rows_of after) at);
      within = omega (arith, within, shorter);
      judged = subst (λ rs. AreJudged b rs new) (sym (take_next rows n row (rows_of after) at))
          (by_kind b (take n rows) row old new now.judged (judges now.judged.said now.judged.have));
    }

take_few : {X : Type 0} (xs : List X) (n : ℕ) → length (take n xs) ≤ n
take_few [] zero = omega arith
take_few [] (suc n) = omega arith
take_few (x ∷ xs) zero = omega arith
take_few (x ∷ xs) (suc n) = let rest = take_few xs n in omega (arith, rest)

pub rooms : (b : BoardSeen) (log rest : List ℕ) (n : ℕ) (judges : List JudgeSeen) → IsAt b log rest n judges → length log < most → HaveRoom judges
rooms b log rest n judges now few =
    let rows = take n (rows_of log) in
    let x = zip_short (IsRowOn b) (saying rows) now.judged.said now.judged.each in
    let y = few_saying rows in
    let z = take_few (rows_of log) n in
    let within = now.within in
    have_room b now.judged.said judges now.judged.have (omega (arith, x, y, z, within, few))

-- ---- a row that is malformed

some_row : (text : List ℕ) → 1 ≤ length text → (row : List ℕ) × (rows : List (List ℕ)) × (rows_of text ≡ row ∷ rows)
some_row [] some = absurd (omega (arith, some))
some_row (b ∷ bs) some = by (is_feed b) (rows_of bs)
  where
    by : (t : Bool) (rest : List (List ℕ)) → (row : List ℕ) × (rows : List (List ℕ)) × (cond t ((b ∷ []) ∷ rest) (onto_first b rest) ≡ row ∷ rows)
    by true rest = (b ∷ [], rest, refl)
    by false [] = (b ∷ [], [], refl)
    by false (row ∷ rows) = (b ∷ row, rows, refl)

pub malformed : (b : BoardSeen) (log rest : List ℕ) (n : ℕ) (judges : List JudgeSeen) → IsAt b log rest n judges → 1 ≤ length rest
    → IsWrong b rest → IsFirstMalformed b (rows_of log) (n + 1)
malformed b log rest n judges now some wrong =
    let row = some_row rest some in
    let said = now.judged.said in
    first_malformed b (rows_of log) n row.0 row.1 (map (λ (r : LineRow). entries_on said r.line) b.lines) (sym now.left ∙ row.2)
    (record { said = said; each = now.judged.each; are = refl }) (wrong row.0 row.1 row.2)

-- ---- the verdict

stands_judged : (b : BoardSeen) (row : LineRow) (placement : Placement) (line : Option LineSeen) (first : Option ℕ) (es : List Entry)
    → Stands (part_of b row (Some placement)) line first es → JudgedLine b row placement es first
stands_judged b row (placements.Mapped virq path) (Some line) None es stands = stands.0
stands_judged b row (placements.Mapped virq path) None (Some n) es stands = stands
stands_judged b row (placements.Mapped virq path) (Some line) (Some n) es stands = absurd stands
stands_judged b row (placements.Mapped virq path) None None es stands = absurd stands
stands_judged b row (placements.Refused why) None None es stands = stands
stands_judged b row (placements.Refused why) None (Some n) es stands = stands
stands_judged b row (placements.Refused why) (Some line) None es stands = absurd stands
stands_judged b row (placements.Refused why) (Some line) (Some n) es stands = absurd stands

module _ (b : BoardSeen) (said : List LineEntry) (judges : List JudgeSeen) (have : HaveJudged b said judges) where
  abbrev log_of : LineRow → HistorySeen
  log_of row = record { entries = entries_on said row.line; spare = 0 }

  pub judged_at : (i : ℕ) (judge : JudgeSeen) (first : Option ℕ) → slice_get judges i ≡ Some judge → judge.first ≡ first
      → JudgedAt b (logs_of b.lines said) i first
  judged_at i judge first atj is row placement history atl atp ath =
      let same : log_of row ≡ history = same_Some (log_of row) history (sym (slice_get-map log_of b.lines i ∙ ap (option_map log_of) atl) ∙ ath) in
      let stands : Stands (part_of b row (Some placement)) judge.line first (entries_on said row.line) =
      subst (λ (f : Option ℕ). Stands (part_of b row (Some placement)) judge.line f (entries_on said row.line)) is
      (subst (λ (p : Option Placement). Stands (part_of b row p) judge.line judge.first (entries_on said row.line)) atp (have.each i row judge atl atj)) in
      subst (λ (h : HistorySeen). JudgedLine b row placement h.entries first) same
      (stands_judged b row placement judge.line first (entries_on said row.line) stands)

-- none of the first n judges has met an entry that wasn't due
abbrev pub AllDue : BoardSeen → List JudgeSeen → ℕ → Type 0
AllDue b judges n = (j : ℕ) (judge : JudgeSeen) → j < n → j < length b.lines → slice_get judges j ≡ Some judge → judge.first ≡ None

module _ (b : BoardSeen) (judges : List JudgeSeen) where
  before : (said : List LineEntry) → HaveJudged b said judges → (n : ℕ) → AllDue b judges n → (j : ℕ) → j < n → j < length b.lines
      → JudgedAt b (logs_of b.lines said) j None
  before said have n due j below within =
      let many = have.many in
      let judge = get_there judges j (omega (arith, many, within)) in
      judged_at b said judges have j judge.0 None judge.1 (due j judge.0 below within judge.1)

  pub one_more : (i : ℕ) → AllDue b judges i
      → (i < length b.lines → (judge : JudgeSeen) → slice_get judges i ≡ Some judge → judge.first ≡ None) → AllDue b judges (i + 1)
  one_more i due here j judge below within at = by (cases_eq j i)
    where
      by : (j ≡ i) ⊎ (j ≡ i → ⊥) → judge.first ≡ None
      by (inl same) = here (omega (arith, same, within)) judge (subst (λ k. slice_get judges k ≡ Some judge) same at)
      by (inr differ) = due j judge (omega (arith, below, differ)) within at

  pub all_due : (n : ℕ) → length judges ≤ n → AllDue b judges n → Concludes b judges verdicts.Lawful
  all_due n all due said have j within = let many = have.many in before said have n due j (omega (arith, all, many, within)) within

  pub one_undue : (i entry : ℕ) (row : LineRow) (judge : JudgeSeen) → AllDue b judges i → slice_get b.lines i ≡ Some row
      → slice_get judges i ≡ Some judge → judge.first ≡ Some entry → i < length b.lines → Concludes b judges (verdicts.Unlawful row.line entry)
  one_undue i entry row judge due atl atj is within said have = (
    i,
    row,
    atl,
    refl,
    judged_at b said judges have i judge (Some entry) atj is,
    λ j below. before said have i due j below (omega (arith, below, within)),
  )

same_entries : (lines : List LineRow) (said : List LineEntry) → entries_of (logs_of lines said) ≡ map (λ (row : LineRow). entries_on said row.line) lines
same_entries [] said = refl
same_entries (row ∷ lines) said = ap (λ (ess : List (List Entry)). entries_on said row.line ∷ ess) (same_entries lines said)

checks_of : (b : BoardSeen) (log : List ℕ) (verdict : Verdict) → HasVerdict b log verdict → ChecksLog b log verdict
checks_of b log verdicts.Lawful has = has
checks_of b log (verdicts.Unlawful line entry) has = has
checks_of b log (verdicts.Malformed row) has = absurd has.2

nothing_left : (rest : List ℕ) → length rest ≡ 0 → rows_of rest ≡ []
nothing_left [] none = refl
nothing_left (b ∷ bs) none = absurd (omega (arith, none))

-- no row is left
pub concluded : (b : BoardSeen) (log rest : List ℕ) (n : ℕ) (judges : List JudgeSeen) (verdict : Verdict) → IsAt b log rest n judges
    → length rest ≡ 0 → Concludes b judges verdict → ChecksLog b log verdict
concluded b log rest n judges verdict now none concludes =
    let said = now.judged.said in
    let all : take n (rows_of log) ≡ rows_of log = all_taken (rows_of log) n (sym now.left ∙ nothing_left rest none) in
    let each : AllZip (IsRowOn b) (saying (rows_of log)) said = subst (λ rows. AllZip (IsRowOn b) (saying rows) said) all now.judged.each in
    checks_of b log verdict
    (logs_of b.lines said, record { said = said; each = each; are = same_entries b.lines said }, concludes said now.judged.have)
