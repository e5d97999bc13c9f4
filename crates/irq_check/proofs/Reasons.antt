-- An unlawful log has a reason.
use Rattle.std.proofs.Common.{◌≡◌, ℕ, ◌<◌, Option, Some, None, Result, Ok, Err, List, length, sym, ap, subst, ◌∙◌, arith}
use Rattle.std.specs.List.{AllZip, slice_get}
use Rattle.std.specs.Option.{option_map}
use Rattle.std.specs.Prelude.{IfOk}
use Rattle.std.proofs.lemmas.Option.{same_Some, slice_get_within, slice_get-map}
use Rattle.board_def.specs.Layout.{layout_of}
use Rattle.board_def.specs.Seen.{BoardSeen}
use Rattle.board_def.specs.declared.rows.LineRow.{LineRow}
use Rattle.domain_rules.specs.declared.layouts.Placement.{Placement}
use Rattle.domain_rules.specs.declared.layouts.Placement.TheVariants as placements
use Rattle.irq_base.specs.Seen.{HistorySeen}
use Rattle.irq_base.specs.declared.entries.Entry.{Entry}
use Rattle.irq_base.specs.declared.memory.NoMemory.{NoMemory}
use Rattle.irq_base.specs.declared.numbers.LineNo.{LineNo}
use Rattle.log_check.specs.Judging.{part_at, part_of}
use Rattle.log_check.specs.Verdicts.{ChecksLog, HasVerdict, JudgedLine}
use Rattle.log_check.specs.Why.{Explains, IsLegalOf}
use Rattle.log_check.specs.declared.verdict.Verdict.{Verdict}
use Rattle.log_check.specs.declared.verdict.Verdict.TheVariants as verdicts
use Rattle.log_check.specs.declared.why.Undue.{Undue}
use Rattle.log_read.specs.LogOf.{IsRowOn, LineEntry, entries_on, rows_of, saying}
use Rattle.log_read.proofs.Telling.{as_many}
use Rattle.irq_check.specs.Checked.{IsReason}
use Rattle.irq_check.proofs.OneVerdict.{each_placed, entries_at, right_or_not, there}

-- what is found of each line of this number among the rows
abbrev pub IsFound : BoardSeen → List ℕ → LineNo → Option Undue → Type 0
IsFound b log line found = (place : ℕ) (row : LineRow) (said : List LineEntry) → slice_get b.lines place ≡ Some row → row.line ≡ line
    → AllZip (IsRowOn b) (saying (rows_of log)) said → Explains (part_at b row place) line (rows_of log) said found

legal_judged : (b : BoardSeen) (row : LineRow) (placement : Placement) (es : List Entry) → IsLegalOf (part_of b row (Some placement)) es
    → JudgedLine b row placement es None
legal_judged b row (placements.Mapped virq path) es legal = legal
legal_judged b row (placements.Refused why) es legal = legal

module _ (b : BoardSeen) (log : List ℕ) (line : LineNo) (entry : ℕ) (has : HasVerdict b log (verdicts.Unlawful line entry)) where
  abbrev logs : List HistorySeen
  logs = has.0

  abbrev said : List LineEntry
  said = has.1.said

  abbrev place : ℕ
  place = has.2.0

  abbrev row : LineRow
  row = has.2.1

  within : place < length b.lines
  within = slice_get_within b.lines place row has.2.2

  history_is : (h : HistorySeen) → slice_get logs place ≡ Some h → h.entries ≡ entries_on said row.line
  history_is h at = same_Some h.entries (entries_on said row.line)
      (sym (entries_at logs place h at)
      ∙ (ap (λ (ess : List (List Entry)). slice_get ess place) has.1.are
      ∙ (slice_get-map (λ (r : LineRow). entries_on said r.line) b.lines place
      ∙ ap (λ (o : Option LineRow). option_map (λ (r : LineRow). entries_on said r.line) o) has.2.2)))

  isnt_legal : IsLegalOf (part_at b row place) (entries_on said line) → ⊥
  isnt_legal legal =
      let placed = each_placed b in
      let many = as_many b (rows_of log) logs has.1 in
      let p = there (layout_of b) place (omega (arith, placed, within)) in
      let h = there logs place (omega (arith, many, within)) in
      let here : IsLegalOf (part_of b row (Some p.0)) (entries_on said row.line) =
      subst (λ (o : Option Placement). IsLegalOf (part_of b row o) (entries_on said row.line)) p.1
      (subst (λ (l : LineNo). IsLegalOf (part_at b row place) (entries_on said l)) (sym has.2.3) legal) in
      right_or_not b row (entries_on said row.line) p.0 entry (legal_judged b row p.0 (entries_on said row.line) here)
      (subst (λ (es : List Entry). JudgedLine b row p.0 es (Some entry)) (history_is h.0 h.1) (has.2.4 row p.0 h.0 has.2.2 p.1 h.1))

  has_reason : (found : Option Undue) → Explains (part_at b row place) line (rows_of log) said found → IsReason b log (verdicts.Unlawful line entry) found
  has_reason None legal = absurd (isnt_legal legal)
  has_reason (Some undue) is =
      record { place = place; row = row; at = has.2.2; of = has.2.3; said = said; each = has.1.each; is = is }

pub explained : (b : BoardSeen) (log : List ℕ) (verdict : Verdict) (line : LineNo) (entry : ℕ) (found : Option Undue)
    → verdict ≡ verdicts.Unlawful line entry → ChecksLog b log verdict → IsFound b log line found → IsReason b log verdict found
explained b log verdict line entry found is checks finds =
    let has : HasVerdict b log (verdicts.Unlawful line entry) = subst (λ (v : Verdict). ChecksLog b log v) is checks in
    subst (λ (v : Verdict). IsReason b log v found) (sym is)
    (has_reason b log line entry has found (finds has.2.0 has.2.1 has.1.said has.2.2 has.2.3 has.1.each))

pub explained_if : (b : BoardSeen) (log : List ℕ) (verdict : Verdict) (line : LineNo) (entry : ℕ)
    → verdict ≡ verdicts.Unlawful line entry → ChecksLog b log verdict → (r : Result (Option Undue) NoMemory)
    → ((place : ℕ) (row : LineRow) (said : List LineEntry) → slice_get b.lines place ≡ Some row → row.line ≡ line
    → AllZip (IsRowOn b) (saying (rows_of log)) said → IfOk r (Explains (part_at b row place) line (rows_of log) said))
    → IfOk r (λ (found : Option Undue). IsReason b log verdict found)
explained_if b log verdict line entry is checks (Ok found) finds = explained b log verdict line entry found is checks finds
explained_if b log verdict line entry is checks (Err refused) finds = tt
