-- The laws, of histories.
use Rattle.std.proofs.Common.{◌≡◌, ℕ, ◌+◌, ◌≤◌, Bool, true, false, not, ◌&&◌, cond, Option, Some, None, List, ◌∷◌, reverse, length, refl, ap, ◌∙◌, subst, arith}
use Rattle.std.proofs.lemmas.List.{length-reverse}
use Rattle.irq_base.specs.declared.lines.LineDef.{LineDef}
use Rattle.irq_base.specs.declared.entries.Entry.{Entry}
use Rattle.irq_base.specs.declared.entries.Actor.{Actor}
use Rattle.irq_base.specs.declared.lines.FlowKind.{FlowKind}
use Rattle.irq_base.specs.declared.lines.FlowKind.TheVariants as flows
use Rattle.irq_model.specs.Places.{count_of}
use Rattle.irq_model.specs.Kinds.{is_busy, is_start}
use Rattle.irq_model.specs.Masks.{is_masked}
use Rattle.irq_model.specs.Rounds.{has_flow}
use Rattle.irq_model.specs.Next.{next, next_past}
use Rattle.irq_model.specs.Legal.{IsDue, IsLegal, IsLegalPast}
use Rattle.irq_model.specs.Lines.{is_edge_line, is_level_flow, is_eoi_flow}
use Rattle.irq_model.specs.RunBounds.{run_edge_bound, run_level_bound, EnablesOnlyItsOwn}
use Rattle.irq_model.specs.Valid.{IsValid}
use Rattle.irq_model.specs.ValidRuns.{HasValidRuns}
use Rattle.irq_storms.specs.Judged.{one_if}
use Rattle.irq_storms.specs.Lengths.{history_bound, IsBounded}
use Rattle.irq_storms.specs.Storms.{RunsAreCounted, CallsAreCounted, AsksAreCounted, HandledAreCounted, RenewalsAreCounted, LevelIsCounted}
use Rattle.irq_storms.proofs.RunCounts.{begins_past, returns_past, rounds_past}
use Rattle.irq_storms.proofs.ThreadCounts.{begins_of, returns_of, finishes_of, dones_of}
use Rattle.irq_storms.proofs.ServedCounts.{served_exactly, served_of}
use Rattle.irq_storms.proofs.DeviceSums.{served_of_all, served_past}
use Rattle.irq_storms.proofs.RunEdgeBound.{edge_within}
use Rattle.irq_storms.proofs.LevelBound.{renewals_past}
use Rattle.irq_storms.proofs.WindowBound.{window_within}
use Rattle.irq_storms.proofs.KilledStarts.{killed_starts}
use Rattle.irq_storms.proofs.HandledRuns.{handled_past as handled_runs}
use Rattle.irq_storms.proofs.KillCounts.{shut_past, closed_past, may_be_busy, busy_past, none_busy, offs_past}
use Rattle.irq_storms.proofs.EndCounts.{handled_past, deferred_past, clearing_past, nothing_past, renewed_past}
use Rattle.irq_laws.proofs.OwnLaws.{due_is_own}
use Rattle.irq_storms.proofs.CallCounts.{driver_entries, asks_of_drivers, renewals_of_drivers}

below : (t m n : ℕ) → t + m ≤ n → t ≤ n
below t m n h = omega (arith, h)

ended : (r n f : ℕ) → r ≡ n + f → n ≤ r
ended r n f h = omega (arith, h)

pub runs_are_counted : (def : LineDef) (h : List Entry) → IsValid def → IsLegal def h → RunsAreCounted def h
runs_are_counted def h valid legal =
    let past = reverse h in
    record {
      begins = below _ _ _ (begins_past def past valid legal);
      returns = returns_past def past legal;
      ends = ended _ _ _ (rounds_past def past legal);
      thread_begins = λ d. below _ _ _ (begins_of def d past legal);
      thread_returns = λ d. below _ _ _ (returns_of def d past legal);
      finishes = λ d. below _ _ _ (finishes_of def d past legal);
      dones = λ d. below _ _ _ (dones_of def d past legal);
    }

pub calls_are_counted : (def : LineDef) (h : List Entry) → IsLegal def h → CallsAreCounted def h
calls_are_counted def h legal = record {
  entries = driver_entries def (reverse h) legal;
  asks
      = asks_of_drivers def (reverse h) legal;
  renewals = renewals_of_drivers def (reverse h) legal;
}

pub asks_are_counted : (def : LineDef) (h : List Entry) → IsValid def → IsLegal def h → AsksAreCounted def h
asks_are_counted def h valid legal = record {
  exact = λ d. served_exactly def d (reverse h) legal;
  runs = λ d. served_of def d (reverse h) legal;
  all = served_of_all def (reverse h) valid legal;
  all_runs = served_past def (reverse h) legal;
}

pub within_edge_bound : (def : LineDef) (h : List Entry) → IsValid def → HasValidRuns def → IsLegal def h → is_edge_line def ≡ true
    → length h ≤ run_edge_bound def
within_edge_bound def h valid runs legal edge = let n = edge_within def (reverse h) valid runs legal edge in let l = length-reverse h in omega (arith, n, l)

pub handled_are_counted : (def : LineDef) (h : List Entry) → IsLegal def h → HandledAreCounted def h
handled_are_counted def h legal =
    let r = handled_runs def (reverse h) legal in
    let a = asks_of_drivers def (reverse h) legal in
    omega (arith, r, a)

pub renewals_are_counted : (def : LineDef) (h : List Entry) → IsValid def → HasValidRuns def → EnablesOnlyItsOwn def → IsLegal def h
    → RenewalsAreCounted def h
renewals_are_counted def h valid runs rules legal =
    let k = killed_starts def (reverse h) valid runs rules legal in
    let r = renewals_past def (reverse h) legal in
    record { by_runs = k; all = omega (arith, k, r) }

no_eoi : (f : FlowKind) → is_level_flow f ≡ true → is_eoi_flow f ≡ false
no_eoi flows.Level h = refl
no_eoi flows.Edge h = cc
no_eoi flows.Eoi h = cc

on_level_flow : (def : LineDef) (past : List Entry) → is_level_flow def.flow ≡ true
    → count_of is_busy past + one_if (may_be_busy def past) ≤ count_of is_start past
    → count_of is_busy past + one_if (has_flow def past && not (is_masked def past)) ≤ count_of is_start past
on_level_flow def past flow h = subst (λ (b : Bool). count_of is_busy past + one_if
    (not b && (has_flow def past && not (is_masked def past))) ≤ count_of is_start past) (no_eoi def.flow flow) h

pub level_is_counted : (def : LineDef) (h : List Entry) → IsValid def → IsLegal def h → LevelIsCounted def h
level_is_counted def h valid legal level =
    let past = reverse h in
    record {
      handled = handled_past def past legal;
      deferred = deferred_past def past legal;
      clearing = clearing_past def past;
      shut = shut_past def past valid legal;
      nothing = nothing_past def past valid legal;
      renewed = renewed_past def past valid legal;
      busy = λ flow. on_level_flow def past flow (busy_past def past valid legal level);
      none_busy = none_busy def past legal level;
      off = offs_past def past valid legal level;
      closed = closed_past def past valid legal;
    }

-- ---- the bounds

window_past : (def : LineDef) (past : List Entry) → IsValid def → HasValidRuns def → EnablesOnlyItsOwn def → IsLegalPast def past
    → length past ≤ run_level_bound def
window_past def past valid runs rules legal = window_within def valid runs past legal (killed_starts def past valid runs rules legal)

pub within_level_bound : (def : LineDef) (h : List Entry) → IsValid def → HasValidRuns def → EnablesOnlyItsOwn def → IsLegal def h
    → length h ≤ run_level_bound def
within_level_bound def h valid runs rules legal =
    let n = window_past def (reverse h) valid runs rules legal in
    let l = length-reverse h in
    omega (arith, n, l)

within_past : (def : LineDef) (past : List Entry) → IsValid def → HasValidRuns def → IsBounded def → IsLegalPast def past → length past ≤ history_bound def
within_past def past valid runs bounded legal = by_line (is_edge_line def) refl
  where
    by_line : (b : Bool) → is_edge_line def ≡ b → length past ≤ cond b (run_edge_bound def) (run_level_bound def)
    by_line true edge = edge_within def past valid runs legal edge
    by_line false level = window_past def past valid runs (bounded (ap not level)) legal

pub within_bound : (def : LineDef) (h : List Entry) → IsValid def → HasValidRuns def → IsBounded def → IsLegal def h → length h ≤ history_bound def
within_bound def h valid runs bounded legal =
    let n = within_past def (reverse h) valid runs bounded legal in
    let l = length-reverse h in
    omega (arith, n, l)

-- one more entry that is due makes a legal history one longer
one_longer : (def : LineDef) (h : List Entry) (a : Actor) (e : Entry) → IsValid def → HasValidRuns def → IsBounded def → IsLegal def h
    → next def h a ≡ Some e → length (reverse h) + 1 ≤ history_bound def
one_longer def h a e valid runs bounded legal due =
    let own = due_is_own def h a e due in
    let is : IsDue def e (reverse h) = ap (λ (b : Actor). next_past def (reverse h) b) own ∙ due in
    let n : length (e ∷ reverse h) ≤ history_bound def = within_past def (e ∷ reverse h) valid runs bounded (is, legal) in
    omega (arith, n)

pub never_full : (def : LineDef) (h : List Entry) (a : Actor) → IsValid def → HasValidRuns def → IsBounded def → IsLegal def h
    → history_bound def ≤ def.log → length h ≡ def.log → next def h a ≡ None
never_full def h a valid runs bounded legal ample full = by_due (next def h a) refl
  where
    by_due : (o : Option Entry) → next def h a ≡ o → o ≡ None
    by_due None is = refl
    by_due (Some e) is = let n = one_longer def h a e valid runs bounded legal is in let l = length-reverse h in absurd (omega (arith, n, l, ample, full))
