-- The rounds of a line whose runs start it seldom after a kill, by its window; and the length of a
-- level line's histories by its rounds.
use Rattle.std.proofs.Common.{◌≡◌, ℕ, ◌+◌, ◌*◌, ◌≤◌, Bool, true, false, not, ◌||◌, ◌&&◌, List, [], ◌∷◌, length, refl, sym, ap, ◌∙◌, arith}
use Rattle.std.proofs.Math.Nat.{add-mul, mul-le-mul_left, mul_assoc, mul_comm}
use Rattle.irq_base.specs.declared.lines.LineDef.{LineDef}
use Rattle.irq_base.specs.declared.entries.Entry.{Entry}
use Rattle.irq_base.specs.declared.entries.Entry.TheVariants as by
use Rattle.irq_base.specs.declared.entries.CpuEntry.TheVariants as cpus
use Rattle.irq_base.specs.declared.entries.TakeAnswer.TheVariants as takes
use Rattle.irq_model.specs.Places.{stands, count_of}
use Rattle.irq_model.specs.Kinds.{is_take, is_handle, is_busy, is_off, is_again, is_kill, is_start, is_linked_request}
use Rattle.irq_model.specs.Lines.{is_level_line, is_eoi_flow}
use Rattle.irq_model.specs.Rounds.{begins_round, has_flow}
use Rattle.irq_model.specs.Bounds.{ask_calls, other_calls}
use Rattle.irq_model.specs.RunBounds.{told_handled}
use Rattle.irq_model.specs.Spurious.{counts_of}
use Rattle.irq_model.specs.Legal.{IsLegalPast}
use Rattle.irq_model.specs.Valid.{IsValid}
use Rattle.irq_model.specs.ValidRuns.{HasValidRuns}
use Rattle.irq_storms.specs.Tests.{is_end, is_moment, is_renewal, is_by_any_driver, total}
use Rattle.irq_storms.specs.Judged.{one_if, count_where, Judgement, Handled, Nothing, Deferred, judgement, is_handled_judgement}
use Rattle.irq_storms.specs.Judged.{is_nothing_judgement, is_deferred_judgement, ends_handled, ends_nothing}
use Rattle.irq_storms.specs.Judged.{ends_deferred, handled_ends, nothing_ends, deferred_ends, renews, renewals, starts_killed}
use Rattle.irq_storms.proofs.Counting.{mark_most, count_more}
use Rattle.irq_storms.proofs.RunCounts.{rounds_past}
use Rattle.irq_storms.proofs.CallCosts.{driver_weight}
use Rattle.irq_storms.proofs.CallCounts.{asks_of_drivers, renewals_of_drivers}
use Rattle.irq_storms.proofs.KillCounts.{busy_past, offs_past}
use Rattle.irq_storms.proofs.EndCounts.{where_more, handled_past, deferred_past, clearing_past, renewed_past}
use Rattle.irq_storms.proofs.HandledRuns.{handled_past as handled_runs}
use Rattle.irq_storms.proofs.LongBound.{by_rounds}
use Rattle.irq_storms.proofs.WakeCosts.{thread_weight}
use Rattle.irq_storms.proofs.WeightSums.{all_handlers}

-- ---- each end is judged one way

judged_marks : (e : Bool) (j : Judgement) → one_if e ≡ one_if (e && is_handled_judgement j) + one_if
    (e && is_nothing_judgement j) + one_if (e && is_deferred_judgement j)
judged_marks true Handled = refl
judged_marks true Nothing = refl
judged_marks true Deferred = refl
judged_marks false j = refl

ends_judged : (def : LineDef) (past : List Entry) → count_of is_end past ≡ handled_ends def past + nothing_ends def past + deferred_ends def past
ends_judged def [] = refl
ends_judged def (e ∷ past) =
    summed _ _ _ _ _ _ _ _ _ _ _ _ (count_more is_end e past) (where_more (ends_handled def) e past)
    (where_more (ends_nothing def) e past) (where_more (ends_deferred def) e past) (ends_judged def past)
    (judged_marks (is_end e) (judgement def past))
  where
    summed : (n' h' o' d' n h o d x y z u : ℕ) → n' ≡ n + x → h' ≡ h + y → o' ≡ o + z → d' ≡ d + u → n ≡ h + o + d → x ≡ y + z + u → n' ≡ h' + o' + d'
    summed n' h' o' d' n h o d x y z u p1 p2 p3 p4 p5 p6 = omega (arith, p1, p2, p3, p4, p5, p6)

-- ---- takes

takes_by_answer : (past : List Entry) → count_of is_take past ≡ count_of is_handle past + count_of is_busy past + count_of is_off past
takes_by_answer [] = refl
takes_by_answer (by.Cpu c (cpus.Take way takes.Handle) ∷ past) = let r = takes_by_answer past in omega (arith, r)
takes_by_answer (by.Cpu c (cpus.Take way takes.Busy) ∷ past) = let r = takes_by_answer past in omega (arith, r)
takes_by_answer (by.Cpu c (cpus.Take way takes.Off) ∷ past) = let r = takes_by_answer past in omega (arith, r)
takes_by_answer (e ∷ past) = takes_by_answer past

pub handles_begin : (def : LineDef) (past : List Entry) → count_of is_handle past ≤ count_of (begins_round def) past
handles_begin def [] = omega arith
handles_begin def (e ∷ past) =
    let r = handles_begin def past in
    let a = count_more is_handle e past in
    let b = count_more (begins_round def) e past in
    let m = either (is_handle e) (is_again e && not (is_eoi_flow def.flow)) in
    omega (arith, r, a, b, m)
  where
    either : (a b : Bool) → one_if a ≤ one_if (a || b)
    either true b = omega arith
    either false b = omega arith

-- ---- renewals

renewal_more : (e : Entry) (past : List Entry) → one_if (renews e past) ≤ one_if (is_by_any_driver e && is_renewal e) + one_if (starts_killed e past)
renewal_more (by.Driver r e) past =
    by_tests (is_moment (by.Driver r e)) (is_linked_request (by.Driver r e)) (is_start (by.Driver r e)) (stands is_kill is_start past)
  where
    by_tests : (m l g s : Bool) → one_if (m || (l || (g && s))) ≤ one_if (true && (g || (l || m))) + one_if (not true && (g && s))
    by_tests true l true s = omega arith
    by_tests true true false s = omega arith
    by_tests true false false s = omega arith
    by_tests false true true s = omega arith
    by_tests false true false s = omega arith
    by_tests false false true true = omega arith
    by_tests false false true false = omega arith
    by_tests false false false s = omega arith
renewal_more (by.DriverCall r call) past = by_tests (is_start (by.DriverCall r call)) (stands is_kill is_start past)
  where
    by_tests : (g s : Bool) → one_if (g && s) ≤ one_if (g || false) + 0
    by_tests true true = omega arith
    by_tests true false = omega arith
    by_tests false s = omega arith
renewal_more (by.CpuCall c call) past = omega arith
renewal_more (by.ThreadCall x call) past = omega arith
renewal_more (by.Cpu c e) past = omega arith
renewal_more (by.Thread x e) past = omega arith

renewals_by : (past : List Entry) → renewals past ≤ count_of (λ e. is_by_any_driver e && is_renewal e) past + count_where starts_killed past
renewals_by [] = omega arith
renewals_by (e ∷ past) =
    let r = renewals_by past in
    let m = renewal_more e past in
    let a = where_more renews e past in
    let b = count_more (λ e. is_by_any_driver e && is_renewal e) e past in
    let c = where_more starts_killed e past in
    omega (arith, r, m, a, b, c)

pub renewals_past : (def : LineDef) (past : List Entry) → IsLegalPast def past → renewals past ≤ other_calls def + count_where starts_killed past
renewals_past def past legal = let r = renewals_by past in let d = renewals_of_drivers def past legal in omega (arith, r, d)

-- ---- rounds

-- the asks, the other calls of drivers, the words that say Handled, and one more
abbrev pub phases : LineDef → ℕ
phases def = ask_calls def + other_calls def + told_handled def + 1

pub window_rounds : (def : LineDef) (past : List Entry) → IsValid def → IsLegalPast def past
    → count_where starts_killed past ≤ other_calls def → count_of (begins_round def) past ≤ 2 * phases def + 2 * (def.window * phases def)
window_rounds def past valid legal few =
    let r = rounds_past def past legal in
    let e = ends_judged def past in
    let f = mark_most (has_flow def past) in
    let h = handled_past def past legal in
    let s = handled_runs def past legal in
    let a = asks_of_drivers def past legal in
    let d = deferred_past def past legal in
    let cl = clearing_past def past in
    let mark = mark_most (counts_of def past).deferred in
    let n = renewed_past def past valid legal in
    let w = renewals_past def past legal in
    let most : handled_ends def past + renewals past + 2 ≤ 2 * phases def = omega (arith, h, s, a, w, few) in
    let m = mul-le-mul_left def.window most in
    let t = twice def.window (phases def) in
    omega (arith, r, e, f, h, s, a, d, cl, mark, n, m, t)
  where
    twice : (a b : ℕ) → a * (2 * b) ≡ 2 * (a * b)
    twice a b = sym (mul_assoc a 2 b) ∙ ap (λ (x : ℕ). x * b) (mul_comm a 2) ∙ mul_assoc 2 a b

-- ---- the length

pub by_level_rounds : (def : LineDef) (past : List Entry) → IsValid def → HasValidRuns def → IsLegalPast def past → is_level_line def ≡ true
    → length past ≤ (2 + all_handlers def) * count_of (begins_round def) past + total (λ c. driver_weight (thread_weight def) c.1) def.calls
by_level_rounds def past valid runs legal level =
    let all = by_rounds def past valid runs legal in
    let t = takes_by_answer past in
    let h = handles_begin def past in
    let b = busy_past def past valid legal level in
    let o = offs_past def past valid legal level in
    let parts = add-mul 2 (all_handlers def) (count_of (begins_round def) past) in
    omega (arith, all, t, h, b, o, parts)
