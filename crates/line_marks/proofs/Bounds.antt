-- No count is above the number of entries, and the rule's counts stay within the window.
use Rattle.std.proofs.Common.{◌≡◌, ℕ, ◌+◌, ◌-◌, ◌^◌, ◌<◌, ◌≤◌, ◌==◌, Bool, true, false, cond, ltb, eqb-true, Option}
use Rattle.std.proofs.Common.{Some, None, unwrap_or, List, [], ◌∷◌, length, drop, filter, reverse, nat_lt, min, refl, sym, ◌∙◌, subst, arith, length-drop}
use Rattle.std.proofs.lemmas.Bool.Decides.{nat_tests}
use Rattle.std.proofs.lemmas.List.{length-reverse}
use Rattle.irq_base.specs.declared.calls.Call.{Call}
use Rattle.irq_base.specs.declared.devices.Part.{Part}
use Rattle.irq_base.specs.declared.devices.Part.TheVariants as parts
use Rattle.irq_base.specs.declared.entries.Entry.{Entry}
use Rattle.irq_base.specs.declared.entries.Entry.TheVariants as by
use Rattle.irq_base.specs.declared.entries.CpuEntry.TheVariants as cpus
use Rattle.irq_base.specs.declared.entries.ThreadEntry.TheVariants as threads
use Rattle.irq_base.specs.declared.entries.DriverEntry.TheVariants as drivers
use Rattle.irq_base.specs.declared.entries.LinkAnswer.TheVariants as links
use Rattle.irq_base.specs.declared.entries.Note.TheVariants as notes
use Rattle.irq_base.specs.declared.lines.LineDef.{LineDef}
use Rattle.irq_base.specs.declared.numbers.DevNo.{DevNo}
use Rattle.irq_model.specs.Asks.{unserved_asks, left_by_runs, serving}
use Rattle.irq_model.specs.Kinds.{is_ask, is_begin_or_return, is_cpu_call, is_serve, is_start, is_thread_call}
use Rattle.irq_model.specs.Lines.{is_device, run_script}
use Rattle.irq_model.specs.Links.{depth, base, is_reset, is_deepening}
use Rattle.irq_model.specs.Places.{since, since_place, upto_place, count_of}
use Rattle.irq_model.specs.Due.{entries_of_call}
use Rattle.irq_model.specs.Rounds.{at_work, begins_round}
use Rattle.irq_model.specs.Runs.{entries_of_run}
use Rattle.irq_model.specs.Spurious.{Counts, counts_of, counted, unhandled, judged, judged_by_threads, noted, now, round_wakes, round_handles}
use Rattle.irq_model.specs.Valid.{IsValid}
use Rattle.std.specs.List.{list_any}
use Rattle.device_table.specs.Rows.{at, table_by}
use Rattle.device_table.proofs.Tables.{at_device, at_none}
use Rattle.ask_counts.specs.Rows.{HasRoom}
use Rattle.ask_counts.specs.declared.rows.AskRow.{AskRow}
use Rattle.line_marks.proofs.PlacesFollow.{row_found}
use Rattle.line_marks.specs.Asks.{since_begun, fresh_asks, ask_row, asks_of}
use Rattle.run_scripts.specs.Places.{first_row, row_at, place_at}
use Rattle.run_scripts.specs.declared.rows.RunPlace.{RunPlace}
use Rattle.run_scripts.specs.declared.rows.RunRow.{RunRow}
use Rattle.line_marks.specs.Below.{IsBelow}
use Rattle.line_marks.specs.Bounded.{IsFew, HasSpace}
use Rattle.line_marks.specs.Places.{past_one, laid_at, work_with, begins_or_returns, thread_calls, thread_place, run_row, places_of}
use Rattle.line_marks.specs.State.{state_of}

pub count_few : (p : Entry → Bool) (past : List Entry) → count_of p past ≤ length past
count_few p [] = omega arith
count_few p (e ∷ past) = by_test (p e) (count_few p past)
  where
    by_test : (b : Bool) → count_of p past ≤ length past → cond b (count_of p past + 1) (count_of p past) ≤ length (e ∷ past)
    by_test true h = omega (arith, h)
    by_test false h = omega (arith, h)

pub since_few : (p q : Entry → Bool) (past : List Entry) → count_of p (since q past) ≤ length past
since_few p q [] = omega arith
since_few p q (e ∷ past) = by_test (q e) (since_few p q past)
  where
    more : (b : Bool) → count_of p (since q past) ≤ length past → cond b (count_of p (since q past) + 1) (count_of p (since q past)) ≤ length (e ∷ past)
    more true h = omega (arith, h)
    more false h = omega (arith, h)

    by_test : (b : Bool) → count_of p (since q past) ≤ length past → count_of p (cond b [] (e ∷ since q past)) ≤ length (e ∷ past)
    by_test true h = omega arith
    by_test false h = more (p e) h

lesser : (a b n : ℕ) → a ≤ n → min a b ≤ n
lesser a b n h = omega (arith, h)

pub fresh_few : (def : LineDef) (d : DevNo) (past : List Entry) → fresh_asks def d past ≤ length past
fresh_few def d past =
    lesser (count_of (is_ask d) (since (is_serve d) past)) (since_begun (serving def d) d past) (length past) (since_few (is_ask d) (is_serve d) past)

pub unserved_few : (def : LineDef) (d : DevNo) (past : List Entry) → unserved_asks def d past ≤ length past
unserved_few def d past =
    lesser (count_of (is_ask d) (since (is_serve d) past)) (left_by_runs (serving def d) d past) (length past) (since_few (is_ask d) (is_serve d) past)

-- the counts of the rule

below_if : (w l : ℕ) (c : Counts) (z t : Bool) → (c.irqs_unhandled == 0) ≡ z → ltb (c.irq_count + 1) w ≡ t → 1 ≤ w
    → c.irq_count < w → c.irqs_unhandled ≤ c.irq_count + 1 → IsBelow w (counted w l c).counts
below_if w l c true t a b some h i = rw a (record { counted = h; unhandled = (let e = eqb-true c.irqs_unhandled 0 a in omega (arith, e)) })
below_if w l c false true a b some h i = rw (a, b) (record { counted = (let e : c.irq_count + 1 < w = grind (arith, nat_tests, b) in e); unhandled = i })
below_if w l c false false a b some h i = rw (a, b) (record { counted = some; unhandled = omega arith })

counted_below : (w l : ℕ) (c : Counts) → 1 ≤ w → c.irq_count < w → c.irqs_unhandled ≤ c.irq_count + 1 → IsBelow w (counted w l c).counts
counted_below w l c some h i = below_if w l c (c.irqs_unhandled == 0) (ltb (c.irq_count + 1) w) refl refl some h i

begun_anew : (b : Bool) (u n : ℕ) → u ≤ n → cond b 1 (u + 1) ≤ n + 1
begun_anew true u n h = omega arith
begun_anew false u n h = omega (arith, h)

judged_below : (w l n : ℕ) (handled : Bool) (c : Counts) → 1 ≤ w → IsBelow w c → IsBelow w (judged w l n handled c).counts
judged_below w l n true c some h = counted_below w l c some h.counted (omega (arith, h.unhandled))
judged_below w l n false c some h = counted_below w l (unhandled n c) some h.counted
    (begun_anew (ltb 100 (n - c.last_unhandled)) c.irqs_unhandled c.irq_count h.unhandled)

by_threads_below : (w l n : ℕ) (c : Counts) (b : Bool) → 1 ≤ w → IsBelow w c
    → IsBelow w (cond b (judged w l n false c) (judged w l n true (record c { last = c.threads_handled }))).counts
by_threads_below w l n c true some h = judged_below w l n false c some h
by_threads_below w l n c false some h = judged_below w l n true (record c { last = c.threads_handled }) some
    (record { counted = h.counted; unhandled = h.unhandled })

noted_below : (w l n : ℕ) (wake handled : Bool) (c : Counts) → 1 ≤ w → IsBelow w c → IsBelow w (noted w l n wake handled c).counts
noted_below w l n false handled c some h = judged_below w l n handled c some h
noted_below w l n true true c some h = judged_below w l n true (record c { deferred = false }) some (record { counted = h.counted; unhandled = h.unhandled })
noted_below w l n true false c some h = by_deferred c.deferred
  where
    by_deferred : (b : Bool) → IsBelow w (cond b (judged_by_threads w l n c) (record { note = notes.Quiet; counts = record c { deferred = true } })).counts
    by_deferred true = by_threads_below w l n c (c.threads_handled == c.last) some h
    by_deferred false = record { counted = h.counted; unhandled = h.unhandled }

pub counts_below : (def : LineDef) (past : List Entry) → IsValid def → IsBelow def.window (counts_of def past)
counts_below def [] valid = record { counted = valid.some_window; unhandled = omega arith }
counts_below def (by.Thread d (threads.Return handled served) ∷ past) valid = by_test handled (counts_below def past valid)
  where
    c : Counts
    c = counts_of def past

    by_test : (b : Bool) → IsBelow def.window c → IsBelow def.window (cond b (record c { threads_handled = c.threads_handled + 1 }) c)
    by_test true h = record { counted = h.counted; unhandled = h.unhandled }
    by_test false h = h
counts_below def (by.Driver r (drivers.Request flags links.Linked opened d) ∷ past) valid = record { counted = valid.some_window; unhandled = omega arith }
counts_below def (by.Driver r (drivers.Request flags (links.Refused error) opened d) ∷ past) valid = counts_below def past valid
counts_below def (by.Cpu c (cpus.End again unmask note) ∷ past) valid
    = noted_below def.window def.limit (now past) (round_wakes def past) (round_handles def past) (counts_of def past)
    valid.some_window (counts_below def past valid)
counts_below def (_ ∷ past) valid = counts_below def past valid

-- ---- all of them

place_few : (p : Entry → Bool) (q : List Entry → Bool) (past : List Entry) → count_of p (since_place q past) ≤ length past
place_few p q [] = omega arith
place_few p q (e ∷ past) = by_test (q (e ∷ past)) (place_few p q past)
  where
    more : (b : Bool) → count_of p (since_place q past) ≤ length past
        → cond b (count_of p (since_place q past) + 1) (count_of p (since_place q past)) ≤ length (e ∷ past)
    more true h = omega (arith, h)
    more false h = omega (arith, h)

    by_test : (b : Bool) → count_of p (since_place q past) ≤ length past → count_of p (cond b [] (e ∷ since_place q past)) ≤ length (e ∷ past)
    by_test true h = omega arith
    by_test false h = more (p e) h

base_few : (past : List Entry) → base past ≤ 1
base_few [] = omega arith
base_few (e ∷ past) = by_test (is_start e)
  where
    by_test : (b : Bool) → cond b 0 1 ≤ 1
    by_test true = omega arith
    by_test false = omega arith

pub depth_few : (past : List Entry) → depth past ≤ length past + 1
depth_few past = let a = base_few (upto_place is_reset past) in let b = place_few is_deepening is_reset past in omega (arith, a, b)

counted_handled : (w l : ℕ) (c : Counts) (z t : Bool) → (c.irqs_unhandled == 0) ≡ z → ltb (c.irq_count + 1) w ≡ t
    → (counted w l c).counts.threads_handled ≡ c.threads_handled
counted_handled w l c true t a b = rw a refl
counted_handled w l c false true a b = rw (a, b) refl
counted_handled w l c false false a b = rw (a, b) refl

judged_handled : (w l n : ℕ) (handled : Bool) (c : Counts) → (judged w l n handled c).counts.threads_handled ≡ c.threads_handled
judged_handled w l n true c = counted_handled w l c _ _ refl refl
judged_handled w l n false c = counted_handled w l (unhandled n c) _ _ refl refl

by_threads_handled : (w l n : ℕ) (c : Counts) (b : Bool)
    → (cond b (judged w l n false c) (judged w l n true (record c { last = c.threads_handled }))).counts.threads_handled
    ≡ c.threads_handled
by_threads_handled w l n c true = judged_handled w l n false c
by_threads_handled w l n c false = judged_handled w l n true (record c { last = c.threads_handled })

noted_handled : (w l n : ℕ) (wake handled : Bool) (c : Counts) → (noted w l n wake handled c).counts.threads_handled ≡ c.threads_handled
noted_handled w l n false handled c = judged_handled w l n handled c
noted_handled w l n true true c = judged_handled w l n true (record c { deferred = false })
noted_handled w l n true false c = by_deferred c.deferred
  where
    by_deferred : (b : Bool) → (cond b (judged_by_threads w l n c)
        (record { note = notes.Quiet; counts = record c { deferred = true } })).counts.threads_handled
        ≡ c.threads_handled
    by_deferred true = by_threads_handled w l n c (c.threads_handled == c.last)
    by_deferred false = refl

later : (a : ℕ) (e : Entry) (past : List Entry) → a ≤ length past → a ≤ length (e ∷ past)
later a e past h = omega (arith, h)

pub handled_few : (def : LineDef) (past : List Entry) → (counts_of def past).threads_handled ≤ length past
handled_few def [] = omega arith
handled_few def (by.Thread d (threads.Return handled served) ∷ past) = by_test handled (handled_few def past)
  where
    c : Counts
    c = counts_of def past

    by_test : (b : Bool) → c.threads_handled ≤ length past
        → (cond b (record c { threads_handled = c.threads_handled + 1 }) c).threads_handled ≤ length
        (by.Thread d (threads.Return handled served) ∷ past)
    by_test true h = omega (arith, h)
    by_test false h = omega (arith, h)
handled_few def (by.Driver r (drivers.Request flags links.Linked opened d) ∷ past)
    = later _ (by.Driver r (drivers.Request flags links.Linked opened d)) past (handled_few def past)
handled_few def (by.Driver r (drivers.Request flags (links.Refused error) opened d) ∷ past)
    = later _ (by.Driver r (drivers.Request flags (links.Refused error) opened d)) past (handled_few def past)
handled_few def (by.Cpu c (cpus.End again unmask note) ∷ past) =
    let same = noted_handled def.window def.limit (now past) (round_wakes def past) (round_handles def past) (counts_of def past) in
    omega (arith, same, handled_few def past)
handled_few def (e ∷ past) = later _ e past (handled_few def past)

row_few : (def : LineDef) (past : List Entry) (d : DevNo) (r : AskRow) → ask_row def past d ≡ r → (r.unserved ≤ length past) × (r.fresh ≤ length past)
row_few def past d r same = subst (λ (x : AskRow). (x.unserved ≤ length past) × (x.fresh ≤ length past)) same
    (unserved_few def d past, fresh_few def d past)

found : (x y : AskRow) (o : Option AskRow) → o ≡ Some x → o ≡ Some y → x ≡ y
found x y o h i = cc

asks_few : (def : LineDef) (past : List Entry) (d : DevNo) (r : AskRow) → at (asks_of def past) d ≡ Some r
    → (r.unserved ≤ length past) × (r.fresh ≤ length past)
asks_few def past d r h = by_test (list_any (is_device d) def.devices) refl
  where
    by_test : (b : Bool) → list_any (is_device d) def.devices ≡ b → (r.unserved ≤ length past) × (r.fresh ≤ length past)
    by_test true is = row_few def past d r (found (ask_row def past d) r (at (asks_of def past) d) (at_device (ask_row def past) def.devices d is) h)
    by_test false is = (let none : ◌≡◌ {A = Option AskRow} None (Some r) = sym (at_none (ask_row def past) def.devices d is) ∙ h in cc)

-- how far a run is with its calls

laid_few : (cs : List Call) (es : List Entry) → (laid_at cs es).within ≤ length es
laid_few [] es = omega arith
laid_few (c ∷ cs) es = by_test (nat_lt (length es) (entries_of_call c es)) (laid_few cs (drop (entries_of_call c es) es))
  where
    p : RunPlace
    p = laid_at cs (drop (entries_of_call c es) es)

    by_test : (b : Bool) → p.within ≤ length (drop (entries_of_call c es) es)
        → (cond b (record { place = 0; within = length es }) (past_one p)).within ≤ length es
    by_test true h = omega arith
    by_test false h = omega (arith, h, length-drop (entries_of_call c es) es)

since_short : (q : Entry → Bool) (past : List Entry) → length (since q past) ≤ length past
since_short q [] = omega arith
since_short q (e ∷ past) = by_test (q e) (since_short q past)
  where
    by_test : (b : Bool) → length (since q past) ≤ length past → length (cond b [] (e ∷ since q past)) ≤ length (e ∷ past)
    by_test true h = omega arith
    by_test false h = omega (arith, h)

filter_short : (p : Entry → Bool) (xs : List Entry) → length (filter p xs) ≤ length xs
filter_short p [] = omega arith
filter_short p (e ∷ xs) = by_test (p e) (filter_short p xs)
  where
    by_test : (b : Bool) → length (filter p xs) ≤ length xs → length (cond b (e ∷ filter p xs) (filter p xs)) ≤ length (e ∷ xs)
    by_test true h = omega (arith, h)
    by_test false h = omega (arith, h)

calls_few : (p q : Entry → Bool) (past : List Entry) → length (reverse (filter p (since q past))) ≤ length past
calls_few p q past =
    let a = length-reverse (filter p (since q past)) in
    let b = filter_short p (since q past) in
    omega (arith, a, b, since_short q past)

work_few : (def : LineDef) (past : List Entry) (o : Option DevNo) → (work_with def past o).within ≤ length past
work_few def past None = omega arith
work_few def past (Some d) =
    let l = laid_few (run_script def d parts.Primary) (entries_of_run parts.Primary d past) in
    omega (arith, l, calls_few is_cpu_call is_begin_or_return past)

thread_few : (def : LineDef) (past : List Entry) (d : DevNo) → (thread_place def past d).within ≤ length past
thread_few def past d =
    let l = laid_few (run_script def d parts.Thread) (thread_calls d past) in
    omega (arith, l, calls_few (is_thread_call d) (begins_or_returns d) past)

rows_few : (def : LineDef) (past : List Entry) (d : DevNo) → (row_at (table_by (run_row def past) def.devices) d).calls.within ≤ length past
rows_few def past d = by_test (list_any (is_device d) def.devices) refl
  where
    by_test : (b : Bool) → list_any (is_device d) def.devices ≡ b → (row_at (table_by (run_row def past) def.devices) d).calls.within ≤ length past
    by_test true is =
        subst (λ (r : RunRow). r.calls.within ≤ length past) (sym (row_found def past d is)) (thread_few def past d)
    by_test false is =
        let none = at_none (run_row def past) def.devices d is in
        subst (λ (o : Option RunRow). (unwrap_or o first_row).calls.within ≤ length past) (sym none) (omega arith)

runs_few : (def : LineDef) (past : List Entry) (d : DevNo) (part : Part) → (place_at (places_of def past) d part).within ≤ length past
runs_few def past d parts.Primary = work_few def past (at_work past)
runs_few def past d parts.Thread = rows_few def past d

pub state_few : (def : LineDef) (past : List Entry) → IsFew (length past) (state_of def past)
state_few def past = record {
  depth = depth_few past;
  rounds = count_few (begins_round def) past;
  handled = handled_few def past;
  asks = asks_few def past;
  runs = runs_few def past;
}

-- ---- one more fits

room_in : (n : ℕ) (o : Option AskRow) → n ≤ 100000000 → ((r : AskRow) → o ≡ Some r → (r.unserved ≤ n) × (r.fresh ≤ n)) → HasRoom o
room_in n None small h = record {}
room_in n (Some r) small h = (let f = h r refl in (below f.0, below f.1))
  where
    below : {a : ℕ} → a ≤ n → a < 2 ^ 32 - 1
    below {a} i = omega (arith, i, small)

one_fits : (a n : ℕ) → n ≤ 100000000 → a ≤ n → a + 1 < 2 ^ 32
one_fits a n small h = omega (arith, small, h)

pub has_space : (def : LineDef) (past : List Entry) → IsValid def → length past ≤ def.log → HasSpace (state_of def past)
has_space def past valid within =
    let f = state_few def past in
    let small : length past ≤ 100000000 = omega (arith, within, valid.small_log) in
    record {
      depth = omega (arith, small, f.depth);
      rounds = omega (arith, small, f.rounds);
      handled = omega (arith, small, f.handled);
      asks = λ d. room_in (length past) (at (asks_of def past) d) small (f.asks d);
      runs = λ d part. one_fits (place_at (places_of def past) d part).within (length past) small (f.runs d part);
    }
