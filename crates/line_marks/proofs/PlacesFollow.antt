-- How far the runs are with their calls, and which answers told devices have, follows the history.
use Rattle.std.proofs.Common.{◌≡◌, ℕ, ◌+◌, ◌<◌, ◌≤◌, min, Bool, true, false, ◌||◌, cond, Option, Some, None, unwrap_or, List, [], ◌∷◌, ◌++◌}
use Rattle.std.proofs.Common.{length, drop, filter, reverse, slice_get, nat_lt, option_map, refl, sym, ap, subst, ◌∙◌, arith, add-one, length-append}
use Rattle.std.proofs.lemmas.Bool.{ltb-true, ltb-false, lt-ltb, le-ltb, or_parts}
use Rattle.std.proofs.lemmas.Grind.{reverse_onto}
use Rattle.std.proofs.lemmas.List.{drop-append-le, drop_all}
use Rattle.std.specs.List.{list_any}
use Rattle.irq_base.specs.declared.calls.Call.{Call}
use Rattle.irq_base.specs.declared.devices.Part.TheVariants as parts
use Rattle.irq_base.specs.declared.entries.Actor.TheVariants as actors
use Rattle.irq_base.specs.declared.entries.Entry.{Entry}
use Rattle.irq_base.specs.declared.entries.Entry.TheVariants as by
use Rattle.irq_base.specs.declared.entries.CallEntry.{CallEntry}
use Rattle.irq_base.specs.declared.entries.CpuEntry.TheVariants as cpus
use Rattle.irq_base.specs.declared.entries.ThreadEntry.TheVariants as threads
use Rattle.irq_base.specs.declared.lines.LineDef.{LineDef}
use Rattle.irq_base.specs.declared.numbers.CpuNo.{CpuNo}
use Rattle.irq_base.specs.declared.numbers.DevNo.{DevNo}
use Rattle.irq_model.specs.Due.{due_of, entries_of_call}
use Rattle.irq_model.specs.Kinds.{same_dev, is_begin, is_begin_or_return, is_cpu_call, is_thread_begin, is_thread_return, is_thread_call, made_by}
use Rattle.irq_model.specs.Legal.{IsLegalPast}
use Rattle.irq_model.specs.Lines.{is_device, run_script}
use Rattle.irq_model.specs.Next.{next_step}
use Rattle.irq_model.specs.Places.{since, count_of}
use Rattle.irq_model.specs.Rounds.{at_work}
use Rattle.irq_model.specs.Runs.{due_in_run, makes_calls}
use Rattle.irq_model.specs.Valid.{IsValid}
use Rattle.irq_model.proofs.DueSteps.{each_makes_some, makes_as_many}
use Rattle.irq_model.proofs.Same.{same_self, same_both}
use Rattle.irq_model.specs.Laid.{with_count}
use Rattle.irq_laws.proofs.ImpliesFlow.{handler_call_due}
use Rattle.irq_laws.proofs.ImpliesThread.{thread_call_due, thread_there}
use Rattle.device_table.specs.Rows.{table_by, change}
use Rattle.device_table.proofs.Tables.{same_table, change_any, at_device}
use Rattle.line_scripts.proofs.LastEntry.{completes_at, last_of_cpu, last_of_thread}
use Rattle.line_scripts.specs.Endings.{completes}
use Rattle.run_scripts.specs.Places.{PlacesSeen, first_place, first_turn, first_row, row_at, advanced, turned}
use Rattle.run_scripts.specs.Places.{handler_begun, thread_begun, placed, row_advanced}
use Rattle.run_scripts.specs.declared.rows.RunPlace.{RunPlace}
use Rattle.run_scripts.specs.declared.rows.RunRow.{RunRow}
use Rattle.run_scripts.specs.declared.rows.Turn.{Turn}
use Rattle.line_marks.proofs.CallGoes.{Goes, GoesBy, goes_by}
use Rattle.line_marks.proofs.ScriptsFollow.{found}
use Rattle.line_marks.specs.Places.{past_one, laid_at, work_with, work_of, begins_or_returns, thread_place, answer_count, turn_of, run_row}
use Rattle.line_marks.specs.Places.{places_of, completes_some, called_at_work, places_after}

-- ---- a place

-- the due call, read off it
pub laid_due : (cs : List Call) (es : List Entry) → due_of cs es ≡ with_count (slice_get cs (laid_at cs es).place) (laid_at cs es).within
laid_due [] es = refl
laid_due (c ∷ cs) es = by_test (nat_lt (length es) (entries_of_call c es)) (laid_due cs (drop (entries_of_call c es) es))
  where
    p : RunPlace
    p = laid_at cs (drop (entries_of_call c es) es)

    by_test : (b : Bool) → due_of cs (drop (entries_of_call c es) es) ≡ with_count (slice_get cs p.place) p.within
        → cond b (Some (c, length es)) (due_of cs (drop (entries_of_call c es) es))
        ≡ with_count (slice_get (c ∷ cs) (cond b (record { place = 0; within = length es }) (past_one p)).place)
        (cond b (record { place = 0; within = length es }) (past_one p)).within
    by_test true h = refl
    by_test false h = h ∙ ap (λ (m : ℕ). with_count (slice_get (c ∷ cs) m) p.within) (sym (add-one p.place))

pub laid_first : (cs : List Call) → laid_at cs [] ≡ first_place
laid_first [] = refl
laid_first (c ∷ cs) = ap (λ b. cond b first_place (past_one (laid_at cs (drop (entries_of_call c []) []))))
    (lt-ltb 0 (entries_of_call c []) (each_makes_some c []))

moved : (b : Bool) (p : RunPlace) → past_one (advanced b p) ≡ advanced b (past_one p)
moved true p = refl
moved false p = refl

-- one more entry of the due call, which is the first
first_step : (c : Call) (cs : List Call) (es : List Entry) (e : Entry) (n : ℕ) → length es ≡ n → n < entries_of_call c es → GoesBy c n e
    → laid_at (c ∷ cs) (es ++ e ∷ []) ≡ advanced (completes c e) (record { place = 0; within = length es })
first_step c cs es e n long some g = go (completes c e) (g es long some)
  where
    k : ℕ
    k = entries_of_call c (es ++ e ∷ [])

    longer : length (es ++ e ∷ []) ≡ n + 1
    longer = omega (arith, long, length-append es (e ∷ []))

    go : (b : Bool) → Goes b c es e n → laid_at (c ∷ cs) (es ++ e ∷ []) ≡ advanced b (record { place = 0; within = length es })
    go true all =
        ap (λ b. cond b (record { place = 0; within = length (es ++ e ∷ []) }) (past_one (laid_at cs (drop k (es ++ e ∷ [])))))
        (le-ltb (length (es ++ e ∷ [])) k (omega (arith, longer, all)))
        ∙ (ap (λ (xs : List Entry). past_one (laid_at cs xs)) (drop_all k (es ++ e ∷ []) (omega (arith, longer, all)))
        ∙ ap past_one (laid_first cs))
    go false more =
        ap (λ b. cond b (record { place = 0; within = length (es ++ e ∷ []) }) (past_one (laid_at cs (drop k (es ++ e ∷ [])))))
        (lt-ltb (length (es ++ e ∷ [])) k (omega (arith, longer, more)))
        ∙ ap (λ (m : ℕ). record { place = 0; within = m }) (let l : length (es ++ e ∷ []) ≡ length es + 1 = omega (arith, longer, long) in l)

call_of : (d c : Call) → Some d ≡ Some c → d ≡ c
call_of d c h = cc

-- or any other
pub laid_step : (cs : List Call) (es : List Entry) (e : Entry) (c : Call) (n : ℕ) → due_of cs es ≡ Some (c, n) → GoesBy c n e
    → laid_at cs (es ++ e ∷ []) ≡ advanced (completes c e) (laid_at cs es)
laid_step [] es e c n h g = cc
laid_step (d ∷ cs) es e c n h g =
    by_test (nat_lt (length es) (entries_of_call d es)) refl h (λ i. laid_step cs (drop (entries_of_call d es) es) e c n i g)
  where
    k : ℕ
    k = entries_of_call d es

    rest : List Entry
    rest = drop (entries_of_call d es) es

    by_test : (b : Bool) → nat_lt (length es) (entries_of_call d es) ≡ b → cond b (Some (d, length es)) (due_of cs rest) ≡ Some (c, n)
        → (due_of cs rest ≡ Some (c, n) → laid_at cs (rest ++ e ∷ []) ≡ advanced (completes c e) (laid_at cs rest))
        → laid_at (d ∷ cs) (es ++ e ∷ [])
        ≡ advanced (completes c e) (cond b (record { place = 0; within = length es }) (past_one (laid_at cs rest)))
    by_test true is i deeper =
        let same = found (Some d) (length es) c n i in
        let own : d ≡ c = call_of d c same.0 in
        let few = ltb-true (length es) (entries_of_call d es) is in
        subst (λ (x : Call). laid_at (d ∷ cs) (es ++ e ∷ []) ≡ advanced (completes x e) (record { place = 0; within = length es })) own
        (first_step d cs es e n same.1 (omega (arith, few, same.1)) (subst (λ (x : Call). GoesBy x n e) (sym own) g))
    by_test false is i deeper =
        let few : k ≤ length es = ltb-false (length es) (entries_of_call d es) is in
        let some = each_makes_some d es in
        let same : entries_of_call d (es ++ e ∷ []) ≡ k = makes_as_many d es e (omega (arith, few, some)) in
        ap (λ b. cond b (record { place = 0; within = length (es ++ e ∷ []) })
        (past_one (laid_at cs (drop (entries_of_call d (es ++ e ∷ [])) (es ++ e ∷ [])))))
        (le-ltb (length (es ++ e ∷ [])) (entries_of_call d (es ++ e ∷ [])) (omega (arith, same, few, length-append es (e ∷ []))))
        ∙ (ap (λ (m : ℕ). past_one (laid_at cs (drop m (es ++ e ∷ [])))) same
        ∙ (ap (λ (xs : List Entry). past_one (laid_at cs xs)) (drop-append-le k es (e ∷ []) few)
        ∙ (ap past_one (deeper i) ∙ moved (completes c e) (laid_at cs rest))))

-- the place says which call it is
pub call_there : (cs : List Call) (es : List Entry) (c : Call) (n : ℕ) → due_of cs es ≡ Some (c, n)
    → slice_get cs (laid_at cs es).place ≡ Some c
call_there cs es c n h = (found (slice_get cs (laid_at cs es).place) (laid_at cs es).within c n (sym (laid_due cs es) ∙ h)).0

ends_there : (o : Option Call) (c : Call) (e : Entry) → o ≡ Some c → completes_some o e ≡ completes c e
ends_there o c e h = ap (λ (x : Option Call). completes_some x e) h

-- ---- the handler at work

work_same : (def : LineDef) (e : Entry) (past : List Entry) → is_begin_or_return e ≡ false → is_cpu_call e ≡ false
    → work_of def (e ∷ past) ≡ work_of def past
work_same def e past a b = ap (work_with def (e ∷ past)) (rw a refl) ∙ by_work (at_work past)
  where
    by_work : (o : Option DevNo) → work_with def (e ∷ past) o ≡ work_with def past o
    by_work None = refl
    by_work (Some d) = rw (a, b) refl

if_makes : {A : Type 0} (b : Bool) (o : Option A) (x : A) → cond b o None ≡ Some x → o ≡ Some x
if_makes true o x h = h
if_makes false o x h = cc

-- the step of its due call
work_call : (def : LineDef) (c : CpuNo) (call : CallEntry) (past : List Entry) (d : DevNo) (due : Call × ℕ)
    → at_work past ≡ Some d → due_in_run def parts.Primary d past ≡ Some due → next_step def past due ≡ Some call
    → places_of def (by.CpuCall c call ∷ past) ≡ places_after def (at_work past) (by.CpuCall c call) (places_of def past)
work_call def c call past d due is has step = subst At (sym is) here
  where
    e : Entry
    e = by.CpuCall c call

    rows : List (DevNo × RunRow)
    rows = table_by (run_row def past) def.devices

    script : List Call
    script = run_script def d parts.Primary

    own : List Entry
    own = filter is_cpu_call (since is_begin_or_return past)

    At : Option DevNo → Type 0
    At o = ◌≡◌ {A = PlacesSeen} (record { work = work_with def (by.CpuCall c call ∷ past) o; rows = table_by (run_row def past) def.devices })
        (called_at_work def o (by.CpuCall c call) (record { work = work_with def past o; rows = table_by (run_row def past) def.devices }))

    now : due_of (run_script def d parts.Primary) (reverse (filter is_cpu_call (since is_begin_or_return past))) ≡ Some due
    now = if_makes (makes_calls def parts.Primary d past) _ due has

    last : completes due.0 (by.CpuCall c call) ≡ completes_at due.0 due.1 (by.CpuCall c call)
    last = last_of_cpu def past c due.0 due.1 (by.CpuCall c call) (ap (option_map (made_by (actors.Cpu c))) step)

    here : At (Some d)
    here = ap (λ (w : RunPlace). record { work = w; rows = table_by (run_row def past) def.devices })
        (ap (laid_at script) (reverse_onto own e [])
        ∙ (laid_step script (reverse own) e due.0 due.1 now (goes_by due.0 due.1 e last)
        ∙ ap (λ b. advanced b (laid_at script (reverse own))) (sym (ends_there (slice_get script (laid_at script (reverse own)).place) due.0 e
        (call_there script (reverse own) due.0 due.1 now)))))

-- ---- the row of a device

same_row : (a b : RunRow) → a.calls ≡ b.calls → a.handler ≡ b.handler → a.thread ≡ b.thread → a ≡ b
same_row a b h i j = (let e : ◌≡◌ {A = RunRow} (record { calls = a.calls; handler = a.handler; thread = a.thread }) b = rw (h, i, j) refl in e)

row_same : (def : LineDef) (e : Entry) (past : List Entry) (d : DevNo) → is_begin d e ≡ false → is_thread_begin d e ≡ false
    → is_thread_return d e ≡ false → is_thread_call d e ≡ false → run_row def (e ∷ past) d ≡ run_row def past d
row_same def e past d a b c f = rw (a, b, c, f) refl

next_turn : (m n k : ℕ) → ◌≡◌ {A = Turn} (record { now = min n k; next = min (n + 1) k }) (turned k (record { now = m; next = min n k }))
next_turn m n k = ap (λ (x : ℕ). record { now = min n k; next = x }) (let e : min (n + 1) k ≡ min (min n k + 1) k = omega arith in e)

handler_begins : (def : LineDef) (c : CpuNo) (x : DevNo) (past : List Entry)
    → run_row def (by.Cpu c (cpus.Begin x) ∷ past) x ≡ handler_begun (answer_count def parts.Primary x) (run_row def past x)
handler_begins def c x past = rw (same_self x)
    (ap (λ (t : Turn). record (run_row def past x) { handler = t })
    (next_turn (turn_of def parts.Primary past x).now (count_of (is_begin x) past) (answer_count def parts.Primary x)))

thread_begins : (def : LineDef) (x : DevNo) (past : List Entry)
    → run_row def (by.Thread x threads.Begin ∷ past) x ≡ thread_begun (answer_count def parts.Thread x) (run_row def past x)
thread_begins def x past = rw (same_self x)
    (same_row (record {
      calls = laid_at (run_script def x parts.Thread) [];
      handler = turn_of def parts.Primary past x;
      thread = record {
        now = min (count_of (is_thread_begin x) past) (answer_count def parts.Thread x);
        next = min (count_of (is_thread_begin x) past + 1) (answer_count def parts.Thread x);
      };
    }) (thread_begun (answer_count def parts.Thread x) (run_row def past x)) (laid_first (run_script def x parts.Thread)) refl
    (next_turn (turn_of def parts.Thread past x).now (count_of (is_thread_begin x) past) (answer_count def parts.Thread x)))

thread_returns : (def : LineDef) (x : DevNo) (handled : Bool) (n : ℕ) (past : List Entry)
    → run_row def (by.Thread x (threads.Return handled n) ∷ past) x ≡ placed first_place (run_row def past x)
thread_returns def x handled n past = rw (same_self x)
    (ap (λ (p : RunPlace). placed p (run_row def past x)) (laid_first (run_script def x parts.Thread)))

-- since a run began that hasn't returned: since its begin
pub run_began : (d : DevNo) (past : List Entry) → list_any (is_thread_return d) (since (is_thread_begin d) past) ≡ false
    → since (begins_or_returns d) past ≡ since (is_thread_begin d) past
run_began d [] h = refl
run_began d (e ∷ past) h = by_test (is_thread_begin d e) (is_thread_return d e) refl h (run_began d past)
  where
    by_test : (b r : Bool) → is_thread_return d e ≡ r → list_any (is_thread_return d) (cond b [] (e ∷ since (is_thread_begin d) past)) ≡ false
        → (list_any (is_thread_return d) (since (is_thread_begin d) past) ≡ false → since (begins_or_returns d) past ≡ since (is_thread_begin d) past)
        → cond (b || r) [] (e ∷ since (begins_or_returns d) past) ≡ cond b [] (e ∷ since (is_thread_begin d) past)
    by_test true r is h rest = refl
    by_test false r is h rest =
        let p = or_parts (is_thread_return d e) (list_any (is_thread_return d) (since (is_thread_begin d) past)) h in
        ap (λ b. cond b [] (e ∷ since (begins_or_returns d) past)) (sym is ∙ p.0) ∙ ap (λ (xs : List Entry). e ∷ xs) (rest p.1)

-- the step of the due call of its run
thread_call : (def : LineDef) (x : DevNo) (call : CallEntry) (past : List Entry) (due : Call × ℕ)
    → list_any (is_thread_return x) (since (is_thread_begin x) past) ≡ false
    → due_in_run def parts.Thread x past ≡ Some due → next_step def past due ≡ Some call
    → run_row def (by.ThreadCall x call ∷ past) x
    ≡ row_advanced (completes_some (slice_get (run_script def x parts.Thread) (thread_place def past x).place) (by.ThreadCall x call)) (run_row def past x)
thread_call def x call past due not_returned has step = rw (same_self x)
    (ap (λ (p : RunPlace). record (run_row def past x) { calls = p })
    (ap (laid_at script) (reverse_onto own e [])
    ∙ (laid_step script (reverse own) e due.0 due.1 now (goes_by due.0 due.1 e last)
    ∙ ap (λ b. advanced b (laid_at script (reverse own))) (sym (ends_there (slice_get script (laid_at script (reverse own)).place) due.0 e
    (call_there script (reverse own) due.0 due.1 now))))))
  where
    e : Entry
    e = by.ThreadCall x call

    script : List Call
    script = run_script def x parts.Thread

    own : List Entry
    own = filter (is_thread_call x) (since (begins_or_returns x) past)

    now : due_of (run_script def x parts.Thread) (reverse (filter (is_thread_call x) (since (begins_or_returns x) past))) ≡ Some due
    now = ap (λ (xs : List Entry). due_of (run_script def x parts.Thread) (reverse (filter (is_thread_call x) xs))) (run_began x past not_returned) ∙ has

    last : completes due.0 (by.ThreadCall x call) ≡ completes_at due.0 due.1 (by.ThreadCall x call)
    last = last_of_thread def past x due.0 due.1 (by.ThreadCall x call) (ap (option_map (made_by (actors.Thread x))) step)

-- ---- all of it

same_places : (a b : PlacesSeen) → a.work ≡ b.work → a.rows ≡ b.rows → a ≡ b
same_places a b h i = (let e : ◌≡◌ {A = PlacesSeen} (record { work = a.work; rows = a.rows }) b = rw (h, i) refl in e)

rows_same : (def : LineDef) (e : Entry) (past : List Entry) → ((d : DevNo) → is_begin d e ≡ false) → ((d : DevNo) → is_thread_begin d e ≡ false)
    → ((d : DevNo) → is_thread_return d e ≡ false) → ((d : DevNo) → is_thread_call d e ≡ false)
    → table_by (run_row def (e ∷ past)) def.devices ≡ table_by (run_row def past) def.devices
rows_same def e past a b c f = same_table (run_row def past) (run_row def (e ∷ past)) def.devices (λ d. row_same def e past d (a d) (b d) (c d) (f d))

still : (def : LineDef) (e : Entry) (past : List Entry) → is_begin_or_return e ≡ false → is_cpu_call e ≡ false
    → ((d : DevNo) → is_begin d e ≡ false) → ((d : DevNo) → is_thread_begin d e ≡ false)
    → ((d : DevNo) → is_thread_return d e ≡ false) → ((d : DevNo) → is_thread_call d e ≡ false) → places_of def (e ∷ past) ≡ places_of def past
still def e past g h a b c f = same_places (places_of def (e ∷ past)) (places_of def past) (work_same def e past g h) (rows_same def e past a b c f)

other_way : (d x : DevNo) → same_dev x d ≡ false → same_dev d x ≡ false
other_way d x h = same_both d x ∙ h

pub row_found : (def : LineDef) (past : List Entry) (x : DevNo) → list_any (is_device x) def.devices ≡ true
    → row_at (table_by (run_row def past) def.devices) x ≡ run_row def past x
row_found def past x there = ap (λ (o : Option RunRow). unwrap_or o first_row) (at_device (run_row def past) def.devices x there)

pub places_more : (def : LineDef) (e : Entry) (past : List Entry) → IsValid def → IsLegalPast def (e ∷ past)
    → places_of def (e ∷ past) ≡ places_after def (at_work past) e (places_of def past)
places_more def (by.Cpu c (cpus.Begin x)) past valid legal =
    same_places (places_of def (by.Cpu c (cpus.Begin x) ∷ past)) (places_after def (at_work past) (by.Cpu c (cpus.Begin x)) (places_of def past))
    (laid_first (run_script def x parts.Primary))
    (change_any (run_row def past) (run_row def (by.Cpu c (cpus.Begin x) ∷ past)) (handler_begun (answer_count def parts.Primary x)) def.devices x
    valid.distinct (handler_begins def c x past)
    (λ d apart. row_same def (by.Cpu c (cpus.Begin x)) past d (other_way d x apart) refl refl refl))
places_more def (by.Cpu c (cpus.Return answer x n)) past valid legal =
    same_places (places_of def (by.Cpu c (cpus.Return answer x n) ∷ past))
    (places_after def (at_work past) (by.Cpu c (cpus.Return answer x n)) (places_of def past)) refl
    (rows_same def (by.Cpu c (cpus.Return answer x n)) past (λ d. refl) (λ d. refl) (λ d. refl) (λ d. refl))
places_more def (by.Thread x threads.Begin) past valid legal =
    same_places (places_of def (by.Thread x threads.Begin ∷ past)) (places_after def (at_work past) (by.Thread x threads.Begin) (places_of def past))
    (work_same def (by.Thread x threads.Begin) past refl refl)
    (change_any (run_row def past) (run_row def (by.Thread x threads.Begin ∷ past)) (thread_begun (answer_count def parts.Thread x)) def.devices x
    valid.distinct (thread_begins def x past)
    (λ d apart. row_same def (by.Thread x threads.Begin) past d refl (other_way d x apart) refl refl))
places_more def (by.Thread x (threads.Return handled n)) past valid legal =
    same_places (places_of def (by.Thread x (threads.Return handled n) ∷ past))
    (places_after def (at_work past) (by.Thread x (threads.Return handled n)) (places_of def past))
    (work_same def (by.Thread x (threads.Return handled n)) past refl refl)
    (change_any (run_row def past) (run_row def (by.Thread x (threads.Return handled n) ∷ past)) (placed first_place) def.devices x
    valid.distinct (thread_returns def x handled n past)
    (λ d apart. row_same def (by.Thread x (threads.Return handled n)) past d refl refl (other_way d x apart) refl))
places_more def (by.CpuCall c call) past valid legal =
    let u = handler_call_due def c call past legal.0 in
    work_call def c call past u.dev u.due u.is_at_work u.is_due u.step
places_more def (by.ThreadCall x call) past valid legal =
    let e = by.ThreadCall x call in
    let u = thread_call_due def x call past legal.0 in
    let there = thread_there def x past (by.ThreadCall x call) legal.0 in
    same_places (places_of def (by.ThreadCall x call ∷ past)) (places_after def (at_work past) (by.ThreadCall x call) (places_of def past))
    (work_same def (by.ThreadCall x call) past refl refl)
    (change_any (run_row def past) (run_row def (by.ThreadCall x call ∷ past))
    (row_advanced (completes_some (slice_get (run_script def x parts.Thread) (thread_place def past x).place) (by.ThreadCall x call))) def.devices x
    valid.distinct (thread_call def x call past u.due u.not_returned u.is_due u.step)
    (λ d apart. row_same def (by.ThreadCall x call) past d refl refl refl (other_way d x apart))
    ∙ ap (λ (r : RunRow). change (row_advanced (completes_some (slice_get (run_script def x parts.Thread) r.calls.place) (by.ThreadCall x call)))
    (table_by (run_row def past) def.devices) x) (sym (row_found def past x there)))
places_more def e past valid legal = still def e past refl refl (λ d. refl) (λ d. refl) (λ d. refl) (λ d. refl)

-- no run has begun yet
pub runs_first : (def : LineDef) (d : DevNo) → run_row def [] d ≡ first_row
runs_first def d = same_row (run_row def [] d) first_row (laid_first (run_script def d parts.Thread))
    (first (answer_count def parts.Primary d)) (first (answer_count def parts.Thread d))
  where
    first : (k : ℕ) → ◌≡◌ {A = Turn} (record { now = min 0 k; next = min 0 k }) first_turn
    first k = (let e : min 0 k ≡ 0 = omega arith in rw e refl)
