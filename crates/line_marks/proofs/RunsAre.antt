-- What a run answers and serves, and which call of it is due, is as the past says.
use Rattle.std.proofs.Common.{◌≡◌, ℕ, ◌+◌, ◌-◌, Bool, true, false, not, ◌||◌, ◌&&◌, cond, Option, Some, None, List, [], ◌∷◌, slice_get, nat_lt}
use Rattle.std.proofs.Common.{reverse, filter, refl, sym, ap, ap₂, ◌∙◌, arith}
use Rattle.std.proofs.lemmas.Bool.{or_parts, or_from, or_right}
use Rattle.std.specs.List.{list_any}
use Rattle.irq_base.specs.Handlers.{answer_of}
use Rattle.irq_base.specs.declared.calls.Call.{Call}
use Rattle.irq_base.specs.declared.devices.Kind.{Kind}
use Rattle.irq_base.specs.declared.devices.Part.{Part}
use Rattle.irq_base.specs.declared.devices.Part.TheVariants as parts
use Rattle.irq_base.specs.declared.devices.ToldAnswer.{ToldAnswer}
use Rattle.irq_base.specs.declared.entries.Entry.{Entry}
use Rattle.irq_base.specs.declared.entries.Entry.TheVariants as by
use Rattle.irq_base.specs.declared.entries.CpuEntry.TheVariants as cpus
use Rattle.irq_base.specs.declared.entries.ThreadEntry.TheVariants as threads
use Rattle.irq_base.specs.declared.lines.LineDef.{LineDef}
use Rattle.irq_base.specs.declared.numbers.DevNo.{DevNo}
use Rattle.irq_model.specs.Asks.{begins_run, returns_served, serving, unserved_asks, taken_away}
use Rattle.irq_model.specs.Due.{due_of}
use Rattle.irq_model.specs.Kinds.{same_dev, is_ask, is_serve, is_begin, is_thread_begin, is_thread_return, is_done, is_thread_call}
use Rattle.irq_model.specs.Lines.{is_device, kind_of, run_script, told_answers}
use Rattle.irq_model.specs.Places.{since, before, stands}
use Rattle.irq_model.specs.Rounds.{at_work}
use Rattle.irq_model.specs.Runs.{answer_of_run_now, due_in_run, entries_of_run, is_recognised, is_that_part}
use Rattle.irq_model.specs.Runs.{makes_calls, met_by, serves_by_word, served_by_run, told_of}
use Rattle.irq_model.specs.Threads.{is_running}
use Rattle.irq_model.proofs.Same.{same_self}
use Rattle.irq_model.specs.Laid.{with_count}
use Rattle.device_table.specs.Rows.{at}
use Rattle.device_table.proofs.Tables.{at_device}
use Rattle.ask_counts.specs.declared.facts.DeviceFacts.{DeviceFacts}
use Rattle.ask_counts.specs.declared.rows.AskRow.{AskRow}
use Rattle.run_scripts.specs.Places.{turn_at}
use Rattle.run_scripts.specs.declared.rows.RunPlace.{RunPlace}
use Rattle.run_scripts.specs.declared.rows.RunRow.{RunRow}
use Rattle.run_scripts.specs.declared.rows.Turn.{Turn}
use Rattle.line_marks.proofs.AsksFollow.{begins_serving, ends_serving, fresh_more, unserved_more}
use Rattle.line_marks.proofs.FactsFixed.{facts_are, kind_is}
use Rattle.line_marks.proofs.PlacesFollow.{laid_due, run_began, row_found}
use Rattle.line_marks.specs.Asks.{ask_row, fresh_asks}
use Rattle.line_marks.specs.Places.{laid_at, work_with, work_of, thread_place, turn_of}
use Rattle.line_marks.specs.Runs.{met_in, met_at, told_at, answer_at, taken_in, served_at, makes_calls_at, due_in_run_at}
use Rattle.line_marks.specs.State.{state_of}
use Rattle.line_marks.specs.Threads.{has_returned}

-- ---- what a run takes away as it returns

begins_alone : (part : Part) (d : DevNo) (e : Entry) → begins_run part d e ≡ true
    → (is_serve d e ≡ false) × (returns_served part d e ≡ false) × (is_ask d e ≡ false)
begins_alone parts.Primary d (by.Cpu c (cpus.Begin x)) h = (refl, refl, refl)
begins_alone parts.Primary d e h = cc
begins_alone parts.Thread d (by.Thread x threads.Begin) h = (refl, refl, refl)
begins_alone parts.Thread d e h = cc

-- the entry begins a run that serves: nothing of it is fresh
taken_first : (def : LineDef) (part : Part) (d : DevNo) (e : Entry) (past : List Entry) → serving def d ≡ Some part → begins_run part d e ≡ true
    → unserved_asks def d (e ∷ past) - fresh_asks def d (e ∷ past) ≡ unserved_asks def d past
taken_first def part d e past is begins =
    let alone = begins_alone part d e begins in
    let u : unserved_asks def d (e ∷ past) ≡ unserved_asks def d past =
    unserved_more def d e past
    ∙ (ap (λ (o : Option Part). cond (is_serve d e) 0 (cond (ends_serving o d e) (fresh_asks def d past)
    (cond (is_ask d e) (unserved_asks def d past + 1) (unserved_asks def d past)))) is
    ∙ rw (alone.0, alone.1, alone.2) refl) in
    let f : fresh_asks def d (e ∷ past) ≡ 0 =
    fresh_more def d e past
    ∙ (ap (λ (o : Option Part). cond (is_serve d e || begins_serving o d e) 0 (cond (is_ask d e) (fresh_asks def d past + 1) (fresh_asks def d past))) is
    ∙ rw (alone.0, begins) refl) in
    omega (arith, u, f)

-- the entry doesn't, nor does it return from one
taken_later : (s a : Bool) (u f t : ℕ) (served : Bool) → u - f ≡ cond served 0 t
    → cond s 0 (cond a (u + 1) u) - cond s 0 (cond a (f + 1) f) ≡ cond (s || served) 0 t
taken_later true a u f t served h = refl
taken_later false true u f t served h = omega (arith, h)
taken_later false false u f t served h = h

or_none : (b : Bool) → (b || false) ≡ b
or_none true = refl
or_none false = refl

pub taken_is : (def : LineDef) (part : Part) (d : DevNo) (past : List Entry) → serving def d ≡ Some part → list_any (begins_run part d) past ≡ true
    → list_any (returns_served part d) (since (begins_run part d) past) ≡ false
    → unserved_asks def d past - fresh_asks def d past ≡ taken_away def part d past
taken_is def part d [] is there going = cc
taken_is def part d (e ∷ past) is there going =
    by_test (begins_run part d e) refl there going (taken_is def part d past is)
  where
    by_test : (b : Bool) → begins_run part d e ≡ b → (b || list_any (begins_run part d) past) ≡ true
        → list_any (returns_served part d) (cond b [] (e ∷ since (begins_run part d) past)) ≡ false
        → (list_any (begins_run part d) past ≡ true → list_any (returns_served part d) (since (begins_run part d) past) ≡ false
        → unserved_asks def d past - fresh_asks def d past ≡ taken_away def part d past)
        → unserved_asks def d (e ∷ past) - fresh_asks def d (e ∷ past)
        ≡ cond (list_any (is_serve d) (cond b [] (e ∷ since (begins_run part d) past))) 0 (unserved_asks def d (cond b past (before (begins_run part d) past)))
    by_test true begins there going rest = taken_first def part d e past is begins
    by_test false isnt there going rest =
        let p = or_parts (returns_served part d e) _ going in
        let u : unserved_asks def d (e ∷ past) ≡ cond (is_serve d e) 0 (cond (is_ask d e) (unserved_asks def d past + 1) (unserved_asks def d past)) =
        unserved_more def d e past
        ∙ (ap (λ (o : Option Part). cond (is_serve d e) 0 (cond (ends_serving o d e) (fresh_asks def d past)
        (cond (is_ask d e) (unserved_asks def d past + 1) (unserved_asks def d past)))) is
        ∙ ap (λ b. cond (is_serve d e) 0 (cond b (fresh_asks def d past)
        (cond (is_ask d e) (unserved_asks def d past + 1) (unserved_asks def d past)))) p.0) in
        let f : fresh_asks def d (e ∷ past) ≡ cond (is_serve d e) 0 (cond (is_ask d e) (fresh_asks def d past + 1) (fresh_asks def d past)) =
        fresh_more def d e past
        ∙ (ap (λ (o : Option Part). cond (is_serve d e || begins_serving o d e) 0 (cond (is_ask d e) (fresh_asks def d past + 1) (fresh_asks def d past))) is
        ∙ (ap (λ b. cond (is_serve d e || b) 0 (cond (is_ask d e) (fresh_asks def d past + 1) (fresh_asks def d past))) isnt
        ∙ ap (λ b. cond b 0 (cond (is_ask d e) (fresh_asks def d past + 1) (fresh_asks def d past))) (or_none (is_serve d e)))) in
        ap₂ (λ (a b : ℕ). a - b) u f
        ∙ taken_later (is_serve d e) (is_ask d e) (unserved_asks def d past) (fresh_asks def d past)
        (unserved_asks def d (before (begins_run part d) past)) (list_any (is_serve d) (since (begins_run part d) past)) (rest there p.1)

-- ---- a run that is there

-- its begin is there, and no return since
pub record IsOpen (part : Part) (d : DevNo) (past : List Entry) : Type 0 where
  pub begun : list_any (begins_run part d) past ≡ true
  pub unreturned : list_any (returns_served part d) (since (begins_run part d) past) ≡ false

same_dev_no : (a b : DevNo) → Some a ≡ Some b → a ≡ b
same_dev_no a b h = cc

beside : (d : DevNo) (e : Entry) (past : List Entry) → is_begin d e ≡ false → returns_served parts.Primary d e ≡ false
    → IsOpen parts.Primary d past → IsOpen parts.Primary d (e ∷ past)
beside d e past a b h = record {
  begun = or_right (is_begin d e) _ h.begun;
  unreturned = ap (λ x. list_any (returns_served parts.Primary d) (cond x [] (e ∷ since (is_begin d) past))) a ∙ or_from _ _ b h.unreturned;
}

pub at_work_open : (d : DevNo) (past : List Entry) → at_work past ≡ Some d → IsOpen parts.Primary d past
at_work_open d [] h = cc
at_work_open d (by.Cpu c (cpus.Begin x) ∷ past) h =
    let own : x ≡ d = same_dev_no x d h in
    let here : same_dev d x ≡ true = ap (same_dev d) own ∙ same_self d in
    record { begun = rw here refl; unreturned = rw here refl }
at_work_open d (by.Cpu c (cpus.Return answer x n) ∷ past) h = cc
at_work_open d (e ∷ past) h = beside d e past refl refl (at_work_open d past h)

was_there : (p q : Entry → Bool) (past : List Entry) → stands p q past ≡ true → list_any p past ≡ true
was_there p q [] h = cc
was_there p q (e ∷ past) h = by_test (p e) (q e) h (was_there p q past)
  where
    by_test : (b c : Bool) → (b || (not c && stands p q past)) ≡ true → (stands p q past ≡ true → list_any p past ≡ true) → (b || list_any p past) ≡ true
    by_test true c h rest = refl
    by_test false true h rest = cc
    by_test false false h rest = rest h

within : (p q : Entry → Bool) (xs : List Entry) → ((e : Entry) → q e ≡ false → p e ≡ false) → list_any q xs ≡ false → list_any p xs ≡ false
within p q [] h none = refl
within p q (e ∷ xs) h none =
    let n = or_parts (q e) (list_any q xs) none in
    or_from _ _ (h e n.0) (within p q xs h n.1)

unserving : (b n : Bool) → b ≡ false → (b && n) ≡ false
unserving true n h = cc
unserving false n h = refl

no_return : (d : DevNo) (e : Entry) → is_thread_return d e ≡ false → returns_served parts.Thread d e ≡ false
no_return d (by.Thread x (threads.Return handled n)) h = unserving (same_dev d x) (nat_lt 0 n) h
no_return d e h = refl

pub running_open : (d : DevNo) (past : List Entry) → is_running past d ≡ true → has_returned past d ≡ false → IsOpen parts.Thread d past
running_open d past run going = record {
  begun = was_there (is_thread_begin d) (is_done d) past run;
  unreturned = within (returns_served parts.Thread d) (is_thread_return d) (since (is_thread_begin d) past) (no_return d) going;
}

part_of : (part : Part) (o : Option Part) → is_that_part part o ≡ true → o ≡ Some part
part_of part None h = cc
part_of parts.Primary (Some parts.Primary) h = refl
part_of parts.Primary (Some parts.Thread) h = cc
part_of parts.Thread (Some parts.Thread) h = refl
part_of parts.Thread (Some parts.Primary) h = cc

-- ---- of a device of the line

module _ (def : LineDef) (past : List Entry) (d : DevNo) (there : list_any (is_device d) def.devices ≡ true) where
  pub ask_row_is : at (state_of def past).asks d ≡ Some (ask_row def past d)
  ask_row_is = at_device (ask_row def past) def.devices d there

  row_met : (part : Part) → met_in part (Some (ask_row def past d)) ≡ met_by def part d past
  row_met parts.Primary = refl
  row_met parts.Thread = refl

  pub met_is : (part : Part) → met_at (state_of def past) part d ≡ met_by def part d past
  met_is part = ap (met_in part) ask_row_is ∙ row_met part

  turn_is : (part : Part) → turn_at (state_of def past).places d part ≡ turn_of def part past d
  turn_is parts.Primary = ap (λ (r : RunRow). r.handler) (row_found def past d there)
  turn_is parts.Thread = ap (λ (r : RunRow). r.thread) (row_found def past d there)

  pub told_is : (part : Part) → told_at def (state_of def past) part d ≡ told_of def part d past
  told_is part = ap (λ (t : Turn). slice_get (told_answers def d part) t.now) (turn_is part)

  pub answer_is : (part : Part) → answer_at def (state_of def past) part d ≡ answer_of_run_now def part d past
  answer_is part =
      ap (λ (k : Kind). answer_of k part (met_at (state_of def past) part d) (told_at def (state_of def past) part d)) (kind_is def d)
      ∙ (ap (λ n. answer_of (kind_of def d) part n (told_at def (state_of def past) part d)) (met_is part)
      ∙ ap (λ (t : Option ToldAnswer). answer_of (kind_of def d) part (met_by def part d past) t) (told_is part))

  makes_is : (part : Part) → makes_calls_at def (state_of def past) part d ≡ makes_calls def part d past
  makes_is parts.Primary = ap is_recognised (answer_is parts.Primary)
  makes_is parts.Thread = refl

  served_if : (b w : Bool) (n m : ℕ) → (b ≡ true → n ≡ m) → cond (b && w) n 0 ≡ cond (b && w) m 0
  served_if true true n m h = h refl
  served_if true false n m h = refl
  served_if false w n m h = refl

  pub served_is : (part : Part) → IsOpen part d past → served_at def (state_of def past) part d ≡ served_by_run def part d past
  served_is part going =
      let w = serves_by_word (kind_of def d) (told_of def part d past) in
      ap (λ (f : DeviceFacts). cond (is_that_part part f.serving && serves_by_word f.kind (told_at def (state_of def past) part d))
      (taken_in (at (state_of def past).asks d)) 0) (facts_are def d)
      ∙ (ap (λ (t : Option ToldAnswer). cond (is_that_part part (serving def d) && serves_by_word (kind_of def d) t)
      (taken_in (at (state_of def past).asks d)) 0) (told_is part)
      ∙ (ap (λ (o : Option AskRow). cond (is_that_part part (serving def d) && w) (taken_in o) 0) ask_row_is
      ∙ served_if (is_that_part part (serving def d)) w (unserved_asks def d past - fresh_asks def d past) (taken_away def part d past)
      (λ is. taken_is def part d past (part_of part (serving def d) is) going.begun going.unreturned)))

  -- ---- the due call

  due_by_place : (part : Part) (es : List Entry) (p : RunPlace) → p ≡ laid_at (run_script def d part) es
      → with_count (slice_get (run_script def d part) p.place) p.within ≡ due_of (run_script def d part) es
  due_by_place part es p is =
      ap (λ (q : RunPlace). with_count (slice_get (run_script def d part) q.place) q.within) is ∙ sym (laid_due (run_script def d part) es)

  -- of the handler at work
  pub handler_due_is : at_work past ≡ Some d → due_in_run_at def (state_of def past) parts.Primary d ≡ due_in_run def parts.Primary d past
  handler_due_is is =
      let es = entries_of_run parts.Primary d past in
      ap₂ (λ (b : Bool) (o : Option (Call × ℕ)). cond b o None) (makes_is parts.Primary)
      (due_by_place parts.Primary es (work_of def past) (ap (work_with def past) is))

  -- of the thread in its run
  pub thread_due_is : has_returned past d ≡ false → due_in_run_at def (state_of def past) parts.Thread d ≡ due_in_run def parts.Thread d past
  thread_due_is going =
      let es = entries_of_run parts.Thread d past in
      ap (λ (r : RunRow). with_count (slice_get (run_script def d parts.Thread) r.calls.place) r.calls.within) (row_found def past d there)
      ∙ due_by_place parts.Thread es (thread_place def past d)
      (ap (λ (xs : List Entry). laid_at (run_script def d parts.Thread) (reverse (filter (is_thread_call d) xs))) (run_began d past going))
