-- What is due of a thread by the table of steps is due by the state.
use Rattle.std.proofs.Common.{◌≡◌, ℕ, ◌+◌, ◌-◌, ◌≤◌, Bool, true, false, not, ◌||◌, ◌&&◌, cond, ltb, Option, Some, None}
use Rattle.std.proofs.Common.{List, [], ◌∷◌, option_map, refl, sym, ap, ap₂, subst, ◌∙◌, arith}
use Rattle.std.proofs.lemmas.Bool.Decides.{nat_tests}
use Rattle.std.specs.List.{list_any}
use Rattle.irq_base.specs.declared.calls.Call.{Call}
use Rattle.irq_base.specs.declared.devices.Answer.{Answer}
use Rattle.irq_base.specs.declared.devices.DeviceDef.{DeviceDef}
use Rattle.irq_base.specs.declared.devices.Part.TheVariants as parts
use Rattle.irq_base.specs.declared.entries.CallEntry.{CallEntry}
use Rattle.irq_base.specs.declared.entries.Entry.{Entry}
use Rattle.irq_base.specs.declared.entries.Entry.TheVariants as by
use Rattle.irq_base.specs.declared.entries.ThreadEntry.TheVariants as threads
use Rattle.irq_base.specs.declared.lines.LineDef.{LineDef}
use Rattle.irq_base.specs.declared.numbers.DevNo.{DevNo}
use Rattle.irq_model.specs.Kinds.{same_dev, is_handled}
use Rattle.irq_model.specs.Legal.{IsLegalPast}
use Rattle.irq_model.specs.Lines.{is_device}
use Rattle.irq_model.specs.Links.{is_oneshot, is_disabled}
use Rattle.irq_model.specs.Masks.{is_masked}
use Rattle.irq_model.specs.Next.{next_of_thread, finish_unmasks, call_or_return, thread_return_of, finish_or_done}
use Rattle.irq_model.specs.Runs.{due_in_run}
use Rattle.irq_model.specs.Rounds.{has_flow}
use Rattle.irq_model.specs.Threads.{is_woken, is_running, is_other_unfinished}
use Rattle.irq_model.specs.Valid.{IsValid, HasDistinctDevices}
use Rattle.irq_model.proofs.Same.{dev_from_same}
use Rattle.irq_laws.proofs.KeptAlways.{kept}
use Rattle.device_table.specs.Rows.{table_by}
use Rattle.device_table.proofs.Tables.{at_device, at_none}
use Rattle.act_thread.specs.Threads.{held_in}
use Rattle.device_table.specs.Sums.{one_if}
use Rattle.device_table.proofs.Weights.{weight_has}
use Rattle.act_thread.specs.declared.rows.ThreadRow.{ThreadRow}
use Rattle.line_marks.specs.Threads.{thread_of, has_returned, has_finished, stage_by}
use Rattle.line_marks.proofs.CallsDue.{step_is}
use Rattle.line_marks.proofs.Known.{no_thread}
use Rattle.line_marks.proofs.RunsAre.{answer_is, served_is, running_open, thread_due_is as due_is}
use Rattle.line_marks.specs.Due.{thread_due, due_of_row, due_at_stage, finish_opens, others_held, call_or_return_by, thread_return_by}
use Rattle.line_marks.specs.Runs.{due_in_run_at}
use Rattle.line_marks.specs.State.{state_of}

-- ---- the bits of the others

none_of : (f : DevNo → ThreadRow) (d : DevNo) (xs : List DeviceDef) → list_any (is_device d) xs ≡ false
    → list_any (λ (x : DeviceDef). not (same_dev d x.dev) && (f x.dev).held) xs ≡ ltb 0 (held_in (table_by f xs))
none_of f d [] h = refl
none_of f d (x ∷ xs) h = by_test (same_dev d x.dev) (f x.dev).held h (none_of f d xs)
  where
    by_test : (b u : Bool) → (b || list_any (is_device d) xs) ≡ false
        → (list_any (is_device d) xs ≡ false → list_any (λ (y : DeviceDef). not (same_dev d y.dev) && (f y.dev).held) xs
        ≡ ltb 0 (held_in (table_by f xs)))
        → ((not b && u) || list_any (λ (y : DeviceDef). not (same_dev d y.dev) && (f y.dev).held) xs) ≡ ltb 0 (one_if u + held_in (table_by f xs))
    by_test true u i rest = cc
    by_test false true i rest = grind (arith, nat_tests)
    by_test false false i rest = rest i ∙ ap (ltb 0) (let e : held_in (table_by f xs) ≡ 0 + held_in (table_by f xs) = omega arith in e)

pub others : (f : DevNo → ThreadRow) (d : DevNo) (xs : List DeviceDef) → HasDistinctDevices xs → list_any (is_device d) xs ≡ true
    → list_any (λ (x : DeviceDef). not (same_dev d x.dev) && (f x.dev).held) xs ≡ ltb 0 (held_in (table_by f xs) - one_if (f d).held)
others f d [] own h = cc
others f d (x ∷ xs) own h = by_test (same_dev d x.dev) refl h (others f d xs own.1)
  where
    others_of : List DeviceDef → Bool
    others_of ys = list_any (λ (y : DeviceDef). not (same_dev d y.dev) && (f y.dev).held) ys

    one_more : (u : Bool) (n : ℕ) → n ≡ (one_if u + n) - one_if u
    one_more true n = omega arith
    one_more false n = omega arith

    joined : (u v : Bool) (n : ℕ) (o : Bool) → one_if u ≤ n → o ≡ ltb 0 (n - one_if u) → (v || o) ≡ ltb 0 ((one_if v + n) - one_if u)
    joined true true n o le h = grind (arith, nat_tests)
    joined true false n o le h = h ∙ ap (ltb 0) (let e : n - 1 ≡ (0 + n) - 1 = omega arith in e)
    joined false true n o le h = grind (arith, nat_tests)
    joined false false n o le h = h ∙ ap (ltb 0) (let e : n - 0 ≡ (0 + n) - 0 = omega arith in e)

    among : (ys : List DeviceDef) → list_any (is_device d) ys ≡ true → one_if (f d).held ≤ held_in (table_by f ys)
    among ys i = weight_has (λ (r : ThreadRow). one_if r.held) (table_by f ys) d (f d) (at_device f ys d i)

    by_test : (b : Bool) → same_dev d x.dev ≡ b → (b || list_any (is_device d) xs) ≡ true
        → (list_any (is_device d) xs ≡ true → others_of xs ≡ ltb 0 (held_in (table_by f xs) - one_if (f d).held))
        → ((not b && (f x.dev).held) || others_of xs) ≡ ltb 0 ((one_if (f x.dev).held + held_in (table_by f xs)) - one_if (f d).held)
    by_test true is i rest =
        let e : d ≡ x.dev = dev_from_same d x.dev is in
        let none : list_any (is_device d) xs ≡ false = subst (λ (y : DevNo). list_any (is_device y) xs ≡ false) (sym e) own.0 in
        none_of f d xs none
        ∙ (ap (ltb 0) (one_more (f d).held (held_in (table_by f xs)))
        ∙ ap (λ (y : DevNo). ltb 0 ((one_if (f y).held + held_in (table_by f xs)) - one_if (f d).held)) e)
    by_test false is i rest = joined (f d).held (f x.dev).held (held_in (table_by f xs)) (others_of xs) (among xs i) (rest i)

-- ---- the rows of the table

oneshot_on : (o : Bool) (x y : Option Entry) → cond (o && true) x y ≡ cond o x y
oneshot_on true x y = refl
oneshot_on false x y = refl

oneshot_done : (o : Bool) (x y : Option Entry) → cond (o && false) x y ≡ y
oneshot_done true x y = refl
oneshot_done false x y = refl

other_held : (def : LineDef) (past : List Entry) (d : DevNo) → IsValid def → list_any (is_device d) def.devices ≡ true
    → is_other_unfinished def past d ≡ others_held (state_of def past) (thread_of past d)
other_held def past d valid there = others (thread_of past) d def.devices valid.distinct there

opens_is : (def : LineDef) (past : List Entry) (d : DevNo) → IsValid def → list_any (is_device d) def.devices ≡ true
    → finish_unmasks def d past ≡ finish_opens (state_of def past) (thread_of past d)
opens_is def past d valid there = ap (λ b. not (is_woken past d) &&
    (not (is_disabled past) && (is_masked def past && not b))) (other_held def past d valid there)

-- a run that hasn't returned makes its next call, or returns
module _ (def : LineDef) (past : List Entry) (valid : IsValid def) (legal : IsLegalPast def past) (d : DevNo)
    (there : list_any (is_device d) def.devices ≡ true) (run : is_running past d ≡ true) (still : has_returned past d ≡ false) where
  return_is : thread_return_of def d past ≡ thread_return_by def (state_of def past) d
  return_is = ap₂ (λ (a : Answer) (n : ℕ). by.Thread d (threads.Return (is_handled a) n)) (sym (answer_is def past d there parts.Thread))
      (sym (served_is def past d there parts.Thread (running_open d past run still)))

  call_or_return_is : (o : Option (Call × ℕ)) → call_or_return def d past o ≡ call_or_return_by def (state_of def past) d o
  call_or_return_is None = ap Some return_is
  call_or_return_is (Some due) = ap (λ (o : Option CallEntry). option_map (by.ThreadCall d) o) (step_is def past valid legal due)

  goes_is : call_or_return def d past (due_in_run def parts.Thread d past)
      ≡ call_or_return_by def (state_of def past) d (due_in_run_at def (state_of def past) parts.Thread d)
  goes_is = call_or_return_is (due_in_run def parts.Thread d past)
      ∙ ap (call_or_return_by def (state_of def past) d) (sym (due_is def past d there still))

by_stage : (def : LineDef) (past : List Entry) (d : DevNo) (r t f : Bool) → IsValid def → IsLegalPast def past
    → list_any (is_device d) def.devices ≡ true → is_running past d ≡ r → has_returned past d ≡ t
    → has_finished past d ≡ f
    → next_of_thread def d past ≡ due_at_stage def (stage_by r t f) (state_of def past) d (thread_of past d)
by_stage def past d false t f valid legal there a b c = rw a refl
by_stage def past d true false f valid legal there a b c = stepped (is_running past d) (has_returned past d) a b ∙ goes_is def past valid legal d there a b
  where
    stepped : (r t : Bool) → r ≡ true → t ≡ false
        → cond (not r) (cond (is_woken past d) (Some (by.Thread d threads.Begin)) None)
        (cond (not t) (call_or_return def d past (due_in_run def parts.Thread d past)) (finish_or_done def d past))
        ≡ call_or_return def d past (due_in_run def parts.Thread d past)
    stepped true false h i = refl
    stepped true true h i = cc
    stepped false t h i = cc
by_stage def past d true true true valid legal there a b c = rw (a, b, c) (oneshot_done (is_oneshot past) _ _)
by_stage def past d true true false valid legal there a b c =
    rw (a, b, c)
    (oneshot_on (is_oneshot past) (cond (has_flow def past) None
    (Some (by.Thread d (threads.Finish (is_woken past d) (finish_unmasks def d past))))) (Some (by.Thread d threads.Done))
    ∙ ap (λ u. cond (is_oneshot past) (cond (has_flow def past) None (Some (by.Thread d (threads.Finish (is_woken past d) u))))
    (Some (by.Thread d threads.Done))) (opens_is def past d valid there))

pub thread_due_is : (def : LineDef) (past : List Entry) (d : DevNo) → IsValid def → IsLegalPast def past
    → next_of_thread def d past ≡ thread_due def (state_of def past) d
thread_due_is def past d valid legal = by_test (list_any (is_device d) def.devices) refl
  where
    by_test : (b : Bool) → list_any (is_device d) def.devices ≡ b → next_of_thread def d past ≡ thread_due def (state_of def past) d
    by_test false gone =
        let rest = no_thread def past d (kept def past valid legal) gone in
        idle (is_running past d) (is_woken past d) rest.0 rest.1 ∙ ap (due_of_row def (state_of def past) d) (sym (at_none (thread_of past) def.devices d gone))
      where
        idle : (r w : Bool) → r ≡ false → w ≡ false
            → cond (not r) (cond w (Some (by.Thread d threads.Begin)) None)
            (cond (not (has_returned past d)) (call_or_return def d past (due_in_run def parts.Thread d past)) (finish_or_done def d past)) ≡ None
        idle false false h i = refl
        idle false true h i = cc
        idle true w h i = cc
    by_test true there =
        by_stage def past d (is_running past d) (has_returned past d) (has_finished past d) valid legal there refl refl refl
        ∙ ap (due_of_row def (state_of def past) d) (sym (at_device (thread_of past) def.devices d there))
