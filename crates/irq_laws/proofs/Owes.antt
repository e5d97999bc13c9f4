-- Which devices owe an enable, of a line whose handlers leave the enable to their threads: a handler of
-- the device disabled the line in this round, and the thread hasn't enabled it since.
use Rattle.std.proofs.Common.{◌≡◌, ℕ, zero, suc, ◌+◌, ◌≤◌, ◌==◌, ◌⊎◌, inl, inr, Bool, true, false, not, ◌||◌, ◌&&◌, cond, Option, Some, None}
use Rattle.std.proofs.Common.{List, [], ◌∷◌, ◌++◌, filter, reverse, length, drop, nat_lt, slice_get, refl, sym, ap, ◌∙◌, subst, arith}
use Rattle.std.specs.List.{list_any}
use Rattle.std.proofs.lemmas.Grind.{reverse_onto}
use Rattle.std.proofs.lemmas.Bool.{and_parts, and_from, or_cases, or_left, or_right, not-true}
use Rattle.irq_base.specs.declared.numbers.CpuNo.{CpuNo}
use Rattle.irq_base.specs.declared.numbers.DevNo.{DevNo}
use Rattle.irq_base.specs.declared.calls.Call.{Call}
use Rattle.irq_base.specs.declared.devices.Answer.TheVariants as answers
use Rattle.irq_base.specs.declared.devices.Kind.{Kind}
use Rattle.irq_base.specs.declared.devices.Kind.TheVariants as kinds
use Rattle.irq_base.specs.declared.devices.Part.TheVariants as parts
use Rattle.irq_base.specs.declared.devices.ToldAnswer.{ToldAnswer}
use Rattle.irq_base.specs.declared.devices.ToldAnswer.TheVariants as tolds
use Rattle.irq_base.specs.declared.lines.LineDef.{LineDef}
use Rattle.irq_base.specs.declared.entries.Actor.TheVariants as actors
use Rattle.irq_base.specs.declared.entries.Entry.{Entry}
use Rattle.irq_base.specs.declared.entries.Entry.TheVariants as by
use Rattle.irq_base.specs.declared.entries.CpuEntry.TheVariants as cpus
use Rattle.irq_base.specs.declared.entries.ThreadEntry.{ThreadEntry}
use Rattle.irq_base.specs.declared.entries.ThreadEntry.TheVariants as threads
use Rattle.irq_base.specs.declared.entries.CallEntry.{CallEntry}
use Rattle.irq_base.specs.Handlers.{answer_of, answer_of_told}
use Rattle.irq_model.specs.Places.{since, before, count_of}
use Rattle.irq_model.specs.Kinds.{same_dev, is_begin, is_begin_or_return, is_cpu_call, is_thread_call, is_thread_begin, disables, is_wake, wakes}
use Rattle.irq_model.specs.Lines.{kind_of, run_script, told_answers}
use Rattle.irq_model.specs.Rounds.{has_begun, begins_round, at_work}
use Rattle.irq_model.specs.Threads.{is_woken, is_running}
use Rattle.irq_model.specs.Due.{due_of, entries_of_call}
use Rattle.irq_model.specs.Runs.{due_in_run, entries_of_run, makes_calls, answer_of_run_now, is_recognised, met_by, told_of}
use Rattle.irq_model.specs.RunLaws.{is_disabling, is_enabling, always_wakes, leaves_to_thread, is_in_run, EnablesWhatItDisables}
use Rattle.irq_model.specs.Legal.{IsDue, IsLegalPast}
use Rattle.irq_model.proofs.Same.{same_self, same_self_cpu, dev_from_same}
use Rattle.irq_laws.proofs.Progress.{same_call, due_at}
use Rattle.irq_laws.specs.Kept.{KeepsRuns}
use Rattle.irq_laws.proofs.Chosen.{the_same}
use Rattle.irq_laws.proofs.Lists.{both_ways}
use Rattle.irq_laws.proofs.FreesKept.{begun_is_linked}
use Rattle.irq_laws.proofs.ImpliesFlow.{begin_due, return_due, end_due, handler_call_due}
use Rattle.irq_laws.proofs.ImpliesDriver.{due_at_work, due_in_thread}
use Rattle.irq_laws.proofs.ImpliesThread.{has_returned, thread_begin_due, thread_return_due, finish_due, done_due, thread_call_due}
use Rattle.irq_laws.proofs.ScriptLaws.{runs_past}
use Rattle.irq_laws.proofs.TakeLaws.{one_if}
use Rattle.irq_laws.proofs.ToCome.{to_come, none_begun, come_more, come_below, come_done, enables, entry_marks}

abbrev pub is_cpu_disable : Entry → Bool
is_cpu_disable (by.CpuCall cpu call) = disables call
is_cpu_disable _ = false

abbrev pub is_thread_enable : DevNo → Entry → Bool
is_thread_enable d (by.ThreadCall dev call) = same_dev d dev && enables call
is_thread_enable d _ = false

abbrev pub is_dev : DevNo → Option DevNo → Bool
is_dev d None = false
is_dev d (Some x) = same_dev d x

-- d owes an enable
abbrev pub owes_enable : LineDef → List Entry → DevNo → Bool
owes_enable def [] d = false
owes_enable def (e ∷ past) d = not (begins_round def e)
    && ((is_cpu_disable e && is_dev d (at_work past)) || (not (is_thread_enable d e) && owes_enable def past d))

-- ---- a handler that recognises its device wakes its thread

some_told : (p : ToldAnswer → Bool) (xs : List ToldAnswer) (i : ℕ) (x : ToldAnswer) → slice_get xs i ≡ Some x → p x ≡ true → list_any p xs ≡ true
some_told p [] i x h passes = cc
some_told p (y ∷ ys) zero x h passes = or_left (p y) _ (subst (λ (z : ToldAnswer). p z ≡ true) (sym (the_same y x h)) passes)
some_told p (y ∷ ys) (suc i) x h passes = or_right (p y) _ (some_told p ys i x h passes)

told_wakes : (xs : List ToldAnswer) (i : ℕ) (o : Option ToldAnswer) → slice_get xs i ≡ o → list_any (λ a. not (leaves_to_thread a)) xs ≡ false
    → is_recognised (answer_of_told o) ≡ true → is_wake (answer_of_told o) ≡ true
told_wakes xs i None is none h = cc
told_wakes xs i (Some tolds.Wake) is none h = refl
told_wakes xs i (Some tolds.Nothing) is none h = cc
told_wakes xs i (Some tolds.Handled) is none h =
    both_ways (list_any (λ a. not (leaves_to_thread a)) xs) (some_told (λ a. not (leaves_to_thread a)) xs i tolds.Handled is refl) none
told_wakes xs i (Some tolds.Claims) is none h =
    both_ways (list_any (λ a. not (leaves_to_thread a)) xs) (some_told (λ a. not (leaves_to_thread a)) xs i tolds.Claims is refl) none

kind_wakes : (def : LineDef) (d : DevNo) (past : List Entry) (kind : Kind) → always_wakes def d kind ≡ true
    → is_recognised (answer_of kind parts.Primary (met_by def parts.Primary d past) (told_of def parts.Primary d past)) ≡ true
    → is_wake (answer_of kind parts.Primary (met_by def parts.Primary d past) (told_of def parts.Primary d past)) ≡ true
kind_wakes def d past kinds.Check always h = by_test (nat_lt 0 (met_by def parts.Primary d past)) h
  where
    by_test : (b : Bool) → is_recognised (cond b answers.Wake answers.Nothing) ≡ true → is_wake (cond b answers.Wake answers.Nothing) ≡ true
    by_test true h = refl
    by_test false h = cc
kind_wakes def d past (kinds.Told threaded) always h =
    let p = and_parts threaded _ always in
    told_wakes (told_answers def d parts.Primary) _ (told_of def parts.Primary d past) refl
    (not-true (list_any (λ a. not (leaves_to_thread a)) (told_answers def d parts.Primary)) p.1) h
kind_wakes def d past kinds.Direct always h = cc
kind_wakes def d past kinds.Null always h = cc
kind_wakes def d past kinds.Stuck always h = cc
kind_wakes def d past kinds.Odd always h = cc

-- ---- what such a device keeps

-- its handler is at work past its disable, or its thread is to run, or is in a run with the enable to come
pub data IsOwing (def : LineDef) (past : List Entry) (d : DevNo) : Type 0 where
  by_handler : at_work past ≡ Some d → IsOwing def past d
  by_wake : is_woken past d ≡ true → IsOwing def past d
  by_run : is_in_run past d ≡ true → 1 ≤ to_come is_enabling (run_script def d parts.Thread) (entries_of_run parts.Thread d past)
      → IsOwing def past d

pub record KeepsOwing (def : LineDef) (past : List Entry) (d : DevNo) : Type 0 where
  pub begun : has_begun def past d ≡ true
  pub disables_once : list_any is_disabling (run_script def d parts.Primary) ≡ true
  pub spent : at_work past ≡ Some d → to_come is_disabling (run_script def d parts.Primary) (entries_of_run parts.Primary d past) ≡ 0
  pub recognised : at_work past ≡ Some d → makes_calls def parts.Primary d past ≡ true
  pub owing : IsOwing def past d

-- a due call is one of the script
due_any : (q : Call → Bool) (cs : List Call) (es : List Entry) (c : Call) (n : ℕ) → due_of cs es ≡ Some (c, n) → q c ≡ true → list_any q cs ≡ true
due_any q [] es c n h passes = cc
due_any q (x ∷ cs) es c n h passes = by_test (nat_lt (length es) (entries_of_call x es)) h (λ g. due_any q cs (drop (entries_of_call x es) es) c n g passes)
  where
    by_test : (b : Bool) → cond b (due_at x (length es)) (due_of cs (drop (entries_of_call x es) es)) ≡ Some (c, n)
        → (due_of cs (drop (entries_of_call x es) es) ≡ Some (c, n) → list_any q cs ≡ true) → (q x || list_any q cs) ≡ true
    by_test true h deeper = or_left (q x) _ (subst (λ (y : Call). q y ≡ true) (sym (same_call x c (length es) n h).0) passes)
    by_test false h deeper = or_right (q x) _ (deeper h)

is_the_dev : (d : DevNo) (o : Option DevNo) → is_dev d o ≡ true → o ≡ Some d
is_the_dev d None h = cc
is_the_dev d (Some x) h = ap Some (sym (dev_from_same d x h))

recognised_by : (def : LineDef) (past : List Entry) (d : DevNo) (due : Call × ℕ) → due_in_run def parts.Primary d past ≡ Some due
    → (makes_calls def parts.Primary d past ≡ true) × (due_of (run_script def d parts.Primary) (entries_of_run parts.Primary d past) ≡ Some due)
recognised_by def past d due h = by_test (makes_calls def parts.Primary d past) h
  where
    by_test : (b : Bool) → cond b (due_of (run_script def d parts.Primary) (entries_of_run parts.Primary d past)) None ≡ Some due
        → (b ≡ true) × (due_of (run_script def d parts.Primary) (entries_of_run parts.Primary d past) ≡ Some due)
    by_test true h = (refl, h)
    by_test false h = cc

-- the entries of the handler at work, with one call's step more
handler_entries : (d : DevNo) (c : CpuNo) (call : CallEntry) (past : List Entry)
    → entries_of_run parts.Primary d (by.CpuCall c call ∷ past) ≡ entries_of_run parts.Primary d past ++ by.CpuCall c call ∷ []
handler_entries d c call past = reverse_onto (filter is_cpu_call (since is_begin_or_return past)) (by.CpuCall c call) []

-- the due call of the handler at work
pub record InHandler (def : LineDef) (c : CpuNo) (call : CallEntry) (past : List Entry) (d : DevNo) : Type 0 where
  pub due : Call × ℕ
  pub makes : makes_calls def parts.Primary d past ≡ true
  pub is_due : due_of (run_script def d parts.Primary) (entries_of_run parts.Primary d past) ≡ Some due
  pub marks : disables call ≡ (is_disabling due.0 && (due.1 == 0))

in_handler : (def : LineDef) (c : CpuNo) (call : CallEntry) (past : List Entry) (d : DevNo) → IsDue def (by.CpuCall c call) past → at_work past ≡ Some d
    → InHandler def c call past d
in_handler def c call past d due w =
    let u = handler_call_due def c call past due in
    let same : d ≡ u.dev = the_same d u.dev (sym w ∙ u.is_at_work) in
    let in_run : due_in_run def parts.Primary d past ≡ Some u.due
    = subst (λ (x : DevNo). due_in_run def parts.Primary x past ≡ Some u.due) (sym same) u.is_due in
    let r = recognised_by def past d u.due in_run in
    let m = entry_marks def (actors.Cpu c) (by.CpuCall c call) past u.due due (same_self_cpu c) (due_at_work def c d past u.of_flow w ∙ in_run) in
    record { due = u.due; makes = r.0; is_due = r.1; marks = m.0 }

-- what is to come in the handler's script, after one call's step more
handler_come : (def : LineDef) (c : CpuNo) (call : CallEntry) (past : List Entry) (d : DevNo) → InHandler def c call past d
    → to_come is_disabling (run_script def d parts.Primary) (entries_of_run parts.Primary d past)
    ≡ to_come is_disabling (run_script def d parts.Primary) (entries_of_run parts.Primary d (by.CpuCall c call ∷ past)) + one_if (disables call)
handler_come def c call past d i =
    let more = come_more is_disabling (run_script def d parts.Primary) (entries_of_run parts.Primary d past) (by.CpuCall c call) i.due.0 i.due.1 i.is_due in
    let mark = ap one_if i.marks in
    let same = ap (to_come is_disabling (run_script def d parts.Primary)) (handler_entries d c call past) in
    omega (arith, more, mark, same)

module _ (def : LineDef) (rules : EnablesWhatItDisables def) where
  -- a handler disables the line
  owes_now : (c : CpuNo) (call : CallEntry) (past : List Entry) (d : DevNo) → IsDue def (by.CpuCall c call) past → KeepsRuns def past
      → disables call ≡ true → at_work past ≡ Some d → KeepsOwing def (by.CpuCall c call ∷ past) d
  owes_now c call past d due runs is w =
      let i = in_handler def c call past d due w in
      let begins_call = and_parts (is_disabling i.due.0) (i.due.1 == 0) (sym i.marks ∙ is) in
      let once = due_any is_disabling (run_script def d parts.Primary) (entries_of_run parts.Primary d past) i.due.0 i.due.1 i.is_due begins_call.0 in
      let one : count_of is_disabling (run_script def d parts.Primary) ≡ 1 = (rules.handlers d once).1 in
      let most = come_below is_disabling (run_script def d parts.Primary) (entries_of_run parts.Primary d past) in
      let come = handler_come def c call past d i in
      let mark : one_if (disables call) ≡ 1 = ap one_if is in
      record {
        begun = (runs.working d w).2;
        disables_once = once;
        spent = λ at. omega (arith, one, most, come, mark);
        recognised = λ at. i.makes;
        owing = by_handler w;
      }

  -- a device that owed an enable already hasn't its disable to come
  pub not_twice : (c : CpuNo) (call : CallEntry) (past : List Entry) (d : DevNo) → IsDue def (by.CpuCall c call) past
      → disables call ≡ true → at_work past ≡ Some d → KeepsOwing def past d → ⊥
  not_twice c call past d due is w k =
      let come = handler_come def c call past d (in_handler def c call past d due w) in
      let mark : one_if (disables call) ≡ 1 = ap one_if is in
      let none = k.spent w in
      omega (arith, come, mark, none)

  -- ---- any other entry of the round

  work_before : (e : Entry) (past : List Entry) (d : DevNo) → IsDue def e past → has_begun def past d ≡ true → at_work (e ∷ past) ≡ Some d
      → (at_work past ≡ Some d) × (is_begin d e ≡ false)
  work_before (by.Cpu c (cpus.Begin x)) past d due begun h =
      let fresh = (begun_is_linked def past x (begin_due def c x past due).first).1 in
      both_ways (has_begun def past x) (subst (λ (y : DevNo). has_begun def past y ≡ true) (sym (the_same x d h)) begun) fresh
  work_before (by.Cpu c (cpus.Return answer x served)) past d due begun h = cc
  work_before e past d due begun h = (h, refl)

  makes_same : (e : Entry) (past : List Entry) (d : DevNo) → is_begin d e ≡ false
      → makes_calls def parts.Primary d (e ∷ past) ≡ makes_calls def parts.Primary d past
  makes_same e past d h = rw h refl

  still_spent : (e : Entry) (past : List Entry) (d : DevNo) → IsDue def e past → at_work past ≡ Some d → at_work (e ∷ past) ≡ Some d → is_begin d e ≡ false
      → to_come is_disabling (run_script def d parts.Primary) (entries_of_run parts.Primary d past) ≡ 0
      → to_come is_disabling (run_script def d parts.Primary) (entries_of_run parts.Primary d (e ∷ past)) ≡ 0
  still_spent (by.CpuCall c call) past d due w at no_begin none =
      let come = handler_come def c call past d (in_handler def c call past d due w) in
      omega (arith, come, none)
  still_spent (by.Cpu c (cpus.Begin x)) past d due w at no_begin none = let n = (begin_due def c x past due).none_at_work in cc
  still_spent (by.Cpu c (cpus.Return answer x served)) past d due w at no_begin none = cc
  still_spent e past d due w at no_begin none = none

  handler_owes : (e : Entry) (past : List Entry) (d : DevNo) → IsDue def e past → KeepsOwing def past d → at_work past ≡ Some d → IsOwing def (e ∷ past) d
  handler_owes (by.Cpu c (cpus.Return answer x served)) past d due k w =
      let u = return_due def c x answer served past due in
      let same : d ≡ x = the_same d x (sym w ∙ u.is_at_work) in
      let here : answer ≡ answer_of_run_now def parts.Primary d past = u.answer_is
      ∙ ap (λ (y : DevNo). answer_of_run_now def parts.Primary y past) (sym same) in
      let wakes_it : is_wake (answer_of_run_now def parts.Primary d past) ≡ true =
      kind_wakes def d past (kind_of def d) (rules.handlers d k.disables_once).0 (k.recognised w) in
      by_wake (or_left _ _ (and_from _ _ (subst (λ (y : DevNo). same_dev d y ≡ true) same (same_self d)) (ap is_wake here ∙ wakes_it)))
  handler_owes (by.Cpu c (cpus.Begin x)) past d due k w = let n = (begin_due def c x past due).none_at_work in cc
  handler_owes (by.Cpu c (cpus.End again unmask note)) past d due k w = let n = (end_due def c again unmask note past due).none_at_work in cc
  handler_owes e past d due k w = by_handler w

  wake_owes : (e : Entry) (past : List Entry) (d : DevNo) → IsDue def e past → KeepsOwing def past d → is_woken past d ≡ true → IsOwing def (e ∷ past) d
  wake_owes (by.Thread x threads.Begin) past d due k t = by_test (same_dev d x) refl
    where
      by_test : (b : Bool) → same_dev d x ≡ b → IsOwing def (by.Thread x threads.Begin ∷ past) d
      by_test false other = by_wake (rw other t)
      by_test true same =
          let one : count_of is_enabling (run_script def d parts.Thread) ≡ 1 = (rules.handlers d k.disables_once).2 in
          let fresh = none_begun is_enabling (run_script def d parts.Thread) in
          let entries : entries_of_run parts.Thread d (by.Thread x threads.Begin ∷ past) ≡ [] =
          ap (λ (b : Bool). reverse (filter (is_thread_call d) (cond b [] (by.Thread x threads.Begin ∷ since (is_thread_begin d) past)))) same in
          let all = ap (to_come is_enabling (run_script def d parts.Thread)) entries in
          by_run (rw same refl) (omega (arith, one, fresh, all))
  wake_owes e past d due k t = by_wake (or_right (wakes d e) _ t)

  in_run_parts : (r t : Bool) → (r && not t) ≡ true → (r ≡ true) × (t ≡ false)
  in_run_parts true false h = (refl, refl)
  in_run_parts true true h = cc
  in_run_parts false t h = cc

  abbrev Comes : DevNo → List Entry → Type 0
  Comes d past = 1 ≤ to_come is_enabling (run_script def d parts.Thread) (entries_of_run parts.Thread d past)

  own_thread : (t : ThreadEntry) (past : List Entry) (d : DevNo) → IsDue def (by.Thread d t) past → is_in_run past d ≡ true → Comes d past
      → IsOwing def (by.Thread d t ∷ past) d
  own_thread threads.Begin past d due r l = both_ways (is_running past d) (in_run_parts _ _ r).0 (thread_begin_due def d past due).not_running
  own_thread (threads.Return handled served) past d due r l =
      let none = come_done is_enabling (run_script def d parts.Thread) (entries_of_run parts.Thread d past)
      (thread_return_due def d handled served past due).no_call in
      absurd (omega (arith, none, l))
  own_thread (threads.Finish kept unmask) past d due r l
      = both_ways (has_returned past d) (finish_due def d kept unmask past due).returned (in_run_parts _ _ r).1
  own_thread threads.Done past d due r l = both_ways (has_returned past d) (done_due def d past due).returned (in_run_parts _ _ r).1

  other_thread : (t : ThreadEntry) (past : List Entry) (d x : DevNo) → same_dev d x ≡ false → is_in_run past d ≡ true → Comes d past
      → IsOwing def (by.Thread x t ∷ past) d
  other_thread threads.Begin past d x other r l = by_run (rw other r) (rw other l)
  other_thread (threads.Return handled served) past d x other r l = by_run (rw other r) l'
    where
      l' : Comes d (by.Thread x (threads.Return handled served) ∷ past)
      l' = l
  other_thread (threads.Finish kept unmask) past d x other r l = by_run r l
  other_thread threads.Done past d x other r l = by_run (rw other r) l'
    where
      l' : Comes d (by.Thread x threads.Done ∷ past)
      l' = l

  thread_call_owes : (call : CallEntry) (past : List Entry) (d x : DevNo) (b : Bool) → same_dev d x ≡ b → IsDue def (by.ThreadCall x call) past
      → (same_dev d x && enables call) ≡ false → is_in_run past d ≡ true → Comes d past → IsOwing def (by.ThreadCall x call ∷ past) d
  thread_call_owes call past d x false other due no_enable r l = by_run r (rw other l)
  thread_call_owes call past d x true same due no_enable r l =
      let equal = dev_from_same d x same in
      let u = thread_call_due def x call past due in
      let at : due_of (run_script def d parts.Thread) (entries_of_run parts.Thread d past) ≡ Some u.due =
      subst (λ (y : DevNo). due_of (run_script def y parts.Thread) (entries_of_run parts.Thread y past) ≡ Some u.due) (sym equal) u.is_due in
      let m = entry_marks def (actors.Thread x) (by.ThreadCall x call) past u.due due (same_self x)
      (due_in_thread def x past u.running u.not_returned ∙ u.is_due) in
      let none : enables call ≡ false = ap (λ (b : Bool). b && enables call) (sym same) ∙ no_enable in
      let mark = ap one_if (sym m.1 ∙ none) in
      let more = come_more is_enabling (run_script def d parts.Thread) (entries_of_run parts.Thread d past) (by.ThreadCall x call) u.due.0 u.due.1 at in
      let own : List Entry = filter (is_thread_call d) (since (is_thread_begin d) past) in
      let entries : entries_of_run parts.Thread d (by.ThreadCall x call ∷ past) ≡ entries_of_run parts.Thread d past ++ by.ThreadCall x call ∷ [] =
      ap (λ (b : Bool). reverse (cond b (by.ThreadCall x call ∷ own) own)) same ∙ reverse_onto own (by.ThreadCall x call) [] in
      let all = ap (to_come is_enabling (run_script def d parts.Thread)) entries in
      by_run r (omega (arith, l, mark, more, all))

  run_owes : (e : Entry) (past : List Entry) (d : DevNo) → IsDue def e past → is_thread_enable d e ≡ false → is_in_run past d ≡ true → Comes d past
      → IsOwing def (e ∷ past) d
  run_owes (by.Thread x t) past d due no_enable r l = by_test (same_dev d x) refl
    where
      by_test : (b : Bool) → same_dev d x ≡ b → IsOwing def (by.Thread x t ∷ past) d
      by_test false other = other_thread t past d x other r l
      by_test true same =
          let equal = dev_from_same d x same in
          own_thread_at x equal due r l
        where
          own_thread_at : (x : DevNo) → d ≡ x → IsDue def (by.Thread x t) past → is_in_run past d ≡ true → Comes d past → IsOwing def (by.Thread x t ∷ past) d
          own_thread_at x is due r l = subst (λ (y : DevNo). IsDue def (by.Thread y t) past
              → IsOwing def (by.Thread y t ∷ past) d) is (λ q. own_thread t past d q r l) due
  run_owes (by.ThreadCall x call) past d due no_enable r l = thread_call_owes call past d x (same_dev d x) refl due no_enable r l
  run_owes e past d due no_enable r l = by_run r l

  owes_later : (e : Entry) (past : List Entry) (d : DevNo) → IsDue def e past → begins_round def e ≡ false → is_thread_enable d e ≡ false
      → KeepsOwing def past d → KeepsOwing def (e ∷ past) d
  owes_later e past d due no_round no_enable k =
      record {
        begun = ap (λ (b : Bool). list_any (is_begin d) (cond b [] (e ∷ since (begins_round def) past))) no_round ∙ or_right (is_begin d e) _ k.begun;
        disables_once = k.disables_once;
        spent = λ at. (let w = work_before e past d due k.begun at in still_spent e past d due w.0 at w.1 (k.spent w.0));
        recognised = λ at. (let w = work_before e past d due k.begun at in makes_same e past d w.1 ∙ k.recognised w.0);
        owing = by_owing k.owing;
      }
    where
      by_owing : IsOwing def past d → IsOwing def (e ∷ past) d
      by_owing (by_handler w) = handler_owes e past d due k w
      by_owing (by_wake t) = wake_owes e past d due k t
      by_owing (by_run r l) = run_owes e past d due no_enable r l

  disables_at : (e : Entry) (past : List Entry) (d : DevNo) → IsDue def e past → KeepsRuns def past → is_cpu_disable e ≡ true → at_work past ≡ Some d
      → KeepsOwing def (e ∷ past) d
  disables_at (by.CpuCall c call) past d due runs is w = owes_now c call past d due runs is w
  disables_at e past d due runs is w = cc

  -- what a device keeps that owes an enable
  pub owing_kept : (past : List Entry) → IsLegalPast def past → (d : DevNo) → owes_enable def past d ≡ true → KeepsOwing def past d
  owing_kept [] legal d h = cc
  owing_kept (e ∷ past) legal d h = by_case (or_cases (is_cpu_disable e && is_dev d (at_work past)) _ p.1) (owing_kept past legal.1 d)
    where
      p : (not (begins_round def e) ≡ true) × (((is_cpu_disable e && is_dev d (at_work past)) || (not (is_thread_enable d e) && owes_enable def past d)) ≡ true)
      p = and_parts (not (begins_round def e)) _ h

      by_case : ((is_cpu_disable e && is_dev d (at_work past)) ≡ true) ⊎ ((not (is_thread_enable d e) && owes_enable def past d) ≡ true)
          → (owes_enable def past d ≡ true → KeepsOwing def past d) → KeepsOwing def (e ∷ past) d
      by_case (inl now) deeper =
          let q = and_parts (is_cpu_disable e) (is_dev d (at_work past)) now in
          disables_at e past d legal.0 (runs_past def past legal.1) q.0 (is_the_dev d (at_work past) q.1)
      by_case (inr before) deeper =
          let q = and_parts (not (is_thread_enable d e)) (owes_enable def past d) before in
          owes_later e past d legal.0 (not-true (begins_round def e) p.0) (not-true (is_thread_enable d e) q.0) (deeper q.1)
