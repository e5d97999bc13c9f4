-- What the threads that enable their line still owe: the disables of their handlers, and what drivers
-- woke, bound it.
use Rattle.std.proofs.Common.{◌≡◌, ◌⊎◌, inl, inr, ℕ, ◌+◌, ◌≤◌, Bool, true, false, not, ◌||◌, ◌&&◌, cond, List, [], ◌∷◌}
use Rattle.std.proofs.Common.{◌++◌, filter, refl, sym, ap, ◌∙◌, subst, arith}
use Rattle.std.proofs.lemmas.Bool.{and_parts, or_parts, or_cases, false_from_ne_true}
use Rattle.std.specs.List.{list_any}
use Rattle.irq_base.specs.declared.numbers.CpuNo.{CpuNo}
use Rattle.irq_base.specs.declared.numbers.DevNo.{DevNo}
use Rattle.irq_base.specs.declared.numbers.DriverNo.{DriverNo}
use Rattle.irq_base.specs.declared.calls.Call.{Call}
use Rattle.irq_base.specs.declared.calls.Call.TheVariants as calls
use Rattle.irq_base.specs.declared.devices.DeviceDef.{DeviceDef}
use Rattle.irq_base.specs.declared.devices.Answer.{Answer}
use Rattle.irq_base.specs.declared.devices.Answer.TheVariants as answers
use Rattle.irq_base.specs.declared.devices.Part.TheVariants as parts
use Rattle.irq_base.specs.declared.lines.LineDef.{LineDef}
use Rattle.irq_base.specs.declared.entries.Entry.{Entry}
use Rattle.irq_base.specs.declared.entries.Entry.TheVariants as by
use Rattle.irq_base.specs.declared.entries.CpuEntry.TheVariants as cpus
use Rattle.irq_base.specs.declared.entries.ThreadEntry.TheVariants as threads
use Rattle.irq_base.specs.declared.entries.DriverEntry.TheVariants as drivers
use Rattle.irq_base.specs.declared.entries.CallEntry.{CallEntry}
use Rattle.irq_base.specs.declared.entries.CallEntry.TheVariants as called
use Rattle.irq_base.specs.declared.entries.UnlinkAnswer.TheVariants as unlinks
use Rattle.irq_model.specs.Places.{since, count_of}
use Rattle.irq_model.specs.Kinds.{same_dev, is_begin_or_return, is_wake, wakes_by_call, disables, is_disable, is_thread_begin, is_thread_return}
use Rattle.irq_model.specs.Kinds.{is_cpu_call, is_thread_call, opened_by_call, is_lowering_opened}
use Rattle.irq_model.specs.Lines.{is_device, run_script}
use Rattle.irq_model.specs.Links.{is_lowering}
use Rattle.irq_model.specs.Threads.{is_woken, is_running}
use Rattle.irq_model.specs.Reason.{is_called}
use Rattle.irq_model.specs.Runs.{makes_calls, is_recognised, entries_of_run}
use Rattle.irq_model.specs.RunLaws.{calls_of_run, is_in_run, is_enabling}
use Rattle.irq_model.specs.RunBounds.{is_nosync, EnablesOnlyItsOwn}
use Rattle.irq_model.specs.Scripts.{MakesSteps, MakesAll, MakesAllOf, steps_in, step_in}
use Rattle.irq_model.specs.Legal.{IsDue, IsLegalPast}
use Rattle.irq_model.specs.Valid.{IsValid, HasDistinctDevices}
use Rattle.irq_model.specs.ValidRuns.{HasValidRuns}
use Rattle.irq_model.proofs.Same.{same_self, same_both, dev_from_same}
use Rattle.irq_laws.proofs.Chosen.{the_same}
use Rattle.irq_laws.proofs.Lists.{both_ways}
use Rattle.irq_laws.proofs.ScriptLaws.{runs_past}
use Rattle.irq_laws.proofs.ToCome.{enables}
use Rattle.irq_laws.proofs.ImpliesFlow.{return_due, handler_call_due}
use Rattle.irq_laws.proofs.ImpliesThread.{has_returned, thread_there, thread_call_due}
use Rattle.irq_storms.specs.Judged.{one_if}
use Rattle.irq_storms.specs.Tests.{total}
use Rattle.irq_storms.proofs.Counting.{count_total, total_le}
use Rattle.irq_storms.proofs.CallCosts.{runs_cost}
use Rattle.irq_storms.proofs.HandlerRuns.{made_most as handler_most}
use Rattle.irq_storms.proofs.ThreadRuns.{made_most as thread_most, in_run_before}
use Rattle.irq_storms.proofs.ThreadCounts.{begin_tells}
use Rattle.irq_storms.proofs.Within.{any_back}
use Rattle.irq_storms.proofs.Meeting.{run_made}
use Rattle.irq_storms.proofs.LongBound.{thread_wakes_none}
use Rattle.irq_storms.proofs.ToldWakes.{handler_wakes_none, no_thread_wake}

-- ---- sums over the devices of a line

-- one that is more by one at one device
devices_more : (f g : DevNo → ℕ) (x : DevNo) (xs : List DeviceDef) → HasDistinctDevices xs → f x ≤ g x + 1
    → ((d : DevNo) → same_dev d x ≡ false → f d ≤ g d) → total (λ y. f y.dev) xs ≤ total (λ y. g y.dev) xs + 1
devices_more f g x [] apart here others = omega arith
devices_more f g x (y ∷ ys) apart here others = by_test (same_dev y.dev x) refl (devices_more f g x ys apart.1 here others)
  where
    rest_most : (zs : List DeviceDef) → list_any (is_device y.dev) zs ≡ false → same_dev y.dev x ≡ true → total (λ y. f y.dev) zs ≤ total (λ y. g y.dev) zs
    rest_most [] none same = omega arith
    rest_most (z ∷ zs) none same =
        let p = or_parts (is_device y.dev z) (list_any (is_device y.dev) zs) none in
        let r = rest_most zs p.1 same in
        let o = others z.dev (same_both z.dev x ∙ ap (λ (w : DevNo). same_dev w z.dev) (sym (dev_from_same y.dev x same)) ∙ p.0) in
        omega (arith, r, o)

    by_test : (b : Bool) → same_dev y.dev x ≡ b → total (λ y. f y.dev) ys ≤ total (λ y. g y.dev) ys + 1
        → f y.dev + total (λ y. f y.dev) ys ≤ (g y.dev + total (λ y. g y.dev) ys) + 1
    by_test true same deeper =
        let h = subst (λ (w : DevNo). f w ≤ g w + 1) (sym (dev_from_same y.dev x same)) here in
        let r = rest_most ys apart.0 same in
        omega (arith, h, r)
    by_test false other deeper = let o = others y.dev other in omega (arith, o, deeper)

-- one that is less by one at a device of the line
devices_less : (f g : DevNo → ℕ) (x : DevNo) (xs : List DeviceDef) → list_any (is_device x) xs ≡ true → f x + 1 ≤ g x
    → ((d : DevNo) → same_dev d x ≡ false → f d ≤ g d) → total (λ y. f y.dev) xs + 1 ≤ total (λ y. g y.dev) xs
devices_less f g x [] there here others = cc
devices_less f g x (y ∷ ys) there here others = by_test (is_device x y) refl there (λ t. devices_less f g x ys t here others)
  where
    most : (d : DevNo) → f d ≤ g d
    most d = by_same (same_dev d x) refl
      where
        by_same : (b : Bool) → same_dev d x ≡ b → f d ≤ g d
        by_same true same = let h = subst (λ (w : DevNo). f w + 1 ≤ g w) (sym (dev_from_same d x same)) here in omega (arith, h)
        by_same false other = others d other

    by_test : (b : Bool) → is_device x y ≡ b → (b || list_any (is_device x) ys) ≡ true
        → (list_any (is_device x) ys ≡ true → total (λ y. f y.dev) ys + 1 ≤ total (λ y. g y.dev) ys)
        → (f y.dev + total (λ y. f y.dev) ys) + 1 ≤ g y.dev + total (λ y. g y.dev) ys
    by_test true same t deeper =
        let h = subst (λ (w : DevNo). f w + 1 ≤ g w) (dev_from_same x y.dev same) here in
        let r = total_le (λ (y : DeviceDef). f y.dev) (λ (y : DeviceDef). g y.dev) ys (λ y. most y.dev) in
        omega (arith, h, r)
    by_test false other t deeper = let m = most y.dev in let r = deeper t in omega (arith, m, r)

-- ---- what a device owes

abbrev pub owns : LineDef → DevNo → Bool
owns def d = list_any is_enabling (run_script def d parts.Thread)

abbrev is_cpu_disable : Entry → Bool
is_cpu_disable (by.CpuCall cpu call) = disables call
is_cpu_disable _ = false

abbrev is_own_enable : DevNo → Entry → Bool
is_own_enable d (by.ThreadCall dev call) = same_dev d dev && enables call
is_own_enable d _ = false

-- its handler is at work, past a disable; its thread is to run; or it is in a run that hasn't enabled
abbrev pub past_disable : DevNo → List Entry → Bool
past_disable d past = is_called past d && list_any is_cpu_disable (since is_begin_or_return past)

abbrev pub to_enable : DevNo → List Entry → Bool
to_enable d past = is_in_run past d && not (list_any (is_own_enable d) (since (is_thread_begin d) past))

abbrev pub sum_if : Bool → Bool → Bool → Bool → ℕ
sum_if own h w t = cond own (one_if h + one_if w + one_if t) 0

abbrev pub owes : LineDef → DevNo → List Entry → ℕ
owes def d past = sum_if (owns def d) (past_disable d past) (is_woken past d) (to_enable d past)

abbrev pub owed : LineDef → List Entry → ℕ
owed def past = total (λ x. owes def x.dev past) def.devices

-- ---- enables of calls

enable_steps : (c : Call) (cs : List CallEntry) → MakesSteps c cs → total (λ call. one_if (enables call)) cs ≤ one_if (is_enabling c)
enable_steps (calls.Free x) (called.Unlink unlinks.NotThere dev ∷ []) m = omega arith
enable_steps (calls.Free x) (called.Unlink (unlinks.Unlinked last) dev ∷ called.HardClear ∷ called.Freed gone ∷ []) m = omega arith
enable_steps calls.Disable (called.Disable ∷ called.HardClear ∷ called.Synced ∷ []) m = omega arith
enable_steps calls.DisableNosync (called.Disable ∷ []) m = omega arith
enable_steps calls.Enable (called.Enable answer ∷ []) m = omega arith
enable_steps calls.Sync (called.HardClear ∷ called.Synced ∷ []) m = omega arith
enable_steps calls.SyncHard (called.HardClear ∷ []) m = omega arith
enable_steps calls.DisableHard (called.Disable ∷ called.HardClear ∷ []) m = omega arith
enable_steps (calls.Wake x) (called.Wake woken dev ∷ []) m = omega arith
enable_steps (calls.Quiet x) (called.Quiet dev ∷ []) m = omega arith
enable_steps (calls.Arm x) (called.Arm edge dev ∷ []) m = omega arith
enable_steps (calls.Serve x) (called.Serve dev served ∷ []) m = omega arith
enable_steps c cs m = absurd m

abbrev handler_enables : Entry → ℕ
handler_enables (by.CpuCall cpu call) = one_if (enables call)
handler_enables _ = 0

handler_step : (e : Entry) → handler_enables e ≤ total (λ call. one_if (enables call)) (step_in e)
handler_step (by.CpuCall c call) = omega arith
handler_step e = omega arith

handlers_alone : (e : Entry) → is_cpu_call e ≡ false → handler_enables e ≡ 0
handlers_alone (by.CpuCall c call) other = cc
handlers_alone e other = refl

thread_step : (d : DevNo) (e : Entry) → one_if (is_own_enable d e) ≤ total (λ call. one_if (enables call)) (step_in e)
thread_step d (by.ThreadCall x call) = by_tests (same_dev d x) (enables call)
  where
    by_tests : (a b : Bool) → one_if (a && b) ≤ one_if b + 0
    by_tests true b = omega arith
    by_tests false true = omega arith
    by_tests false false = omega arith
thread_step d e = omega arith

thread_alone : (d : DevNo) (e : Entry) → is_thread_call d e ≡ false → one_if (is_own_enable d e) ≡ 0
thread_alone d (by.ThreadCall x call) other = ap (λ (b : Bool). one_if (b && enables call)) other
thread_alone d e other = refl

any_none : (cs : List Call) → list_any is_enabling cs ≡ false → count_of is_enabling cs ≡ 0
any_none [] h = refl
any_none (c ∷ cs) h =
    let p = or_parts (is_enabling c) (list_any is_enabling cs) h in
    ap (λ (b : Bool). cond b (count_of is_enabling cs + 1) (count_of is_enabling cs)) p.0 ∙ any_none cs p.1

some_any : {A : Type 0} (p : A → Bool) (cs : List A) → 1 ≤ count_of p cs → list_any p cs ≡ true
some_any p [] h = absurd (omega (arith, h))
some_any p (c ∷ cs) h = by_test (p c) h (some_any p cs)
  where
    by_test : (b : Bool) → 1 ≤ cond b (count_of p cs + 1) (count_of p cs) → (1 ≤ count_of p cs → list_any p cs ≡ true) → (b || list_any p cs) ≡ true
    by_test true h deeper = refl
    by_test false h deeper = deeper h

none_any : (p : Entry → Bool) (es : List Entry) → total (λ e. one_if (p e)) es ≡ 0 → list_any p es ≡ false
none_any p [] h = refl
none_any p (e ∷ es) h = by_test (p e) h (none_any p es)
  where
    by_test : (b : Bool) → one_if b + total (λ e. one_if (p e)) es ≡ 0
        → (total (λ e. one_if (p e)) es ≡ 0 → list_any p es ≡ false) → (b || list_any p es) ≡ false
    by_test true h deeper = absurd (omega (arith, h))
    by_test false h deeper = deeper (omega (arith, h))

module _ (def : LineDef) (rules : EnablesOnlyItsOwn def) where
  -- no handler enables
  pub handler_no_enable : (c : CpuNo) (call : CallEntry) (past : List Entry) → IsLegalPast def (by.CpuCall c call ∷ past) → enables call ≡ false
  handler_no_enable c call past legal =
      let u = handler_call_due def c call past legal.0 in
      let most = handler_most handler_enables (λ c. one_if (is_enabling c))
      (runs_cost (λ call. one_if (enables call)) (λ c. one_if (is_enabling c)) enable_steps handler_enables handler_step)
      handlers_alone def (by.CpuCall c call ∷ past) legal u.dev u.is_at_work in
      let count = count_total is_enabling (run_script def u.dev parts.Primary) in
      let none = any_none (run_script def u.dev parts.Primary) (rules.handlers u.dev) in
      by_test (enables call) refl (omega (arith, most, count, none))
    where
      by_test : (b : Bool) → enables call ≡ b → one_if (enables call) ≤ 0 → b ≡ false
      by_test false is h = refl
      by_test true is h = absurd (let o : one_if (enables call) ≡ 1 = ap one_if is in omega (arith, h, o))

  -- a thread that enables is of a device that does so once in a run, and hasn't yet
  record Enabling (x : DevNo) (past : List Entry) : Type 0 where
    own : owns def x ≡ true
    to_come : to_enable x past ≡ true

  enabling : (x : DevNo) (call : CallEntry) (past : List Entry) → IsLegalPast def (by.ThreadCall x call ∷ past) → enables call ≡ true → Enabling x past
  enabling x call past legal is =
      let u = thread_call_due def x call past legal.0 in
      let run = in_run (is_running past x) (has_returned past x) u.running u.not_returned in
      let most = thread_most x (λ e. one_if (is_own_enable x e)) (λ c. one_if (is_enabling c))
      (runs_cost (λ call. one_if (enables call)) (λ c. one_if (is_enabling c)) enable_steps (λ e. one_if (is_own_enable x e)) (thread_step x))
      (thread_alone x) def (by.ThreadCall x call ∷ past) legal run in
      let one : one_if (is_own_enable x (by.ThreadCall x call)) ≡ 1 = ap one_if (both (same_dev x x) (enables call) (same_self x) is) in
      let count = count_total is_enabling (run_script def x parts.Thread) in
      let own = some_any is_enabling (run_script def x parts.Thread) (omega (arith, most, one, count)) in
      let once : count_of is_enabling (run_script def x parts.Thread) ≡ 1 = (rules.threads x own).1 in
      let none = none_any (is_own_enable x) (since (is_thread_begin x) past) (omega (arith, most, one, count, once)) in
      record { own = own; to_come = both (is_in_run past x) (not (list_any (is_own_enable x) (since (is_thread_begin x) past))) run (ap not none) }
    where
      in_run : (r t : Bool) → r ≡ true → t ≡ false → (r && not t) ≡ true
      in_run r t a b = grind arith

      both : (a b : Bool) → a ≡ true → b ≡ true → (a && b) ≡ true
      both a b h i = grind arith

-- ---- a handler that wakes its thread is past its disable

steps_disable : (cs : List CallEntry) → MakesSteps calls.DisableNosync cs → list_any disables cs ≡ true
steps_disable (called.Disable ∷ []) m = refl
steps_disable cs m = absurd m

either : (a b c : Bool) → (b ≡ true → c ≡ true) → (a || b) ≡ true → (a || c) ≡ true
either a b c i h = grind arith

any_step : (es : List Entry) → list_any disables (steps_in es) ≡ true → list_any is_disable es ≡ true
any_step [] h = h
any_step (by.CpuCall c call ∷ es) h = either (disables call) _ _ (any_step es) h
any_step (by.ThreadCall x call ∷ es) h = either (disables call) _ _ (any_step es) h
any_step (by.DriverCall s call ∷ es) h = either (disables call) _ _ (any_step es) h
any_step (by.Cpu c e ∷ es) h = any_step es h
any_step (by.Thread x e ∷ es) h = any_step es h
any_step (by.Driver s e ∷ es) h = any_step es h

call_disables : (c : Call) (es : List Entry) → is_nosync c ≡ true → MakesAll c es → list_any is_disable es ≡ true
call_disables calls.DisableNosync es h m = any_step es (steps_disable (steps_in es) m.0)
call_disables c es h m = cc

joined : (p : Entry → Bool) (xs ys : List Entry) → (list_any p xs || list_any p ys) ≡ true → list_any p (xs ++ ys) ≡ true
joined p [] ys h = h
joined p (x ∷ xs) ys h = by_test (p x) h (joined p xs ys)
  where
    by_test : (b : Bool) → ((b || list_any p xs) || list_any p ys) ≡ true → ((list_any p xs || list_any p ys) ≡ true → list_any p (xs ++ ys) ≡ true)
        → (b || list_any p (xs ++ ys)) ≡ true
    by_test true h deeper = refl
    by_test false h deeper = deeper h

script_disables : (cs : List Call) (es : List Entry) → list_any is_nosync cs ≡ true → MakesAllOf cs es → list_any is_disable es ≡ true
script_disables [] es h m = cc
script_disables (c ∷ cs) es h m =
    subst (λ (xs : List Entry). list_any is_disable xs ≡ true) (sym m.2)
    (joined is_disable m.0 m.1 (by_case (or_cases (is_nosync c) (list_any is_nosync cs) h) (λ later. script_disables cs m.1 later m.4)))
  where
    by_case : (is_nosync c ≡ true) ⊎ (list_any is_nosync cs ≡ true) → (list_any is_nosync cs ≡ true → list_any is_disable m.1 ≡ true)
        → (list_any is_disable m.0 || list_any is_disable m.1) ≡ true
    by_case (inl now) deeper = first (list_any is_disable m.0) (list_any is_disable m.1) (call_disables c m.0 now m.3)
      where
        first : (a b : Bool) → a ≡ true → (a || b) ≡ true
        first a b h = grind arith
    by_case (inr later) deeper = second (list_any is_disable m.0) (list_any is_disable m.1) (deeper later)
      where
        second : (a b : Bool) → b ≡ true → (a || b) ≡ true
        second a b h = grind arith

-- an entry of a handler's run that disables is a handler's
cpu_kept : (es : List Entry) → list_any is_disable (filter is_cpu_call es) ≡ true → list_any is_cpu_disable es ≡ true
cpu_kept [] h = h
cpu_kept (by.CpuCall c call ∷ es) h = either (disables call) _ _ (cpu_kept es) h
cpu_kept (by.ThreadCall x call ∷ es) h = cpu_kept es h
cpu_kept (by.DriverCall s call ∷ es) h = cpu_kept es h
cpu_kept (by.Cpu c e ∷ es) h = cpu_kept es h
cpu_kept (by.Thread x e ∷ es) h = cpu_kept es h
cpu_kept (by.Driver s e ∷ es) h = cpu_kept es h

some_count : (cs : List Call) → count_of is_nosync cs ≡ 1 → list_any is_nosync cs ≡ true
some_count cs h = some_any is_nosync cs (omega (arith, h))

wake_recognised : (a : Answer) → is_wake a ≡ true → is_recognised a ≡ true
wake_recognised answers.Wake h = refl
wake_recognised answers.Handled h = cc
wake_recognised answers.Nothing h = cc

module _ (def : LineDef) (rules : EnablesOnlyItsOwn def) where
  waking : (c : CpuNo) (x : DevNo) (answer : Answer) (n : ℕ) (past : List Entry) → IsLegalPast def (by.Cpu c (cpus.Return answer x n) ∷ past)
      → is_wake answer ≡ true → owns def x ≡ true → past_disable x past ≡ true
  waking c x answer n past legal wakes own =
      let u = return_due def c x answer n past legal.0 in
      let makes : makes_calls def parts.Primary x past ≡ true = wake_recognised _ (sym (ap is_wake u.answer_is) ∙ wakes) in
      let script : calls_of_run def parts.Primary x past
      ≡ run_script def x parts.Primary = ap (λ (m : Bool). cond m (run_script def x parts.Primary) []) makes in
      let made = subst (λ (cs : List Call). MakesAllOf cs (entries_of_run parts.Primary x past)) script
      (run_made def parts.Primary x (by.Cpu c (cpus.Return answer x n)) past legal (same_self x)) in
      let some = script_disables (run_script def x parts.Primary) (entries_of_run parts.Primary x past)
      (some_count (run_script def x parts.Primary) (rules.threads x own).2) made in
      both (is_called past x) (list_any is_cpu_disable (since is_begin_or_return past)) ((runs_past def past legal.1).working x u.is_at_work).0
      (cpu_kept (since is_begin_or_return past) (any_back is_disable (filter is_cpu_call (since is_begin_or_return past)) some))
    where
      both : (a b : Bool) → a ≡ true → b ≡ true → (a && b) ≡ true
      both a b h i = grind arith

-- ---- one more entry, as numbers

sum_gt : (o h w t h' w' t' : Bool) → o ≡ true → one_if h' + one_if w' + one_if t' + 1 ≤ one_if h + one_if w + one_if t → sum_if o h' w' t' + 1 ≤ sum_if o h w t
sum_gt true h w t h' w' t' is le = le
sum_gt false h w t h' w' t' is le = cc

-- a: its handler begins or returns; w: what woke it
at_return : (o h k w t s a : Bool) → (o ≡ true → (s && a) ≡ true → h ≡ true) → sum_if o (k && false) ((s && a) || (true && w)) t ≤ sum_if o h w t + 0
at_return false h k w t s a i = omega arith
at_return true true k w t s a i = by_tests k (s && a) w t
  where
    by_tests : (k b w t : Bool) → one_if (k && false) + one_if (b || (true && w)) + one_if t ≤ 1 + one_if w + one_if t + 0
    by_tests true true true t = omega arith
    by_tests true true false t = omega arith
    by_tests true false w t = omega arith
    by_tests false true true t = omega arith
    by_tests false true false t = omega arith
    by_tests false false w t = omega arith
at_return true false k w t true true i = let n = i refl refl in cc
at_return true false true w t true false i = omega arith
at_return true false false w t true false i = omega arith
at_return true false true w t false a i = omega arith
at_return true false false w t false a i = omega arith

no_handler : (o h k w t : Bool) → sum_if o (k && false) w t ≤ sum_if o h w t + 0
no_handler false h k w t = omega arith
no_handler true true true w t = omega arith
no_handler true true false w t = omega arith
no_handler true false true w t = omega arith
no_handler true false false w t = omega arith

-- d: the call disables, and the handler is called: k
at_call : (o k p w t d : Bool) → sum_if o (k && (d || p)) w t ≤ sum_if o (k && p) w t + one_if (k && d)
at_call false k p w t d = omega arith
at_call true true true w t true = omega arith
at_call true true true w t false = omega arith
at_call true true false w t true = omega arith
at_call true true false w t false = omega arith
at_call true false p w t d = omega arith

-- a thread begins: s: it is this one
at_begin : (o h w r t s : Bool) → (s ≡ true → (w ≡ true) × (r ≡ false)) → (o2 : Bool) → o2 ≡ (s || t)
    → (s ≡ true → t ≡ false) → sum_if o h (false || (not s && w)) o2 ≤ sum_if o h w t + 0
at_begin false h w r t s i o2 is k = omega arith
at_begin true h w r t true i o2 is k =
    let z : one_if w ≡ 1 = ap one_if (i refl).0 in
    let y : one_if o2 ≡ 1 = ap one_if is in
    omega (arith, z, y)
at_begin true h w r t false i o2 is k =
    let y : one_if o2 ≡ one_if t = ap one_if is in
    omega (arith, y)

fewer_runs : (o h w t t' : Bool) → (t' ≡ true → t ≡ true) → sum_if o h w t' ≤ sum_if o h w t + 0
fewer_runs false h w t t' i = omega arith
fewer_runs true h w true true i = omega arith
fewer_runs true h w false true i = let n = i refl in cc
fewer_runs true h w t false i = omega arith

-- ---- one more entry

-- an entry by which a driver takes part: an enable, a wake, a request
abbrev pub is_yield : CallEntry → Bool
is_yield (called.Enable answer) = true
is_yield (called.Wake woken dev) = woken
is_yield _ = false

abbrev pub yields : Entry → Bool
yields (by.DriverCall driver call) = is_yield call
yields (by.Driver driver (drivers.Request flags answer opened dev)) = true
yields _ = false

begin_now : (d x : DevNo) (past : List Entry) → to_enable d (by.Thread x threads.Begin ∷ past) ≡ (same_dev d x || to_enable d past)
begin_now d x past = by_test (same_dev d x)
  where
    by_test : (s : Bool) → (((s || (true && is_running past d)) && not
        (list_any (is_thread_return d) (cond s [] (by.Thread x threads.Begin ∷ since (is_thread_begin d) past))))
        && not (list_any (is_own_enable d) (cond s [] (by.Thread x threads.Begin ∷ since (is_thread_begin d) past))))
        ≡ (s || to_enable d past)
    by_test true = refl
    by_test false = refl

-- a run that hasn't enabled was there before each entry but its beginning
enable_before : (d : DevNo) (e : Entry) (past : List Entry) → is_thread_begin d e ≡ false → to_enable d (e ∷ past) ≡ true → to_enable d past ≡ true
enable_before d e past other h =
    let p = and_parts (is_in_run (e ∷ past) d) (not (list_any (is_own_enable d) (since (is_thread_begin d) (e ∷ past)))) h in
    let any : list_any (is_own_enable d) (since (is_thread_begin d) (e ∷ past))
    ≡ (is_own_enable d e || list_any (is_own_enable d) (since (is_thread_begin d) past)) =
    ap (λ (b : Bool). list_any (is_own_enable d) (cond b [] (e ∷ since (is_thread_begin d) past))) other in
    both (is_in_run past d) (is_own_enable d e) (list_any (is_own_enable d) (since (is_thread_begin d) past)) (in_run_before d e past other p.0)
    (sym (ap not any) ∙ p.1)
  where
    both : (r a b : Bool) → r ≡ true → not (a || b) ≡ true → (r && not b) ≡ true
    both r a b h i = grind arith

no_opens : (call : CallEntry) → enables call ≡ false → is_lowering_opened (opened_by_call call) ≡ false
no_opens (called.Enable answer) h = cc
no_opens call h = refl

module _ (def : LineDef) (valid : IsValid def) (runs : HasValidRuns def) (rules : EnablesOnlyItsOwn def) where
  abbrev o : DevNo → List Entry → ℕ
  o d past = owes def d past

  abbrev OwedMore : Entry → List Entry → Type 0
  OwedMore e past = owed def (e ∷ past) + one_if (is_lowering e) ≤ owed def past + one_if (is_disable e) + one_if (yields e)

  each_most : (e : Entry) (past : List Entry) → ((d : DevNo) → o d (e ∷ past) ≤ o d past + 0) → owed def (e ∷ past) ≤ owed def past
  each_most e past h = total_le (λ (x : DeviceDef). o x.dev (e ∷ past)) (λ (x : DeviceDef). o x.dev past) def.devices
      (λ x. let n = h x.dev in omega (arith, n))

  begins : (c : CpuNo) (x : DevNo) (past : List Entry) → OwedMore (by.Cpu c (cpus.Begin x)) past
  begins c x past =
      let m = each_most (by.Cpu c (cpus.Begin x)) past
      (λ d. no_handler (owns def d) (past_disable d past) (is_called (by.Cpu c (cpus.Begin x) ∷ past) d) (is_woken past d) (to_enable d past)) in
      omega (arith, m)

  returns : (c : CpuNo) (x : DevNo) (answer : Answer) (n : ℕ) (past : List Entry) → IsLegalPast def (by.Cpu c (cpus.Return answer x n) ∷ past)
      → OwedMore (by.Cpu c (cpus.Return answer x n)) past
  returns c x answer n past legal =
      let m = each_most (by.Cpu c (cpus.Return answer x n)) past
      (λ d. at_return (owns def d) (past_disable d past) (is_called (by.Cpu c (cpus.Return answer x n) ∷ past) d) (is_woken past d) (to_enable d past)
      (same_dev d x) (is_wake answer) (disabled d)) in
      omega (arith, m)
    where
      disabled : (d : DevNo) → owns def d ≡ true → (same_dev d x && is_wake answer) ≡ true → past_disable d past ≡ true
      disabled d own h =
          let p = and_parts (same_dev d x) (is_wake answer) h in
          let same = dev_from_same d x p.0 in
          subst (λ (y : DevNo). past_disable y past ≡ true) (sym same)
          (waking def rules c x answer n past legal p.1 (subst (λ (y : DevNo). owns def y ≡ true) same own))

  -- a handler's call
  handler_call : (c : CpuNo) (call : CallEntry) (past : List Entry) → IsLegalPast def (by.CpuCall c call ∷ past) → (d : DevNo)
      → o d (by.CpuCall c call ∷ past) ≤ o d past + one_if (is_called past d && disables call)
  handler_call c call past legal d = by_own (owns def d) refl
    where
      by_own : (b : Bool) → owns def d ≡ b
          → sum_if b (is_called past d && (disables call || list_any is_cpu_disable (since is_begin_or_return past)))
          (wakes_by_call d call || (true && is_woken past d)) (to_enable d past)
          ≤ sum_if b (past_disable d past) (is_woken past d) (to_enable d past) + one_if (is_called past d && disables call)
      by_own false is = omega arith
      by_own true is =
          let w = handler_wakes_none def d c call past (rules.wakes d is) legal.0 in
          subst (λ (v : Bool). sum_if true (is_called past d &&
          (disables call || list_any is_cpu_disable (since is_begin_or_return past)))
          (v || (true && is_woken past d)) (to_enable d past)
          ≤ sum_if true (past_disable d past) (is_woken past d) (to_enable d past) + one_if (is_called past d && disables call)) (sym w)
          (at_call true (is_called past d) (list_any is_cpu_disable (since is_begin_or_return past)) (is_woken past d) (to_enable d past) (disables call))

  handler_calls : (c : CpuNo) (call : CallEntry) (past : List Entry) → IsLegalPast def (by.CpuCall c call ∷ past) → OwedMore (by.CpuCall c call) past
  handler_calls c call past legal =
      let low : one_if (is_lowering (by.CpuCall c call)) ≡ 0 = ap one_if (no_opens call (handler_no_enable def rules c call past legal)) in
      let m = by_test (disables call) refl in
      omega (arith, low, m)
    where
      none : (d : DevNo) → same_dev d (handler_call_due def c call past legal.0).dev ≡ false → is_called past d ≡ false
      none d other = false_from_ne_true (is_called past d) (λ called. (let u = handler_call_due def c call past legal.0 in
          let a = (runs_past def past legal.1).called d called in
          let same = the_same d u.dev (sym a ∙ u.is_at_work) in
          both_ways (same_dev d u.dev) (subst (λ (y : DevNo). same_dev d y ≡ true) same (same_self d)) other))

      by_test : (b : Bool) → disables call ≡ b → owed def (by.CpuCall c call ∷ past) ≤ owed def past + one_if b
      by_test false is =
          let m = each_most (by.CpuCall c call) past (λ d. let h = handler_call c call past legal d in
          let z : one_if (is_called past d && disables call) ≤ 0 = off (is_called past d) (disables call) is in omega (arith, h, z)) in
          omega (arith, m)
        where
          off : (a b : Bool) → b ≡ false → one_if (a && b) ≤ 0
          off true true h = cc
          off true false h = omega arith
          off false b h = omega arith
      by_test true is =
          let u = handler_call_due def c call past legal.0 in
          devices_more (λ d. o d (by.CpuCall c call ∷ past)) (λ d. o d past) u.dev def.devices valid.distinct
          (let h = handler_call c call past legal u.dev in let z = one (is_called past u.dev && disables call) in omega (arith, h, z))
          (λ d other. let h = handler_call c call past legal d in
          let z : one_if (is_called past d && disables call)
          ≡ 0 = ap (λ (k : Bool). one_if (k && disables call)) (none d other) in
          omega (arith, h, z))
        where
          one : (b : Bool) → one_if b ≤ 1
          one true = omega arith
          one false = omega arith

  -- a thread begins
  thread_begins : (x : DevNo) (past : List Entry) → IsDue def (by.Thread x threads.Begin) past → OwedMore (by.Thread x threads.Begin) past
  thread_begins x past due =
      let m = each_most (by.Thread x threads.Begin) past
      (λ d. at_begin (owns def d) (past_disable d past) (is_woken past d) (is_running past d) (to_enable d past) (same_dev d x)
      (λ same. begin_tells def d (by.Thread x threads.Begin) past due same) (to_enable d (by.Thread x threads.Begin ∷ past)) (begin_now d x past)
      (λ same. not_running d same)) in
      omega (arith, m)
    where
      not_running : (d : DevNo) → same_dev d x ≡ true → to_enable d past ≡ false
      not_running d same = none (is_running past d) (has_returned past d) (list_any (is_own_enable d) (since (is_thread_begin d) past))
          (begin_tells def d (by.Thread x threads.Begin) past due same).1
        where
          none : (r u a : Bool) → r ≡ false → ((r && not u) && not a) ≡ false
          none r u a h = grind arith

  -- any other entry that neither a handler nor a wake has part in
  fewer : (e : Entry) (past : List Entry) → ((d : DevNo) → is_thread_begin d e ≡ false)
      → ((d : DevNo) → o d (e ∷ past) ≡ sum_if (owns def d) (past_disable d past) (is_woken past d) (to_enable d (e ∷ past)))
      → owed def (e ∷ past) ≤ owed def past
  fewer e past other same =
      each_most e past (λ d. let f = fewer_runs (owns def d) (past_disable d past) (is_woken past d) (to_enable d past) (to_enable d (e ∷ past))
      (enable_before d e past (other d)) in let s = same d in omega (arith, f, s))

  thread_other : (x : DevNo) (call : CallEntry) (past : List Entry) → IsLegalPast def (by.ThreadCall x call ∷ past) → (d : DevNo)
      → o d (by.ThreadCall x call ∷ past) ≡ sum_if (owns def d) (past_disable d past) (is_woken past d) (to_enable d (by.ThreadCall x call ∷ past))
  thread_other x call past legal d =
      ap (λ (w : Bool). sum_if (owns def d) (past_disable d past) (w || (true && is_woken past d)) (to_enable d (by.ThreadCall x call ∷ past)))
      (no_thread_wake d call (thread_wakes_none def x call past runs legal.0 (λ y. 1)))

  thread_calls : (x : DevNo) (call : CallEntry) (past : List Entry) → IsLegalPast def (by.ThreadCall x call ∷ past) → OwedMore (by.ThreadCall x call) past
  thread_calls x call past legal = by_test (enables call) refl
    where
      e : Entry
      e = by.ThreadCall x call

      one : (b : Bool) → one_if b ≤ 1
      one true = omega arith
      one false = omega arith

      now : enables call ≡ true → to_enable x (by.ThreadCall x call ∷ past) ≡ false
      now is = off (is_in_run past x) (same_dev x x) (enables call) (list_any (is_own_enable x) (since (is_thread_begin x) past)) (same_self x) is
        where
          off : (r s g a : Bool) → s ≡ true → g ≡ true → (r && not ((s && g) || a)) ≡ false
          off r s g a h i = grind arith

      here : enables call ≡ true → o x (by.ThreadCall x call ∷ past) + 1 ≤ o x past
      here is =
          let g = enabling def rules x call past legal is in
          let s = thread_other x call past legal x in
          let m = sum_gt (owns def x) (past_disable x past) (is_woken past x) (to_enable x past) (past_disable x past)
          (is_woken past x) (to_enable x (by.ThreadCall x call ∷ past)) g.own
          (let a : one_if (to_enable x past) ≡ 1 = ap one_if g.to_come in
          let b : one_if (to_enable x (by.ThreadCall x call ∷ past)) ≡ 0 = ap one_if (now is) in
          omega (arith, a, b)) in
          omega (arith, s, m)

      by_test : (b : Bool) → enables call ≡ b → OwedMore (by.ThreadCall x call) past
      by_test true is =
          let there = thread_there def x past (by.ThreadCall x call) legal.0 in
          let m = devices_less (λ d. o d (by.ThreadCall x call ∷ past)) (λ d. o d past) x def.devices there (here is)
          (λ d other. let f = fewer_runs (owns def d) (past_disable d past) (is_woken past d) (to_enable d past) (to_enable d (by.ThreadCall x call ∷ past))
          (enable_before d (by.ThreadCall x call) past refl) in let s = thread_other x call past legal d in omega (arith, f, s)) in
          let l = one (is_lowering (by.ThreadCall x call)) in
          omega (arith, m, l)
      by_test false is =
          let m = fewer (by.ThreadCall x call) past (λ d. refl) (thread_other x call past legal) in
          let l : one_if (is_lowering (by.ThreadCall x call)) ≡ 0 = ap one_if (no_opens call is) in
          omega (arith, m, l)

  -- a driver's call
  wakes_one : (r : DriverNo) (x : DevNo) (past : List Entry) → OwedMore (by.DriverCall r (called.Wake true x)) past
  wakes_one r x past =
      let e = by.DriverCall r (called.Wake true x) in
      let m = devices_more (λ d. o d (e ∷ past)) (λ d. o d past) x def.devices valid.distinct
      (one_woken (owns def x) (past_disable x past) (same_dev x x) (is_woken past x) (to_enable x past))
      (λ d other. none_woken (owns def d) (past_disable d past) (same_dev d x) (is_woken past d) (to_enable d past) other) in
      omega (arith, m)
    where
      one_woken : (o h s w t : Bool) → sum_if o h (s || (true && w)) t ≤ sum_if o h w t + 1
      one_woken false h s w t = omega arith
      one_woken true h true true t = omega arith
      one_woken true h true false t = omega arith
      one_woken true h false w t = omega arith

      none_woken : (o h s w t : Bool) → s ≡ false → sum_if o h (s || (true && w)) t ≤ sum_if o h w t
      none_woken o h false w t i = omega arith
      none_woken o h true w t i = cc

  pub owed_more : (e : Entry) (past : List Entry) → IsLegalPast def (e ∷ past) → OwedMore e past
  owed_more (by.Cpu c (cpus.Take way answer)) past legal = omega arith
  owed_more (by.Cpu c (cpus.End again unmask note)) past legal = omega arith
  owed_more (by.Cpu c (cpus.Begin x)) past legal = begins c x past
  owed_more (by.Cpu c (cpus.Return answer x n)) past legal = returns c x answer n past legal
  owed_more (by.CpuCall c call) past legal = handler_calls c call past legal
  owed_more (by.Thread x threads.Begin) past legal = thread_begins x past legal.0
  owed_more (by.Thread x (threads.Return handled n)) past legal = let m
      = fewer (by.Thread x (threads.Return handled n)) past (λ d. refl) (λ d. refl) in omega (arith, m)
  owed_more (by.Thread x (threads.Finish kept unmask)) past legal = let m
      = fewer (by.Thread x (threads.Finish kept unmask)) past (λ d. refl) (λ d. refl) in omega (arith, m)
  owed_more (by.Thread x threads.Done) past legal = let m = fewer (by.Thread x threads.Done) past (λ d. refl) (λ d. refl) in omega (arith, m)
  owed_more (by.ThreadCall x call) past legal = thread_calls x call past legal
  owed_more (by.Driver r (drivers.Request flags answer opened x)) past legal = let l
      = one (is_lowering (by.Driver r (drivers.Request flags answer opened x))) in omega (arith, l)
    where
      one : (b : Bool) → one_if b ≤ 1
      one true = omega arith
      one false = omega arith
  owed_more (by.Driver r e) past legal = omega arith
  owed_more (by.DriverCall r (called.Enable answer)) past legal = let l = one (is_lowering (by.DriverCall r (called.Enable answer))) in omega (arith, l)
    where
      one : (b : Bool) → one_if b ≤ 1
      one true = omega arith
      one false = omega arith
  owed_more (by.DriverCall r (called.Wake true x)) past legal = wakes_one r x past
  owed_more (by.DriverCall r call) past legal = omega arith
