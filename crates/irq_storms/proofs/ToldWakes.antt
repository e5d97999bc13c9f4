-- How often a told device's thread is woken, if no handler wakes it by a call: by its handler's
-- words, and by drivers.
use Rattle.std.proofs.Common.{◌≡◌, ℕ, ◌+◌, ◌≤◌, Bool, true, false, not, ◌&&◌, cond, Option, Some, None, List, [], ◌∷◌, refl, sym, ap, ◌∙◌, subst, arith}
use Rattle.std.proofs.lemmas.Bool.{and_parts, or_parts}
use Rattle.std.specs.List.{list_any, AllByRecursion}
use Rattle.irq_base.specs.declared.numbers.CpuNo.{CpuNo}
use Rattle.irq_base.specs.declared.numbers.DevNo.{DevNo}
use Rattle.irq_base.specs.declared.numbers.DriverNo.{DriverNo}
use Rattle.irq_base.specs.declared.calls.Call.{Call}
use Rattle.irq_base.specs.declared.calls.Call.TheVariants as calls
use Rattle.irq_base.specs.declared.devices.Kind.{Kind}
use Rattle.irq_base.specs.declared.devices.Kind.TheVariants as kinds
use Rattle.irq_base.specs.declared.devices.Part.{Part}
use Rattle.irq_base.specs.declared.devices.Part.TheVariants as parts
use Rattle.irq_base.specs.declared.devices.ToldAnswer.{ToldAnswer}
use Rattle.irq_base.specs.declared.devices.ToldAnswer.TheVariants as tolds
use Rattle.irq_base.specs.declared.lines.LineDef.{LineDef}
use Rattle.irq_base.specs.declared.entries.Actor.TheVariants as actors
use Rattle.irq_base.specs.declared.entries.Entry.{Entry}
use Rattle.irq_base.specs.declared.entries.Entry.TheVariants as by
use Rattle.irq_base.specs.declared.entries.CpuEntry.TheVariants as cpus
use Rattle.irq_base.specs.declared.entries.CallEntry.{CallEntry}
use Rattle.irq_base.specs.declared.entries.CallEntry.TheVariants as called
use Rattle.irq_base.specs.declared.entries.UnlinkAnswer.TheVariants as unlinks
use Rattle.irq_base.specs.Handlers.{answer_of, answer_of_told}
use Rattle.irq_model.specs.Places.{count_of}
use Rattle.irq_model.specs.Kinds.{same_dev, is_wake, wakes, wakes_by_call, is_return}
use Rattle.irq_model.specs.Lines.{kind_of, script_in, run_script, told_answers, same_part}
use Rattle.irq_model.specs.Asks.{begins_run}
use Rattle.irq_model.specs.Reason.{is_called}
use Rattle.irq_model.specs.Runs.{met_by, told_of, makes_calls, entries_of_run}
use Rattle.irq_model.specs.Due.{due_of}
use Rattle.irq_model.specs.Scripts.{MakesSteps, step_in}
use Rattle.irq_model.specs.RunBounds.{wakes_this, wakes_by_handler, is_wake_word, told_wakes}
use Rattle.irq_model.specs.ValidRuns.{HasValidRuns}
use Rattle.irq_model.specs.Legal.{IsDue, IsLegalPast}
use Rattle.irq_model.proofs.Same.{dev_from_same}
use Rattle.irq_laws.proofs.ScriptLaws.{runs_past, follows_past}
use Rattle.irq_laws.proofs.Requested.{one_of}
use Rattle.irq_laws.proofs.ImpliesCall.{step_row}
use Rattle.irq_laws.proofs.ImpliesFlow.{return_due, handler_call_due}
use Rattle.irq_storms.specs.Judged.{one_if}
use Rattle.irq_storms.specs.Tests.{total, is_by_any_driver}
use Rattle.irq_storms.proofs.Counting.{count_more, count_total}
use Rattle.irq_storms.proofs.Weights.{of_drivers}
use Rattle.irq_storms.proofs.CallCosts.{runs_cost, wake_cost}
use Rattle.irq_storms.proofs.LongBound.{thread_wakes_none, wake_call}
use Rattle.irq_storms.proofs.HandlerArms.{some_due}
use Rattle.irq_storms.proofs.ToldWords.{told_counted}

-- ---- by words

abbrev pub wakes_by_return : DevNo → Entry → Bool
wakes_by_return d (by.Cpu cpu (cpus.Return answer dev served)) = same_dev d dev && is_wake answer
wakes_by_return d _ = false

abbrev WokenByWord : Option ToldAnswer → Type 0
WokenByWord told = (w : ToldAnswer) × (told ≡ Some w) × (is_wake_word w ≡ true)

by_word : (told : Option ToldAnswer) → is_wake (answer_of_told told) ≡ true → WokenByWord told
by_word (Some tolds.Wake) h = (tolds.Wake, refl, refl)
by_word (Some tolds.Handled) h = cc
by_word (Some tolds.Claims) h = cc
by_word (Some tolds.Nothing) h = cc
by_word None h = cc

module _ (def : LineDef) (d : DevNo) (threaded : Bool) (kind : kind_of def d ≡ kinds.Told threaded) where
  word_there : (e : Entry) (past : List Entry) → IsLegalPast def (e ∷ past) → wakes_by_return d e ≡ true
      → (is_called past d ≡ true) × (w : ToldAnswer) × (told_of def parts.Primary d past ≡ Some w) × (is_wake_word w ≡ true)
  word_there (by.Cpu c (cpus.Return answer x n)) past legal h =
      let p = and_parts (same_dev d x) (is_wake answer) h in
      let to_d = sym (dev_from_same d x p.0) in
      let u = return_due def c x answer n past legal.0 in
      let at : is_called past d ≡ true = subst (λ (y : DevNo). is_called past y ≡ true) to_d ((runs_past def past legal.1).working x u.is_at_work).0 in
      let answer_is : answer ≡ answer_of (kind_of def d) parts.Primary (met_by def parts.Primary d past) (told_of def parts.Primary d past) =
      subst (λ (y : DevNo). answer ≡ answer_of (kind_of def y) parts.Primary (met_by def parts.Primary y past)
      (told_of def parts.Primary y past)) to_d u.answer_is in
      let told : answer ≡ answer_of_told (told_of def parts.Primary d past) =
      answer_is ∙ ap (λ (k : Kind). answer_of k parts.Primary (met_by def parts.Primary d past) (told_of def parts.Primary d past)) kind in
      let w = by_word (told_of def parts.Primary d past) (sym (ap is_wake told) ∙ p.1) in
      (at, w.0, w.1, w.2)
  word_there e past legal h = cc

  returns : (e : Entry) → wakes_by_return d e ≡ true → is_return d e ≡ true
  returns (by.Cpu c (cpus.Return answer x n)) h = (and_parts (same_dev d x) (is_wake answer) h).0
  returns e h = cc

  begins : (e : Entry) → begins_run parts.Primary d e ≡ true → wakes_by_return d e ≡ false
  begins (by.Cpu c (cpus.Begin x)) h = refl
  begins e h = cc

  words_wake : (past : List Entry) → IsLegalPast def past → count_of (wakes_by_return d) past ≤ count_of is_wake_word (told_answers def d parts.Primary)
  words_wake past legal = told_counted def parts.Primary d is_wake_word (wakes_by_return d) returns begins word_there past legal

-- ---- by drivers

abbrev driver_wakes : DevNo → Entry → ℕ
driver_wakes d (by.DriverCall driver call) = one_if (wakes_by_call d call)
driver_wakes d _ = 0

wakes_once : (d x dev : DevNo) (woken : Bool) → dev ≡ x → one_if (woken && same_dev d dev) + 0 ≤ one_if (same_dev d x)
wakes_once d x dev woken same = subst (λ (y : DevNo). one_if (woken && same_dev d dev) + 0 ≤ one_if (same_dev d y)) same (by_tests woken (same_dev d dev))
  where
    by_tests : (a b : Bool) → one_if (a && b) + 0 ≤ one_if b
    by_tests true true = omega arith
    by_tests true false = omega arith
    by_tests false b = omega arith

wake_steps : (d : DevNo) (c : Call) (cs : List CallEntry) → MakesSteps c cs → total (λ call. one_if (wakes_by_call d call)) cs ≤ one_if (wakes_this d c)
wake_steps d (calls.Free x) (called.Unlink unlinks.NotThere dev ∷ []) m = omega arith
wake_steps d (calls.Free x) (called.Unlink (unlinks.Unlinked last) dev ∷ called.HardClear ∷ called.Freed gone ∷ []) m = omega arith
wake_steps d calls.Disable (called.Disable ∷ called.HardClear ∷ called.Synced ∷ []) m = omega arith
wake_steps d calls.DisableNosync (called.Disable ∷ []) m = omega arith
wake_steps d calls.Enable (called.Enable answer ∷ []) m = omega arith
wake_steps d calls.Sync (called.HardClear ∷ called.Synced ∷ []) m = omega arith
wake_steps d calls.SyncHard (called.HardClear ∷ []) m = omega arith
wake_steps d calls.DisableHard (called.Disable ∷ called.HardClear ∷ []) m = omega arith
wake_steps d (calls.Wake x) (called.Wake woken dev ∷ []) m = wakes_once d x dev woken m
wake_steps d (calls.Quiet x) (called.Quiet dev ∷ []) m = omega arith
wake_steps d (calls.Arm x) (called.Arm edge dev ∷ []) m = omega arith
wake_steps d (calls.Serve x) (called.Serve dev served ∷ []) m = omega arith
wake_steps d c cs m = absurd m

wake_step : (d : DevNo) (e : Entry) → driver_wakes d e ≤ total (λ call. one_if (wakes_by_call d call)) (step_in e)
wake_step d (by.DriverCall r call) = omega arith
wake_step d e = omega arith

drivers_alone : (d : DevNo) (e : Entry) → is_by_any_driver e ≡ false → driver_wakes d e ≡ 0
drivers_alone d (by.DriverCall r call) other = cc
drivers_alone d e other = refl

drivers_wake : (def : LineDef) (d : DevNo) (past : List Entry) → IsLegalPast def past → total (driver_wakes d) past ≤ count_of (λ c. wakes_this d c.1) def.calls
drivers_wake def d past legal =
    let all = of_drivers (driver_wakes d) (λ c. one_if (wakes_this d c))
    (runs_cost (λ call. one_if (wakes_by_call d call)) (λ c. one_if (wakes_this d c)) (wake_steps d) (driver_wakes d) (wake_step d))
    (drivers_alone d) def past (λ r. follows_past def past legal (actors.Driver r)) in
    let sum = count_total (λ (c : DriverNo × Call). wakes_this d c.1) def.calls in
    omega (arith, all, sum)

-- ---- by no run

none_wake : (runs : List (DevNo × Part × Call)) (d x : DevNo) → list_any (wakes_by_handler d) runs ≡ false
    → AllByRecursion (λ c. not (wakes_this d c) ≡ true) (script_in runs x parts.Primary)
none_wake [] d x none = tt
none_wake (c ∷ cs) d x none =
    let p = or_parts (wakes_by_handler d c) (list_any (wakes_by_handler d) cs) none in
    by_test (same_dev x c.0) (same_part parts.Primary c.1) (of_handler c.0 c.1 c.2 p.0) (none_wake cs d x p.1)
  where
    of_handler : (y : DevNo) (part : Part) (call : Call) → wakes_by_handler d (y, part, call) ≡ false → same_part parts.Primary part ≡ true
        → not (wakes_this d call) ≡ true
    of_handler y parts.Primary call h i = ap not h
    of_handler y parts.Thread call h i = cc

    by_test : (a b : Bool) → (b ≡ true → not (wakes_this d c.2) ≡ true) → AllByRecursion (λ c. not (wakes_this d c) ≡ true) (script_in cs x parts.Primary)
        → AllByRecursion (λ c. not (wakes_this d c) ≡ true) (cond (a && b) (c.2 ∷ script_in cs x parts.Primary) (script_in cs x parts.Primary))
    by_test true true h rest = (h refl, rest)
    by_test true false h rest = rest
    by_test false b h rest = rest

not_both : (b : Bool) → not b ≡ true → b ≡ true → ⊥
not_both true h i = cc
not_both false h i = cc

pub handler_wakes_none : (def : LineDef) (d : DevNo) (c : CpuNo) (call : CallEntry) (past : List Entry) → list_any (wakes_by_handler d) def.runs ≡ false
    → IsDue def (by.CpuCall c call) past → wakes_by_call d call ≡ false
handler_wakes_none def d c (called.Wake woken x) past none due = by_test (same_dev d x) refl
  where
    by_test : (b : Bool) → same_dev d x ≡ b → (woken && b) ≡ false
    by_test false is = off woken
      where
        off : (w : Bool) → (w && false) ≡ false
        off true = refl
        off false = refl
    by_test true is =
        let u = handler_call_due def c (called.Wake woken x) past due in
        let row = step_row def (Some u.due) u.due.0 u.due.1 past (called.Wake woken x) refl u.step in
        let w = wake_call def (Some u.due) past woken x row in
        let makes = some_due (makes_calls def parts.Primary u.dev past)
        (due_of (run_script def u.dev parts.Primary) (entries_of_run parts.Primary u.dev past)) u.due u.is_due in
        let at : due_of (run_script def u.dev parts.Primary) (entries_of_run parts.Primary u.dev past) ≡ Some (calls.Wake x, w.0) =
        sym (ap (λ (m : Bool). cond m (due_of (run_script def u.dev parts.Primary) (entries_of_run parts.Primary u.dev past)) None) makes) ∙ u.is_due ∙ w.1 in
        absurd (not_both (same_dev d x) (one_of (λ c. not (wakes_this d c)) (run_script def u.dev parts.Primary)
        (entries_of_run parts.Primary u.dev past) (calls.Wake x) w.0
        (none_wake def.runs d u.dev none) at) is)
handler_wakes_none def d c call past none due = refl

pub no_thread_wake : (d : DevNo) (call : CallEntry) → wake_cost (λ x. 1) call ≡ 0 → wakes_by_call d call ≡ false
no_thread_wake d (called.Wake true x) h = absurd (omega (arith, h))
no_thread_wake d (called.Wake false x) h = refl
no_thread_wake d call h = refl

-- ---- all wakes of a told device

module _ (def : LineDef) (runs : HasValidRuns def) (d : DevNo) (none : list_any (wakes_by_handler d) def.runs ≡ false) where
  wake_more : (e : Entry) (past : List Entry) → IsLegalPast def (e ∷ past) → one_if (wakes d e) ≤ one_if (wakes_by_return d e) + driver_wakes d e
  wake_more (by.Cpu c (cpus.Return answer x n)) past legal = omega arith
  wake_more (by.CpuCall c call) past legal = let n : one_if (wakes_by_call d call)
      ≡ 0 = ap one_if (handler_wakes_none def d c call past none legal.0) in omega (arith, n)
  wake_more (by.ThreadCall x call) past legal =
      let n : one_if (wakes_by_call d call) ≡ 0 = ap one_if
      (no_thread_wake d call (thread_wakes_none def x call past runs legal.0 (λ y. 1))) in omega (arith, n)
  wake_more e past legal = omega arith

  wakes_past : (past : List Entry) → IsLegalPast def past → count_of (wakes d) past ≤ count_of (wakes_by_return d) past + total (driver_wakes d) past
  wakes_past [] legal = omega arith
  wakes_past (e ∷ past) legal =
      let r = wakes_past past legal.1 in
      let w = wake_more e past legal in
      let a = count_more (wakes d) e past in
      let b = count_more (wakes_by_return d) e past in
      omega (arith, r, w, a, b)

  pub told_wakes_counted : (past : List Entry) → IsLegalPast def past → (threaded : Bool) → kind_of def d ≡ kinds.Told threaded
      → count_of (wakes d) past ≤ told_wakes def d
  told_wakes_counted past legal threaded kind =
      let w = wakes_past past legal in
      let a = words_wake def d threaded kind past legal in
      let b = drivers_wake def d past legal in
      omega (arith, w, a, b)
