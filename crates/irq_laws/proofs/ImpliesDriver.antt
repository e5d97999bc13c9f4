-- What an entry implies that a driver alone makes, and what a call's step implies of the due call of
-- its actor.
use Rattle.std.proofs.Common.{◌≡◌, ℕ, Bool, true, false, not, ◌&&◌, cond, Option, Some, None, List, [], refl, sym, ap, ap₂, ◌∙◌}
use Rattle.irq_base.specs.declared.numbers.CpuNo.{CpuNo}
use Rattle.irq_base.specs.declared.numbers.DevNo.{DevNo}
use Rattle.irq_base.specs.declared.numbers.DriverNo.{DriverNo}
use Rattle.irq_base.specs.declared.calls.Flags.{Flags}
use Rattle.irq_base.specs.declared.calls.Call.{Call}
use Rattle.irq_base.specs.declared.calls.Call.TheVariants as calls
use Rattle.irq_base.specs.declared.devices.Part.TheVariants as parts
use Rattle.irq_base.specs.declared.lines.LineDef.{LineDef}
use Rattle.irq_base.specs.declared.entries.Actor.{Actor}
use Rattle.irq_base.specs.declared.entries.Actor.TheVariants as actors
use Rattle.irq_base.specs.declared.entries.Entry.{Entry}
use Rattle.irq_base.specs.declared.entries.Entry.TheVariants as by
use Rattle.irq_base.specs.declared.entries.DriverEntry.TheVariants as drivers
use Rattle.irq_base.specs.declared.entries.CallEntry.{CallEntry}
use Rattle.irq_base.specs.declared.entries.CallEntry.TheVariants as called
use Rattle.irq_base.specs.declared.entries.EnableAnswer.{EnableAnswer}
use Rattle.irq_base.specs.declared.entries.Opened.{Opened}
use Rattle.irq_base.specs.declared.entries.Opened.TheVariants as opens
use Rattle.irq_base.specs.declared.entries.LinkAnswer.{LinkAnswer}
use Rattle.irq_base.specs.declared.entries.LinkAnswer.TheVariants as links
use Rattle.irq_base.specs.declared.entries.UnlinkAnswer.{UnlinkAnswer}
use Rattle.irq_base.specs.declared.entries.AffinityAnswer.{AffinityAnswer}
use Rattle.irq_model.specs.Asks.{unserved_asks}
use Rattle.irq_model.specs.Kinds.{made_by}
use Rattle.irq_model.specs.Lines.{run_script}
use Rattle.irq_model.specs.Rounds.{flow, has_flow, is_cpu, at_work}
use Rattle.irq_model.specs.Threads.{is_running, active_count}
use Rattle.irq_model.specs.Due.{due_of, due_call, holds_mutex}
use Rattle.irq_model.specs.Runs.{due_in_run, entries_of_run, makes_calls}
use Rattle.irq_model.specs.RunLaws.{calls_of_run, is_in_run}
use Rattle.irq_model.specs.Next.{ask_makes_edge, enable_answer, link_answer, opened_by_request, request_with}
use Rattle.irq_model.specs.Next.{affinity_answer, wake_answer, arm_makes_edge, next_of_request, next_of_call, next_of_driver}
use Rattle.irq_model.specs.Next.{next_of_thread, next_in_flow, next_take, next_step, next_past}
use Rattle.irq_model.specs.Next.{handler_or_return, call_or_return}
use Rattle.irq_model.specs.Legal.{IsDue}
use Rattle.irq_laws.specs.Actors.{calls_at_work, entries_at_work, due_of_actor}
use Rattle.irq_laws.proofs.Chosen.{from_else, the_same}
use Rattle.irq_laws.proofs.ImpliesFlow.{made_step, handler_call_due}
use Rattle.irq_laws.proofs.ImpliesThread.{thread_call_due, thread_there, has_returned}
use Rattle.irq_laws.proofs.ImpliesCall.{Row, step_row, IsUnlinkDue, IsFreedDue, unlink_step, freed_step, clear_step}
use Rattle.irq_laws.proofs.ImpliesCall.{synced_step, enable_step, wake_step, arm_step, serve_step}

-- what a request makes of the depth
abbrev pub opened_with : LineDef → Flags → List Entry → LinkAnswer → Opened
opened_with def flags past links.Linked = opened_by_request def flags past
opened_with def flags past (links.Refused error) = opens.No

request_shape : (def : LineDef) (r : DriverNo) (d : DevNo) (flags : Flags) (past : List Entry) (a : LinkAnswer)
    → request_with def r d flags past a ≡ by.Driver r (drivers.Request flags a (opened_with def flags past a) d)
request_shape def r d flags past links.Linked = refl
request_shape def r d flags past (links.Refused error) = refl

-- the rows of a driver
pub data DriverRow (def : LineDef) (r : DriverNo) (past : List Entry) (e : Entry) : Type 0 where
  ask : (d : DevNo) (n : ℕ) → due_call def r past ≡ Some (calls.Ask d, n)
      → by.Driver r (drivers.Ask (ask_makes_edge def d past) d) ≡ e → DriverRow def r past e
  request : (d : DevNo) (flags : Flags) (n : ℕ) → due_call def r past ≡ Some (calls.Request d flags, n) → holds_mutex past ≡ false
      → by.Driver r (drivers.Request flags (link_answer def d flags past)
      (opened_with def flags past (link_answer def d flags past)) d) ≡ e → DriverRow def r past e
  affinity : (mask n : ℕ) → due_call def r past ≡ Some (calls.Affinity mask, n)
      → by.Driver r (drivers.Affinity (affinity_answer def mask) mask) ≡ e → DriverRow def r past e
  moment : (at n : ℕ) → due_call def r past ≡ Some (calls.Moment at, n) → by.Driver r (drivers.Moment at) ≡ e → DriverRow def r past e
  step : (due : Call × ℕ) (call : CallEntry) → due_call def r past ≡ Some due → next_step def past due ≡ Some call
      → by.DriverCall r call ≡ e → DriverRow def r past e

of_step : (def : LineDef) (r : DriverNo) (past : List Entry) (e : Entry) (due : Call × ℕ) → due_call def r past ≡ Some due
    → (call : CallEntry) × (next_step def past due ≡ Some call) × (by.DriverCall r call ≡ e) → DriverRow def r past e
of_step def r past e due is m = step due m.0 is m.1 m.2

row_of_request : (def : LineDef) (r : DriverNo) (d : DevNo) (flags : Flags) (n : ℕ)
    (past : List Entry) (e : Entry) → due_call def r past ≡ Some (calls.Request d flags, n)
    → next_of_request def r d flags past ≡ Some e → DriverRow def r past e
row_of_request def r d flags n past e is h =
    let f = from_else (holds_mutex past) _ e h in
    request d flags n is f.0 (sym (request_shape def r d flags past (link_answer def d flags past)) ∙ f.1)

row_of : (def : LineDef) (r : DriverNo) (o : Option (Call × ℕ)) (past : List Entry) (e : Entry) → due_call def r past ≡ o
    → next_of_driver def r past o ≡ Some e → DriverRow def r past e
row_of def r None past e is h = cc
row_of def r (Some (calls.Ask d, n)) past e is h = ask d n is (the_same _ _ h)
row_of def r (Some (calls.Request d flags, n)) past e is h = row_of_request def r d flags n past e is h
row_of def r (Some (calls.Affinity mask, n)) past e is h = affinity mask n is (the_same _ _ h)
row_of def r (Some (calls.Moment at, n)) past e is h = moment at n is (the_same _ _ h)
row_of def r (Some (calls.Free d, n)) past e is h = of_step def r past e (calls.Free d, n) is (made_step (actors.Driver r) _ e h)
row_of def r (Some (calls.Disable, n)) past e is h = of_step def r past e (calls.Disable, n) is (made_step (actors.Driver r) _ e h)
row_of def r (Some (calls.DisableNosync, n)) past e is h = of_step def r past e (calls.DisableNosync, n) is (made_step (actors.Driver r) _ e h)
row_of def r (Some (calls.Enable, n)) past e is h = of_step def r past e (calls.Enable, n) is (made_step (actors.Driver r) _ e h)
row_of def r (Some (calls.Sync, n)) past e is h = of_step def r past e (calls.Sync, n) is (made_step (actors.Driver r) _ e h)
row_of def r (Some (calls.SyncHard, n)) past e is h = of_step def r past e (calls.SyncHard, n) is (made_step (actors.Driver r) _ e h)
row_of def r (Some (calls.DisableHard, n)) past e is h = of_step def r past e (calls.DisableHard, n) is (made_step (actors.Driver r) _ e h)
row_of def r (Some (calls.Wake d, n)) past e is h = of_step def r past e (calls.Wake d, n) is (made_step (actors.Driver r) _ e h)
row_of def r (Some (calls.Quiet d, n)) past e is h = of_step def r past e (calls.Quiet d, n) is (made_step (actors.Driver r) _ e h)
row_of def r (Some (calls.Arm d, n)) past e is h = of_step def r past e (calls.Arm d, n) is (made_step (actors.Driver r) _ e h)
row_of def r (Some (calls.Serve d, n)) past e is h = of_step def r past e (calls.Serve d, n) is (made_step (actors.Driver r) _ e h)

-- the row of a driver's entry
pub driver_row : (def : LineDef) (r : DriverNo) (past : List Entry) (e : Entry)
    → next_of_driver def r past (due_call def r past) ≡ Some e → DriverRow def r past e
driver_row def r past e h = row_of def r (due_call def r past) past e refl h

-- ---- what a driver alone adds

pub record IsAskDue (def : LineDef) (r : DriverNo) (d : DevNo) (edge : Bool) (past : List Entry) : Type 0 where
  pub count : ℕ
  pub call : due_call def r past ≡ Some (calls.Ask d, count)
  pub edge_is : edge ≡ ask_makes_edge def d past

pub record IsRequestDue (def : LineDef) (r : DriverNo) (d : DevNo) (flags : Flags) (answer : LinkAnswer) (opened : Opened) (past : List Entry) : Type 0 where
  pub count : ℕ
  pub call : due_call def r past ≡ Some (calls.Request d flags, count)
  pub no_mutex : holds_mutex past ≡ false
  pub answer_is : answer ≡ link_answer def d flags past
  pub opened_is : opened ≡ opened_with def flags past (link_answer def d flags past)

pub record IsAffinityDue (def : LineDef) (r : DriverNo) (mask : ℕ) (answer : AffinityAnswer) (past : List Entry) : Type 0 where
  pub count : ℕ
  pub call : due_call def r past ≡ Some (calls.Affinity mask, count)
  pub answer_is : answer ≡ affinity_answer def mask

pub record IsMomentDue (def : LineDef) (r : DriverNo) (at : ℕ) (past : List Entry) : Type 0 where
  pub count : ℕ
  pub call : due_call def r past ≡ Some (calls.Moment at, count)

ask_row : (def : LineDef) (r : DriverNo) (d : DevNo) (edge : Bool) (past : List Entry)
    → DriverRow def r past (by.Driver r (drivers.Ask edge d)) → IsAskDue def r d edge past
ask_row def r d edge past (ask x n is same) =
    let s : x ≡ d = cc in
    let g : ask_makes_edge def x past ≡ edge = cc in
    record {
      count = n;
      call = is ∙ ap (λ (y : DevNo). Some (calls.Ask y, n)) s;
      edge_is = sym g ∙ ap (λ (y : DevNo). ask_makes_edge def y past) s;
    }
ask_row def r d edge past (request x fs n is free same) = cc
ask_row def r d edge past (affinity m n is same) = cc
ask_row def r d edge past (moment t n is same) = cc
ask_row def r d edge past (step due call is h same) = cc

pub ask_due : (def : LineDef) (r : DriverNo) (d : DevNo) (edge : Bool) (past : List Entry)
    → IsDue def (by.Driver r (drivers.Ask edge d)) past → IsAskDue def r d edge past
ask_due def r d edge past due = ask_row def r d edge past (driver_row def r past (by.Driver r (drivers.Ask edge d)) due)

request_row : (def : LineDef) (r : DriverNo) (d : DevNo) (flags : Flags) (answer : LinkAnswer) (opened : Opened) (past : List Entry)
    → DriverRow def r past (by.Driver r (drivers.Request flags answer opened d)) → IsRequestDue def r d flags answer opened past
request_row def r d flags answer opened past (request x fs n is free same) =
    let s : x ≡ d = cc in
    let t : fs ≡ flags = cc in
    let a : link_answer def x fs past ≡ answer = cc in
    let o : opened_with def fs past (link_answer def x fs past) ≡ opened = cc in
    record {
      count = n;
      call = is ∙ ap₂ (λ (y : DevNo) (g : Flags). Some (calls.Request y g, n)) s t;
      no_mutex = free;
      answer_is = sym a ∙ ap₂ (λ (y : DevNo) (g : Flags). link_answer def y g past) s t;
      opened_is = sym o ∙ ap₂ (λ (y : DevNo) (g : Flags). opened_with def g past (link_answer def y g past)) s t;
    }
request_row def r d flags answer opened past (ask x n is same) = cc
request_row def r d flags answer opened past (affinity m n is same) = cc
request_row def r d flags answer opened past (moment t n is same) = cc
request_row def r d flags answer opened past (step due call is h same) = cc

pub request_due : (def : LineDef) (r : DriverNo) (d : DevNo) (flags : Flags) (answer : LinkAnswer) (opened : Opened) (past : List Entry)
    → IsDue def (by.Driver r (drivers.Request flags answer opened d)) past → IsRequestDue def r d flags answer opened past
request_due def r d flags answer opened past due = request_row def r d flags answer opened past
    (driver_row def r past (by.Driver r (drivers.Request flags answer opened d)) due)

affinity_row : (def : LineDef) (r : DriverNo) (mask : ℕ) (answer : AffinityAnswer) (past : List Entry)
    → DriverRow def r past (by.Driver r (drivers.Affinity answer mask)) → IsAffinityDue def r mask answer past
affinity_row def r mask answer past (affinity m n is same) =
    let s : m ≡ mask = cc in
    let a : affinity_answer def m ≡ answer = cc in
    record { count = n; call = is ∙ ap (λ (k : ℕ). Some (calls.Affinity k, n)) s; answer_is = sym a ∙ ap (λ (k : ℕ). affinity_answer def k) s }
affinity_row def r mask answer past (ask x n is same) = cc
affinity_row def r mask answer past (request x fs n is free same) = cc
affinity_row def r mask answer past (moment t n is same) = cc
affinity_row def r mask answer past (step due call is h same) = cc

pub affinity_due : (def : LineDef) (r : DriverNo) (mask : ℕ) (answer : AffinityAnswer) (past : List Entry)
    → IsDue def (by.Driver r (drivers.Affinity answer mask)) past → IsAffinityDue def r mask answer past
affinity_due def r mask answer past due = affinity_row def r mask answer past (driver_row def r past (by.Driver r (drivers.Affinity answer mask)) due)

moment_row : (def : LineDef) (r : DriverNo) (at : ℕ) (past : List Entry)
    → DriverRow def r past (by.Driver r (drivers.Moment at)) → IsMomentDue def r at past
moment_row def r at past (moment t n is same) = let s : t ≡ at = cc in record { count = n; call = is ∙ ap (λ (k : ℕ). Some (calls.Moment k, n)) s }
moment_row def r at past (ask x n is same) = cc
moment_row def r at past (request x fs n is free same) = cc
moment_row def r at past (affinity m n is same) = cc
moment_row def r at past (step due call is h same) = cc

pub moment_due : (def : LineDef) (r : DriverNo) (at : ℕ) (past : List Entry)
    → IsDue def (by.Driver r (drivers.Moment at)) past → IsMomentDue def r at past
moment_due def r at past due = moment_row def r at past (driver_row def r past (by.Driver r (drivers.Moment at)) due)

-- ---- the due call of an actor

-- the due call of a run, by its script
pub handler_due : (def : LineDef) (d : DevNo) (past : List Entry) → due_in_run def parts.Primary d past
    ≡ due_of (calls_of_run def parts.Primary d past) (entries_of_run parts.Primary d past)
handler_due def d past = if_makes (makes_calls def parts.Primary d past) (run_script def d parts.Primary) (entries_of_run parts.Primary d past)
  where
    if_makes : (b : Bool) (cs : List Call) (es : List Entry) → cond b (due_of cs es) None ≡ due_of (cond b cs []) es
    if_makes true cs es = refl
    if_makes false cs es = refl

-- of a handler that is at work
pub due_at_work : (def : LineDef) (c : CpuNo) (d : DevNo) (past : List Entry) → is_cpu c (flow def past) ≡ true → at_work past ≡ Some d
    → due_of_actor def (actors.Cpu c) past ≡ due_in_run def parts.Primary d past
due_at_work def c d past f w =
    ap (λ (b : Bool). due_of (cond b (calls_at_work def (at_work past) past) []) (cond b (entries_at_work (at_work past) past) [])) f
    ∙ ap (λ (o : Option DevNo). due_of (calls_at_work def o past) (entries_at_work o past)) w
    ∙ sym (handler_due def d past)

run_is : (r t : Bool) → r ≡ true → t ≡ false → (r && not t) ≡ true
run_is true false a b = refl
run_is false t a b = cc
run_is true true a b = cc

-- of a thread in its run
pub due_in_thread : (def : LineDef) (d : DevNo) (past : List Entry) → is_running past d ≡ true → has_returned past d ≡ false
    → due_of_actor def (actors.Thread d) past ≡ due_in_run def parts.Thread d past
due_in_thread def d past r t =
    ap (λ (b : Bool). due_of (cond b (run_script def d parts.Thread) []) (cond b (entries_of_run parts.Thread d past) []))
    (run_is (is_running past d) (has_returned past d) r t)

-- a call's step is due: the actor's due call, and its step
pub record IsCallDue (def : LineDef) (a : Actor) (call : CallEntry) (past : List Entry) : Type 0 where
  pub due : Call × ℕ
  pub is_due : due_of_actor def a past ≡ Some due
  pub step : next_step def past due ≡ Some call

driver_step : (def : LineDef) (r : DriverNo) (call : CallEntry) (past : List Entry)
    → DriverRow def r past (by.DriverCall r call) → IsCallDue def (actors.Driver r) call past
driver_step def r call past (step due x is h same) =
    let s : x ≡ call = cc in
    record { due = due; is_due = is; step = h ∙ ap Some s }
driver_step def r call past (ask x n is same) = cc
driver_step def r call past (request x fs n is free same) = cc
driver_step def r call past (affinity m n is same) = cc
driver_step def r call past (moment t n is same) = cc

pub call_due : (def : LineDef) (a : Actor) (call : CallEntry) (past : List Entry) → IsDue def (made_by a call) past → IsCallDue def a call past
call_due def (actors.Cpu c) call past due =
    let u = handler_call_due def c call past due in
    record { due = u.due; is_due = due_at_work def c u.dev past u.of_flow u.is_at_work ∙ u.is_due; step = u.step }
call_due def (actors.Thread d) call past due =
    let u = thread_call_due def d call past due in
    record { due = u.due; is_due = due_in_thread def d past u.running u.not_returned ∙ u.is_due; step = u.step }
call_due def (actors.Driver r) call past due = driver_step def r call past (driver_row def r past (by.DriverCall r call) due)

pub call_row : (def : LineDef) (a : Actor) (call : CallEntry) (past : List Entry) → IsDue def (made_by a call) past
    → Row def (due_of_actor def a past) past call
call_row def a call past due =
    let u = call_due def a call past due in
    step_row def (due_of_actor def a past) u.due.0 u.due.1 past call u.is_due u.step

pub unlink_due : (def : LineDef) (a : Actor) (d : DevNo) (answer : UnlinkAnswer) (past : List Entry)
    → IsDue def (made_by a (called.Unlink answer d)) past → IsUnlinkDue (due_of_actor def a past) d answer past
unlink_due def a d answer past due = unlink_step def _ d answer past (call_row def a (called.Unlink answer d) past due)

pub freed_due : (def : LineDef) (a : Actor) (d : DevNo) (past : List Entry)
    → IsDue def (made_by a (called.Freed d)) past → IsFreedDue (due_of_actor def a past) d past
freed_due def a d past due = freed_step def _ d past (call_row def a (called.Freed d) past due)

pub hard_clear_due : (def : LineDef) (a : Actor) (past : List Entry) → IsDue def (made_by a called.HardClear) past → has_flow def past ≡ false
hard_clear_due def a past due = clear_step def _ past (call_row def a called.HardClear past due)

pub synced_due : (def : LineDef) (a : Actor) (past : List Entry) → IsDue def (made_by a called.Synced) past → active_count def past ≡ 0
synced_due def a past due = synced_step def _ past (call_row def a called.Synced past due)

pub enable_due : (def : LineDef) (a : Actor) (answer : EnableAnswer) (past : List Entry)
    → IsDue def (made_by a (called.Enable answer)) past → answer ≡ enable_answer def past
enable_due def a answer past due = enable_step def _ answer past (call_row def a (called.Enable answer) past due)

pub wake_due : (def : LineDef) (a : Actor) (woken : Bool) (d : DevNo) (past : List Entry)
    → IsDue def (made_by a (called.Wake woken d)) past → woken ≡ wake_answer def d past
wake_due def a woken d past due = wake_step def _ woken d past (call_row def a (called.Wake woken d) past due)

pub arm_due : (def : LineDef) (a : Actor) (edge : Bool) (d : DevNo) (past : List Entry)
    → IsDue def (made_by a (called.Arm edge d)) past → edge ≡ arm_makes_edge def d past
arm_due def a edge d past due = arm_step def _ edge d past (call_row def a (called.Arm edge d) past due)

pub serve_due : (def : LineDef) (a : Actor) (d : DevNo) (served : ℕ) (past : List Entry)
    → IsDue def (made_by a (called.Serve d served)) past → served ≡ unserved_asks def d past
serve_due def a d served past due = serve_step def _ d served past (call_row def a (called.Serve d served) past due)

-- ---- an actor that has a due call adds its entry

some_of : (b : Bool) (cs : List Call) (es : List Entry) (due : Call × ℕ) → due_of (cond b cs []) (cond b es []) ≡ Some due
    → (b ≡ true) × (due_of cs es ≡ Some due)
some_of true cs es due h = (refl, h)
some_of false cs es due h = cc

-- of whatever is due, by a processor, where its handler has a due call
pub record AtWork (def : LineDef) (c : CpuNo) (due : Call × ℕ) (past : List Entry) : Type 0 where
  pub of_flow : is_cpu c (flow def past) ≡ true
  pub dev : DevNo
  pub is_at_work : at_work past ≡ Some dev
  pub is_due : due_in_run def parts.Primary dev past ≡ Some due

pub handler_works : (def : LineDef) (c : CpuNo) (due : Call × ℕ) (past : List Entry) → due_of_actor def (actors.Cpu c) past ≡ Some due → AtWork def c due past
handler_works def c due past h = by_work (at_work past) refl (some_of (is_cpu c (flow def past)) _ _ due h)
  where
    by_work : (o : Option DevNo) → at_work past ≡ o
        → (is_cpu c (flow def past) ≡ true) × (due_of (calls_at_work def (at_work past) past) (entries_at_work (at_work past) past) ≡ Some due)
        → AtWork def c due past
    by_work None is h = let n = ap (λ (o : Option DevNo). due_of (calls_at_work def o past) (entries_at_work o past)) (sym is) ∙ h.1 in cc
    by_work (Some d) is h =
        let n = ap (λ (o : Option DevNo). due_of (calls_at_work def o past) (entries_at_work o past)) (sym is) ∙ h.1 in
        record { of_flow = h.0; dev = d; is_at_work = is; is_due = handler_due def d past ∙ n }

run_parts : (r t : Bool) → (r && not t) ≡ true → (r ≡ true) × (t ≡ false)
run_parts true false h = (refl, refl)
run_parts true true h = cc
run_parts false t h = cc

-- by a thread in its run
pub thread_works : (def : LineDef) (d : DevNo) (due : Call × ℕ) (past : List Entry) → due_of_actor def (actors.Thread d) past ≡ Some due
    → (is_running past d ≡ true) × (has_returned past d ≡ false) × (due_in_run def parts.Thread d past ≡ Some due)
thread_works def d due past h =
    let s = some_of (is_in_run past d) (run_script def d parts.Thread) (entries_of_run parts.Thread d past) due h in
    let p = run_parts (is_running past d) (has_returned past d) s.0 in
    (p.0, p.1, s.1)

-- what the actor adds, if its thread is one of the line
pub acts_for : (def : LineDef) (a : Actor) (due : Call × ℕ) (past : List Entry) (e : Entry) → due_of_actor def a past ≡ Some due
    → next_past def past a ≡ Some e → next_of_call def a past due ≡ Some e
acts_for def (actors.Driver r) due past e is h = ap (λ (o : Option (Call × ℕ)). next_of_driver def r past o) (sym is) ∙ h
acts_for def (actors.Cpu c) due past e is h =
    let w = handler_works def c due past is in
    sym (ap (λ (b : Bool). cond b (next_in_flow def c past (at_work past)) (next_take def c past)) w.of_flow
    ∙ ap (next_in_flow def c past) w.is_at_work
    ∙ ap (λ (o : Option (Call × ℕ)). handler_or_return def c w.dev past o) w.is_due) ∙ h
acts_for def (actors.Thread d) due past e is h =
    let w = thread_works def d due past is in
    let there = thread_there def d past e h in
    let m : next_of_thread def d past ≡ Some e = ap (λ (b : Bool). cond b (next_of_thread def d past) None) (sym there) ∙ h in
    sym (in_thread def d past w.0 w.1 ∙ ap (λ (o : Option (Call × ℕ)). call_or_return def d past o) w.2) ∙ m
  where
    in_thread : (def : LineDef) (d : DevNo) (past : List Entry) → is_running past d ≡ true → has_returned past d ≡ false
        → next_of_thread def d past ≡ call_or_return def d past (due_in_run def parts.Thread d past)
    in_thread def d past r t = rw (r, t) refl
