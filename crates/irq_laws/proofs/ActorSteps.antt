-- What one more entry makes of an actor's calls, and of the entries that it has made of them.
use Rattle.std.proofs.Common.{◌≡◌, ℕ, Bool, true, false, not, ◌||◌, ◌&&◌, cond, Option, Some, None, is_some}
use Rattle.std.proofs.Common.{List, [], ◌∷◌, ◌++◌, filter, reverse, refl, sym, ap, ap₂, ◌∙◌, subst}
use Rattle.std.specs.List.{list_any}
use Rattle.std.proofs.lemmas.Grind.{reverse_onto}
use Rattle.irq_base.specs.declared.numbers.CpuNo.{CpuNo}
use Rattle.irq_base.specs.declared.numbers.DevNo.{DevNo}
use Rattle.irq_base.specs.declared.numbers.DriverNo.{DriverNo}
use Rattle.irq_base.specs.declared.calls.Call.{Call}
use Rattle.irq_base.specs.declared.calls.Call.TheVariants as calls
use Rattle.irq_base.specs.declared.devices.Part.TheVariants as parts
use Rattle.irq_base.specs.declared.lines.LineDef.{LineDef}
use Rattle.irq_base.specs.declared.entries.Actor.{Actor}
use Rattle.irq_base.specs.declared.entries.Actor.TheVariants as actors
use Rattle.irq_base.specs.declared.entries.Entry.{Entry}
use Rattle.irq_base.specs.declared.entries.Entry.TheVariants as by
use Rattle.irq_base.specs.declared.entries.CpuEntry.{CpuEntry}
use Rattle.irq_base.specs.declared.entries.CpuEntry.TheVariants as cpus
use Rattle.irq_base.specs.declared.entries.ThreadEntry.{ThreadEntry}
use Rattle.irq_base.specs.declared.entries.ThreadEntry.TheVariants as threads
use Rattle.irq_base.specs.declared.entries.TakeAnswer.TheVariants as takes
use Rattle.irq_base.specs.declared.entries.CallEntry.{CallEntry}
use Rattle.irq_base.specs.Who.{actor_of}
use Rattle.irq_model.specs.Places.{since}
use Rattle.irq_model.specs.Kinds.{same_cpu, same_dev, same_actor, is_by, is_by_driver, is_driver, is_begin, is_begin_or_return}
use Rattle.irq_model.specs.Kinds.{is_cpu_call, is_thread_call, is_thread_begin, is_thread_return}
use Rattle.irq_model.specs.Lines.{run_script}
use Rattle.irq_model.specs.Rounds.{flow, has_flow, is_cpu, at_work}
use Rattle.irq_model.specs.Threads.{is_running}
use Rattle.irq_model.specs.Due.{due_of}
use Rattle.irq_model.specs.Runs.{entries_of_run}
use Rattle.irq_model.specs.RunLaws.{is_in_run}
use Rattle.irq_model.specs.Next.{next_past}
use Rattle.irq_model.specs.Legal.{IsDue}
use Rattle.irq_model.proofs.Same.{dev_from_same, cpu_from_same, driver_from_same}
use Rattle.irq_model.proofs.RoundSteps.{flow_quiet}
use Rattle.irq_laws.specs.Kept.{KeepsRuns}
use Rattle.irq_laws.specs.Actors.{calls_of, calls_at_work, entries_of, entries_at_work, due_of_actor}
use Rattle.irq_laws.proofs.Lists.{both_ways}
use Rattle.irq_laws.proofs.RunsKept.{handle_idle}
use Rattle.irq_laws.proofs.ImpliesFlow.{take_due, begin_due, return_due, end_due, handler_call_due}
use Rattle.irq_laws.proofs.ImpliesThread.{thread_begin_due, thread_return_due, finish_due, done_due, thread_call_due, has_returned}
use Rattle.irq_laws.proofs.ImpliesDriver.{due_at_work, due_in_thread, call_due, DriverRow, driver_row, ask, request, affinity, moment, step}

-- the actor makes one entry more; or another does; or a run of it begins; or none of it is there
pub data Turn (def : LineDef) (a : Actor) (e : Entry) (past : List Entry) : Type 0 where
  goes : is_by a e ≡ true → (due : Call × ℕ) → due_of_actor def a past ≡ Some due → calls_of def a (e ∷ past) ≡ calls_of def a past
      → entries_of def a (e ∷ past) ≡ entries_of def a past ++ e ∷ [] → Turn def a e past
  stays : is_by a e ≡ false → calls_of def a (e ∷ past) ≡ calls_of def a past
      → entries_of def a (e ∷ past) ≡ entries_of def a past → Turn def a e past
  begins : due_of_actor def a past ≡ None → entries_of def a (e ∷ past) ≡ [] → Turn def a e past
  ends : due_of_actor def a past ≡ None → calls_of def a (e ∷ past) ≡ [] → entries_of def a (e ∷ past) ≡ [] → Turn def a e past

none_left : {A : Type 0} (b : Bool) → ◌≡◌ {A = List A} (cond b [] []) []
none_left true = refl
none_left false = refl

-- ---- drivers

by_driver : (r : DriverNo) (x : Actor) → same_actor (actors.Driver r) x ≡ is_driver r x
by_driver r (actors.Driver s) = refl
by_driver r (actors.Thread d) = refl
by_driver r (actors.Cpu c) = refl

is_the_driver : (r : DriverNo) (x : Actor) → is_driver r x ≡ true → x ≡ actors.Driver r
is_the_driver r (actors.Driver s) h = ap actors.Driver (sym (driver_from_same r s h))
is_the_driver r (actors.Thread d) h = cc
is_the_driver r (actors.Cpu c) h = cc

abbrev HasDue : LineDef → Actor → List Entry → Type 0
HasDue def a past = (due : Call × ℕ) × (due_of_actor def a past ≡ Some due)

driver_has : (def : LineDef) (r : DriverNo) (past : List Entry) (e : Entry) → DriverRow def r past e → HasDue def (actors.Driver r) past
driver_has def r past e (ask d n is same) = ((calls.Ask d, n), is)
driver_has def r past e (request d flags n is free same) = ((calls.Request d flags, n), is)
driver_has def r past e (affinity mask n is same) = ((calls.Affinity mask, n), is)
driver_has def r past e (moment at n is same) = ((calls.Moment at, n), is)
driver_has def r past e (step due call is h same) = (due, is)

driver_turn : (def : LineDef) (r : DriverNo) (e : Entry) (past : List Entry) (b : Bool) → is_by_driver r e ≡ b → IsDue def e past
    → Turn def (actors.Driver r) e past
driver_turn def r e past true is due =
    let whose = is_the_driver r (actor_of e) is in
    let h = driver_has def r past e (driver_row def r past e (ap (next_past def past) (sym whose) ∙ due)) in
    goes (by_driver r (actor_of e) ∙ is) h.0 h.1 refl
    (ap (λ (b : Bool). reverse (cond b (e ∷ filter (is_by_driver r) past) (filter (is_by_driver r) past))) is
    ∙ reverse_onto (filter (is_by_driver r) past) e [])
driver_turn def r e past false is due =
    stays (by_driver r (actor_of e) ∙ is) refl
    (ap (λ (b : Bool). reverse (cond b (e ∷ filter (is_by_driver r) past) (filter (is_by_driver r) past))) is)

-- ---- threads

in_no_run : (def : LineDef) (d : DevNo) (past : List Entry) → is_in_run past d ≡ false → due_of_actor def (actors.Thread d) past ≡ None
in_no_run def d past h = ap (λ (b : Bool). due_of (cond b (run_script def d parts.Thread) []) (cond b (entries_of_run parts.Thread d past) [])) h

no_run : (def : LineDef) (d : DevNo) (past : List Entry) → is_in_run past d ≡ false
    → (calls_of def (actors.Thread d) past ≡ []) × (entries_of def (actors.Thread d) past ≡ [])
no_run def d past h = (
  ap (λ (b : Bool). cond b (run_script def d parts.Thread) []) h,
  ap (λ (b : Bool). cond b (entries_of_run parts.Thread d past) []) h,
)

out_by_run : (r t : Bool) → r ≡ false → (r && not t) ≡ false
out_by_run r t h = grind_false r t h
  where
    grind_false : (r t : Bool) → r ≡ false → (r && not t) ≡ false
    grind_false true t h = cc
    grind_false false t h = refl

out_by_return : (r t : Bool) → t ≡ true → (r && not t) ≡ false
out_by_return true true h = refl
out_by_return false t h = refl
out_by_return true false h = cc

thread_turn : (def : LineDef) (d : DevNo) (t : ThreadEntry) (past : List Entry) → IsDue def (by.Thread d t) past
    → same_dev d d ≡ true → Turn def (actors.Thread d) (by.Thread d t) past
thread_turn def d threads.Begin past due self =
    begins (in_no_run def d past (out_by_run (is_running past d) (has_returned past d) (thread_begin_due def d past due).not_running))
    (rw self refl)
thread_turn def d (threads.Return handled served) past due self =
    let u = thread_return_due def d handled served past due in
    let out : is_in_run (by.Thread d (threads.Return handled served) ∷ past) d ≡ false
    = out_by_return (is_running past d) _ (ap (λ (b : Bool). b || list_any (is_thread_return d) (since (is_thread_begin d) past)) self) in
    let n = no_run def d (by.Thread d (threads.Return handled served) ∷ past) out in
    ends (due_in_thread def d past u.running u.not_returned ∙ u.no_call) n.0 n.1
thread_turn def d (threads.Finish kept unmask) past due self =
    let u = finish_due def d kept unmask past due in
    let out = out_by_return (is_running past d) (has_returned past d) u.returned in
    let n = no_run def d (by.Thread d (threads.Finish kept unmask) ∷ past) out in
    ends (in_no_run def d past out) n.0 n.1
thread_turn def d threads.Done past due self =
    let u = done_due def d past due in
    let out = out_by_return (is_running past d) (has_returned past d) u.returned in
    let after : is_in_run (by.Thread d threads.Done ∷ past) d ≡ false
    = out_by_run (not (same_dev d d) && is_running past d) (has_returned past d) (ap (λ (b : Bool). not b && is_running past d) self) in
    let n = no_run def d (by.Thread d threads.Done ∷ past) after in
    ends (in_no_run def d past out) n.0 n.1

other_thread : (def : LineDef) (d x : DevNo) (t : ThreadEntry) (past : List Entry) → same_dev d x ≡ false → Turn def (actors.Thread d) (by.Thread x t) past
other_thread def d x threads.Begin past other = stays other (rw other refl) (rw other refl)
other_thread def d x (threads.Return handled served) past other = stays other (rw other refl) (rw other refl)
other_thread def d x (threads.Finish kept unmask) past other = stays other refl refl
other_thread def d x threads.Done past other = stays other (rw other refl) (rw other refl)

in_the_run : (r t : Bool) → r ≡ true → t ≡ false → (r && not t) ≡ true
in_the_run true false a b = refl
in_the_run false t a b = cc
in_the_run true true a b = cc

thread_call_turn : (def : LineDef) (d x : DevNo) (call : CallEntry) (past : List Entry) (b : Bool) → same_dev d x ≡ b
    → IsDue def (by.ThreadCall x call) past → Turn def (actors.Thread d) (by.ThreadCall x call) past
thread_call_turn def d x call past false other due = stays other refl (rw other refl)
thread_call_turn def d x call past true same due =
    let u = thread_call_due def x call past due in
    let is : is_in_run past x ≡ true = in_the_run (is_running past x) (has_returned past x) u.running u.not_returned in
    let mine : is_in_run past d ≡ true = subst (λ (y : DevNo). is_in_run past y ≡ true) (sym (dev_from_same d x same)) is in
    let own : List Entry = filter (is_thread_call d) (since (is_thread_begin d) past) in
    let h = call_due def (actors.Thread x) call past due in
    goes same h.due (subst (λ (y : DevNo). due_of_actor def (actors.Thread y) past ≡ Some h.due) (sym (dev_from_same d x same)) h.is_due) refl
    (ap₂ (λ (b c : Bool). cond b (reverse (cond c (by.ThreadCall x call ∷ own) own)) []) mine same
    ∙ reverse_onto own (by.ThreadCall x call) []
    ∙ ap (λ (b : Bool). cond b (reverse own) [] ++ by.ThreadCall x call ∷ []) (sym mine))

-- ---- processors

no_begin : (d : DevNo) (e : Entry) → is_begin_or_return e ≡ false → is_begin d e ≡ false
no_begin d (by.Cpu c (cpus.Begin x)) h = cc
no_begin d e h = refl

-- an entry that neither begins nor ends a handler leaves what the handler at work is to call
calls_same : (def : LineDef) (o : Option DevNo) (e : Entry) (past : List Entry) → is_begin_or_return e ≡ false
    → calls_at_work def o (e ∷ past) ≡ calls_at_work def o past
calls_same def None e past h = refl
calls_same def (Some d) e past h = let n = no_begin d e h in rw n refl

entries_same : (o : Option DevNo) (e : Entry) (past : List Entry) → is_begin_or_return e ≡ false → is_cpu_call e ≡ false
    → entries_at_work o (e ∷ past) ≡ entries_at_work o past
entries_same None e past h i = refl
entries_same (Some d) e past h i = rw (h, i) refl

entries_more : (o : Option DevNo) (d : DevNo) (e : Entry) (past : List Entry) → o ≡ Some d → is_begin_or_return e ≡ false → is_cpu_call e ≡ true
    → entries_at_work o (e ∷ past) ≡ entries_at_work o past ++ e ∷ []
entries_more None d e past w h i = cc
entries_more (Some x) d e past w h i = rw (h, i) (reverse_onto (filter is_cpu_call (since is_begin_or_return past)) e [])

-- what is called and made by c, by the flow and the handler at work
abbrev CallsBy : CpuNo → Option CpuNo → List Call → List Call
CallsBy c f cs = cond (is_cpu c f) cs []

abbrev EntriesBy : CpuNo → Option CpuNo → List Entry → List Entry
EntriesBy c f es = cond (is_cpu c f) es []

out_of_flow : (def : LineDef) (c : CpuNo) (past : List Entry) → is_cpu c (flow def past) ≡ false
    → (calls_of def (actors.Cpu c) past ≡ []) × (entries_of def (actors.Cpu c) past ≡ [])
out_of_flow def c past h = (
  ap (λ (b : Bool). cond b (calls_at_work def (at_work past) past) []) h,
  ap (λ (b : Bool). cond b (entries_at_work (at_work past) past) []) h,
)

nothing_at_work : (def : LineDef) (c : CpuNo) (past : List Entry) → at_work past ≡ None
    → (calls_of def (actors.Cpu c) past ≡ []) × (entries_of def (actors.Cpu c) past ≡ [])
nothing_at_work def c past h = (
  ap (λ (o : Option DevNo). cond (is_cpu c (flow def past)) (calls_at_work def o past) []) h ∙ none_left (is_cpu c (flow def past)),
  ap (λ (o : Option DevNo). cond (is_cpu c (flow def past)) (entries_at_work o past) []) h ∙ none_left (is_cpu c (flow def past)),
)

no_due : (def : LineDef) (a : Actor) (past : List Entry) → (calls_of def a past ≡ []) × (entries_of def a past ≡ []) → due_of_actor def a past ≡ None
no_due def a past n = ap₂ (λ (cs : List Call) (es : List Entry). due_of cs es) n.0 n.1

over : (def : LineDef) (a : Actor) (e : Entry) (past : List Entry) → due_of_actor def a past ≡ None
    → (calls_of def a (e ∷ past) ≡ []) × (entries_of def a (e ∷ past) ≡ []) → Turn def a e past
over def a e past was now = ends was now.0 now.1

-- another's flow
other_flow : (c x : CpuNo) (o : Option CpuNo) → same_cpu c x ≡ false → is_cpu x o ≡ true → is_cpu c o ≡ false
other_flow c x None differs h = cc
other_flow c x (Some f) differs h = ap (same_cpu c) (sym (cpu_from_same x f h)) ∙ differs

own_flow : (c x : CpuNo) (o : Option CpuNo) → same_cpu c x ≡ true → is_cpu x o ≡ true → is_cpu c o ≡ true
own_flow c x o same h = subst (λ (y : CpuNo). is_cpu y o ≡ true) (sym (cpu_from_same c x same)) h

-- an entry outside the handlers leaves the calls of c
beside : (def : LineDef) (c : CpuNo) (e : Entry) (past : List Entry) → is_by (actors.Cpu c) e ≡ false → flow def (e ∷ past) ≡ flow def past
    → at_work (e ∷ past) ≡ at_work past → is_begin_or_return e ≡ false → is_cpu_call e ≡ false → Turn def (actors.Cpu c) e past
beside def c e past other same_flow same_work no_run no_call =
    stays other
    (ap₂ (λ (f : Option CpuNo) (cs : List Call). CallsBy c f cs) same_flow
    (ap (λ (o : Option DevNo). calls_at_work def o (e ∷ past)) same_work ∙ calls_same def (at_work past) e past no_run))
    (ap₂ (λ (f : Option CpuNo) (es : List Entry). EntriesBy c f es) same_flow
    (ap (λ (o : Option DevNo). entries_at_work o (e ∷ past)) same_work ∙ entries_same (at_work past) e past no_run no_call))

none_of_flow : (def : LineDef) (past : List Entry) → KeepsRuns def past → has_flow def past ≡ false → at_work past ≡ None
none_of_flow def past k idle = by_work (at_work past) refl
  where
    by_work : (o : Option DevNo) → at_work past ≡ o → at_work past ≡ None
    by_work None is = is
    by_work (Some d) is = both_ways (has_flow def past) (k.working d is).1 idle

no_cpu : (c : CpuNo) (o : Option CpuNo) → is_some o ≡ false → is_cpu c o ≡ false
no_cpu c None h = refl
no_cpu c (Some x) h = cc

unhandled_turn : (def : LineDef) (c x : CpuNo) (e : Entry) (past : List Entry) (b : Bool) → is_by (actors.Cpu c) e ≡ b → same_cpu c x ≡ b
    → is_cpu x (flow def past) ≡ false → flow def (e ∷ past) ≡ flow def past
    → at_work (e ∷ past) ≡ at_work past → is_begin_or_return e ≡ false → is_cpu_call e ≡ false → Turn def (actors.Cpu c) e past
unhandled_turn def c x e past false other differs out same_flow same_work no_run no_call = beside def c e past other same_flow same_work no_run no_call
unhandled_turn def c x e past true mine same out same_flow same_work no_run no_call =
    let mine_out : is_cpu c (flow def past) ≡ false = subst (λ (y : CpuNo). is_cpu y (flow def past) ≡ false) (sym (cpu_from_same c x same)) out in
    over def (actors.Cpu c) e past (no_due def (actors.Cpu c) past (out_of_flow def c past mine_out))
    (out_of_flow def c (e ∷ past) (ap (is_cpu c) same_flow ∙ mine_out))

cpu_turn : (def : LineDef) (c x : CpuNo) (t : CpuEntry) (past : List Entry) (b : Bool) → same_cpu c x ≡ b → KeepsRuns def past
    → IsDue def (by.Cpu x t) past → Turn def (actors.Cpu c) (by.Cpu x t) past
cpu_turn def c x (cpus.Take way takes.Handle) past b is k due =
    let idle = (handle_idle def past (take_due def x way takes.Handle past due).answer_is).0 in
    let nobody = none_of_flow def past k idle in
    over def (actors.Cpu c) (by.Cpu x (cpus.Take way takes.Handle)) past
    (no_due def (actors.Cpu c) past (nothing_at_work def c past nobody))
    (nothing_at_work def c (by.Cpu x (cpus.Take way takes.Handle) ∷ past) nobody)
cpu_turn def c x (cpus.Take way takes.Busy) past b is k due =
    unhandled_turn def c x (by.Cpu x (cpus.Take way takes.Busy)) past b is is (take_due def x way takes.Busy past due).not_of_flow
    (flow_quiet def (by.Cpu x (cpus.Take way takes.Busy)) past refl refl refl) refl refl refl
cpu_turn def c x (cpus.Take way takes.Off) past b is k due =
    unhandled_turn def c x (by.Cpu x (cpus.Take way takes.Off)) past b is is (take_due def x way takes.Off past due).not_of_flow
    (flow_quiet def (by.Cpu x (cpus.Take way takes.Off)) past refl refl refl) refl refl refl
cpu_turn def c x (cpus.Begin d) past true same k due =
    let u = begin_due def x d past due in
    begins (no_due def (actors.Cpu c) past (nothing_at_work def c past u.none_at_work)) (none_left (is_cpu c (flow def (by.Cpu x (cpus.Begin d) ∷ past))))
cpu_turn def c x (cpus.Begin d) past false differs k due =
    let u = begin_due def x d past due in
    let out = other_flow c x (flow def past) differs u.of_flow in
    over def (actors.Cpu c) (by.Cpu x (cpus.Begin d)) past (no_due def (actors.Cpu c) past (out_of_flow def c past out))
    (out_of_flow def c (by.Cpu x (cpus.Begin d) ∷ past) (ap (is_cpu c) (flow_quiet def (by.Cpu x (cpus.Begin d)) past refl refl refl) ∙ out))
cpu_turn def c x (cpus.Return answer d served) past true same k due =
    let u = return_due def x d answer served past due in
    over def (actors.Cpu c) (by.Cpu x (cpus.Return answer d served)) past
    (due_at_work def c d past (own_flow c x (flow def past) same u.of_flow) u.is_at_work ∙ u.no_call)
    (nothing_at_work def c (by.Cpu x (cpus.Return answer d served) ∷ past) refl)
cpu_turn def c x (cpus.Return answer d served) past false differs k due =
    let u = return_due def x d answer served past due in
    over def (actors.Cpu c) (by.Cpu x (cpus.Return answer d served)) past
    (no_due def (actors.Cpu c) past (out_of_flow def c past (other_flow c x (flow def past) differs u.of_flow)))
    (nothing_at_work def c (by.Cpu x (cpus.Return answer d served) ∷ past) refl)
cpu_turn def c x (cpus.End again unmask note) past b is k due =
    let u = end_due def x again unmask note past due in
    over def (actors.Cpu c) (by.Cpu x (cpus.End again unmask note)) past
    (no_due def (actors.Cpu c) past (nothing_at_work def c past u.none_at_work))
    (nothing_at_work def c (by.Cpu x (cpus.End again unmask note) ∷ past) u.none_at_work)

cpu_call_turn : (def : LineDef) (c x : CpuNo) (call : CallEntry) (past : List Entry) (b : Bool) → same_cpu c x ≡ b
    → IsDue def (by.CpuCall x call) past → Turn def (actors.Cpu c) (by.CpuCall x call) past
cpu_call_turn def c x call past false differs due =
    let u = handler_call_due def x call past due in
    let out = other_flow c x (flow def past) differs u.of_flow in
    over def (actors.Cpu c) (by.CpuCall x call) past (no_due def (actors.Cpu c) past (out_of_flow def c past out))
    (out_of_flow def c (by.CpuCall x call ∷ past) (ap (is_cpu c) (flow_quiet def (by.CpuCall x call) past refl refl refl) ∙ out))
cpu_call_turn def c x call past true same due =
    let u = handler_call_due def x call past due in
    let mine = own_flow c x (flow def past) same u.of_flow in
    let e = by.CpuCall x call in
    let still : flow def (by.CpuCall x call ∷ past) ≡ flow def past = flow_quiet def (by.CpuCall x call) past refl refl refl in
    let h = call_due def (actors.Cpu x) call past due in
    goes same h.due (subst (λ (y : CpuNo). due_of_actor def (actors.Cpu y) past ≡ Some h.due) (sym (cpu_from_same c x same)) h.is_due)
    (ap₂ (λ (f : Option CpuNo) (cs : List Call). CallsBy c f cs) still (calls_same def (at_work past) (by.CpuCall x call) past refl))
    (ap₂ (λ (f : Option CpuNo) (es : List Entry). EntriesBy c f es) still (entries_more (at_work past) u.dev (by.CpuCall x call) past u.is_at_work refl refl)
    ∙ both_in (is_cpu c (flow def past)) (entries_at_work (at_work past) past) (by.CpuCall x call) mine)
  where
    both_in : (b : Bool) (es : List Entry) (e : Entry) → b ≡ true → cond b (es ++ e ∷ []) [] ≡ cond b es [] ++ e ∷ []
    both_in true es e h = refl
    both_in false es e h = cc

-- ---- every actor, and every entry

pub turn : (def : LineDef) (a : Actor) (e : Entry) (past : List Entry) → IsDue def e past → KeepsRuns def past → Turn def a e past
turn def (actors.Driver r) e past due k = driver_turn def r e past (is_by_driver r e) refl due
turn def (actors.Thread d) (by.Thread x t) past due k = by_dev (same_dev d x) refl
  where
    by_dev : (b : Bool) → same_dev d x ≡ b → Turn def (actors.Thread d) (by.Thread x t) past
    by_dev false other = other_thread def d x t past other
    by_dev true same =
        let equal = dev_from_same d x same in
        subst (λ (y : DevNo). Turn def (actors.Thread y) (by.Thread x t) past) (sym equal)
        (thread_turn def x t past due (subst (λ (y : DevNo). same_dev y x ≡ true) equal same))
turn def (actors.Thread d) (by.ThreadCall x call) past due k = thread_call_turn def d x call past (same_dev d x) refl due
turn def (actors.Thread d) (by.Cpu x t) past due k = cpu_beside t
  where
    cpu_beside : (t : CpuEntry) → Turn def (actors.Thread d) (by.Cpu x t) past
    cpu_beside t = stays refl refl refl
turn def (actors.Thread d) (by.CpuCall x call) past due k = stays refl refl refl
turn def (actors.Thread d) (by.Driver s t) past due k = stays refl refl refl
turn def (actors.Thread d) (by.DriverCall s call) past due k = stays refl refl refl
turn def (actors.Cpu c) (by.Cpu x t) past due k = cpu_turn def c x t past (same_cpu c x) refl k due
turn def (actors.Cpu c) (by.CpuCall x call) past due k = cpu_call_turn def c x call past (same_cpu c x) refl due
turn def (actors.Cpu c) (by.Thread x t) past due k = beside def c (by.Thread x t) past refl (flow_quiet def (by.Thread x t) past refl refl refl) refl refl refl
turn def (actors.Cpu c) (by.ThreadCall x call) past due k =
    beside def c (by.ThreadCall x call) past refl (flow_quiet def (by.ThreadCall x call) past refl refl refl) refl refl refl
turn def (actors.Cpu c) (by.Driver s t) past due k = beside def c (by.Driver s t) past refl (flow_quiet def (by.Driver s t) past refl refl refl) refl refl refl
turn def (actors.Cpu c) (by.DriverCall s call) past due k =
    beside def c (by.DriverCall s call) past refl (flow_quiet def (by.DriverCall s call) past refl refl refl) refl refl refl
