-- What every entry keeps while a driver's disable stands and nobody disturbs the line.
use Rattle.std.proofs.Common.{◌≡◌, ℕ, ◌+◌, ◌-◌, ◌<◌, ◌≤◌, ◌⊎◌, inl, inr, Bool, true, false, not, ◌||◌, ◌&&◌, cond}
use Rattle.std.proofs.Common.{is_some, List, [], ◌∷◌, reverse, refl, sym, ap, ◌∙◌, subst, arith}
use Rattle.std.proofs.lemmas.Bool.{lt-ltb, or_left, or_right, or_cases, or_from, or_parts, and_right}
use Rattle.std.proofs.lemmas.List.{reverse-reverse}
use Rattle.std.specs.List.{list_any}
use Rattle.irq_base.specs.declared.numbers.DevNo.{DevNo}
use Rattle.irq_base.specs.declared.numbers.DriverNo.{DriverNo}
use Rattle.irq_base.specs.declared.lines.FlowKind.{FlowKind}
use Rattle.irq_base.specs.declared.lines.FlowKind.TheVariants as flows
use Rattle.irq_base.specs.declared.lines.LineDef.{LineDef}
use Rattle.irq_base.specs.declared.entries.Entry.{Entry}
use Rattle.irq_base.specs.declared.entries.Entry.TheVariants as by
use Rattle.irq_base.specs.declared.entries.CpuEntry.TheVariants as cpus
use Rattle.irq_base.specs.declared.entries.ThreadEntry.TheVariants as threads
use Rattle.irq_base.specs.declared.entries.DriverEntry.TheVariants as drivers
use Rattle.irq_base.specs.declared.entries.CallEntry.{CallEntry}
use Rattle.irq_base.specs.declared.entries.CallEntry.TheVariants as called
use Rattle.irq_base.specs.declared.entries.Actor.TheVariants as actors
use Rattle.irq_base.specs.declared.entries.Note.{Note}
use Rattle.irq_base.specs.declared.entries.TakeAnswer.TheVariants as takes
use Rattle.irq_base.specs.declared.entries.LinkAnswer.{LinkAnswer}
use Rattle.irq_base.specs.declared.entries.LinkAnswer.TheVariants as links
use Rattle.irq_base.specs.declared.entries.UnlinkAnswer.TheVariants as unlinks
use Rattle.irq_base.specs.declared.entries.Opened.TheVariants as opens
use Rattle.irq_model.specs.Places.{EachEntry, count_of}
use Rattle.irq_model.specs.Kinds.{same_driver, is_take, is_again, is_disable, is_kill, is_start, is_started_opened}
use Rattle.irq_model.specs.Kinds.{is_lowering_opened, is_hard_clear, is_synced, disables, unlinks_one, unlinks_last, opened_by_call}
use Rattle.irq_laws.specs.Actors.{by_someone}
use Rattle.irq_model.specs.Lines.{is_edge_line}
use Rattle.irq_model.specs.Links.{linked, is_none_linked, depth, is_disabled, is_reset, is_deepening, is_lowering}
use Rattle.irq_model.specs.Rounds.{flow, has_flow}
use Rattle.irq_model.specs.Waiting.{is_pending, clears_pending}
use Rattle.irq_model.specs.Threads.{is_woken, is_running}
use Rattle.irq_model.specs.Next.{is_off_now}
use Rattle.irq_model.specs.Legal.{IsDue, IsLegalPast}
use Rattle.irq_model.specs.Reason.{is_called}
use Rattle.irq_model.specs.Valid.{IsValid}
use Rattle.irq_model.specs.Spurious.{note_of}
use Rattle.irq_model.proofs.RoundSteps.{flow_quiet}
use Rattle.irq_model.proofs.ListSteps.{linked_refused, linked_not_there}
use Rattle.irq_model.proofs.DepthSteps.{raised, lowered, raised_more}
use Rattle.irq_model.proofs.WaitSteps.{pending_by_clearing}
use Rattle.irq_model.proofs.Same.{driver_from_same}
use Rattle.irq_laws.proofs.Lists.{both_ways}
use Rattle.irq_laws.proofs.KeptAlways.{kept}
use Rattle.irq_laws.proofs.RunsKept.{handle_idle}
use Rattle.irq_laws.proofs.RunLaws.{synchronised}
use Rattle.irq_laws.proofs.ImpliesFlow.{again_by, has_a_flow, take_due, return_due, end_due, handler_call_due}
use Rattle.irq_laws.proofs.ImpliesThread.{thread_begin_due, done_due, thread_call_due}
use Rattle.irq_laws.proofs.ImpliesDriver.{opened_with, request_due, hard_clear_due}
use Rattle.irq_pm.specs.Sleeping.{enables, wakes_by_driver, is_disable_by, is_synced_by, is_enable_by, disturbs}
use Rattle.irq_pm.specs.Sleeping.{since_disable, before_disable, is_suspended, is_left_alone}
use Rattle.irq_pm.proofs.Waits.{is_hard_clear_by, cleared_before}

-- `older`: what stood before the disable; `newer`: what came since
pub record HeldOver (def : LineDef) (r : DriverNo) (past newer older : List Entry) : Type 0 where
  pub deeper : depth past ≡ depth older + 1 + count_of is_kill newer
  pub links : linked past ≡ linked older
  pub cleared : list_any (is_hard_clear_by r) newer ≡ true → has_flow def past ≡ false
  pub waited : list_any (is_synced_by r) newer ≡ true → list_any (is_hard_clear_by r) newer ≡ true
  pub rested : list_any (is_synced_by r) newer ≡ true → (d : DevNo) → (is_woken past d || is_running past d) ≡ false
  pub pending : is_edge_line def ≡ true → list_any is_take newer ≡ true → is_pending def past ≡ true

abbrev pub Held : LineDef → DriverNo → List Entry → Type 0
Held def r past = HeldOver def r past (since_disable r past) (before_disable r past)

-- ---- an entry that disturbs nothing

pub record LeavesAlone (e : Entry) (past : List Entry) : Type 0 where
  pub no_reset : is_reset (e ∷ past) ≡ false
  pub no_lowering : is_lowering e ≡ false
  pub no_start : is_start e ≡ false
  pub no_disable : is_disable e ≡ false
  pub same_links : linked (e ∷ past) ≡ linked past

call_quiet : (call : CallEntry) (past : List Entry) → (disables call || (enables call || (false || (unlinks_one call || false)))) ≡ false
    → (unlinks_last call ≡ false) × (is_lowering_opened (opened_by_call call) ≡ false) × (is_started_opened (opened_by_call call) ≡ false)
    × (disables call ≡ false) × (linked (by_someone call ∷ past) ≡ linked past)
call_quiet called.Disable past none = cc
call_quiet (called.Enable answer) past none = cc
call_quiet (called.Unlink (unlinks.Unlinked last) x) past none = cc
call_quiet (called.Unlink unlinks.NotThere x) past none = (refl, refl, refl, refl, linked_not_there (record { 0 = 0 }) x past)
call_quiet call past none = (refl, refl, refl, refl, refl)

pub quiet : (def : LineDef) (e : Entry) (past : List Entry) → IsDue def e past → disturbs e ≡ false → LeavesAlone e past
quiet def (by.Driver s (drivers.Request flags links.Linked opened x)) past due none = cc
quiet def (by.Driver s (drivers.Request flags (links.Refused error) opened x)) past due none =
    let u = request_due def s x flags (links.Refused error) opened past due in
    let is : opened ≡ opens.No = u.opened_is ∙ ap (λ (a : LinkAnswer). opened_with def flags past a) (sym u.answer_is) in
    record {
      no_reset = refl;
      no_lowering = ap is_lowering_opened is;
      no_start = ap is_started_opened is;
      no_disable
          = refl;
      same_links = linked_refused s x flags error opened past;
    }
quiet def (by.CpuCall c call) past due none = let q = call_quiet call past none in
    record { no_reset = or_from _ _ q.0 refl; no_lowering = q.1; no_start = q.2; no_disable = q.3; same_links = q.4 }
quiet def (by.ThreadCall x call) past due none = let q = call_quiet call past none in
    record { no_reset = or_from _ _ q.0 refl; no_lowering = q.1; no_start = q.2; no_disable = q.3; same_links = q.4 }
quiet def (by.DriverCall s call) past due none = let q
    = call_quiet call past (but_wakes (disables call) (enables call) (unlinks_one call)
    (wakes_by_driver (by.DriverCall s call)) none) in
    record { no_reset = or_from _ _ q.0 refl; no_lowering = q.1; no_start = q.2; no_disable = q.3; same_links = q.4 }
  where
    but_wakes : (d e u w : Bool) → (d || (e || (false || (u || w)))) ≡ false → (d || (e || (false || (u || false)))) ≡ false
    but_wakes d e u w h = grind arith
quiet def e past due none = record { no_reset = refl; no_lowering = refl; no_start = refl; no_disable = refl; same_links = refl }

-- it makes the line deeper exactly if it kills it
depth_by : (k : Bool) (up low n m : ℕ) → low ≤ up → n ≡ cond k (up + 1) up → m ≡ low → n - m ≡ cond k ((up - low) + 1) (up - low)
depth_by true up low n m exact a b = omega (arith, exact, a, b)
depth_by false up low n m exact a b = omega (arith, a, b)

depth_more : (e : Entry) (past : List Entry) → lowered past ≤ raised past → LeavesAlone e past
    → depth (e ∷ past) ≡ cond (is_kill e) (depth past + 1) (depth past)
depth_more e past exact q =
    let n = raised_more e past q.no_reset in
    let deepens : is_deepening e ≡ is_kill e = ap (λ (b : Bool). b || is_kill e) q.no_disable in
    let up : raised (e ∷ past) ≡ cond (is_kill e) (raised past + 1) (raised past) = n.0 ∙ ap (λ (b : Bool). cond b (raised past + 1) (raised past)) deepens in
    let low : lowered (e ∷ past) ≡ lowered past = n.1 ∙ ap (λ (b : Bool). cond b (lowered past + 1) (lowered past)) q.no_lowering in
    depth_by (is_kill e) (raised past) (lowered past) (raised (e ∷ past)) (lowered (e ∷ past)) exact up low

-- ---- on a disabled line

pub is_off : (past : List Entry) → 0 < depth past → is_disabled past ≡ true
is_off past deep = lt-ltb 0 (depth past) deep

pub not_handled : {P : Type 0} (def : LineDef) (past : List Entry) → 0 < depth past
    → (has_flow def past ≡ false) × ((is_disabled past || is_none_linked past) ≡ false) → P
not_handled def past deep h = both_ways (is_disabled past) (is_off past deep) (or_parts (is_disabled past) (is_none_linked past) h.1).0

-- no flow begins
pub flow_stays : (def : LineDef) (e : Entry) (past : List Entry) → IsDue def e past → 0 < depth past
    → has_flow def past ≡ false → has_flow def (e ∷ past) ≡ false
flow_stays def (by.Cpu c (cpus.Take way takes.Handle)) past due deep idle
    = not_handled def past deep (handle_idle def past (take_due def c way takes.Handle past due).answer_is)
flow_stays def (by.Cpu c (cpus.End again unmask note)) past due deep idle =
    both_ways (has_flow def past) (has_a_flow c (flow def past) (end_due def c again unmask note past due).of_flow) idle
flow_stays def e past due deep idle = ap is_some (flow_quiet def e past refl refl refl) ∙ idle

-- no end goes on
off_now : (past : List Entry) (note : Note) → is_disabled past ≡ true → not (is_off_now past note) ≡ false
off_now past note off = ap not (or_left (is_disabled past) _ off)

again_off : (def : LineDef) (f : FlowKind) (past : List Entry) (note : Note) → is_disabled past ≡ true → again_by def f past note ≡ false
again_off def flows.Edge past note off = and_right (is_pending def past) (not (is_off_now past note)) (off_now past note off)
again_off def flows.Level past note off = refl
again_off def flows.Eoi past note off = and_right (is_edge_line def) _ (and_right (is_pending def past) (not (is_off_now past note)) (off_now past note off))

no_again : (def : LineDef) (e : Entry) (past : List Entry) → IsDue def e past → 0 < depth past → is_again e ≡ false
no_again def (by.Cpu c (cpus.End again unmask note)) past due deep =
    (end_due def c again unmask note past due).again_is ∙ again_off def def.flow past (note_of def past) (is_off past deep)
no_again def e past due deep = refl

-- what is pending stays so
clears_none : (def : LineDef) (e : Entry) (past : List Entry) → IsDue def e past → 0 < depth past → is_take e ≡ false
    → LeavesAlone e past → clears_pending e ≡ false
clears_none def (by.Cpu c (cpus.Take way answer)) past due deep no_take q = cc
clears_none def e past due deep no_take q = or_from (is_again e) (is_start e) (no_again def e past due deep) q.no_start

-- and a take leaves its interrupt pending
take_pends : (def : LineDef) (e : Entry) (past : List Entry) → IsDue def e past → 0 < depth past
    → is_edge_line def ≡ true → is_take e ≡ true → is_pending def (e ∷ past) ≡ true
take_pends def (by.Cpu c (cpus.Take way takes.Handle)) past due deep edge took
    = not_handled def past deep (handle_idle def past (take_due def c way takes.Handle past due).answer_is)
take_pends def (by.Cpu c (cpus.Take way takes.Off)) past due deep edge took = refl
take_pends def (by.Cpu c (cpus.Take way takes.Busy)) past due deep edge took
    = ap (λ (b : Bool). (false || (b && true)) || (not (false || (false || false)) && is_pending def past)) edge
take_pends def e past due deep edge took = cc

-- ---- the threads rest

threads_rest : (def : LineDef) (e : Entry) (past : List Entry) → IsDue def e past → has_flow def past ≡ false → disturbs e ≡ false
    → ((d : DevNo) → (is_woken past d || is_running past d) ≡ false)
    → (d : DevNo) → (is_woken (e ∷ past) d || is_running (e ∷ past) d) ≡ false
threads_rest def (by.Cpu c (cpus.Return answer x served)) past due idle none rest d =
    both_ways (has_flow def past) (has_a_flow c (flow def past) (return_due def c x answer served past due).of_flow) idle
threads_rest def (by.Thread x threads.Begin) past due idle none rest d =
    both_ways (is_woken past x) (thread_begin_due def x past due).woken (or_parts (is_woken past x) (is_running past x) (rest x)).0
threads_rest def (by.Thread x threads.Done) past due idle none rest d =
    both_ways (is_running past x) (done_due def x past due).running (or_parts (is_woken past x) (is_running past x) (rest x)).1
threads_rest def (by.CpuCall c call) past due idle none rest d =
    both_ways (has_flow def past) (has_a_flow c (flow def past) (handler_call_due def c call past due).of_flow) idle
threads_rest def (by.ThreadCall x call) past due idle none rest d =
    both_ways (is_running past x) (thread_call_due def x call past due).running (or_parts (is_woken past x) (is_running past x) (rest x)).1
threads_rest def (by.DriverCall s (called.Wake true x)) past due idle none rest d = cc
threads_rest def e past due idle none rest d = rest d

-- at a synced no thread is woken or in a run
abbrev Synchronised : Entry → List Entry → Type 0
Synchronised e past = (d : DevNo) → (is_hard_clear e ≡ true → is_called past d ≡ false) × (is_synced e ≡ true → (is_woken past d || is_running past d) ≡ false)

all_idle : (def : LineDef) (s : DriverNo) (past : List Entry) → IsValid def → IsLegalPast def (by.DriverCall s called.Synced ∷ past)
    → (d : DevNo) → (is_woken past d || is_running past d) ≡ false
all_idle def s past valid legal d =
    let whole = by.DriverCall s called.Synced ∷ past in
    let turned : IsLegalPast def (reverse (reverse whole)) = subst (λ (es : List Entry). IsLegalPast def es) (sym (reverse-reverse whole)) legal in
    let each : EachEntry Synchronised whole = subst (λ (es : List Entry). EachEntry Synchronised es)
    (reverse-reverse whole) (synchronised def (reverse whole) valid turned) in
    (each.0 d).1 refl

-- ---- one more entry

count_more : (k : Bool) (n m c : ℕ) → m ≡ n + 1 + c → cond k (m + 1) m ≡ n + 1 + cond k (c + 1) c
count_more true n m c h = omega (arith, h)
count_more false n m c h = h

cleared_more : (def : LineDef) (r : DriverNo) (e : Entry) (past newer : List Entry) → IsDue def e past → 0 < depth past
    → (list_any (is_hard_clear_by r) newer ≡ true → has_flow def past ≡ false)
    → list_any (is_hard_clear_by r) (e ∷ newer) ≡ true → has_flow def (e ∷ past) ≡ false
cleared_more def r (by.DriverCall s called.HardClear) past newer due deep was h =
    ap is_some (flow_quiet def (by.DriverCall s called.HardClear) past refl refl refl) ∙ hard_clear_due def (actors.Driver s) past due
cleared_more def r e past newer due deep was h = flow_stays def e past due deep (was h)

waited_more : (def : LineDef) (r : DriverNo) (e : Entry) (past : List Entry) → IsLegalPast def (e ∷ past)
    → (list_any (is_synced_by r) (since_disable r past) ≡ true → list_any (is_hard_clear_by r) (since_disable r past) ≡ true)
    → list_any (is_synced_by r) (e ∷ since_disable r past) ≡ true → list_any (is_hard_clear_by r) (e ∷ since_disable r past) ≡ true
waited_more def r (by.DriverCall s called.Synced) past legal was h = by_case (or_cases (same_driver r s) _ h)
  where
    by_case : (same_driver r s ≡ true) ⊎ (list_any (is_synced_by r) (since_disable r past) ≡ true) → list_any (is_hard_clear_by r) (since_disable r past) ≡ true
    by_case (inl mine) = cleared_before def r past legal.1
        (subst (λ (t : DriverNo). IsDue def (by.DriverCall t called.Synced) past) (sym (driver_from_same r s mine)) legal.0)
    by_case (inr there) = was there
waited_more def r e past legal was h = or_right (is_hard_clear_by r e) _ (was h)

rested_more : (def : LineDef) (r : DriverNo) (e : Entry) (past newer : List Entry) → IsValid def → IsLegalPast def (e ∷ past) → disturbs e ≡ false
    → (list_any (is_synced_by r) newer ≡ true → (has_flow def past ≡ false) × ((d : DevNo) → (is_woken past d || is_running past d) ≡ false))
    → list_any (is_synced_by r) (e ∷ newer) ≡ true → (d : DevNo) → (is_woken (e ∷ past) d || is_running (e ∷ past) d) ≡ false
rested_more def r (by.DriverCall s called.Synced) past newer valid legal none was h d = all_idle def s past valid legal d
rested_more def r e past newer valid legal none was h d = let w = was h in threads_rest def e past legal.0 w.0 none w.1 d

pending_more : (def : LineDef) (e : Entry) (past newer : List Entry) → IsDue def e past → 0 < depth past → LeavesAlone e past → is_edge_line def ≡ true
    → (list_any is_take newer ≡ true → is_pending def past ≡ true) → list_any is_take (e ∷ newer) ≡ true → is_pending def (e ∷ past) ≡ true
pending_more def e past newer due deep q edge was h = by_take (is_take e) refl (or_cases (is_take e) (list_any is_take newer) h)
  where
    by_take : (b : Bool) → is_take e ≡ b → (is_take e ≡ true) ⊎ (list_any is_take newer ≡ true) → is_pending def (e ∷ past) ≡ true
    by_take true takes c = take_pends def e past due deep edge takes
    by_take false none (inl takes) = both_ways (is_take e) takes none
    by_take false none (inr there) =
        pending_by_clearing def e past none
        ∙ ap (λ (b : Bool). not b && is_pending def past) (clears_none def e past due deep none q)
        ∙ was there

more : (def : LineDef) (r : DriverNo) (e : Entry) (past : List Entry) → IsValid def → IsLegalPast def (e ∷ past)
    → disturbs e ≡ false → Held def r past → HeldOver def r (e ∷ past) (e ∷ since_disable r past)
    (before_disable r past)
more def r e past valid legal none k =
    let q = quiet def e past legal.0 none in
    let was : depth past ≡ depth (before_disable r past) + 1 + count_of is_kill (since_disable r past) = k.deeper in
    let deep : 0 < depth past = omega (arith, was) in
    record {
      deeper = depth_more e past (kept def past valid legal.1).depth.exact q
          ∙ count_more (is_kill e) (depth (before_disable r past)) (depth past)
          (count_of is_kill (since_disable r past)) was;
      links = q.same_links ∙ k.links;
      cleared = cleared_more def r e past (since_disable r past) legal.0 deep k.cleared;
      waited = waited_more def r e past legal k.waited;
      rested = rested_more def r e past (since_disable r past) valid legal none (λ h. (k.cleared (k.waited h), k.rested h));
      pending = λ edge. pending_more def e past (since_disable r past) legal.0 deep q edge (k.pending edge);
    }

-- ---- from the disable on

disable_depth : (up low n m : ℕ) → low ≤ up → n ≡ up + 1 → m ≡ low → n - m ≡ (up - low) + 1 + 0
disable_depth up low n m exact a b = omega (arith, exact, a, b)

begun : (def : LineDef) (r s : DriverNo) (past : List Entry) → lowered past ≤ raised past → HeldOver def r (by.DriverCall s called.Disable ∷ past) [] past
begun def r s past exact =
    let n = raised_more (by.DriverCall s called.Disable) past refl in
    record {
      deeper = disable_depth (raised past) (lowered past) (raised (by.DriverCall s called.Disable ∷ past))
          (lowered (by.DriverCall s called.Disable ∷ past)) exact n.0 n.1;
      links = refl;
      cleared = λ h. cc;
      waited = λ h. cc;
      rested = λ h. cc;
      pending = λ edge h. cc;
    }

begins : (def : LineDef) (r : DriverNo) (e : Entry) (past : List Entry) → lowered past ≤ raised past
    → is_disable_by r e ≡ true → HeldOver def r (e ∷ past) [] past
begins def r (by.DriverCall s called.Disable) past exact is = begun def r s past exact
begins def r e past exact is = cc

-- the entry before which the disable stands already
stood : (d e s : Bool) → d ≡ false → (d || (not e && s)) ≡ true → s ≡ true
stood d e s a h = grind arith

alone_parts : (x y : Bool) → not (x || y) ≡ true → (x ≡ false) × (not y ≡ true)
alone_parts false false h = (refl, refl)
alone_parts true y h = cc
alone_parts false true h = cc

pub held : (def : LineDef) (r : DriverNo) (past : List Entry) → IsValid def → IsLegalPast def past
    → is_suspended r past ≡ true → is_left_alone r past ≡ true → Held def r past
held def r [] valid legal stands alone = cc
held def r (e ∷ past) valid legal stands alone = by_disable (is_disable_by r e) refl (held def r past valid legal.1)
  where
    by_disable : (b : Bool) → is_disable_by r e ≡ b → (is_suspended r past ≡ true → is_left_alone r past ≡ true → Held def r past) → Held def r (e ∷ past)
    by_disable true is deeper =
        let over : HeldOver def r (e ∷ past) [] past = begins def r e past (kept def past valid legal.1).depth.exact is in
        subst (λ (b : Bool). HeldOver def r (e ∷ past) (cond b [] (e ∷ since_disable r past)) (cond b past (before_disable r past))) (sym is) over
    by_disable false other deeper =
        let left : not (list_any disturbs (e ∷ since_disable r past))
        ≡ true = sym (ap (λ (b : Bool). not (list_any disturbs (cond b [] (e ∷ since_disable r past)))) other)
        ∙ alone in
        let parts = alone_parts (disturbs e) (list_any disturbs (since_disable r past)) left in
        let over = more def r e past valid legal parts.0 (deeper (stood (is_disable_by r e) (is_enable_by r e) (is_suspended r past) other stands) parts.1) in
        subst (λ (b : Bool). HeldOver def r (e ∷ past) (cond b [] (e ∷ since_disable r past)) (cond b past (before_disable r past))) (sym other) over
