-- A line whose drivers enable what they disable isn't left disabled: the depth is no more than the
-- enables that devices owe, and those that are to come in drivers' scripts.
use Rattle.std.proofs.Common.{◌≡◌, ℕ, zero, suc, ◌+◌, ◌-◌, ◌<◌, ◌≤◌, ◌==◌, ◌⊎◌, inl, inr, Bool, true, false, not, ◌||◌, ◌&&◌, cond, Option, Some, None, is_some}
use Rattle.std.proofs.Common.{List, [], ◌∷◌, ◌++◌, filter, reverse, slice_get, refl, sym, ap, ◌∙◌, subst, arith, eqb-true}
use Rattle.std.specs.List.{list_any}
use Rattle.std.proofs.lemmas.Grind.{reverse_onto}
use Rattle.std.proofs.lemmas.Bool.{and_parts, or_cases, or_parts, or_left, or_right, not-true, false_from_ne_true}
use Rattle.irq_base.specs.declared.numbers.CpuNo.{CpuNo}
use Rattle.irq_base.specs.declared.numbers.DevNo.{DevNo}
use Rattle.irq_base.specs.declared.numbers.DriverNo.{DriverNo}
use Rattle.irq_base.specs.declared.calls.Call.{Call}
use Rattle.irq_base.specs.declared.calls.Call.TheVariants as calls
use Rattle.irq_base.specs.declared.calls.Flags.{Flags}
use Rattle.irq_base.specs.declared.devices.DeviceDef.{DeviceDef}
use Rattle.irq_base.specs.declared.devices.Part.TheVariants as parts
use Rattle.irq_base.specs.declared.lines.LineDef.{LineDef}
use Rattle.irq_base.specs.declared.lines.FlowKind.{FlowKind}
use Rattle.irq_base.specs.declared.lines.FlowKind.TheVariants as flows
use Rattle.irq_base.specs.declared.entries.Actor.{Actor}
use Rattle.irq_base.specs.declared.entries.Actor.TheVariants as actors
use Rattle.irq_base.specs.declared.entries.Entry.{Entry}
use Rattle.irq_base.specs.declared.entries.Entry.TheVariants as by
use Rattle.irq_base.specs.declared.entries.CpuEntry.{CpuEntry}
use Rattle.irq_base.specs.declared.entries.CpuEntry.TheVariants as cpus
use Rattle.irq_base.specs.declared.entries.DriverEntry.TheVariants as drivers
use Rattle.irq_base.specs.declared.entries.TakeAnswer.TheVariants as takes
use Rattle.irq_base.specs.declared.entries.Note.{Note}
use Rattle.irq_base.specs.declared.entries.CallEntry.{CallEntry}
use Rattle.irq_base.specs.declared.entries.CallEntry.TheVariants as called
use Rattle.irq_base.specs.declared.entries.Resend.{Resend}
use Rattle.irq_base.specs.declared.entries.EnableAnswer.{EnableAnswer}
use Rattle.irq_base.specs.declared.entries.EnableAnswer.TheVariants as enable_answers
use Rattle.irq_base.specs.declared.entries.Opened.{Opened}
use Rattle.irq_base.specs.declared.entries.Opened.TheVariants as opens
use Rattle.irq_base.specs.declared.entries.LinkAnswer.{LinkAnswer}
use Rattle.irq_base.specs.declared.entries.LinkAnswer.TheVariants as links
use Rattle.irq_base.specs.declared.entries.UnlinkAnswer.TheVariants as unlinks
use Rattle.irq_model.specs.Places.{since_place, count_of}
use Rattle.irq_model.specs.Kinds.{same_dev, made_by, is_by, is_by_driver, is_disable, disables, is_kill, is_start, is_started_opened, is_lowering_opened}
use Rattle.irq_model.specs.Kinds.{opened_by_enable, opened_by_call, is_linked_request, is_last_unlink, unlinks_last}
use Rattle.irq_model.specs.Lines.{is_device, is_edge_line, run_script}
use Rattle.irq_model.specs.Links.{linked, is_linked, is_empty, is_none_linked, is_first_request, is_reset, is_deepening}
use Rattle.irq_model.specs.Links.{is_lowering, depth, is_disabled, has_spurious_mark}
use Rattle.irq_model.specs.Waiting.{is_pending}
use Rattle.irq_model.specs.Spurious.{note_of}
use Rattle.irq_model.specs.Rounds.{has_flow, begins_round, at_work}
use Rattle.irq_model.specs.Threads.{is_woken, is_running, is_unfinished}
use Rattle.irq_model.specs.Due.{calls_by, entries_by, due_call, due_of}
use Rattle.irq_model.specs.Runs.{entries_of_run}
use Rattle.irq_model.specs.Reason.{is_called, is_being_freed}
use Rattle.irq_model.specs.RunLaws.{is_disabling, is_enabling, noauto_request, EnablesWhatItDisables, killed_since_reset, IsLeftEnabled}
use Rattle.irq_model.specs.Next.{enable_answer, opened_by_request, resend_of, is_only, is_off_now}
use Rattle.irq_model.specs.Legal.{IsDue, IsLegal, IsLegalPast}
use Rattle.irq_model.specs.Valid.{IsValid}
use Rattle.irq_model.specs.Waits.{IsAtRest}
use Rattle.irq_model.proofs.LinkSteps.{linked_unlink}
use Rattle.irq_model.proofs.ListSteps.{linked_refused, linked_not_there}
use Rattle.irq_model.proofs.DepthSteps.{raised, lowered, raised_reset, raised_more}
use Rattle.irq_model.proofs.Same.{same_both, same_self, same_self_driver}
use Rattle.irq_laws.specs.Actors.{entries_of, due_of_actor, by_someone}
use Rattle.irq_laws.specs.Kept.{Kept, KeepsRuns}
use Rattle.irq_laws.proofs.Chosen.{the_same}
use Rattle.irq_laws.proofs.Lists.{both_ways}
use Rattle.irq_laws.proofs.ImpliesFlow.{take_due, end_due, handler_call_due, again_by}
use Rattle.irq_laws.proofs.ImpliesDriver.{DriverRow, driver_row, ask, request, affinity, moment, step, opened_with, request_due, unlink_due, enable_due}
use Rattle.irq_laws.proofs.ImpliesThread.{thread_call_due}
use Rattle.irq_laws.proofs.ImpliesDriver.{due_in_thread}
use Rattle.irq_laws.proofs.Scripted.{place_of}
use Rattle.irq_laws.proofs.ScriptLaws.{runs_past}
use Rattle.irq_laws.proofs.RunsKept.{handle_idle}
use Rattle.irq_laws.proofs.RestKept.{there_named}
use Rattle.irq_laws.proofs.Masking.{zero_depth}
use Rattle.irq_laws.proofs.TakeLaws.{one_if}
use Rattle.irq_laws.proofs.KeptAlways.{kept}
use Rattle.irq_laws.proofs.Idle.{IsIdle, at_rest_idle}
use Rattle.irq_laws.proofs.ToCome.{to_come, come_fewer, come_more, come_below, come_done, enables, is_enable, disables_of, enables_of, own_come, entry_marks}
use Rattle.irq_laws.proofs.Owes.{is_dev, owes_enable, IsOwing, by_handler, by_wake, by_run, not_twice, owing_kept}
use Rattle.irq_laws.proofs.Sums.{sum_to, sum_most, sum_none, sum_more, sum_most_but}

-- ---- what is counted

abbrev pub driver_at : ℕ → DriverNo
driver_at k = record { 0 = k }

abbrev pub dev_at : ℕ → DevNo
dev_at k = record { 0 = k }

abbrev driver_number : DriverNo → ℕ
driver_number r = r.0

abbrev dev_number : DevNo → ℕ
dev_number d = d.0

-- above the numbers of the drivers, and of the devices
abbrev beyond : List (DriverNo × Call) → ℕ
beyond [] = 0
beyond (c ∷ cs) = (driver_number c.0 + 1) + beyond cs

abbrev wide : List DeviceDef → ℕ
wide [] = 0
wide (x ∷ xs) = (dev_number x.dev + 1) + wide xs

-- how many devices owe an enable
abbrev pub owed : LineDef → List Entry → ℕ
owed def past = sum_to (λ (k : ℕ). one_if (owes_enable def past (dev_at k))) (wide def.devices)

-- how many disables, and enables, are to come in the drivers' scripts
abbrev pub disables_due : LineDef → List Entry → ℕ
disables_due def past = sum_to (λ (k : ℕ). disables_of def (actors.Driver (driver_at k)) past) (beyond def.calls)

abbrev pub enables_due : LineDef → List Entry → ℕ
enables_due def past = sum_to (λ (k : ℕ). enables_of def (actors.Driver (driver_at k)) past) (beyond def.calls)

first_below : (a b c : ℕ) → a ≡ b → b < (a + 1) + c
first_below a b c h = omega (arith, h)

later_below : (a b c : ℕ) → b < c → b < (a + 1) + c
later_below a b c h = omega (arith, h)

there_below : (cs : List (DriverNo × Call)) (i : ℕ) (c : DriverNo × Call) → slice_get cs i ≡ Some c → driver_number c.0 < beyond cs
there_below [] i c h = cc
there_below (x ∷ cs) zero c h =
    first_below (driver_number x.0) (driver_number c.0) (beyond cs) (ap (λ (y : DriverNo × Call). driver_number y.0) (the_same x c h))
there_below (x ∷ cs) (suc i) c h = later_below (driver_number x.0) (driver_number c.0) (beyond cs) (there_below cs i c h)

named_below : (xs : List DeviceDef) (d : DevNo) → list_any (is_device d) xs ≡ true → dev_number d < wide xs
named_below [] d h = cc
named_below (x ∷ xs) d h = by_case (or_cases (is_device d x) (list_any (is_device d) xs) h) (named_below xs d)
  where
    by_case : (is_device d x ≡ true) ⊎ (list_any (is_device d) xs ≡ true) → (list_any (is_device d) xs ≡ true → dev_number d < wide xs)
        → dev_number d < wide (x ∷ xs)
    by_case (inl here) deeper = first_below (dev_number x.dev) (dev_number d) (wide xs) (sym (eqb-true (dev_number d) (dev_number x.dev) here))
    by_case (inr there) deeper = later_below (dev_number x.dev) (dev_number d) (wide xs) (deeper there)

module _ {A : Type 0} where
  there_any : (p : A → Bool) (xs : List A) (i : ℕ) (x : A) → slice_get xs i ≡ Some x → p x ≡ true → list_any p xs ≡ true
  there_any p [] i x h passes = cc
  there_any p (y ∷ ys) zero x h passes = or_left (p y) _ (subst (λ (z : A). p z ≡ true) (sym (the_same y x h)) passes)
  there_any p (y ∷ ys) (suc i) x h passes = or_right (p y) _ (there_any p ys i x h passes)

-- ---- what is linked

no_more : (x : DevNo) (xs : List DevNo) → is_empty xs ≡ true → is_empty (filter (λ z. not (same_dev z x)) xs) ≡ true
no_more x [] h = refl
no_more x (y ∷ ys) h = cc

only_none : (x : DevNo) (xs : List DevNo) → is_only x xs ≡ true → is_empty (filter (λ z. not (same_dev z x)) xs) ≡ true
only_none x [] h = cc
only_none x (y ∷ ys) h =
    let p = and_parts (same_dev x y) (is_empty ys) h in
    ap (λ (b : Bool). is_empty (cond (not b) (y ∷ filter (λ z. not (same_dev z x)) ys) (filter (λ z. not (same_dev z x)) ys))) (same_both y x ∙ p.0)
    ∙ no_more x ys p.1

call_none : (call : CallEntry) (past : List Entry) → is_none_linked past ≡ true → is_none_linked (by_someone call ∷ past) ≡ true
call_none (called.Unlink (unlinks.Unlinked last) x) past none = ap is_empty (linked_unlink (record { 0 = 0 }) x last past) ∙ no_more x (linked past) none
call_none (called.Unlink unlinks.NotThere x) past none = ap is_empty (linked_not_there (record { 0 = 0 }) x past) ∙ none
call_none call past none = none

still_none : (e : Entry) (past : List Entry) → is_linked_request e ≡ false → is_none_linked past ≡ true → is_none_linked (e ∷ past) ≡ true
still_none (by.Driver s (drivers.Request flags links.Linked opened x)) past h none = cc
still_none (by.Driver s (drivers.Request flags (links.Refused error) opened x)) past h none = ap is_empty (linked_refused s x flags error opened past) ∙ none
still_none (by.CpuCall c call) past h none = call_none call past none
still_none (by.ThreadCall x call) past h none = call_none call past none
still_none (by.DriverCall s call) past h none = call_none call past none
still_none e past h none = none

last_when : (b last v : Bool) → unlinks.Unlinked last ≡ cond b (unlinks.Unlinked v) unlinks.NotThere → last ≡ v
last_when true last v h = cc
last_when false last v h = cc

last_none : (def : LineDef) (a : Actor) (call : CallEntry) (past : List Entry) → IsDue def (made_by a call) past → unlinks_last call ≡ true
    → is_none_linked (by_someone call ∷ past) ≡ true
last_none def a (called.Unlink (unlinks.Unlinked last) x) past due h =
    let is = last_when (is_linked past x) last (is_only x (linked past)) (unlink_due def a x (unlinks.Unlinked last) past due).answer_is in
    ap is_empty (linked_unlink (record { 0 = 0 }) x last past) ∙ only_none x (linked past) (sym is ∙ h)
last_none def a call past due h = cc

unlinked_none : (def : LineDef) (e : Entry) (past : List Entry) → IsDue def e past → is_last_unlink e ≡ true → is_none_linked (e ∷ past) ≡ true
unlinked_none def (by.CpuCall c call) past due h = last_none def (actors.Cpu c) call past due h
unlinked_none def (by.ThreadCall x call) past due h = last_none def (actors.Thread x) call past due h
unlinked_none def (by.DriverCall s call) past due h = last_none def (actors.Driver s) call past due h
unlinked_none def e past due h = cc

-- ---- the depth

depth_plain : (r l r2 l2 x y : ℕ) → l ≤ r → r2 ≡ r + x → l2 ≡ l + y → r2 - l2 ≡ ((r - l) + x) - y
depth_plain r l r2 l2 x y le hr hl = omega (arith, le, hr, hl)

more_one : (b : Bool) (n : ℕ) → cond b (n + 1) n ≡ n + one_if b
more_one true n = omega arith
more_one false n = omega arith

depth_by : (r l r2 l2 : ℕ) (d w : Bool) → l ≤ r → r2 ≡ cond d (r + 1) r → l2 ≡ cond w (l + 1) l → r2 - l2 ≡ ((r - l) + one_if d) - one_if w
depth_by r l r2 l2 d w le hr hl = depth_plain r l r2 l2 (one_if d) (one_if w) le (hr ∙ more_one d r) (hl ∙ more_one w l)

depth_is : (e : Entry) (past : List Entry) → is_reset (e ∷ past) ≡ false → lowered past ≤ raised past
    → depth (e ∷ past) ≡ (depth past + one_if (is_deepening e)) - one_if (is_lowering e)
depth_is e past is exact =
    let n = raised_more e past is in
    depth_by (raised past) (lowered past) (raised (e ∷ past)) (lowered (e ∷ past)) (is_deepening e) (is_lowering e) exact n.0 n.1

-- an enable finds the line enabled, or lowers the depth
enabled_or_lowers : (n z o : Bool) (resend : Resend) → n ≡ false → (z ≡ true)
    ⊎ (is_lowering_opened (opened_by_enable (cond (n || z) enable_answers.Unbalanced (cond o (enable_answers.Started resend) enable_answers.Lowered))) ≡ true)
enabled_or_lowers true z o resend h = cc
enabled_or_lowers false true o resend h = inl refl
enabled_or_lowers false false true resend h = inr refl
enabled_or_lowers false false false resend h = inr refl

abbrev Lowers : List Entry → Opened → Type 0
Lowers past o = (depth past ≡ 0) ⊎ (is_lowering_opened o ≡ true)

enable_lowers : (def : LineDef) (past : List Entry) → is_none_linked past ≡ false → Lowers past (opened_by_enable (enable_answer def past))
enable_lowers def past some = by_case (enabled_or_lowers (is_none_linked past) (depth past == 0) (depth past == 1) (resend_of def past) some)
  where
    by_case : ((depth past == 0) ≡ true) ⊎ (is_lowering_opened (opened_by_enable (enable_answer def past)) ≡ true)
        → Lowers past (opened_by_enable (enable_answer def past))
    by_case (inl z) = inl (eqb-true (depth past) 0 z)
    by_case (inr l) = inr l

call_lowers : (def : LineDef) (a : Actor) (call : CallEntry) (past : List Entry) → IsDue def (made_by a call) past → is_none_linked past ≡ false
    → enables call ≡ true → Lowers past (opened_by_call call)
call_lowers def a (called.Enable answer) past due some h =
    subst (λ (x : EnableAnswer). Lowers past (opened_by_enable x)) (sym (enable_due def a answer past due)) (enable_lowers def past some)
call_lowers def a call past due some h = cc

one_way : (call : CallEntry) → enables call ≡ true → disables call ≡ false
one_way (called.Enable answer) h = refl
one_way call h = cc

or_false : (b : Bool) → (b || false) ≡ b
or_false true = refl
or_false false = refl

-- ---- a first request starts the line

request_starts : (def : LineDef) (flags : Flags) (past : List Entry) → is_none_linked past ≡ true → flags.noauto ≡ false
    → is_started_opened (opened_by_request def flags past) ≡ true
request_starts def flags past none auto = by_flags (is_none_linked past) flags.noauto none auto
  where
    by_flags : (n f : Bool) → n ≡ true → f ≡ false → is_started_opened (cond n (cond f opens.No (opens.Started (resend_of def past)))
        (cond (has_spurious_mark past) (opened_by_enable (enable_answer def past)) opens.No)) ≡ true
    by_flags true false h i = refl
    by_flags true true h i = cc
    by_flags false f h i = cc

no_noauto : (def : LineDef) → EnablesWhatItDisables def → (r : DriverNo) (d : DevNo) (flags : Flags) (n : ℕ) (past : List Entry)
    → due_call def r past ≡ Some (calls.Request d flags, n) → flags.noauto ≡ false
no_noauto def rules r d flags n past is =
    false_from_ne_true flags.noauto (λ on. (let p = place_of r def.calls (entries_by r past) (calls.Request d flags) n is in
    let there : noauto_request p.call.1 ≡ true = subst (λ (c : Call). noauto_request c ≡ true) (sym p.is) on in
    both_ways (list_any (λ c. noauto_request c.1) def.calls)
    (there_any (λ (c : DriverNo × Call). noauto_request c.1) def.calls p.place p.call p.there there) rules.started))

first_starts : (def : LineDef) → EnablesWhatItDisables def → (e : Entry) (past : List Entry) → IsDue def e past → is_first_request (e ∷ past) ≡ true
    → is_start e ≡ true
first_starts def rules (by.Driver s (drivers.Request flags links.Linked opened x)) past due first =
    let u = request_due def s x flags links.Linked opened past due in
    let is : opened ≡ opened_by_request def flags past = u.opened_is ∙ ap (λ (a : LinkAnswer). opened_with def flags past a) (sym u.answer_is) in
    subst (λ (o : Opened). is_started_opened o ≡ true) (sym is)
    (request_starts def flags past first (no_noauto def rules s x flags u.count past u.call))
first_starts def rules (by.Driver s (drivers.Request flags (links.Refused error) opened x)) past due first = cc
first_starts def rules e past due first = cc

-- ---- a round begins where the line is enabled

not_off : (p : Bool) (past : List Entry) (note : Note) → (p && not (is_off_now past note)) ≡ true → is_disabled past ≡ false
not_off p past note h =
    (or_parts (is_disabled past) _ (not-true (is_off_now past note) (and_parts p (not (is_off_now past note)) h).1)).0

again_on : (def : LineDef) (f : FlowKind) (past : List Entry) (note : Note) → again_by def f past note ≡ true → is_disabled past ≡ false
again_on def flows.Edge past note h = not_off (is_pending def past) past note h
again_on def flows.Level past note h = cc
again_on def flows.Eoi past note h = not_off (is_pending def past) past note (and_parts (is_edge_line def) _ h).1

round_enabled : (def : LineDef) (c : CpuNo) (t : CpuEntry) (past : List Entry) → IsDue def (by.Cpu c t) past → begins_round def (by.Cpu c t) ≡ true
    → depth past ≡ 0
round_enabled def c (cpus.Take way takes.Handle) past due h =
    zero_depth past (or_parts (is_disabled past) (is_none_linked past) (handle_idle def past (take_due def c way takes.Handle past due).answer_is).1).0
round_enabled def c (cpus.Take way takes.Busy) past due h = cc
round_enabled def c (cpus.Take way takes.Off) past due h = cc
round_enabled def c (cpus.End again unmask note) past due h =
    let u = end_due def c again unmask note past due in
    zero_depth past (again_on def def.flow past (note_of def past) (sym u.again_is ∙ (and_parts again _ h).0))
round_enabled def c (cpus.Begin d) past due h = cc
round_enabled def c (cpus.Return answer d served) past due h = cc

-- ---- the drivers' calls that are to come

abbrev HasDue : LineDef → DriverNo → List Entry → Type 0
HasDue def r past = (due : Call × ℕ) × (due_of_actor def (actors.Driver r) past ≡ Some due)

driver_has : (def : LineDef) (r : DriverNo) (past : List Entry) (e : Entry) → DriverRow def r past e → HasDue def r past
driver_has def r past e (ask d n is same) = ((calls.Ask d, n), is)
driver_has def r past e (request d flags n is free same) = ((calls.Request d flags, n), is)
driver_has def r past e (affinity mask n is same) = ((calls.Affinity mask, n), is)
driver_has def r past e (moment at n is same) = ((calls.Moment at, n), is)
driver_has def r past e (step due call is h same) = (due, is)

has_below : (def : LineDef) (r : DriverNo) (past : List Entry) (due : Call × ℕ) → due_of_actor def (actors.Driver r) past ≡ Some due
    → driver_number r < beyond def.calls
has_below def r past due is =
    let p = place_of r def.calls (entries_by r past) due.0 due.1 is in
    subst (λ (s : DriverNo). driver_number s < beyond def.calls) p.own (there_below def.calls p.place p.call p.there)

-- what one more entry of a driver makes of them
driver_goes : (def : LineDef) (r : DriverNo) (e : Entry) (past : List Entry) → IsDue def e past → is_by (actors.Driver r) e ≡ true
    → is_by_driver r e ≡ true → ((k : ℕ) → (k == driver_number r) ≡ false → is_by_driver (driver_at k) e ≡ false) → DriverRow def r past e
    → (disables_due def past ≡ disables_due def (e ∷ past) + one_if (is_disable e))
    × (enables_due def past ≡ enables_due def (e ∷ past) + one_if (is_enable e))
driver_goes def r e past due mine own others row =
    let h = driver_has def r past e row in
    let low = has_below def r past h.0 h.1 in
    let es : entries_of def (actors.Driver r) (e ∷ past) ≡ entries_of def (actors.Driver r) past ++ e ∷ [] =
    ap (λ (b : Bool). reverse (cond b (e ∷ filter (is_by_driver r) past) (filter (is_by_driver r) past))) own
    ∙ reverse_onto (filter (is_by_driver r) past) e [] in
    let o = own_come def (actors.Driver r) e past due mine h.0 h.1 refl es in (
      sum_more (λ (k : ℕ). disables_of def (actors.Driver (driver_at k)) past) (λ (k : ℕ). disables_of def (actors.Driver (driver_at k)) (e ∷ past))
          (driver_number r) (one_if (is_disable e)) (beyond def.calls) low o.0 (λ k other. stays is_disabling k (others k other)),
      sum_more (λ (k : ℕ). enables_of def (actors.Driver (driver_at k)) past) (λ (k : ℕ). enables_of def (actors.Driver (driver_at k)) (e ∷ past))
          (driver_number r) (one_if (is_enable e)) (beyond def.calls) low o.1 (λ k other. stays is_enabling k (others k other)),
    )
  where
    stays : (q : Call → Bool) (k : ℕ) → is_by_driver (driver_at k) e ≡ false
        → to_come q (calls_by (driver_at k) def.calls) (entries_by (driver_at k) past)
        ≡ to_come q (calls_by (driver_at k) def.calls) (entries_by (driver_at k) (e ∷ past))
    stays q k other = sym (ap (λ (b : Bool). to_come q (calls_by (driver_at k) def.calls)
        (reverse (cond b (e ∷ filter (is_by_driver (driver_at k)) past) (filter (is_by_driver (driver_at k)) past)))) other)

fewer : (def : LineDef) → EnablesWhatItDisables def → (past : List Entry) → disables_due def past ≤ enables_due def past
fewer def rules past =
    sum_most (λ (k : ℕ). disables_of def (actors.Driver (driver_at k)) past) (λ (k : ℕ). enables_of def (actors.Driver (driver_at k)) past) (beyond def.calls)
    (λ k. come_fewer is_disabling is_enabling (calls_by (driver_at k) def.calls) (entries_by (driver_at k) past)
    (λ done rest is. rules.drivers (driver_at k) done rest is))

-- ---- what devices owe

plus_none : (a b : ℕ) → a ≤ b → a ≤ b + 0
plus_none a b h = omega (arith, h)

none_plus : (a b : ℕ) → a ≤ b → a + 0 ≤ b
none_plus a b h = omega (arith, h)

from_more : (a b : ℕ) → b ≡ a + 1 → a + 1 ≤ b
from_more a b h = omega (arith, h)

and_both : (a b : Bool) → a ≡ true → b ≡ true → (a && b) ≡ true
and_both true b h i = i
and_both false b h i = cc

plus_one : (a b : Bool) → a ≡ false → b ≡ true → one_if b ≡ one_if a + 1
plus_one false true h i = omega arith
plus_one true b h i = cc
plus_one false false h i = cc

same_owed : (a b o : Bool) → b ≡ false → one_if ((a && b) || o) ≡ one_if o
same_owed true false o h = refl
same_owed false b o h = refl
same_owed true true o h = cc

one_more : (a b : Bool) → one_if a ≤ one_if (b || a)
one_more true true = omega arith
one_more true false = omega arith
one_more false true = omega arith
one_more false false = omega arith

one_kept : (s n a : Bool) → n ≡ false → one_if a ≤ one_if (not (s && n) && a)
one_kept true false a h = omega arith
one_kept false n a h = omega arith
one_kept true true a h = cc

one_other : (s n a : Bool) → s ≡ false → one_if a ≤ one_if (not (s && n) && a)
one_other false n a h = omega arith
one_other true n a h = cc

one_at_most : (a b : Bool) → one_if a ≤ one_if b + 1
one_at_most true true = omega arith
one_at_most true false = omega arith
one_at_most false true = omega arith
one_at_most false false = omega arith

no_round : (def : LineDef) (c : CpuNo) (t : CpuEntry) (past : List Entry) → begins_round def (by.Cpu c t) ≡ false → owed def (by.Cpu c t ∷ past) ≡ owed def past
no_round def c t past h = ap (λ (b : Bool). sum_to (λ (k : ℕ). one_if (not b && owes_enable def past (dev_at k))) (wide def.devices)) h

-- a thread's call pays at most one
thread_pays : (def : LineDef) (x : DevNo) (call : CallEntry) (past : List Entry)
    → owed def past ≤ owed def (by.ThreadCall x call ∷ past) + one_if (enables call)
thread_pays def x call past = by_test (enables call) refl
  where
    by_test : (b : Bool) → enables call ≡ b → owed def past ≤ owed def (by.ThreadCall x call ∷ past) + one_if b
    by_test false is =
        plus_none (owed def past) (owed def (by.ThreadCall x call ∷ past))
        (sum_most (λ (k : ℕ). one_if (owes_enable def past (dev_at k))) (λ (k : ℕ). one_if (owes_enable def (by.ThreadCall x call ∷ past) (dev_at k)))
        (wide def.devices) (λ k. one_kept (same_dev (dev_at k) x) (enables call) (owes_enable def past (dev_at k)) is))
    by_test true is =
        sum_most_but (λ (k : ℕ). one_if (owes_enable def past (dev_at k))) (λ (k : ℕ). one_if (owes_enable def (by.ThreadCall x call ∷ past) (dev_at k)))
        (dev_number x) 1 (wide def.devices)
        (one_at_most (owes_enable def past x) (owes_enable def (by.ThreadCall x call ∷ past) x))
        (λ k other. one_other (same_dev (dev_at k) x) (enables call) (owes_enable def past (dev_at k)) other)

-- a handler that is at work is of a device of the line
at_work_below : (def : LineDef) (past : List Entry) → Kept def past → (d : DevNo) → at_work past ≡ Some d → dev_number d < wide def.devices
at_work_below def past k d w = named_below def.devices d (by_name (list_any (is_device d) def.devices) refl)
  where
    unnamed : list_any (is_device d) def.devices ≡ false → ⊥
    unnamed none =
        let out = or_parts (is_linked past d) (is_being_freed past d)
        (false_from_ne_true (is_linked past d || is_being_freed past d)
        (λ h. both_ways (list_any (is_device d) def.devices) (there_named def past k d h) none)) in
        let rest = k.rest.at_rest d out.0 out.1 in
        let r1 = or_parts (is_woken past d) _ rest in
        let r2 = or_parts (is_running past d) _ r1.1 in
        let r3 = or_parts (is_unfinished past d) _ r2.1 in
        both_ways (is_called past d) (k.runs.working d w).0 r3.1

    by_name : (b : Bool) → list_any (is_device d) def.devices ≡ b → list_any (is_device d) def.devices ≡ true
    by_name true is = is
    by_name false is = absurd (unnamed is)

-- a handler's disable is owed
handler_owes : (def : LineDef) → EnablesWhatItDisables def → (c : CpuNo) (call : CallEntry) (past : List Entry) → IsDue def (by.CpuCall c call) past
    → IsLegalPast def past → Kept def past → owed def past + one_if (disables call) ≤ owed def (by.CpuCall c call ∷ past)
handler_owes def rules c call past due legal k = by_test (disables call) refl
  where
    by_test : (b : Bool) → disables call ≡ b → owed def past + one_if b ≤ owed def (by.CpuCall c call ∷ past)
    by_test false is =
        none_plus (owed def past) (owed def (by.CpuCall c call ∷ past))
        (sum_most (λ (j : ℕ). one_if (owes_enable def past (dev_at j))) (λ (j : ℕ). one_if (owes_enable def (by.CpuCall c call ∷ past) (dev_at j)))
        (wide def.devices) (λ j. one_more (owes_enable def past (dev_at j)) (disables call && is_dev (dev_at j) (at_work past))))
    by_test true is =
        let u = handler_call_due def c call past due in
        at_dev u.dev u.is_at_work
      where
        at_dev : (d : DevNo) → at_work past ≡ Some d → owed def past + 1 ≤ owed def (by.CpuCall c call ∷ past)
        at_dev d w =
            let not_yet : owes_enable def past d ≡ false =
            false_from_ne_true (owes_enable def past d) (λ h. not_twice def rules c call past d due is w (owing_kept def rules past legal d h)) in
            let here : is_dev d (at_work past) ≡ true = ap (is_dev d) w ∙ same_self d in
            let now : owes_enable def (by.CpuCall c call ∷ past) d ≡ true =
            or_left (disables call && is_dev d (at_work past)) _ (and_both (disables call) (is_dev d (at_work past)) is here) in
            from_more (owed def past) (owed def (by.CpuCall c call ∷ past))
            (sum_more (λ (j : ℕ). one_if (owes_enable def (by.CpuCall c call ∷ past) (dev_at j))) (λ (j : ℕ). one_if (owes_enable def past (dev_at j)))
            (dev_number d) 1 (wide def.devices) (at_work_below def past k d w)
            (plus_one (owes_enable def past d) (owes_enable def (by.CpuCall c call ∷ past) d) not_yet now)
            (λ j other. same_owed (disables call) (is_dev (dev_at j) (at_work past)) (owes_enable def past (dev_at j)) (ap (is_dev (dev_at j)) w ∙ other)))

-- ---- each entry keeps: the depth, and the disables that are to come, are no more than the enables
-- that are owed and to come

abbrev pub IsPaid : LineDef → List Entry → Type 0
IsPaid def past = depth past + disables_due def past ≤ owed def past + enables_due def past

driver_plain : (x x2 p d d2 n n2 m b : ℕ) → x2 ≡ (x + m) - b → d ≡ d2 + m → n ≡ n2 + 0 → x + d ≤ p + n → x2 + d2 ≤ p + n2
driver_plain x x2 p d d2 n n2 m b hx hd hn h = omega (arith, hx, hd, hn, h)

from_zero : (x x2 p d n b : ℕ) → x2 ≡ (x + 0) - b → x ≡ 0 → d ≤ n → x2 + d ≤ p + n
from_zero x x2 p d n b hx z le = omega (arith, hx, z, le)

driver_low : (x x2 p d d2 n n2 : ℕ) → x2 ≡ (x + 0) - 1 → d ≡ d2 + 0 → n ≡ n2 + 1 → d2 ≤ n2 → x + d ≤ p + n → x2 + d2 ≤ p + n2
driver_low x x2 p d d2 n n2 hx hd hn le h = omega (arith, hx, hd, hn, le, h)

driver_sum : (x x2 p d d2 n n2 : ℕ) (dis ena low : Bool) → x2 ≡ (x + one_if dis) - one_if low → d ≡ d2 + one_if dis → n ≡ n2 + one_if ena
    → d2 ≤ n2 → (ena ≡ true → (x ≡ 0) ⊎ (low ≡ true)) → (ena ≡ true → dis ≡ false) → x + d ≤ p + n → x2 + d2 ≤ p + n2
driver_sum x x2 p d d2 n n2 dis false low hx hd hn le lowers apart h = driver_plain x x2 p d d2 n n2 (one_if dis) (one_if low) hx hd hn h
driver_sum x x2 p d d2 n n2 true true low hx hd hn le lowers apart h = let a = apart refl in cc
driver_sum x x2 p d d2 n n2 false true low hx hd hn le lowers apart h = by_case low (lowers refl) hx
  where
    by_case : (l : Bool) → (x ≡ 0) ⊎ (l ≡ true) → x2 ≡ (x + 0) - one_if l → x2 + d2 ≤ p + n2
    by_case l (inl z) hl = from_zero x x2 p d2 n2 (one_if l) hl z le
    by_case true (inr t) hl = driver_low x x2 p d d2 n n2 hl hd hn le h
    by_case false (inr t) hl = cc

thread_plain : (x x2 p p2 d n b : ℕ) → x2 ≡ (x + 0) - b → p ≤ p2 + 0 → x + d ≤ p + n → x2 + d ≤ p2 + n
thread_plain x x2 p p2 d n b hx hp h = omega (arith, hx, hp, h)

thread_low : (x x2 p p2 d n : ℕ) → x2 ≡ (x + 0) - 1 → p ≤ p2 + 1 → d ≤ n → x + d ≤ p + n → x2 + d ≤ p2 + n
thread_low x x2 p p2 d n hx hp le h = omega (arith, hx, hp, le, h)

thread_sum : (x x2 p p2 d n : ℕ) (dis ena low : Bool) → x2 ≡ (x + one_if dis) - one_if low → dis ≡ false → p ≤ p2 + one_if ena → d ≤ n
    → (ena ≡ true → (x ≡ 0) ⊎ (low ≡ true)) → x + d ≤ p + n → x2 + d ≤ p2 + n
thread_sum x x2 p p2 d n true ena low hx off hp le lowers h = cc
thread_sum x x2 p p2 d n false false low hx off hp le lowers h = thread_plain x x2 p p2 d n (one_if low) hx hp h
thread_sum x x2 p p2 d n false true low hx off hp le lowers h = by_case low (lowers refl) hx
  where
    by_case : (l : Bool) → (x ≡ 0) ⊎ (l ≡ true) → x2 ≡ (x + 0) - one_if l → x2 + d ≤ p2 + n
    by_case l (inl z) hl = from_zero x x2 p2 d n (one_if l) hl z le
    by_case true (inr t) hl = thread_low x x2 p p2 d n hl hp le h
    by_case false (inr t) hl = cc

cpu_plain : (x x2 p p2 d n m b : ℕ) → x2 ≡ (x + m) - b → p + m ≤ p2 → x + d ≤ p + n → x2 + d ≤ p2 + n
cpu_plain x x2 p p2 d n m b hx hp h = omega (arith, hx, hp, h)

cpu_sum : (x x2 p p2 d n : ℕ) (dis low : Bool) → x2 ≡ (x + one_if dis) - one_if low → p + one_if dis ≤ p2 → x + d ≤ p + n → x2 + d ≤ p2 + n
cpu_sum x x2 p p2 d n dis low hx hp h = cpu_plain x x2 p p2 d n (one_if dis) (one_if low) hx hp h

same_mark : (a b : Bool) (x x2 : ℕ) (low : Bool) → a ≡ b → x2 ≡ (x + one_if a) - one_if low → x2 ≡ (x + one_if b) - one_if low
same_mark a b x x2 low is h = subst (λ (c : Bool). x2 ≡ (x + one_if c) - one_if low) is h

quiet_plain : (x x2 p p2 d n b : ℕ) → x2 ≡ (x + 0) - b → p ≡ p2 → x + d ≤ p + n → x2 + d ≤ p2 + n
quiet_plain x x2 p p2 d n b hx hp h = omega (arith, hx, hp, h)

quiet_sum : (x x2 p p2 d n : ℕ) (dis low : Bool) → x2 ≡ (x + one_if dis) - one_if low → dis ≡ false → p ≡ p2 → x + d ≤ p + n → x2 + d ≤ p2 + n
quiet_sum x x2 p p2 d n true low hx off hp h = cc
quiet_sum x x2 p p2 d n false low hx off hp h = quiet_plain x x2 p p2 d n (one_if low) hx hp h

zero_sum : (x x2 p2 d n : ℕ) (dis low : Bool) → x2 ≡ (x + one_if dis) - one_if low → dis ≡ false → x ≡ 0 → d ≤ n → x2 + d ≤ p2 + n
zero_sum x x2 p2 d n true low hx off z le = cc
zero_sum x x2 p2 d n false low hx off z le = from_zero x x2 p2 d n (one_if low) hx z le

none_of_script : (a b c m k : ℕ) → a ≡ b + m → a ≤ c → c ≡ 0 → k ≡ m → k ≡ 1 → ⊥
none_of_script a b c m k more below none mark one = absurd (omega (arith, more, below, none, mark, one))

-- no thread disables the line
thread_keeps : (def : LineDef) → EnablesWhatItDisables def → (x : DevNo) (call : CallEntry) (past : List Entry) → IsDue def (by.ThreadCall x call) past
    → disables call ≡ false
thread_keeps def rules x call past due =
    let u = thread_call_due def x call past due in
    let at : due_of (run_script def x parts.Thread) (entries_of_run parts.Thread x past) ≡ Some u.due = u.is_due in
    let m = entry_marks def (actors.Thread x) (by.ThreadCall x call) past u.due due (same_self x)
    (due_in_thread def x past u.running u.not_returned ∙ u.is_due) in
    let more = come_more is_disabling (run_script def x parts.Thread) (entries_of_run parts.Thread x past) (by.ThreadCall x call) u.due.0 u.due.1 at in
    let below = come_below is_disabling (run_script def x parts.Thread) (entries_of_run parts.Thread x past) in
    false_from_ne_true (disables call) (λ is. none_of_script
    (to_come is_disabling (run_script def x parts.Thread) (entries_of_run parts.Thread x past))
    (to_come is_disabling (run_script def x parts.Thread) (entries_of_run parts.Thread x past ++ by.ThreadCall x call ∷ []))
    (count_of is_disabling (run_script def x parts.Thread)) (one_if (is_disabling u.due.0 && (u.due.1 == 0))) (one_if (disables call))
    more below (rules.threads x) (ap one_if m.0) (ap one_if is))

module _ (def : LineDef) (rules : EnablesWhatItDisables def) where
  paid_more : (e : Entry) (past : List Entry) → IsDue def e past → IsLegalPast def past → Kept def past → is_reset (e ∷ past) ≡ false
      → is_kill e ≡ false → is_none_linked past ≡ false → IsPaid def past → IsPaid def (e ∷ past)
  paid_more (by.Cpu c t) past due legal k no_reset alive some paid = by_round (begins_round def (by.Cpu c t)) refl
    where
      at : depth (by.Cpu c t ∷ past) ≡ (depth past + one_if (is_deepening (by.Cpu c t))) - one_if (is_lowering (by.Cpu c t))
      at = depth_is (by.Cpu c t) past no_reset k.depth.exact

      by_round : (b : Bool) → begins_round def (by.Cpu c t) ≡ b → IsPaid def (by.Cpu c t ∷ past)
      by_round true is =
          zero_sum (depth past) (depth (by.Cpu c t ∷ past)) (owed def (by.Cpu c t ∷ past)) (disables_due def past) (enables_due def past)
          (is_deepening (by.Cpu c t)) (is_lowering (by.Cpu c t)) at alive (round_enabled def c t past due is) (fewer def rules past)
      by_round false is =
          quiet_sum (depth past) (depth (by.Cpu c t ∷ past)) (owed def past) (owed def (by.Cpu c t ∷ past)) (disables_due def past) (enables_due def past)
          (is_deepening (by.Cpu c t)) (is_lowering (by.Cpu c t)) at alive (sym (no_round def c t past is)) paid
  paid_more (by.CpuCall c call) past due legal k no_reset alive some paid =
      cpu_sum (depth past) (depth (by.CpuCall c call ∷ past)) (owed def past) (owed def (by.CpuCall c call ∷ past))
      (disables_due def past) (enables_due def past)
      (disables call) (is_lowering (by.CpuCall c call))
      (same_mark (is_deepening (by.CpuCall c call)) (disables call) (depth past) (depth (by.CpuCall c call ∷ past)) (is_lowering (by.CpuCall c call))
      (or_false (disables call)) (depth_is (by.CpuCall c call) past no_reset k.depth.exact))
      (handler_owes def rules c call past due legal k) paid
  paid_more (by.Thread x t) past due legal k no_reset alive some paid =
      quiet_sum (depth past) (depth (by.Thread x t ∷ past)) (owed def past) (owed def (by.Thread x t ∷ past)) (disables_due def past) (enables_due def past)
      (is_deepening (by.Thread x t)) (is_lowering (by.Thread x t)) (depth_is (by.Thread x t) past no_reset k.depth.exact) refl refl paid
  paid_more (by.ThreadCall x call) past due legal k no_reset alive some paid =
      thread_sum (depth past) (depth (by.ThreadCall x call ∷ past)) (owed def past) (owed def (by.ThreadCall x call ∷ past)) (disables_due def past)
      (enables_due def past) (disables call) (enables call) (is_lowering (by.ThreadCall x call))
      (same_mark (is_deepening (by.ThreadCall x call)) (disables call) (depth past) (depth (by.ThreadCall x call ∷ past)) (is_lowering (by.ThreadCall x call))
      (or_false (disables call)) (depth_is (by.ThreadCall x call) past no_reset k.depth.exact))
      (thread_keeps def rules x call past due) (thread_pays def x call past) (fewer def rules past)
      (λ is. call_lowers def (actors.Thread x) call past due some is) paid
  paid_more (by.Driver r t) past due legal k no_reset alive some paid =
      let g = driver_goes def r (by.Driver r t) past due (same_self_driver r) (same_self_driver r) (λ j other. other)
      (driver_row def r past (by.Driver r t) due) in
      driver_sum (depth past) (depth (by.Driver r t ∷ past)) (owed def past) (disables_due def past) (disables_due def (by.Driver r t ∷ past))
      (enables_due def past) (enables_due def (by.Driver r t ∷ past)) false false (is_lowering (by.Driver r t))
      (depth_is (by.Driver r t) past no_reset k.depth.exact) g.0 g.1 (fewer def rules (by.Driver r t ∷ past)) (λ is. cc) (λ is. cc) paid
  paid_more (by.DriverCall r call) past due legal k no_reset alive some paid =
      let g = driver_goes def r (by.DriverCall r call) past due (same_self_driver r) (same_self_driver r) (λ j other. other)
      (driver_row def r past (by.DriverCall r call) due) in
      driver_sum (depth past) (depth (by.DriverCall r call ∷ past)) (owed def past) (disables_due def past) (disables_due def (by.DriverCall r call ∷ past))
      (enables_due def past) (enables_due def (by.DriverCall r call ∷ past)) (disables call) (enables call) (is_lowering (by.DriverCall r call))
      (same_mark (is_deepening (by.DriverCall r call)) (disables call) (depth past) (depth (by.DriverCall r call ∷ past)) (is_lowering (by.DriverCall r call))
      (or_false (disables call)) (depth_is (by.DriverCall r call) past no_reset k.depth.exact))
      g.0 g.1 (fewer def rules (by.DriverCall r call ∷ past)) (λ is. call_lowers def (actors.Driver r) call past due some is) (λ is. one_way call is) paid

  -- a first request sets the depth to 0
  paid_first : (e : Entry) (past : List Entry) → IsDue def e past → is_reset (e ∷ past) ≡ true → is_none_linked (e ∷ past) ≡ false → IsPaid def (e ∷ past)
  paid_first e past due reset some = by_case (or_cases (is_last_unlink e) (is_first_request (e ∷ past)) reset)
    where
      by_case : (is_last_unlink e ≡ true) ⊎ (is_first_request (e ∷ past) ≡ true) → IsPaid def (e ∷ past)
      by_case (inl last) = both_ways (is_none_linked (e ∷ past)) (unlinked_none def e past due last) some
      by_case (inr first) =
          let starts = first_starts def rules e past due first in
          let n = raised_reset e past reset in
          let zero : raised (e ∷ past) ≡ 0 = n.0 ∙ ap (λ (b : Bool). cond {A = ℕ} b 0 1) starts in
          let le = fewer def rules (e ∷ past) in
          no_depth (raised (e ∷ past)) (lowered (e ∷ past)) (disables_due def (e ∷ past)) (owed def (e ∷ past)) (enables_due def (e ∷ past)) zero le
        where
          no_depth : (r l d p n : ℕ) → r ≡ 0 → d ≤ n → (r - l) + d ≤ p + n
          no_depth r l d p n z le = omega (arith, z, le)

  paid : IsValid def → (past : List Entry) → IsLegalPast def past → is_none_linked past ≡ false → killed_since_reset past ≡ false → IsPaid def past
  paid valid [] legal some calm = cc
  paid valid (e ∷ past) legal some calm = by_reset (is_reset (e ∷ past)) refl (paid valid past legal.1)
    where
      by_reset : (b : Bool) → is_reset (e ∷ past) ≡ b →
          (is_none_linked past ≡ false → killed_since_reset past ≡ false → IsPaid def past) → IsPaid def (e ∷ past)
      by_reset true is deeper = paid_first e past legal.0 is some
      by_reset false is deeper =
          let calm_parts : (is_kill e ≡ false) × (killed_since_reset past ≡ false) =
          or_parts (is_kill e) (killed_since_reset past)
          (sym (ap (λ (b : Bool). list_any is_kill (cond b [] (e ∷ since_place is_reset past))) is) ∙ calm) in
          let later = (or_parts (is_last_unlink e) (is_first_request (e ∷ past)) is).1 in
          let some_before = linked_before later in
          paid_more e past legal.0 legal.1 (kept def past valid legal.1) is calm_parts.0 some_before (deeper some_before calm_parts.1)
        where
          linked_before : is_first_request (e ∷ past) ≡ false → is_none_linked past ≡ false
          linked_before later = by_test (is_none_linked past) (is_linked_request e) refl refl
            where
              by_test : (n l : Bool) → is_none_linked past ≡ n → is_linked_request e ≡ l → is_none_linked past ≡ false
              by_test false l ns ls = ns
              by_test true false ns ls = both_ways (is_none_linked (e ∷ past)) (still_none e past ls ns) some
              by_test true true ns ls = both_ways (is_first_request (e ∷ past)) (and_both (is_linked_request e) (is_none_linked past) ls ns) later

  -- ---- at rest nothing is owed, and nothing is to come

  not_owing : (past : List Entry) (d : DevNo) → IsIdle def past → KeepsRuns def past → IsOwing def past d → ⊥
  not_owing past d i runs (by_handler w) = both_ways (has_flow def past) (runs.working d w).1 i.no_flow
  not_owing past d i runs (by_wake t) = both_ways (is_woken past d) t (i.no_thread d).0
  not_owing past d i runs (by_run r l) = both_ways (is_running past d) (and_parts (is_running past d) _ r).0 (i.no_thread d).1

  none_owed : (past : List Entry) → IsLegalPast def past → IsIdle def past → owed def past ≡ 0
  none_owed past legal i =
      sum_none (λ (k : ℕ). one_if (owes_enable def past (dev_at k))) (wide def.devices) (λ k.
      no_one (owes_enable def past (dev_at k)) (false_from_ne_true (owes_enable def past (dev_at k)) (λ h.
      not_owing past (dev_at k) i (runs_past def past legal) (owing_kept def rules past legal (dev_at k) h).owing)))
    where
      no_one : (b : Bool) → b ≡ false → one_if b ≡ 0
      no_one false h = refl
      no_one true h = cc

  none_due : (o : Option (Call × ℕ)) → is_some o ≡ false → o ≡ None
  none_due None h = refl
  none_due (Some x) h = cc

  none_to_come : (h : List Entry) → IsAtRest def h → enables_due def (reverse h) ≡ 0
  none_to_come h rest =
      sum_none (λ (k : ℕ). enables_of def (actors.Driver (driver_at k)) (reverse h)) (beyond def.calls) (λ k.
      come_done is_enabling (calls_by (driver_at k) def.calls) (entries_by (driver_at k) (reverse h))
      (none_due (due_call def (driver_at k) (reverse h)) (rest.done (actors.Driver (driver_at k)))))

  pub left_enabled_by : IsValid def → (h : List Entry) → IsLegal def h → IsAtRest def h → IsLeftEnabled def h
  left_enabled_by valid h legal rest some calm =
      let p = paid valid (reverse h) legal some calm in
      let o = none_owed (reverse h) legal (at_rest_idle def h rest) in
      let n = none_to_come h rest in
      at_most_none (depth (reverse h)) (disables_due def (reverse h)) (owed def (reverse h)) (enables_due def (reverse h)) p o n
    where
      at_most_none : (x d p n : ℕ) → x + d ≤ p + n → p ≡ 0 → n ≡ 0 → x ≡ 0
      at_most_none x d p n h o z = omega (arith, h, o, z)

pub left_enabled : (def : LineDef) (h : List Entry) → IsValid def → EnablesWhatItDisables def → IsLegal def h → IsAtRest def h → IsLeftEnabled def h
left_enabled def h valid rules legal rest = left_enabled_by def rules valid h legal rest
