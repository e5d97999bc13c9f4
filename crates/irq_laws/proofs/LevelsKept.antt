-- Each entry keeps: why a level line is masked.
use Rattle.std.proofs.Common.{◌≡◌, ◌⊎◌, inl, inr, Bool, true, false, not, ◌||◌, ◌&&◌, cond, is_some, List, [], ◌∷◌, filter, refl, sym, ap, ◌∙◌, subst, arith}
use Rattle.std.proofs.lemmas.Bool.{and_parts, or_cases, or_left, or_right}
use Rattle.irq_base.specs.declared.numbers.DevNo.{DevNo}
use Rattle.irq_base.specs.declared.numbers.DriverNo.{DriverNo}
use Rattle.irq_base.specs.declared.calls.Flags.{Flags}
use Rattle.irq_base.specs.declared.devices.DeviceDef.{DeviceDef}
use Rattle.irq_base.specs.declared.lines.FlowKind.{FlowKind}
use Rattle.irq_base.specs.declared.lines.FlowKind.TheVariants as flows
use Rattle.irq_base.specs.declared.lines.LineDef.{LineDef}
use Rattle.irq_base.specs.declared.entries.Entry.{Entry}
use Rattle.irq_base.specs.declared.entries.Entry.TheVariants as by
use Rattle.irq_base.specs.declared.entries.CpuEntry.TheVariants as cpus
use Rattle.irq_base.specs.declared.entries.ThreadEntry.TheVariants as threads
use Rattle.irq_base.specs.declared.entries.DriverEntry.TheVariants as drivers
use Rattle.irq_base.specs.declared.entries.CallEntry.{CallEntry}
use Rattle.irq_base.specs.declared.entries.CallEntry.TheVariants as called
use Rattle.irq_base.specs.declared.entries.TakeAnswer.TheVariants as takes
use Rattle.irq_base.specs.declared.entries.LinkAnswer.TheVariants as links
use Rattle.irq_base.specs.declared.entries.Errno.{Errno}
use Rattle.irq_base.specs.declared.entries.Opened.{Opened}
use Rattle.irq_base.specs.declared.entries.Note.{Note}
use Rattle.irq_model.specs.Kinds.{is_take, is_start, same_dev}
use Rattle.irq_model.specs.Lines.{is_edge_line, is_level_line, is_edge_flow, is_eoi_flow}
use Rattle.irq_model.specs.Links.{linking_flags, depth, requested, is_linked, is_none_linked, is_empty, is_disabled, is_oneshot}
use Rattle.irq_model.specs.Masks.{is_masked}
use Rattle.irq_model.specs.Rounds.{flow, has_flow}
use Rattle.irq_model.specs.Threads.{is_woken, is_unfinished, is_some_unfinished, is_other_unfinished}
use Rattle.irq_model.specs.Spurious.{note_of}
use Rattle.irq_model.specs.Next.{is_off_now}
use Rattle.irq_model.specs.Legal.{IsDue}
use Rattle.irq_model.specs.Valid.{IsValid}
use Rattle.irq_model.specs.Reason.{LevelMaskIsHeld, EoiLevelMaskIsOneshot}
use Rattle.irq_model.proofs.RoundSteps.{flow_quiet}
use Rattle.irq_model.proofs.Same.{dev_from_same}
use Rattle.irq_laws.specs.Actors.{by_someone}
use Rattle.irq_laws.specs.Kept.{Kept, KeepsDepth, KeepsLevels, LinkedIsWanted}
use Rattle.irq_laws.proofs.Lists.{any_imply, both_ways}
use Rattle.irq_laws.proofs.RestKept.{goes_with, none_freed, no_part, parts_of}
use Rattle.irq_laws.proofs.WantedKept.{requested_unlinked}
use Rattle.irq_laws.proofs.Unfinished.{others_left}
use Rattle.irq_laws.proofs.DepthKept.{StaysEnabled, enabled_before}
use Rattle.irq_laws.proofs.Masking.{eoi_is, level_is_not, busy_has_flow, never_off, not_disabled, take_masked}
use Rattle.irq_laws.proofs.Masking.{start_opens, masked_before, IsPlain, flow_same, off_now}
use Rattle.irq_laws.proofs.ImpliesFlow.{unmask_by, has_a_flow, return_due, end_due}
use Rattle.irq_laws.proofs.ImpliesThread.{finish_due}
use Rattle.irq_laws.proofs.ImpliesDriver.{request_due}

-- ---- a flow or a thread

-- an end that leaves an enabled level line masked leaves a thread unfinished
held_by : (a m u : Bool) → a ≡ true → m ≡ true → (a && (m && not u)) ≡ false → u ≡ true
held_by a m u x y h = grind arith

eoi_held : (g f o m u : Bool) → not g ≡ true → f ≡ false → o ≡ true → m ≡ true → (not g && ((not f && o) && (m && not u))) ≡ false → u ≡ true
eoi_held g f o m u x y z w h = grind arith

end_held : (def : LineDef) (f : FlowKind) (past : List Entry) (note : Note) → IsValid def → is_level_line def ≡ true
    → def.flow ≡ f → is_off_now past note ≡ false → (is_eoi_flow f ≡ true → is_oneshot past ≡ true)
    → is_masked def past ≡ true
    → unmask_by def f past note ≡ false → is_some_unfinished def past ≡ true
end_held def flows.Edge past note valid level is on one m h = level_is_not (is_edge_line def) (valid.edge_flow (ap is_edge_flow is)) level
end_held def flows.Level past note valid level is on one m h
    = held_by (not (is_off_now past note)) (is_masked def past) (is_some_unfinished def past) (ap not on) m h
end_held def flows.Eoi past note valid level is on one m h
    = eoi_held (is_edge_line def) (is_off_now past note) (is_oneshot past) (is_masked def past)
    (is_some_unfinished def past) level on (one refl) m h

level_plain : (def : LineDef) (e : Entry) (past : List Entry) → IsDue def e past → KeepsDepth def past
    → LevelMaskIsHeld def past → IsPlain e → (is_some_unfinished def past ≡ true
    → is_some_unfinished def (e ∷ past) ≡ true)
    → is_level_line def ≡ true → is_masked def (e ∷ past) ≡ true → depth (e ∷ past) ≡ 0 → (has_flow def (e ∷ past) || is_some_unfinished def (e ∷ past)) ≡ true
level_plain def e past due kd k plain stays level m zero = by_case (enabled_before def e past due kd zero)
  where
    by_held : (has_flow def past ≡ true) ⊎ (is_some_unfinished def past ≡ true) → (has_flow def (e ∷ past) || is_some_unfinished def (e ∷ past)) ≡ true
    by_held (inl f) = or_left _ _ (flow_same def e past plain ∙ f)
    by_held (inr u) = or_right _ _ (stays u)

    by_case : (is_start e ≡ true) ⊎ StaysEnabled e past → (has_flow def (e ∷ past) || is_some_unfinished def (e ∷ past)) ≡ true
    by_case (inl starts) = both_ways (is_masked def (e ∷ past)) m (start_opens def e past starts)
    by_case (inr q) = by_held (or_cases _ _ (k level (masked_before def e past plain.no_take q m).0 q.was))

-- a request resets no bit that stands
request_stays : (def : LineDef) (s : DriverNo) (x : DevNo) (flags : Flags) (opened : Opened) (past : List Entry)
    → IsValid def → IsDue def (by.Driver s (drivers.Request flags links.Linked opened x)) past → Kept def past
    → LinkedIsWanted def past
    → is_some_unfinished def past ≡ true → is_some_unfinished def (by.Driver s (drivers.Request flags links.Linked opened x) ∷ past) ≡ true
request_stays def s x flags opened past valid due k w h =
    any_imply (λ (y : DeviceDef). is_unfinished past y.dev)
    (λ y. is_unfinished (by.Driver s (drivers.Request flags links.Linked opened x) ∷ past) y.dev) def.devices
    (λ y is. at_dev y.dev is) h
  where
    idle : is_unfinished past x ≡ false
    idle =
        let u = request_due def s x flags links.Linked opened past due in
        (parts_of past x (k.rest.at_rest x (requested_unlinked def s x flags u.count past valid w u.call) (none_freed def past k u.no_mutex x))).2

    by_test : (d : DevNo) → is_unfinished past d ≡ true → (b : Bool) → same_dev d x ≡ b
        → is_unfinished (by.Driver s (drivers.Request flags links.Linked opened x) ∷ past) d ≡ true
    by_test d is true same = both_ways (is_unfinished past d) is (subst (λ (y : DevNo). is_unfinished past y ≡ false) (sym (dev_from_same d x same)) idle)
    by_test d is false other = rw other is

    at_dev : (d : DevNo) → is_unfinished past d ≡ true → is_unfinished (by.Driver s (drivers.Request flags links.Linked opened x) ∷ past) d ≡ true
    at_dev d is = by_test d is (same_dev d x) refl

refused_stays : (def : LineDef) (s : DriverNo) (x : DevNo) (flags : Flags) (error : Errno) (opened : Opened) (past : List Entry)
    → is_some_unfinished def past ≡ true → is_some_unfinished def (by.Driver s (drivers.Request flags (links.Refused error) opened x) ∷ past) ≡ true
refused_stays def s x flags error opened past h =
    any_imply (λ (y : DeviceDef). is_unfinished past y.dev)
    (λ y. is_unfinished (by.Driver s (drivers.Request flags (links.Refused error) opened x) ∷ past) y.dev) def.devices
    (λ y is. at_dev y.dev is) h
  where
    at_dev : (d : DevNo) → is_unfinished past d ≡ true → is_unfinished (by.Driver s (drivers.Request flags (links.Refused error) opened x) ∷ past) d ≡ true
    at_dev d is = rw (no_part (same_dev d x)) is

-- no step of a call resets a bit
call_stays : (def : LineDef) (call : CallEntry) (past : List Entry)
    → is_some_unfinished def past ≡ true → is_some_unfinished def (by_someone call ∷ past) ≡ true
call_stays def (called.Wake woken x) past h =
    any_imply (λ (y : DeviceDef). is_unfinished past y.dev) (λ y. is_unfinished (by_someone (called.Wake woken x) ∷ past) y.dev) def.devices
    (λ y is. one_more (linking_flags past y.dev).oneshot (woken && same_dev y.dev x) _ is) h
  where
    one_more : (o w s : Bool) → (o && s) ≡ true → (o && (w || s)) ≡ true
    one_more o w s h = grind arith
call_stays def call past h = h

other_held : (w d m o : Bool) → w ≡ false → d ≡ false → m ≡ true → (not w && (not d && (m && not o))) ≡ false → o ≡ true
other_held w d m o x y z h = grind arith

-- a finish that leaves an enabled level line masked leaves another thread unfinished
finish_held : (def : LineDef) (x : DevNo) (unmask : Bool) (past : List Entry)
    → IsDue def (by.Thread x (threads.Finish false unmask)) past → depth past ≡ 0 → is_masked def past ≡ true → unmask ≡ false
    → is_some_unfinished def (by.Thread x (threads.Finish false unmask) ∷ past) ≡ true
finish_held def x unmask past due zero m shut =
    let u = finish_due def x false unmask past due in
    others_left def x unmask past ∙ other_held (is_woken past x) (is_disabled past) (is_masked def past)
    (is_other_unfinished def past x) (sym u.kept_is) (not_disabled past zero) m (sym u.unmask_is ∙ shut)

level_more : (def : LineDef) (e : Entry) (past : List Entry) → IsValid def → IsDue def e past → Kept def past
    → KeepsDepth def past → LinkedIsWanted def past → KeepsLevels def past → is_level_line def ≡ true
    → is_masked def (e ∷ past) ≡ true → depth (e ∷ past) ≡ 0
    → (has_flow def (e ∷ past) || is_some_unfinished def (e ∷ past)) ≡ true
level_more def (by.Cpu c (cpus.Take way takes.Handle)) past valid due kept kd w k level m zero = refl
level_more def (by.Cpu c (cpus.Take way takes.Busy)) past valid due kept kd w k level m zero =
    or_left _ _ (ap is_some (flow_quiet def (by.Cpu c (cpus.Take way takes.Busy)) past refl refl refl) ∙ busy_has_flow def c way past due)
level_more def (by.Cpu c (cpus.Take way takes.Off)) past valid due kept kd w k level m zero = never_off def c way past due kd zero
level_more def (by.Cpu c (cpus.End again unmask note)) past valid due kept kd w k level m zero
    = by_case (enabled_before def (by.Cpu c (cpus.End again unmask note)) past due kd zero)
  where
    by_case : (is_start (by.Cpu c (cpus.End again unmask note)) ≡ true) ⊎ StaysEnabled (by.Cpu c (cpus.End again unmask note)) past
        → (has_flow def (by.Cpu c (cpus.End again unmask note) ∷ past) || is_some_unfinished def (by.Cpu c (cpus.End again unmask note) ∷ past)) ≡ true
    by_case (inl starts) = cc
    by_case (inr q) =
        let b = masked_before def (by.Cpu c (cpus.End again unmask note)) past refl q m in
        let u = end_due def c again unmask note past due in
        let on = ap (λ (x : Note). is_off_now past x) (sym u.note_is) ∙ off_now past c again unmask note q in
        or_right _ _ (end_held def def.flow past (note_of def past) valid level refl on (λ eoi. k.eoi_level level eoi b.0 q.was) b.0 (sym u.unmask_is ∙ b.1))
level_more def (by.Cpu c (cpus.Return answer x served)) past valid due kept kd w k level m zero =
    or_left _ _ (ap is_some (flow_quiet def (by.Cpu c (cpus.Return answer x served)) past refl refl refl)
    ∙ has_a_flow c (flow def past) (return_due def c x answer served past due).of_flow)
level_more def (by.Thread x (threads.Finish true unmask)) past valid due kept kd w k level m zero =
    level_plain def (by.Thread x (threads.Finish true unmask)) past due kd k.level
    (record { no_take = refl; no_handle = refl; no_leave = refl; no_again = refl }) (λ u. u) level m zero
level_more def (by.Thread x (threads.Finish false unmask)) past valid due kept kd w k level m zero
    = by_case (enabled_before def (by.Thread x (threads.Finish false unmask)) past due kd zero)
  where
    by_case : (is_start (by.Thread x (threads.Finish false unmask)) ≡ true) ⊎ StaysEnabled (by.Thread x (threads.Finish false unmask)) past
        → (has_flow def (by.Thread x (threads.Finish false unmask) ∷ past) || is_some_unfinished def (by.Thread x (threads.Finish false unmask) ∷ past)) ≡ true
    by_case (inl starts) = cc
    by_case (inr q) =
        let b = masked_before def (by.Thread x (threads.Finish false unmask)) past refl q m in
        or_right _ _ (finish_held def x unmask past due q.was b.0 b.1)
level_more def (by.Driver s (drivers.Request flags links.Linked opened x)) past valid due kept kd w k level m zero =
    level_plain def (by.Driver s (drivers.Request flags links.Linked opened x)) past due kd k.level
    (record { no_take = refl; no_handle = refl; no_leave = refl; no_again = refl })
    (request_stays def s x flags opened past valid due kept w) level m zero
level_more def (by.Driver s (drivers.Request flags (links.Refused error) opened x)) past valid due kept kd w k level m zero =
    level_plain def (by.Driver s (drivers.Request flags (links.Refused error) opened x)) past due kd k.level
    (record { no_take = refl; no_handle = refl; no_leave = refl; no_again = refl })
    (refused_stays def s x flags error opened past) level m zero
level_more def (by.CpuCall c call) past valid due kept kd w k level m zero =
    level_plain def (by.CpuCall c call) past due kd k.level (record { no_take = refl; no_handle = refl; no_leave = refl; no_again = refl })
    (call_stays def call past) level m zero
level_more def (by.ThreadCall x call) past valid due kept kd w k level m zero =
    level_plain def (by.ThreadCall x call) past due kd k.level (record { no_take = refl; no_handle = refl; no_leave = refl; no_again = refl })
    (call_stays def call past) level m zero
level_more def (by.DriverCall s call) past valid due kept kd w k level m zero =
    level_plain def (by.DriverCall s call) past due kd k.level (record { no_take = refl; no_handle = refl; no_leave = refl; no_again = refl })
    (call_stays def call past) level m zero
level_more def e past valid due kept kd w k level m zero =
    level_plain def e past due kd k.level (record { no_take = refl; no_handle = refl; no_leave = refl; no_again = refl }) (λ u. u) level m zero

-- ---- the fast-EOI flow on a level line

some_passes : (p : DevNo → Bool) (xs : List DevNo) → is_empty (filter p xs) ≡ false → (d : DevNo) × (p d ≡ true)
some_passes p [] h = cc
some_passes p (x ∷ xs) h = by_test (p x) refl (some_passes p xs)
  where
    by_test : (b : Bool) → p x ≡ b → (is_empty (filter p xs) ≡ false → (d : DevNo) × (p d ≡ true)) → (d : DevNo) × (p d ≡ true)
    by_test true is deeper = (x, is)
    by_test false is deeper = deeper (ap (λ (b : Bool). is_empty (cond b (x ∷ filter p xs) (filter p xs))) (sym is) ∙ h)

oneshot_plain : (def : LineDef) (e : Entry) (past : List Entry) → IsDue def e past → KeepsDepth def past
    → EoiLevelMaskIsOneshot def past → is_take e ≡ false
    → (StaysEnabled e past → is_oneshot past ≡ true → is_oneshot (e ∷ past) ≡ true)
    → is_level_line def ≡ true → is_eoi_flow def.flow ≡ true → is_masked def (e ∷ past) ≡ true → depth (e ∷ past) ≡ 0 → is_oneshot (e ∷ past) ≡ true
oneshot_plain def e past due kd k no_take stays level eoi m zero = by_case (enabled_before def e past due kd zero)
  where
    by_case : (is_start e ≡ true) ⊎ StaysEnabled e past → is_oneshot (e ∷ past) ≡ true
    by_case (inl starts) = both_ways (is_masked def (e ∷ past)) m (start_opens def e past starts)
    by_case (inr q) = stays q (k level eoi (masked_before def e past no_take q m).0 q.was)

-- a further request has the flag of the requests before it
request_oneshot : (def : LineDef) (s : DriverNo) (x : DevNo) (flags : Flags) (opened : Opened) (past : List Entry)
    → IsDue def (by.Driver s (drivers.Request flags links.Linked opened x)) past → Kept def past → is_none_linked past ≡ false
    → is_oneshot past ≡ true → flags.oneshot ≡ true
request_oneshot def s x flags opened past due kept some one =
    let y = some_passes (is_linked past) (requested past) some in
    sym (goes_with def s x flags opened past due y.0 y.1) ∙ kept.rest.flags y.0 (or_left _ _ y.1) ∙ one

oneshot_more : (def : LineDef) (e : Entry) (past : List Entry) → IsDue def e past → Kept def past → KeepsDepth def past
    → EoiLevelMaskIsOneshot def past → is_level_line def ≡ true → is_eoi_flow def.flow ≡ true
    → is_masked def (e ∷ past) ≡ true → depth (e ∷ past) ≡ 0
    → is_oneshot (e ∷ past) ≡ true
oneshot_more def (by.Cpu c (cpus.Take way takes.Handle)) past due kept kd k level eoi m zero
    = by_case (or_cases _ _ (sym (take_masked def flows.Eoi c way takes.Handle past (eoi_is def.flow eoi)) ∙ m))
  where
    by_case : ((is_level_line def && is_oneshot past) ≡ true) ⊎ (is_masked def past ≡ true) → is_oneshot past ≡ true
    by_case (inl h) = (and_parts (is_level_line def) (is_oneshot past) h).1
    by_case (inr h) = k level eoi h zero
oneshot_more def (by.Cpu c (cpus.Take way takes.Busy)) past due kept kd k level eoi m zero
    = k level eoi (sym (take_masked def flows.Eoi c way takes.Busy past (eoi_is def.flow eoi)) ∙ m) zero
oneshot_more def (by.Cpu c (cpus.Take way takes.Off)) past due kept kd k level eoi m zero = never_off def c way past due kd zero
oneshot_more def (by.Driver s (drivers.Request flags links.Linked opened x)) past due kept kd k level eoi m zero =
    oneshot_plain def (by.Driver s (drivers.Request flags links.Linked opened x)) past due kd k refl
    (λ q one. request_oneshot def s x flags opened past due kept (kd.enabled q.was).1 one) level eoi m zero
oneshot_more def e past due kept kd k level eoi m zero = oneshot_plain def e past due kd k refl (λ q one. one) level eoi m zero

pub levels_more : (def : LineDef) (e : Entry) (past : List Entry) → IsValid def → IsDue def e past → Kept def past
    → KeepsDepth def past → LinkedIsWanted def past → KeepsLevels def past → KeepsLevels def (e ∷ past)
levels_more def e past valid due kept kd w k = record {
  level = level_more def e past valid due kept kd w k;
  eoi_level
      = oneshot_more def e past due kept kd k.eoi_level;
}

pub no_levels : (def : LineDef) → KeepsLevels def []
no_levels def = record { level = λ level m zero. absurd (omega (arith, zero)); eoi_level = λ level eoi m zero. absurd (omega (arith, zero)) }
