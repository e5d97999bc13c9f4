-- Each entry keeps: why an edge line is masked, and what is pending then.
use Rattle.std.proofs.Common.{◌≡◌, ◌⊎◌, inl, inr, Bool, true, false, not, ◌||◌, ◌&&◌, is_some, List, [], ◌∷◌, refl, sym, ap, ◌∙◌, arith}
use Rattle.std.proofs.lemmas.Bool.{and_from, or_parts, false_from_ne_true}
use Rattle.irq_base.specs.declared.numbers.CpuNo.{CpuNo}
use Rattle.irq_base.specs.declared.lines.FlowKind.{FlowKind}
use Rattle.irq_base.specs.declared.lines.FlowKind.TheVariants as flows
use Rattle.irq_base.specs.declared.lines.LineDef.{LineDef}
use Rattle.irq_base.specs.declared.entries.Entry.{Entry}
use Rattle.irq_base.specs.declared.entries.Entry.TheVariants as by
use Rattle.irq_base.specs.declared.entries.CpuEntry.TheVariants as cpus
use Rattle.irq_base.specs.declared.entries.TakeAnswer.TheVariants as takes
use Rattle.irq_base.specs.declared.entries.Note.{Note}
use Rattle.irq_model.specs.Kinds.{is_take, is_start, is_again, is_handle, is_disable, is_kill, is_last_unlink, is_reopening}
use Rattle.irq_model.specs.Lines.{is_edge_line, is_edge_flow, is_level_flow, is_eoi_flow}
use Rattle.irq_model.specs.Links.{depth, is_started, is_disabled, is_none_linked, is_oneshot}
use Rattle.irq_model.specs.Masks.{take_masks, unmasks, is_masked}
use Rattle.irq_model.specs.Rounds.{has_flow}
use Rattle.irq_model.specs.Waiting.{is_pending}
use Rattle.irq_model.specs.Spurious.{note_of}
use Rattle.irq_model.specs.Next.{is_off_now}
use Rattle.irq_model.specs.Legal.{IsDue}
use Rattle.irq_model.specs.Valid.{IsValid}
use Rattle.irq_model.specs.Reason.{EdgeFlowMaskIsPending, EoiEdgeIsOpen, EdgePendingHasFlow, DroppedIsPending}
use Rattle.irq_model.proofs.RoundSteps.{flow_quiet}
use Rattle.irq_model.proofs.MaskSteps.{masked_more, no_take_masks}
use Rattle.irq_model.proofs.WaitSteps.{pending_by_clearing}
use Rattle.irq_laws.specs.Kept.{KeepsDepth, KeepsEdges}
use Rattle.irq_laws.proofs.Lists.{both_ways}
use Rattle.irq_laws.proofs.RunsKept.{handle_idle}
use Rattle.irq_laws.proofs.DepthKept.{StaysEnabled, enabled_before}
use Rattle.irq_laws.proofs.Masking.{edge_is, eoi_is, level_is_not, busy_has_flow, never_off, zero_depth, take_masked}
use Rattle.irq_laws.proofs.Masking.{start_opens, masked_before, IsPlain, flow_same, off_now}
use Rattle.irq_laws.proofs.ImpliesFlow.{again_by, unmask_by, take_due, end_due}

-- ---- what is pending

-- an end on an enabled edge line goes on with what is pending
end_goes_on : (def : LineDef) (f : FlowKind) (past : List Entry) (note : Note) → IsValid def → is_edge_line def ≡ true
    → def.flow ≡ f → is_off_now past note ≡ false → is_pending def past ≡ true → again_by def f past note ≡ true
end_goes_on def flows.Edge past note valid edge is on p = and_from _ _ p (ap not on)
end_goes_on def flows.Level past note valid edge is on p = level_is_not (is_edge_line def) edge (valid.level_flow (ap is_level_flow is))
end_goes_on def flows.Eoi past note valid edge is on p = and_from _ _ edge (and_from _ _ p (ap not on))

pub end_again : (def : LineDef) (c : CpuNo) (again unmask : Bool) (note : Note) (past : List Entry) → IsValid def
    → IsDue def (by.Cpu c (cpus.End again unmask note)) past → is_edge_line def ≡ true
    → StaysEnabled (by.Cpu c (cpus.End again unmask note)) past
    → is_pending def past ≡ true → again ≡ true
end_again def c again unmask note past valid due edge q p =
    let u = end_due def c again unmask note past due in
    let on = off_now past c again unmask note q in
    u.again_is ∙ end_goes_on def def.flow past (note_of def past) valid edge refl (ap (λ (n : Note). is_off_now past n) (sym u.note_is) ∙ on) p

not_cleared : (h a s p : Bool) → (not (h || (a || s)) && p) ≡ true → (a ≡ false) × (s ≡ false) × (p ≡ true)
not_cleared h a s p x = (grind arith, grind arith, grind arith)

-- what is pending after an entry that is no take was pending, and isn't cleared
pending_before : (def : LineDef) (e : Entry) (past : List Entry) → is_take e ≡ false → is_pending def (e ∷ past) ≡ true
    → (is_again e ≡ false) × (is_start e ≡ false) × (is_pending def past ≡ true)
pending_before def e past no_take h = not_cleared (is_handle e) (is_again e) (is_start e) (is_pending def past)
    (sym (pending_by_clearing def e past no_take) ∙ h)

pending_stays : (def : LineDef) (e : Entry) (past : List Entry) → is_take e ≡ false → is_handle e ≡ false
    → is_again e ≡ false → is_start e ≡ false → is_pending def past ≡ true → is_pending def (e ∷ past) ≡ true
pending_stays def e past no_take no_handle no_again no_start p = pending_by_clearing def e past no_take
    ∙ uncleared (is_handle e) (is_again e) (is_start e) (is_pending def past) no_handle no_again no_start p
  where
    uncleared : (h a s p : Bool) → h ≡ false → a ≡ false → s ≡ false → p ≡ true → (not (h || (a || s)) && p) ≡ true
    uncleared h a s p x y z w = grind arith

pending_plain : (def : LineDef) (e : Entry) (past : List Entry) → IsDue def e past → KeepsDepth def past
    → EdgePendingHasFlow def past → IsPlain e → is_edge_line def ≡ true → is_pending def (e ∷ past) ≡ true
    → depth (e ∷ past) ≡ 0 → has_flow def (e ∷ past) ≡ true
pending_plain def e past due kd k plain edge p zero = by_case (enabled_before def e past due kd zero)
  where
    by_case : (is_start e ≡ true) ⊎ StaysEnabled e past → has_flow def (e ∷ past) ≡ true
    by_case (inl starts) = both_ways (is_start e) starts (pending_before def e past plain.no_take p).1
    by_case (inr q) = flow_same def e past plain ∙ k edge (pending_before def e past plain.no_take p).2 q.was

pending_more : (def : LineDef) (e : Entry) (past : List Entry) → IsValid def → IsDue def e past → KeepsDepth def past
    → EdgePendingHasFlow def past → is_edge_line def ≡ true → is_pending def (e ∷ past) ≡ true → depth (e ∷ past) ≡ 0
    → has_flow def (e ∷ past) ≡ true
pending_more def (by.Cpu c (cpus.Take way takes.Handle)) past valid due kd k edge p zero = refl
pending_more def (by.Cpu c (cpus.Take way takes.Busy)) past valid due kd k edge p zero =
    ap is_some (flow_quiet def (by.Cpu c (cpus.Take way takes.Busy)) past refl refl refl) ∙ busy_has_flow def c way past due
pending_more def (by.Cpu c (cpus.Take way takes.Off)) past valid due kd k edge p zero = never_off def c way past due kd zero
pending_more def (by.Cpu c (cpus.End again unmask note)) past valid due kd k edge p zero
    = by_case (enabled_before def (by.Cpu c (cpus.End again unmask note)) past due kd zero)
  where
    by_case : (is_start (by.Cpu c (cpus.End again unmask note)) ≡ true) ⊎ StaysEnabled (by.Cpu c (cpus.End again unmask note)) past
        → has_flow def (by.Cpu c (cpus.End again unmask note) ∷ past) ≡ true
    by_case (inl starts) = cc
    by_case (inr q) =
        let b = pending_before def (by.Cpu c (cpus.End again unmask note)) past refl p in
        both_ways again (end_again def c again unmask note past valid due edge q b.2) b.0
pending_more def e past valid due kd k edge p zero = pending_plain def e past due kd k
    (record { no_take = refl; no_handle = refl; no_leave = refl; no_again = refl }) edge p zero

-- ---- the edge flow

edge_unmask : (def : LineDef) (f : FlowKind) (past : List Entry) (note : Note) → is_edge_flow f ≡ true
    → is_off_now past note ≡ false → is_pending def past ≡ true → is_masked def past ≡ true
    → unmask_by def f past note ≡ true
edge_unmask def flows.Edge past note is on p m = and_from _ _ (and_from _ _ p (ap not on)) m
edge_unmask def flows.Level past note is on p m = cc
edge_unmask def flows.Eoi past note is on p m = cc

edge_plain : (def : LineDef) (e : Entry) (past : List Entry) → IsDue def e past → KeepsDepth def past
    → EdgeFlowMaskIsPending def past → IsPlain e → is_edge_flow def.flow ≡ true → is_masked def (e ∷ past) ≡ true
    → depth (e ∷ past) ≡ 0
    → (has_flow def (e ∷ past) ≡ true) × (is_pending def (e ∷ past) ≡ true)
edge_plain def e past due kd k plain edge m zero = by_case (enabled_before def e past due kd zero)
  where
    by_case : (is_start e ≡ true) ⊎ StaysEnabled e past → (has_flow def (e ∷ past) ≡ true) × (is_pending def (e ∷ past) ≡ true)
    by_case (inl starts) = both_ways (is_masked def (e ∷ past)) m (start_opens def e past starts)
    by_case (inr q) =
        let n = k edge (masked_before def e past plain.no_take q m).0 q.was in
        (flow_same def e past plain ∙ n.0, pending_stays def e past plain.no_take plain.no_handle plain.no_again q.no_start n.1)

edge_more : (def : LineDef) (e : Entry) (past : List Entry) → IsValid def → IsDue def e past → KeepsDepth def past
    → EdgeFlowMaskIsPending def past → is_edge_flow def.flow ≡ true → is_masked def (e ∷ past) ≡ true
    → depth (e ∷ past) ≡ 0
    → (has_flow def (e ∷ past) ≡ true) × (is_pending def (e ∷ past) ≡ true)
edge_more def (by.Cpu c (cpus.Take way takes.Handle)) past valid due kd k edge m zero =
    let was : is_masked def past ≡ true = sym (take_masked def flows.Edge c way takes.Handle past (edge_is def.flow edge)) ∙ m in
    both_ways (has_flow def past) (k edge was zero).0 (handle_idle def past (take_due def c way takes.Handle past due).answer_is).0
edge_more def (by.Cpu c (cpus.Take way takes.Busy)) past valid due kd k edge m zero = (
  ap is_some (flow_quiet def (by.Cpu c (cpus.Take way takes.Busy)) past refl refl refl) ∙ busy_has_flow def c way past due,
  ap (λ (b : Bool). (b && true) || is_pending def past) (valid.edge_flow edge),
)
edge_more def (by.Cpu c (cpus.Take way takes.Off)) past valid due kd k edge m zero = never_off def c way past due kd zero
edge_more def (by.Cpu c (cpus.End again unmask note)) past valid due kd k edge m zero
    = by_case (enabled_before def (by.Cpu c (cpus.End again unmask note)) past due kd zero)
  where
    by_case : (is_start (by.Cpu c (cpus.End again unmask note)) ≡ true) ⊎ StaysEnabled (by.Cpu c (cpus.End again unmask note)) past
        → (has_flow def (by.Cpu c (cpus.End again unmask note) ∷ past) ≡ true) × (is_pending def (by.Cpu c (cpus.End again unmask note) ∷ past) ≡ true)
    by_case (inl starts) = cc
    by_case (inr q) =
        let b = masked_before def (by.Cpu c (cpus.End again unmask note)) past refl q m in
        let n = k edge b.0 q.was in
        let u = end_due def c again unmask note past due in
        let on = ap (λ (x : Note). is_off_now past x) (sym u.note_is) ∙ off_now past c again unmask note q in
        both_ways unmask (u.unmask_is ∙ edge_unmask def def.flow past (note_of def past) edge on n.1 b.0) b.1
edge_more def e past valid due kd k edge m zero = edge_plain def e past due kd k
    (record { no_take = refl; no_handle = refl; no_leave = refl; no_again = refl }) edge m zero

-- ---- the fast-EOI flow on an edge line

eoi_plain : (def : LineDef) (e : Entry) (past : List Entry) → IsDue def e past → KeepsDepth def past
    → EoiEdgeIsOpen def past → is_take e ≡ false → is_edge_line def ≡ true → is_eoi_flow def.flow ≡ true
    → depth (e ∷ past) ≡ 0 → is_masked def (e ∷ past) ≡ false
eoi_plain def e past due kd k no_take edge eoi zero = by_case (enabled_before def e past due kd zero)
  where
    by_case : (is_start e ≡ true) ⊎ StaysEnabled e past → is_masked def (e ∷ past) ≡ false
    by_case (inl starts) = start_opens def e past starts
    by_case (inr q) = false_from_ne_true (is_masked def (e ∷ past))
        (λ m. both_ways (is_masked def past) (masked_before def e past no_take q m).0 (k edge eoi q.was))

eoi_more : (def : LineDef) (e : Entry) (past : List Entry) → IsDue def e past → KeepsDepth def past
    → EoiEdgeIsOpen def past → is_edge_line def ≡ true → is_eoi_flow def.flow ≡ true → depth (e ∷ past) ≡ 0
    → is_masked def (e ∷ past) ≡ false
eoi_more def (by.Cpu c (cpus.Take way takes.Handle)) past due kd k edge eoi zero =
    take_masked def flows.Eoi c way takes.Handle past (eoi_is def.flow eoi)
    ∙ eoi_open (is_edge_line def) (is_oneshot past) (is_masked def past) edge (k edge eoi zero)
  where
    eoi_open : (g o m : Bool) → g ≡ true → m ≡ false → ((false || (true && (not g && o))) || m) ≡ false
    eoi_open g o m a b = grind arith
eoi_more def (by.Cpu c (cpus.Take way takes.Busy)) past due kd k edge eoi zero
    = take_masked def flows.Eoi c way takes.Busy past (eoi_is def.flow eoi) ∙ k edge eoi zero
eoi_more def (by.Cpu c (cpus.Take way takes.Off)) past due kd k edge eoi zero = never_off def c way past due kd zero
eoi_more def e past due kd k edge eoi zero = eoi_plain def e past due kd k refl edge eoi zero

-- ---- when a masked chip drops edges

-- such a line is handled by the edge flow, and isn't masked as soon as it is disabled
dropping_flow : (def : LineDef) (f : FlowKind) → IsValid def → is_edge_line def ≡ true → def.keeps ≡ false → def.flow ≡ f → f ≡ flows.Edge
dropping_flow def flows.Edge valid edge drops is = refl
dropping_flow def flows.Level valid edge drops is = level_is_not (is_edge_line def) edge (valid.level_flow (ap is_level_flow is))
dropping_flow def flows.Eoi valid edge drops is = both_ways def.keeps (valid.eoi_keeps edge (ap is_eoi_flow is)) drops

dropping_lazy : (def : LineDef) → IsValid def → is_edge_line def ≡ true → def.keeps ≡ false → def.unlazy ≡ false
dropping_lazy def valid edge drops = false_from_ne_true def.unlazy (λ unlazy. both_ways def.keeps (valid.unlazy edge unlazy) drops)

still_started : (s l t : Bool) → (s || (not l && t)) ≡ true → s ≡ false → (l ≡ false) × (t ≡ true)
still_started s l t h a = (grind arith, grind arith)

lazy_masks : (y d k l s r m : Bool) → y ≡ false → l ≡ false → s ≡ false
    → ((false || ((y && (d || k)) || l)) || (not (s || r) && m)) ≡ true → (m ≡ true) × (r ≡ false)
lazy_masks y d k l s r m a b c h = (grind arith, grind arith)

take_off : (t y u m n : Bool) → t ≡ false → ((t || y) || m) ≡ n → ((false || y) || m) ≡ n
take_off t y u m n a h = grind arith

-- a line that drops stays masked and started only if it was so before, by an entry that is no take
dropping_before : (def : LineDef) (e : Entry) (past : List Entry) → IsValid def → is_take e ≡ false
    → is_edge_line def ≡ true → def.keeps ≡ false → is_masked def (e ∷ past) ≡ true → is_started (e ∷ past) ≡ true
    → (is_masked def past ≡ true) × (is_started past ≡ true) × (is_reopening e ≡ false) × (is_start e ≡ false)
dropping_before def e past valid no_take edge drops m s = by_start (is_start e) refl
  where
    by_start : (b : Bool) → is_start e ≡ b → (is_masked def past ≡ true) × (is_started past ≡ true) × (is_reopening e ≡ false) × (is_start e ≡ false)
    by_start true is = both_ways (is_masked def (e ∷ past)) m (start_opens def e past is)
    by_start false is =
        let t = still_started (is_start e) (is_last_unlink e) (is_started past) s is in
        let n = sym (masked_more def e past) ∙ m in
        let o = take_off (take_masks def def.flow e past)
        ((def.unlazy && (is_disable e || is_kill e)) || is_last_unlink e) false
        (not (unmasks e) && is_masked def past) true (no_take_masks def def.flow e past no_take) n in
        let x = lazy_masks def.unlazy (is_disable e) (is_kill e) (is_last_unlink e) (is_start e) (is_reopening e)
        (is_masked def past) (dropping_lazy def valid edge drops) t.0 is o in
        (x.0, t.1, x.1, is)

dropped_more : (def : LineDef) (e : Entry) (past : List Entry) → IsValid def → IsDue def e past → KeepsDepth def past
    → EdgePendingHasFlow def past → DroppedIsPending def past → is_edge_line def ≡ true → def.keeps ≡ false
    → is_masked def (e ∷ past) ≡ true
    → is_started (e ∷ past) ≡ true → is_pending def (e ∷ past) ≡ true
dropped_more def (by.Cpu c (cpus.Take way takes.Handle)) past valid due kd kp k edge drops m s =
    let was : is_masked def past ≡ true = sym (take_masked def flows.Edge c way takes.Handle past (dropping_flow def def.flow valid edge drops refl)) ∙ m in
    let idle = handle_idle def past (take_due def c way takes.Handle past due).answer_is in
    let zero = zero_depth past (or_parts (is_disabled past) (is_none_linked past) idle.1).0 in
    both_ways (has_flow def past) (kp edge (k edge drops was s) zero) idle.0
dropped_more def (by.Cpu c (cpus.Take way takes.Busy)) past valid due kd kp k edge drops m s = ap (λ (b : Bool). (b && true) || is_pending def past) edge
dropped_more def (by.Cpu c (cpus.Take way takes.Off)) past valid due kd kp k edge drops m s = refl
dropped_more def (by.Cpu c (cpus.End again unmask note)) past valid due kd kp k edge drops m s =
    let b = dropping_before def (by.Cpu c (cpus.End again unmask note)) past valid refl edge drops m s in
    let u = end_due def c again unmask note past due in
    let flow = dropping_flow def def.flow valid edge drops refl in
    let a : again ≡ again_by def flows.Edge past (note_of def past) = u.again_is ∙ ap (λ (f : FlowKind). again_by def f past (note_of def past)) flow in
    let o : unmask ≡ unmask_by def flows.Edge past (note_of def past) = u.unmask_is ∙ ap (λ (f : FlowKind). unmask_by def f past (note_of def past)) flow in
    pending_stays def (by.Cpu c (cpus.End again unmask note)) past refl refl
    (not_again again unmask (is_masked def past) b.0 b.2 (o ∙ ap (λ (x : Bool). x && is_masked def past) (sym a)))
    refl (k edge drops b.0 b.1)
  where
    not_again : (a u m : Bool) → m ≡ true → u ≡ false → u ≡ (a && m) → a ≡ false
    not_again a u m x y z = grind arith
dropped_more def e past valid due kd kp k edge drops m s =
    let b = dropping_before def e past valid refl edge drops m s in
    pending_stays def e past refl refl refl b.3 (k edge drops b.0 b.1)

pub edges_more : (def : LineDef) (e : Entry) (past : List Entry) → IsValid def → IsDue def e past → KeepsDepth def past
    → KeepsEdges def past → KeepsEdges def (e ∷ past)
edges_more def e past valid due kd k =
    record {
      edge_flow = edge_more def e past valid due kd k.edge_flow;
      eoi_edge = eoi_more def e past due kd k.eoi_edge;
      pending = pending_more def e past valid due kd k.pending;
      dropped = dropped_more def e past valid due kd k.pending k.dropped;
    }

pub no_edges : (def : LineDef) → KeepsEdges def []
no_edges def =
    record {
      edge_flow = λ edge m zero. absurd (omega (arith, zero));
      eoi_edge = λ edge eoi zero. absurd (omega (arith, zero));
      pending = λ edge p zero. cc;
      dropped = λ edge drops m s. cc;
    }
