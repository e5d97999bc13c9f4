-- Each entry drives the cell to the marks that are read off the past.
use Rattle.std.proofs.Common.{◌≡◌, ℕ, Bool, true, false, not, ◌||◌, ◌&&◌, cond, is_some, Option, Some, None, List, []}
use Rattle.std.proofs.Common.{◌∷◌, nat_lt, reverse, refl, sym, ap, ◌∙◌, arith}
use Rattle.std.proofs.lemmas.Bool.{and_parts, and_from, and_right, or_parts, false_from_ne_true}
use Rattle.std.specs.List.{list_any}
use Rattle.irq_base.specs.declared.numbers.CpuNo.{CpuNo}
use Rattle.irq_base.specs.declared.numbers.DevNo.{DevNo}
use Rattle.irq_base.specs.declared.devices.DeviceDef.{DeviceDef}
use Rattle.irq_base.specs.declared.devices.Part.{Part}
use Rattle.irq_base.specs.declared.devices.Part.TheVariants as parts
use Rattle.irq_base.specs.declared.lines.FlowKind.{FlowKind}
use Rattle.irq_base.specs.declared.lines.FlowKind.TheVariants as flows
use Rattle.irq_base.specs.declared.lines.LineDef.{LineDef}
use Rattle.irq_base.specs.declared.entries.Actor.{Actor}
use Rattle.irq_base.specs.declared.entries.Actor.TheVariants as actors
use Rattle.irq_base.specs.declared.entries.Entry.{Entry}
use Rattle.irq_base.specs.declared.entries.Entry.TheVariants as by
use Rattle.irq_base.specs.declared.entries.CpuEntry.TheVariants as cpus
use Rattle.irq_base.specs.declared.entries.ThreadEntry.TheVariants as threads
use Rattle.irq_base.specs.declared.entries.DriverEntry.TheVariants as drivers
use Rattle.irq_base.specs.declared.entries.CallEntry.{CallEntry}
use Rattle.irq_base.specs.declared.entries.CallEntry.TheVariants as called
use Rattle.irq_base.specs.declared.entries.Way.{Way}
use Rattle.irq_base.specs.declared.entries.Way.TheVariants as ways
use Rattle.irq_base.specs.declared.entries.TakeAnswer.{TakeAnswer}
use Rattle.irq_base.specs.declared.entries.TakeAnswer.TheVariants as takes
use Rattle.irq_base.specs.declared.entries.Note.{Note}
use Rattle.irq_base.specs.declared.entries.Resend.TheVariants as resends
use Rattle.irq_base.specs.declared.entries.Opened.{Opened}
use Rattle.irq_base.specs.declared.entries.Opened.TheVariants as opens
use Rattle.irq_base.specs.Cell.{Cell, after_edge, after_high, after_mask, after_unmask, after_ack, after_eoi, after_retrigger, signals as presents}
use Rattle.irq_model.specs.Kinds.{is_device_edge, is_take, is_handle, is_again, is_leave, is_disable, is_kill}
use Rattle.irq_model.specs.Kinds.{is_last_unlink, is_start, is_reopening, is_chip_start, is_chip_opened, opened_of}
use Rattle.irq_model.specs.Kinds.{is_started_opened, made_by, arms_with_edge, disables, unlinks_last, opened_by_call, opened_by_enable}
use Rattle.irq_model.specs.Lines.{is_edge_line, is_level_line, is_level_flow, is_eoi_flow, serves}
use Rattle.irq_model.specs.Links.{is_oneshot, is_disabled}
use Rattle.irq_model.specs.Asks.{left_by_runs, serving, unserved_asks, is_quiet, is_high}
use Rattle.irq_model.specs.Masks.{take_masks, is_masked}
use Rattle.irq_model.specs.Rounds.{flow, has_flow}
use Rattle.irq_model.specs.Waiting.{is_pending, is_soft}
use Rattle.irq_model.specs.Edges.{is_edge, is_sent, is_stored}
use Rattle.irq_model.specs.Spurious.{note_of}
use Rattle.irq_model.specs.Next.{is_off_now}
use Rattle.irq_model.specs.Legal.{IsDue, IsLegal, IsLegalPast}
use Rattle.irq_model.specs.Valid.{IsValid}
use Rattle.irq_model.proofs.RoundSteps.{flow_quiet}
use Rattle.irq_model.proofs.MaskSteps.{masked_more, no_take_masks, masked_by_opening}
use Rattle.irq_laws.specs.Kept.{KeepsEdges, Kept}
use Rattle.irq_laws.specs.Driven.{cell_with, cell_of, accepted, taken_on_eoi_edge, taken_on_eoi_level, taken, masked_if}
use Rattle.irq_laws.specs.Driven.{unmasked_if, retriggered_if, ended, asked, served, levelled, called_on, driven, cell_after, IsDrivenCell}
use Rattle.irq_laws.proofs.Lists.{both_ways}
use Rattle.irq_laws.proofs.Masking.{take_masked, IsPlain, flow_same, zero_depth}
use Rattle.irq_laws.proofs.KeptAlways.{kept}
use Rattle.irq_laws.proofs.ImpliesFlow.{again_by, unmask_by, take_due, end_due}
use Rattle.irq_laws.proofs.Starts.{chip_resend, soft_has_edges}
use Rattle.irq_laws.proofs.LevelSteps.{moves_level, moves_by_call, high_quiet, high_return, high_thread_return}
use Rattle.irq_laws.proofs.CellSteps.{mask_is, accept_is, ack_is, eoi_is, same_rest, level_sent, marks, mask_to}
use Rattle.irq_laws.proofs.CellSteps.{unmask_to, leaves, resend_to, again_to, edge_to, take_to}

-- ---- the level

edge_high : (def : LineDef) (past : List Entry) → is_edge_line def ≡ true → is_high def past ≡ false
edge_high def past edge = ap (λ (b : Bool). not b && list_any
    (λ (x : DeviceDef). not (is_quiet past x.dev) && nat_lt 0 (unserved_asks def x.dev past)) def.devices) edge

-- ---- an entry that is neither a take, nor an end, nor moves the level

-- what is in service stays so
in_service_same : (def : LineDef) (e : Entry) (past : List Entry) → IsPlain e → (serves def && has_flow def past) ≡ (serves def && has_flow def (e ∷ past))
in_service_same def e past p = ap (λ (b : Bool). serves def && b) (sym (flow_same def e past p))

rest_same : (def : LineDef) (e : Entry) (past : List Entry) → IsPlain e → moves_level e ≡ false
    → marks def (e ∷ past) (is_high def past) (serves def && has_flow def past) ≡ cell_of def (e ∷ past)
rest_same def e past p still = same_rest def _ _ _ _ _ _ _ (sym (high_quiet def e past still)) (in_service_same def e past p)

no_edge : (E f : Bool) → (E && (false || (false || (f && false)))) ≡ false
no_edge E f = grind arith

-- an entry that leaves the mask
quiet : (def : LineDef) (e : Entry) (past : List Entry) → IsPlain e → moves_level e ≡ false → is_edge def e ≡ false
    → is_masked def (e ∷ past) ≡ is_masked def past → cell_of def past ≡ cell_of def (e ∷ past)
quiet def e past p still edgeless same =
    leaves def e past (is_high def past) (serves def && has_flow def past) p.no_take edgeless same ∙ rest_same def e past p still

masking : (def : LineDef) (e : Entry) (past : List Entry) → IsPlain e → moves_level e ≡ false → is_edge def e ≡ false
    → is_masked def (e ∷ past) ≡ true → after_mask (cell_of def past) ≡ cell_of def (e ∷ past)
masking def e past p still edgeless n =
    mask_to def e past (is_high def past) (serves def && has_flow def past) p.no_take edgeless n ∙ rest_same def e past p still

opening : (def : LineDef) (e : Entry) (past : List Entry) → IsPlain e → moves_level e ≡ false → is_edge def e ≡ false
    → is_masked def (e ∷ past) ≡ false → after_unmask (cell_of def past) ≡ cell_of def (e ∷ past)
opening def e past p still edgeless n =
    unmask_to def e past (is_high def past) (serves def && has_flow def past) p.no_take edgeless n ∙ rest_same def e past p still

-- ---- a device asks, or a run of it returned

asks : (def : LineDef) (e : Entry) (past : List Entry) (makes : Bool) → IsPlain e → is_edge def e ≡ (is_edge_line def && makes)
    → is_masked def (e ∷ past) ≡ is_masked def past → asked def makes (e ∷ past) (cell_of def past) ≡ cell_of def (e ∷ past)
asks def e past makes p comes same = by_line (is_edge_line def) makes refl refl
  where
    off : (E m : Bool) → E ≡ false → (E && m) ≡ false
    off E m h = grind arith

    by_line : (b m : Bool) → is_edge_line def ≡ b → makes ≡ m → cond b (cond m (after_edge (cell_of def past)) (cell_of def past))
        (after_high (is_high def (e ∷ past)) (cell_of def past)) ≡ cell_of def (e ∷ past)
    by_line true true edge is =
        edge_to def e past (is_high def past) (serves def && has_flow def past) p.no_take (comes ∙ and_from _ _ edge is) same
        ∙ same_rest def _ _ _ _ _ _ _ (edge_high def past edge ∙ sym (edge_high def (e ∷ past) edge)) (in_service_same def e past p)
    by_line true false edge is =
        leaves def e past (is_high def past) (serves def && has_flow def past) p.no_take (comes ∙ and_right (is_edge_line def) makes is) same
        ∙ same_rest def _ _ _ _ _ _ _ (edge_high def past edge ∙ sym (edge_high def (e ∷ past) edge)) (in_service_same def e past p)
    by_line false m level is =
        leaves def e past (is_high def (e ∷ past)) (serves def && has_flow def past) p.no_take (comes ∙ off (is_edge_line def) makes level) same
        ∙ same_rest def _ _ _ _ _ _ _ refl (in_service_same def e past p)

an_edge : (E m f : Bool) → (E && (m || (false || (f && false)))) ≡ (E && m)
an_edge E m f = grind arith

-- a run that served sets the level anew; one that served nothing leaves it
returns : (def : LineDef) (e : Entry) (past : List Entry) (count : ℕ) → IsPlain e → is_edge def e ≡ false
    → is_masked def (e ∷ past) ≡ is_masked def past → (nat_lt 0 count ≡ false
    → is_high def (e ∷ past) ≡ is_high def past)
    → served def count (e ∷ past) (cell_of def past) ≡ cell_of def (e ∷ past)
returns def e past count p edgeless same idle = by_test (is_level_line def) (nat_lt 0 count) refl refl
  where
    stays : is_high def past ≡ is_high def (e ∷ past) → cell_of def past ≡ cell_of def (e ∷ past)
    stays high =
        leaves def e past (is_high def past) (serves def && has_flow def past) p.no_take edgeless same
        ∙ same_rest def _ _ _ _ _ _ _ high (in_service_same def e past p)

    off : (l x : Bool) → l ≡ false → (l && x) ≡ false
    off l x h = grind arith

    by_test : (l s : Bool) → is_level_line def ≡ l → nat_lt 0 count ≡ s
        → cond (l && s) (after_high (is_high def (e ∷ past)) (cell_of def past)) (cell_of def past)
        ≡ cell_of def (e ∷ past)
    by_test true true level some =
        leaves def e past (is_high def (e ∷ past)) (serves def && has_flow def past) p.no_take edgeless same
        ∙ same_rest def _ _ _ _ _ _ _ refl (in_service_same def e past p)
    by_test true false level none = stays (sym (idle none))
    by_test false s edge served = stays (off _ _ edge ∙ sym (off _ _ edge))

-- ---- disables and unlinks

plain : (e : Entry) → is_take e ≡ false → is_handle e ≡ false → is_leave e ≡ false → is_again e ≡ false → IsPlain e
plain e a b c d = record { no_take = a; no_handle = b; no_leave = c; no_again = d }

masks_if : (def : LineDef) (e : Entry) (past : List Entry) (b : Bool) → IsPlain e → moves_level e ≡ false
    → is_edge def e ≡ false → is_masked def (e ∷ past) ≡ (b || is_masked def past)
    → masked_if b (cell_of def past) ≡ cell_of def (e ∷ past)
masks_if def e past true p still edgeless n = masking def e past p still edgeless n
masks_if def e past false p still edgeless n = quiet def e past p still edgeless n

-- ---- starts

by_start : (def : LineDef) (e : Entry) (past : List Entry) (o : Opened) → IsDue def e past → opened_of e ≡ o → IsPlain e
    → moves_level e ≡ false → is_device_edge e ≡ false → is_reopening e ≡ false → (is_disable e || is_kill e) ≡ false
    → is_last_unlink e ≡ false
    → retriggered_if (is_chip_opened o) (unmasked_if (is_started_opened o) (cell_of def past)) ≡ cell_of def (e ∷ past)
by_start def e past o due is p still no_ask no_reopening no_deepening no_last = by_opened o is
  where
    masked_now : is_masked def (e ∷ past) ≡ (not (is_start e || is_reopening e) && is_masked def past)
    masked_now = masked_by_opening def e past p.no_take no_deepening no_last

    shut : (s r m : Bool) → s ≡ false → r ≡ false → (not (s || r) && m) ≡ m
    shut s r m a b = grind arith

    started : (s r m : Bool) → s ≡ true → (not (s || r) && m) ≡ false
    started s r m a = grind arith

    no_edge_by : (E a c f g : Bool) → a ≡ false → c ≡ false → g ≡ false → (E && (a || (c || (f && g)))) ≡ false
    no_edge_by E a c f g x y z = grind arith

    an_edge_by : (E a c x : Bool) → E ≡ true → c ≡ true → (E && (a || (c || x))) ≡ true
    an_edge_by E a c x y z = grind arith

    edgeless : is_chip_opened (opened_of e) ≡ false → is_edge def e ≡ false
    edgeless c = no_edge_by (is_edge_line def) (is_device_edge e) (is_chip_start e) (is_eoi_flow def.flow) (is_again e) no_ask c p.no_again

    unstarted : is_started_opened (opened_of e) ≡ false → is_masked def (e ∷ past) ≡ is_masked def past
    unstarted s = masked_now ∙ shut (is_start e) (is_reopening e) (is_masked def past) s no_reopening

    opened : is_started_opened (opened_of e) ≡ true → is_masked def (e ∷ past) ≡ false
    opened s = masked_now ∙ started (is_start e) (is_reopening e) (is_masked def past) s

    by_opened : (o : Opened) → opened_of e ≡ o → retriggered_if (is_chip_opened o)
        (unmasked_if (is_started_opened o) (cell_of def past)) ≡ cell_of def (e ∷ past)
    by_opened opens.No is = quiet def e past p still (edgeless (ap is_chip_opened is)) (unstarted (ap is_started_opened is))
    by_opened opens.Unbalanced is = quiet def e past p still (edgeless (ap is_chip_opened is)) (unstarted (ap is_started_opened is))
    by_opened opens.Lowered is = quiet def e past p still (edgeless (ap is_chip_opened is)) (unstarted (ap is_started_opened is))
    by_opened (opens.Started resends.No) is = opening def e past p still (edgeless (ap is_chip_opened is)) (opened (ap is_started_opened is))
    by_opened (opens.Started resends.Soft) is = opening def e past p still (edgeless (ap is_chip_opened is)) (opened (ap is_started_opened is))
    by_opened (opens.Started resends.Chip) is =
        let c = chip_resend def e past due is in
        resend_to def e past (is_high def past) (serves def && has_flow def past) c.0 c.1
        (an_edge_by (is_edge_line def) (is_device_edge e) (is_chip_start e) _ c.0 (ap is_chip_opened is))
        (opened (ap is_started_opened is))
        ∙ rest_same def e past p still

-- ---- takes

-- no interrupt is in service when one is taken
none_in_service : (def : LineDef) (c : CpuNo) (way : Way) (answer : TakeAnswer) (past : List Entry)
    → IsDue def (by.Cpu c (cpus.Take way answer)) past → (is_soft past ≡ true → is_edge_line def ≡ true)
    → (serves def && has_flow def past) ≡ false
none_in_service def c ways.Line answer past due soft =
    by_signal (is_edge_line def) (is_eoi_flow def.flow) (has_flow def past) (is_sent def past) (is_high def past)
    (is_masked def past) ((take_due def c ways.Line answer past due).by_line refl)
  where
    by_signal : (E o f s h m : Bool) → cond E s (h && (not m && not ((not E && o) && f))) ≡ true → ((not E && o) && f) ≡ false
    by_signal true o f s h m is = refl
    by_signal false o f s h m is = grind arith
none_in_service def c ways.Resend answer past due soft =
    on_edge (is_edge_line def) (is_eoi_flow def.flow) (has_flow def past) (soft ((take_due def c ways.Resend answer past due).by_resend refl).1)
  where
    on_edge : (E o f : Bool) → E ≡ true → ((not E && o) && f) ≡ false
    on_edge E o f is = grind arith

edge_serves : (def : LineDef) → is_edge_line def ≡ true → serves def ≡ false
edge_serves def edge = ap (λ (b : Bool). not b && is_eoi_flow def.flow) edge

-- what is accepted is in service
accepted_is : (def : LineDef) (c : CpuNo) (way : Way) (answer : TakeAnswer) (past : List Entry)
    → IsDue def (by.Cpu c (cpus.Take way answer)) past → (is_soft past ≡ true → is_edge_line def ≡ true)
    → accepted way (cell_of def past) ≡ marks def past (is_high def past) (serves def)
accepted_is def c ways.Line answer past due soft =
    accept_is def (is_masked def past) (is_stored def past) (is_sent def past) (is_high def past) (serves def && has_flow def past)
    ∙ same_rest def _ _ _ _ _ _ _ refl (by_line (is_edge_line def) (is_eoi_flow def.flow) (has_flow def past)
    (none_in_service def c ways.Line answer past due soft))
  where
    by_line : (E o f : Bool) → ((not E && o) && f) ≡ false → cond E ((not E && o) && f) (((not E && o) && f) || (not E && o)) ≡ (not E && o)
    by_line E o f h = grind arith
accepted_is def c ways.Resend answer past due soft =
    same_rest def _ _ _ _ _ _ _ refl (none_in_service def c ways.Resend answer past due soft
    ∙ sym (edge_serves def (soft ((take_due def c ways.Resend answer past due).by_resend refl).1)))

-- a take leaves the cell with nothing sent, what it stored, masked if the flow says so, and in
-- service or not
after_take : (def : LineDef) (c : CpuNo) (way : Way) (answer : TakeAnswer) (past : List Entry) (n j : Bool)
    → is_masked def (by.Cpu c (cpus.Take way answer) ∷ past) ≡ n → (n ≡ false → is_masked def past ≡ false)
    → j ≡ (serves def && has_flow def (by.Cpu c (cpus.Take way answer) ∷ past))
    → cell_with def n (is_stored def past) false (is_high def past) j
    ≡ cell_of def (by.Cpu c (cpus.Take way answer) ∷ past)
after_take def c way answer past n j is opens flow =
    take_to def (by.Cpu c (cpus.Take way answer)) past (is_high def past) j n refl
    (no_edge (is_edge_line def) (is_eoi_flow def.flow)) (λ off. opens (sym is ∙ off)) (sym is)
    ∙ same_rest def _ _ _ _ _ _ _ (sym (high_quiet def (by.Cpu c (cpus.Take way answer)) past refl)) flow

acked_sent : (E s : Bool) → (E ≡ false → s ≡ false) → cond E false s ≡ false
acked_sent E s h = grind arith

-- acknowledged, or acknowledged and masked, in either order
acked : (def : LineDef) (past : List Entry) (h i : Bool) → after_ack (marks def past h i) ≡ cell_with def (is_masked def past) (is_stored def past) false h i
acked def past h i =
    ack_is def (is_masked def past) (is_stored def past) (is_sent def past) h i
    ∙ ap (λ (x : Bool). cell_with def (is_masked def past) (is_stored def past) x h i) (acked_sent (is_edge_line def) (is_sent def past) (level_sent def past))

none_recalled : (E r : Bool) → (E && (r && false)) ≡ false
none_recalled E r = grind arith

mask_unsent : (def : LineDef) (m w h i : Bool) → after_mask (cell_with def m w false h i) ≡ cell_with def true w false h i
mask_unsent def m w h i = mask_is def m w false h i ∙ ap
    (λ (b : Bool). cell_with def true (cond b true w) (cond b false false) h i)
    (none_recalled (is_edge_line def) def.recalls)

acked_masked : (def : LineDef) (past : List Entry) (h i : Bool)
    → after_mask (after_ack (marks def past h i)) ≡ cell_with def true (is_stored def past) false h i
acked_masked def past h i = ap after_mask (acked def past h i) ∙ mask_unsent def (is_masked def past) (is_stored def past) h i

-- on a level line nothing is sent
unsent : (def : LineDef) (past : List Entry) (h i : Bool) → is_edge_line def ≡ false
    → marks def past h i ≡ cell_with def (is_masked def past) (is_stored def past) false h i
unsent def past h i level = ap (λ (x : Bool). cell_with def (is_masked def past) (is_stored def past) x h i) (level_sent def past level)

level_masked : (def : LineDef) (past : List Entry) (h i : Bool) → is_edge_line def ≡ false
    → after_mask (marks def past h i) ≡ cell_with def true (is_stored def past) false h i
level_masked def past h i level = ap after_mask (unsent def past h i level) ∙ mask_unsent def (is_masked def past) (is_stored def past) h i

ack_unsent : (def : LineDef) (m w h i : Bool) → is_edge_line def ≡ false → after_ack (cell_with def m w false h i) ≡ cell_with def m w false h i
ack_unsent def m w h i level = ack_is def m w false h i ∙ ap (λ (b : Bool). cell_with def m w (cond b false false) h i) level

-- the end of interrupt, when what is in service is what the line serves
eoi_served : (def : LineDef) (m w s h : Bool) → after_eoi (cell_with def m w s h (serves def)) ≡ cell_with def m w s h false
eoi_served def m w s h = eoi_is def m w s h (serves def) ∙ ap (λ (x : Bool). cell_with def m w s h x) (by_line (is_edge_line def) (is_eoi_flow def.flow))
  where
    by_line : (E o : Bool) → cond E (not E && o) false ≡ false
    by_line E o = grind arith

-- who is served after a take
no_service : (def : LineDef) (f : FlowKind) → def.flow ≡ f → is_eoi_flow f ≡ false → serves def ≡ false
no_service def f is other = by_flow (is_level_line def) (is_eoi_flow def.flow) (ap is_eoi_flow is ∙ other)
  where
    by_flow : (l o : Bool) → o ≡ false → (l && o) ≡ false
    by_flow l o h = grind arith

handled_serves : (def : LineDef) (c : CpuNo) (way : Way) (past : List Entry)
    → serves def ≡ (serves def && has_flow def (by.Cpu c (cpus.Take way takes.Handle) ∷ past))
handled_serves def c way past = with_flow (serves def)
  where
    with_flow : (v : Bool) → v ≡ (v && true)
    with_flow true = refl
    with_flow false = refl

never_serves : (def : LineDef) (x : Bool) → serves def ≡ false → serves def ≡ (serves def && x)
never_serves def x none = off (serves def) x none
  where
    off : (v x : Bool) → v ≡ false → v ≡ (v && x)
    off v x h = grind arith

-- a take that isn't handled leaves the flow as it was, and nothing in service
unhandled_serves : (def : LineDef) (c : CpuNo) (way : Way) (answer : TakeAnswer) (past : List Entry)
    → is_handle (by.Cpu c (cpus.Take way answer)) ≡ false → IsDue def (by.Cpu c (cpus.Take way answer)) past
    → (is_soft past ≡ true → is_edge_line def ≡ true)
    → false ≡ (serves def && has_flow def (by.Cpu c (cpus.Take way answer) ∷ past))
unhandled_serves def c way answer past unhandled due soft =
    sym (ap (λ (b : Bool). serves def && b) (ap is_some
    (flow_quiet def (by.Cpu c (cpus.Take way answer)) past unhandled refl refl))
    ∙ none_in_service def c way answer past due soft)

take_by : (def : LineDef) (f : FlowKind) (c : CpuNo) (way : Way) (answer : TakeAnswer) (past : List Entry) → IsValid def
    → IsDue def (by.Cpu c (cpus.Take way answer)) past → (is_soft past ≡ true → is_edge_line def ≡ true) → def.flow ≡ f
    → taken def f (is_oneshot past) answer (marks def past (is_high def past) (serves def)) ≡ cell_of def (by.Cpu c (cpus.Take way answer) ∷ past)
take_by def flows.Level c way answer past valid due soft is =
    let level = level_edge (is_edge_line def) (valid.level_flow (ap is_level_flow is)) in
    ap after_ack (level_masked def past (is_high def past) (serves def) level) ∙ ack_unsent def true (is_stored def past) (is_high def past) (serves def) level
    ∙ after_take def c way answer past true (serves def) (take_masked def flows.Level c way answer past is) (λ n. cc)
    (never_serves def _ (no_service def flows.Level is refl))
  where
    level_edge : (E : Bool) → not E ≡ true → E ≡ false
    level_edge true h = cc
    level_edge false h = refl
take_by def flows.Edge c way takes.Handle past valid due soft is =
    acked def past (is_high def past) (serves def)
    ∙ after_take def c way takes.Handle past (is_masked def past) (serves def)
    (take_masked def flows.Edge c way takes.Handle past is) (λ n. n)
    (never_serves def _ (no_service def flows.Edge is refl))
take_by def flows.Edge c way takes.Busy past valid due soft is =
    acked_masked def past (is_high def past) (serves def)
    ∙ after_take def c way takes.Busy past true (serves def) (take_masked def flows.Edge c way takes.Busy past is)
    (λ n. cc) (never_serves def _ (no_service def flows.Edge is refl))
take_by def flows.Edge c way takes.Off past valid due soft is =
    acked_masked def past (is_high def past) (serves def)
    ∙ after_take def c way takes.Off past true (serves def) (take_masked def flows.Edge c way takes.Off past is)
    (λ n. cc) (never_serves def _ (no_service def flows.Edge is refl))
take_by def flows.Eoi c way takes.Handle past valid due soft is = by_line (is_edge_line def) refl
  where
    by_oneshot : (b : Bool) → is_oneshot past ≡ b → is_edge_line def ≡ false
        → cond b (after_mask (marks def past (is_high def past) (serves def)))
        (marks def past (is_high def past) (serves def)) ≡ cell_of def (by.Cpu c (cpus.Take way takes.Handle) ∷ past)
    by_oneshot true one level =
        level_masked def past (is_high def past) (serves def) level
        ∙ after_take def c way takes.Handle past true (serves def)
        (take_masked def flows.Eoi c way takes.Handle past is
        ∙ masks_it (is_edge_line def) (is_oneshot past) (is_masked def past) level one) (λ n. cc)
        (handled_serves def c way past)
      where
        masks_it : (E o m : Bool) → E ≡ false → o ≡ true → ((false || (true && (not E && o))) || m) ≡ true
        masks_it E o m a b = grind arith
    by_oneshot false one level =
        unsent def past (is_high def past) (serves def) level
        ∙ after_take def c way takes.Handle past (is_masked def past) (serves def)
        (take_masked def flows.Eoi c way takes.Handle past is
        ∙ masks_not (is_edge_line def) (is_oneshot past) (is_masked def past) one) (λ n. n)
        (handled_serves def c way past)
      where
        masks_not : (E o m : Bool) → o ≡ false → ((false || (true && (not E && o))) || m) ≡ m
        masks_not E o m b = grind arith

    by_line : (b : Bool) → is_edge_line def ≡ b → cond b
        (taken_on_eoi_edge takes.Handle (marks def past (is_high def past) (serves def)))
        (taken_on_eoi_level (is_oneshot past) takes.Handle (marks def past (is_high def past) (serves def)))
        ≡ cell_of def (by.Cpu c (cpus.Take way takes.Handle) ∷ past)
    by_line true edge =
        acked def past (is_high def past) (serves def)
        ∙ after_take def c way takes.Handle past (is_masked def past) (serves def)
        (take_masked def flows.Eoi c way takes.Handle past is
        ∙ masks_not (is_edge_line def) (is_oneshot past) (is_masked def past) edge) (λ n. n)
        (handled_serves def c way past)
      where
        masks_not : (E o m : Bool) → E ≡ true → ((false || (true && (not E && o))) || m) ≡ m
        masks_not E o m b = grind arith
    by_line false level = by_oneshot (is_oneshot past) refl level
take_by def flows.Eoi c way takes.Busy past valid due soft is = by_line (is_edge_line def) refl
  where
    last : cell_with def (is_masked def past) (is_stored def past) false (is_high def past) false ≡ cell_of def (by.Cpu c (cpus.Take way takes.Busy) ∷ past)
    last = after_take def c way takes.Busy past (is_masked def past) false
        (take_masked def flows.Eoi c way takes.Busy past is) (λ n. n)
        (unhandled_serves def c way takes.Busy past refl due soft)

    by_line : (b : Bool) → is_edge_line def ≡ b → cond b
        (taken_on_eoi_edge takes.Busy (marks def past (is_high def past) (serves def)))
        (taken_on_eoi_level (is_oneshot past) takes.Busy (marks def past (is_high def past) (serves def)))
        ≡ cell_of def (by.Cpu c (cpus.Take way takes.Busy) ∷ past)
    by_line true edge = ap after_eoi (acked def past (is_high def past) (serves def))
        ∙ eoi_served def (is_masked def past) (is_stored def past) false (is_high def past) ∙ last
    by_line false level = ap after_eoi (unsent def past (is_high def past) (serves def) level)
        ∙ eoi_served def (is_masked def past) (is_stored def past) false (is_high def past) ∙ last
take_by def flows.Eoi c way takes.Off past valid due soft is = by_line (is_edge_line def) refl
  where
    last : cell_with def true (is_stored def past) false (is_high def past) false ≡ cell_of def (by.Cpu c (cpus.Take way takes.Off) ∷ past)
    last = after_take def c way takes.Off past true false (take_masked def flows.Eoi c way takes.Off past is) (λ n. cc)
        (unhandled_serves def c way takes.Off past refl due soft)

    by_line : (b : Bool) → is_edge_line def ≡ b → cond b
        (taken_on_eoi_edge takes.Off (marks def past (is_high def past) (serves def)))
        (taken_on_eoi_level (is_oneshot past) takes.Off (marks def past (is_high def past) (serves def)))
        ≡ cell_of def (by.Cpu c (cpus.Take way takes.Off) ∷ past)
    by_line true edge = ap after_eoi (acked_masked def past (is_high def past) (serves def))
        ∙ eoi_served def true (is_stored def past) false (is_high def past) ∙ last
    by_line false level = ap after_eoi (level_masked def past (is_high def past) (serves def) level)
        ∙ eoi_served def true (is_stored def past) false (is_high def past) ∙ last

-- ---- ends

-- a line that is off now neither goes on nor opens
off_stops : (def : LineDef) (f : FlowKind) (past : List Entry) (note : Note) → is_off_now past note ≡ true
    → (again_by def f past note ≡ false) × (unmask_by def f past note ≡ false)
off_stops def flows.Edge past note off = (
  stops (is_pending def past) (is_off_now past note) off,
  closed
      (is_pending def past) (is_off_now past note) (is_masked def past) off,
)
  where
    stops : (p o : Bool) → o ≡ true → (p && not o) ≡ false
    stops p o h = grind arith

    closed : (p o m : Bool) → o ≡ true → ((p && not o) && m) ≡ false
    closed p o m h = grind arith
off_stops def flows.Level past note off = (refl, closed (is_off_now past note) _ off)
  where
    closed : (o m : Bool) → o ≡ true → (not o && m) ≡ false
    closed o m h = grind arith
off_stops def flows.Eoi past note off = (
  stops (is_edge_line def) (is_pending def past) (is_off_now past note) off,
  closed (is_edge_line def) (is_off_now past note) (is_oneshot past) _ off,
)
  where
    stops : (E p o : Bool) → o ≡ true → (E && (p && not o)) ≡ false
    stops E p o h = grind arith

    closed : (E o s m : Bool) → o ≡ true → (not E && ((not o && s) && m)) ≡ false
    closed E o s m h = grind arith

-- an end that kills neither goes on nor opens
kill_stops : (def : LineDef) (c : CpuNo) (again unmask : Bool) (note : Note) (past : List Entry)
    → IsDue def (by.Cpu c (cpus.End again unmask note)) past → is_kill (by.Cpu c (cpus.End again unmask note)) ≡ true
    → (again ≡ false) × (unmask ≡ false)
kill_stops def c again unmask note past due kill =
    let u = end_due def c again unmask note past due in
    let off : is_off_now past (note_of def past) ≡ true = ap (λ (x : Note). is_off_now past x) (sym u.note_is)
    ∙ or_kill (is_disabled past) (is_kill (by.Cpu c (cpus.End again unmask note))) kill in
    let s = off_stops def def.flow past (note_of def past) off in
    (u.again_is ∙ s.0, u.unmask_is ∙ s.1)
  where
    or_kill : (d k : Bool) → k ≡ true → (d || k) ≡ true
    or_kill d k h = grind arith

end_masked : (def : LineDef) (c : CpuNo) (again unmask : Bool) (note : Note) (past : List Entry)
    → is_masked def (by.Cpu c (cpus.End again unmask note) ∷ past)
    ≡ ((def.unlazy && is_kill (by.Cpu c (cpus.End again unmask note))) || (not unmask && is_masked def past))
end_masked def c again unmask note past =
    masked_more def (by.Cpu c (cpus.End again unmask note)) past
    ∙ by_take (take_masks def def.flow (by.Cpu c (cpus.End again unmask note)) past) def.unlazy
    (is_kill (by.Cpu c (cpus.End again unmask note))) (not unmask && is_masked def past)
    (no_take_masks def def.flow (by.Cpu c (cpus.End again unmask note)) past refl)
  where
    by_take : (t y k r : Bool) → t ≡ false → ((t || ((y && (false || k)) || false)) || r) ≡ ((y && k) || r)
    by_take t y k r h = grind arith

eoi_after_mask : (def : LineDef) (m w s h i : Bool) → after_eoi (after_mask (cell_with def m w s h i))
    ≡ after_mask (cell_with def m w s h (cond (is_edge_line def) i false))
eoi_after_mask def m w s h i = ap after_eoi (mask_is def m w s h i) ∙ eoi_is def true _ _ h i ∙ sym (mask_is def m w s h (cond (is_edge_line def) i false))

eoi_first : (def : LineDef) (k m w s h i : Bool) → after_eoi (masked_if k (cell_with def m w s h i))
    ≡ masked_if k (cell_with def m w s h (cond (is_edge_line def) i false))
eoi_first def true m w s h i = eoi_after_mask def m w s h i
eoi_first def false m w s h i = eoi_is def m w s h i

-- the mask after an end that the chip doesn't send again
end_marks : (def : LineDef) (c : CpuNo) (again unmask : Bool) (note : Note) (past : List Entry) (h i : Bool)
    → IsDue def (by.Cpu c (cpus.End again unmask note)) past → is_edge def (by.Cpu c (cpus.End again unmask note)) ≡ false
    → unmasked_if unmask (masked_if (def.unlazy && is_kill (by.Cpu c (cpus.End again unmask note))) (marks def past h i))
    ≡ marks def (by.Cpu c (cpus.End again unmask note) ∷ past) h i
end_marks def c again unmask note past h i due edgeless = by_tests (def.unlazy && is_kill (by.Cpu c (cpus.End again unmask note))) unmask refl refl
  where
    by_tests : (k u : Bool) → (def.unlazy && is_kill (by.Cpu c (cpus.End again unmask note))) ≡ k → unmask ≡ u
        → unmasked_if u (masked_if k (marks def past h i)) ≡ marks def (by.Cpu c (cpus.End again unmask note) ∷ past) h i
    by_tests true true k u = both_ways unmask u (kill_stops def c again unmask note past due
        (and_parts def.unlazy (is_kill (by.Cpu c (cpus.End again unmask note))) k).1).1
    by_tests true false k u =
        mask_to def (by.Cpu c (cpus.End again unmask note)) past h i refl edgeless
        (end_masked def c again unmask note past ∙ ap (λ (b : Bool). b || (not unmask && is_masked def past)) k)
    by_tests false true k u =
        unmask_to def (by.Cpu c (cpus.End again unmask note)) past h i refl edgeless
        (end_masked def c again unmask note past ∙ opens _ unmask (is_masked def past) k u)
      where
        opens : (k u m : Bool) → k ≡ false → u ≡ true → (k || (not u && m)) ≡ false
        opens k u m a b = grind arith
    by_tests false false k u =
        leaves def (by.Cpu c (cpus.End again unmask note)) past h i refl edgeless
        (end_masked def c again unmask note past ∙ stays _ unmask (is_masked def past) k u)
      where
        stays : (k u m : Bool) → k ≡ false → u ≡ false → (k || (not u && m)) ≡ m
        stays k u m a b = grind arith

-- on the fast-EOI flow each end closes
closed_by : (def : LineDef) (c : CpuNo) (again unmask : Bool) (note : Note) (past : List Entry)
    → is_eoi_flow def.flow ≡ true → has_flow def (by.Cpu c (cpus.End again unmask note) ∷ past) ≡ false
closed_by def c false unmask note past eoi = refl
closed_by def c true unmask note past eoi = rw eoi refl

-- an end that the chip sends again leaves the line as open as it was
again_open : (def : LineDef) (c : CpuNo) (again unmask : Bool) (note : Note) (past : List Entry)
    → IsDue def (by.Cpu c (cpus.End again unmask note)) past → KeepsEdges def past → is_edge_line def ≡ true
    → is_eoi_flow def.flow ≡ true → again ≡ true
    → (is_masked def past ≡ false) × ((def.unlazy && is_kill (by.Cpu c (cpus.End again unmask note))) ≡ false) × (unmask ≡ false)
again_open def c again unmask note past due k edge eoi on =
    let u = end_due def c again unmask note past due in
    let on_now : is_off_now past (note_of def past) ≡ false
    = false_from_ne_true (is_off_now past (note_of def past))
    (λ off. both_ways again on (u.again_is ∙ (off_stops def def.flow past (note_of def past) off).0)) in
    let on_note : is_off_now past note ≡ false = ap (λ (x : Note). is_off_now past x) u.note_is ∙ on_now in
    let parts = or_parts (is_disabled past) (is_kill (by.Cpu c (cpus.End again unmask note))) on_note in (
      k.eoi_edge edge eoi (zero_depth past parts.0),
      unkilled def.unlazy (is_kill (by.Cpu c (cpus.End again unmask note)))
          parts.1,
      u.unmask_is ∙ never_opens def.flow eoi,
    )
  where
    unkilled : (y k : Bool) → k ≡ false → (y && k) ≡ false
    unkilled y k h = grind arith

    shut : (E x : Bool) → E ≡ true → (not E && x) ≡ false
    shut E x h = grind arith

    never_opens : (f : FlowKind) → is_eoi_flow f ≡ true → unmask_by def f past (note_of def past) ≡ false
    never_opens flows.Eoi h = shut (is_edge_line def) _ edge
    never_opens flows.Edge h = cc
    never_opens flows.Level h = cc

end_by : (def : LineDef) (f : FlowKind) (c : CpuNo) (again unmask : Bool) (note : Note) (past : List Entry)
    → IsValid def → IsDue def (by.Cpu c (cpus.End again unmask note)) past → KeepsEdges def past → def.flow ≡ f
    → ended def f again unmask (masked_if (def.unlazy && is_kill (by.Cpu c (cpus.End again unmask note))) (cell_of def past))
    ≡ cell_of def (by.Cpu c (cpus.End again unmask note) ∷ past)
end_by def flows.Eoi c again unmask note past valid due k is = by_again (is_edge_line def && again) refl
  where
    eoi : is_eoi_flow def.flow ≡ true
    eoi = ap is_eoi_flow is

    first : after_eoi (masked_if (def.unlazy && is_kill (by.Cpu c (cpus.End again unmask note))) (cell_of def past))
        ≡ masked_if (def.unlazy && is_kill (by.Cpu c (cpus.End again unmask note)))
        (marks def past (is_high def past) (cond (is_edge_line def) (serves def && has_flow def past) false))
    first = eoi_first def (def.unlazy && is_kill (by.Cpu c (cpus.End again unmask note))) (is_masked def past)
        (is_stored def past) (is_sent def past) (is_high def past) (serves def && has_flow def past)

    nothing : (E o f g : Bool) → g ≡ false → cond E ((not E && o) && f) false ≡ ((not E && o) && g)
    nothing E o f g h = grind arith

    last : marks def (by.Cpu c (cpus.End again unmask note) ∷ past) (is_high def past)
        (cond (is_edge_line def) (serves def && has_flow def past) false)
        ≡ cell_of def (by.Cpu c (cpus.End again unmask note) ∷ past)
    last = same_rest def _ _ _ _ _ _ _ (sym (high_quiet def (by.Cpu c (cpus.End again unmask note)) past refl))
        (nothing (is_edge_line def) (is_eoi_flow def.flow) (has_flow def past)
        (has_flow def (by.Cpu c (cpus.End again unmask note) ∷ past)) (closed_by def c again unmask note past eoi))

    edge_when : (E o a b : Bool) → o ≡ true → (E && a) ≡ b → (E && (false || (false || (o && a)))) ≡ b
    edge_when E o a b x y = grind arith

    by_again : (b : Bool) → (is_edge_line def && again) ≡ b
        → retriggered_if b (unmasked_if unmask (after_eoi
        (masked_if (def.unlazy && is_kill (by.Cpu c (cpus.End again unmask note))) (cell_of def past))))
        ≡ cell_of def (by.Cpu c (cpus.End again unmask note) ∷ past)
    by_again false no_more =
        ap (λ (x : Cell). unmasked_if unmask x) first
        ∙ end_marks def c again unmask note past (is_high def past) _ due (edge_when (is_edge_line def) (is_eoi_flow def.flow) again false eoi no_more)
        ∙ last
    by_again true more =
        let p = and_parts (is_edge_line def) again more in
        let o = again_open def c again unmask note past due k p.0 eoi p.1 in
        ap (λ (x : Cell). after_retrigger (unmasked_if unmask x)) first
        ∙ ap (λ (b : Bool). after_retrigger (unmasked_if unmask
        (masked_if b (marks def past (is_high def past)
        (cond (is_edge_line def) (serves def && has_flow def past) false))))) o.1
        ∙ ap (λ (b : Bool). after_retrigger (unmasked_if b
        (marks def past (is_high def past) (cond (is_edge_line def) (serves def && has_flow def past) false)))) o.2
        ∙ again_to def (by.Cpu c (cpus.End again unmask note)) past (is_high def past) _ p.0 (valid.eoi_retriggers p.0 eoi)
        (edge_when (is_edge_line def) (is_eoi_flow def.flow) again true eoi more)
        (end_masked def c again unmask note past ∙ still _ unmask (is_masked def past) o.1 o.2) o.0
        ∙ last
      where
        still : (k u m : Bool) → k ≡ false → u ≡ false → (k || (not u && m)) ≡ m
        still k u m a b = grind arith
end_by def f c again unmask note past valid due k is =
    end_marks def c again unmask note past (is_high def past) _ due (no_edge_off (is_edge_line def) (is_eoi_flow def.flow) again (ap is_eoi_flow is))
    ∙ same_rest def _ _ _ _ _ _ _ (sym (high_quiet def (by.Cpu c (cpus.End again unmask note)) past refl)) (nobody (serves def) _ _ (no_service def f is refl))
  where
    no_edge_off : (E o a : Bool) → o ≡ false → (E && (false || (false || (o && a)))) ≡ false
    no_edge_off E o a h = grind arith

    nobody : (v x y : Bool) → v ≡ false → (v && x) ≡ (v && y)
    nobody v x y h = grind arith

-- ---- every entry

asks_nothing : (def : LineDef) (e : Entry) (past : List Entry) → IsPlain e → moves_level e ≡ false
    → is_edge def e ≡ false → (is_disable e || is_kill e) ≡ false → is_last_unlink e ≡ false
    → (is_start e || is_reopening e) ≡ false → cell_of def past ≡ cell_of def (e ∷ past)
asks_nothing def e past p still edgeless no_deepening no_last no_open =
    quiet def e past p still edgeless (masked_by_opening def e past p.no_take no_deepening no_last ∙ ap (λ (b : Bool). not b && is_masked def past) no_open)

-- ---- steps of calls

-- the tests on an entry that are those on the step
record HasTestsOf (e : Entry) (call : CallEntry) : Type 0 where
  pub is_plain : IsPlain e
  pub comes : is_device_edge e ≡ arms_with_edge call
  pub moves : moves_level e ≡ moves_by_call call
  pub deepens : (is_disable e || is_kill e) ≡ disables call
  pub ends : is_last_unlink e ≡ unlinks_last call
  pub opened : opened_of e ≡ opened_by_call call
  pub no_reopening : is_reopening e ≡ false

call_tests : (a : Actor) (call : CallEntry) → HasTestsOf (made_by a call) call
call_tests (actors.Cpu c) call =
    record {
      is_plain = plain _ refl refl refl refl;
      comes = refl;
      moves = refl;
      deepens = no_kill (disables call);
      ends = refl;
      opened = refl;
      no_reopening = refl;
    }
  where
    no_kill : (d : Bool) → (d || false) ≡ d
    no_kill d = grind arith
call_tests (actors.Thread x) call =
    record {
      is_plain = plain _ refl refl refl refl;
      comes = refl;
      moves = refl;
      deepens = no_kill (disables call);
      ends = refl;
      opened = refl;
      no_reopening = refl;
    }
  where
    no_kill : (d : Bool) → (d || false) ≡ d
    no_kill d = grind arith
call_tests (actors.Driver r) call =
    record {
      is_plain = plain _ refl refl refl refl;
      comes = refl;
      moves = refl;
      deepens = no_kill (disables call);
      ends = refl;
      opened = refl;
      no_reopening = refl;
    }
  where
    no_kill : (d : Bool) → (d || false) ≡ d
    no_kill d = grind arith

module _ (def : LineDef) (call : CallEntry) (e : Entry) (past : List Entry) (t : HasTestsOf e call) where
  edge_by : is_chip_opened (opened_by_call call) ≡ false → is_edge def e ≡ (is_edge_line def && arms_with_edge call)
  edge_by c = by_tests (is_edge_line def) (is_device_edge e) (is_chip_start e) (is_eoi_flow def.flow) (is_again e) (arms_with_edge call)
      t.comes (ap is_chip_opened t.opened ∙ c) t.is_plain.no_again
    where
      by_tests : (E a c f g m : Bool) → a ≡ m → c ≡ false → g ≡ false → (E && (a || (c || (f && g)))) ≡ (E && m)
      by_tests E a c f g m x y z = grind arith

  edgeless_by : is_chip_opened (opened_by_call call) ≡ false → arms_with_edge call ≡ false → is_edge def e ≡ false
  edgeless_by c a = edge_by c ∙ and_right (is_edge_line def) (arms_with_edge call) a

  masked_by : is_started_opened (opened_by_call call) ≡ false
      → is_masked def (e ∷ past) ≡ (((def.unlazy && disables call) || unlinks_last call) || is_masked def past)
  masked_by s =
      masked_more def e past
      ∙ by_tests (take_masks def def.flow e past) def.unlazy (is_disable e || is_kill e) (is_last_unlink e) (is_start e) (is_reopening e) (is_masked def past)
      (disables call) (unlinks_last call) (no_take_masks def def.flow e past t.is_plain.no_take) t.deepens t.ends
      (ap is_started_opened t.opened ∙ s) t.no_reopening
    where
      by_tests : (t y d l s r m D L : Bool) → t ≡ false → d ≡ D → l ≡ L → s ≡ false → r ≡ false
          → ((t || ((y && d) || l)) || (not (s || r) && m)) ≡ (((y && D) || L) || m)
      by_tests t y d l s r m D L a b c e f = grind arith

  masked_as_before : is_started_opened (opened_by_call call) ≡ false → disables call ≡ false → unlinks_last call ≡ false
      → is_masked def (e ∷ past) ≡ is_masked def past
  masked_as_before s d l = masked_by s ∙ by_tests def.unlazy (disables call) (unlinks_last call) (is_masked def past) d l
    where
      by_tests : (y d l m : Bool) → d ≡ false → l ≡ false → (((y && d) || l) || m) ≡ m
      by_tests y d l m a b = grind arith

-- a device's own interrupt is turned off, or it is served by a call
levels : (def : LineDef) (e : Entry) (past : List Entry) → IsPlain e → is_edge def e ≡ false → is_masked def (e ∷ past) ≡ is_masked def past
    → levelled def (e ∷ past) (cell_of def past) ≡ cell_of def (e ∷ past)
levels def e past p edgeless same = by_line (is_edge_line def) refl
  where
    by_line : (b : Bool) → is_edge_line def ≡ b
        → cond (not b) (after_high (is_high def (e ∷ past)) (cell_of def past)) (cell_of def past) ≡ cell_of def (e ∷ past)
    by_line false level =
        leaves def e past (is_high def (e ∷ past)) (serves def && has_flow def past) p.no_take edgeless same
        ∙ same_rest def _ _ _ _ _ _ _ refl (in_service_same def e past p)
    by_line true edge =
        leaves def e past (is_high def past) (serves def && has_flow def past) p.no_take edgeless same
        ∙ same_rest def _ _ _ _ _ _ _ (edge_high def past edge ∙ sym (edge_high def (e ∷ past) edge)) (in_service_same def e past p)

cell_call : (def : LineDef) (call : CallEntry) (e : Entry) (past : List Entry) → IsDue def e past → HasTestsOf e call
    → called_on def call (e ∷ past) (cell_of def past) ≡ cell_of def (e ∷ past)
cell_call def called.Disable e past due t =
    masks_if def e past def.unlazy t.is_plain t.moves (edgeless_by def called.Disable e past t refl refl)
    (masked_by def called.Disable e past t refl ∙ only def.unlazy (is_masked def past))
  where
    only : (y m : Bool) → (((y && true) || false) || m) ≡ (y || m)
    only y m = grind arith
cell_call def (called.Unlink answer d) e past due t =
    masks_if def e past (unlinks_last (called.Unlink answer d)) t.is_plain t.moves (edgeless_by def (called.Unlink answer d) e past t refl refl)
    (masked_by def (called.Unlink answer d) e past t refl ∙ only def.unlazy (unlinks_last (called.Unlink answer d)) (is_masked def past))
  where
    only : (y l m : Bool) → (((y && false) || l) || m) ≡ (l || m)
    only y l m = grind arith
cell_call def (called.Enable answer) e past due t =
    by_start def e past (opened_by_enable answer) due t.opened t.is_plain t.moves t.comes t.no_reopening t.deepens t.ends
cell_call def (called.Arm edge d) e past due t =
    asks def e past edge t.is_plain (edge_by def (called.Arm edge d) e past t refl) (masked_as_before def (called.Arm edge d) e past t refl refl refl)
cell_call def (called.Quiet d) e past due t =
    levels def e past t.is_plain (edgeless_by def (called.Quiet d) e past t refl refl) (masked_as_before def (called.Quiet d) e past t refl refl refl)
cell_call def (called.Serve d count) e past due t =
    levels def e past t.is_plain (edgeless_by def (called.Serve d count) e past t refl refl)
    (masked_as_before def (called.Serve d count) e past t refl refl refl)
cell_call def call e past due t =
    quiet def e past t.is_plain t.moves (edgeless_by def call e past t refl refl) (masked_as_before def call e past t refl refl refl)

pub cell_more : (def : LineDef) (e : Entry) (past : List Entry) → IsValid def → IsDue def e past → Kept def past
    → (is_soft past ≡ true → is_edge_line def ≡ true) → driven def e past (cell_of def past) ≡ cell_of def (e ∷ past)
cell_more def (by.Driver r (drivers.Ask makes d)) past valid due k soft =
    asks def (by.Driver r (drivers.Ask makes d)) past makes (plain _ refl refl refl refl) (an_edge (is_edge_line def) makes (is_eoi_flow def.flow))
    (masked_by_opening def (by.Driver r (drivers.Ask makes d)) past refl refl refl)
cell_more def (by.Cpu c (cpus.Return answer d count)) past valid due k soft =
    returns def (by.Cpu c (cpus.Return answer d count)) past count (plain _ refl refl refl refl)
    (no_edge (is_edge_line def) (is_eoi_flow def.flow))
    (masked_by_opening def (by.Cpu c (cpus.Return answer d count)) past refl refl refl)
    (high_return def c d answer count past)
cell_more def (by.Thread d (threads.Return handled count)) past valid due k soft =
    returns def (by.Thread d (threads.Return handled count)) past count (plain _ refl refl refl refl)
    (no_edge (is_edge_line def) (is_eoi_flow def.flow))
    (masked_by_opening def (by.Thread d (threads.Return handled count)) past refl refl refl)
    (high_thread_return def d handled count past)
cell_more def (by.Cpu c (cpus.Take way answer)) past valid due k soft =
    ap (λ (x : Cell). taken def def.flow (is_oneshot past) answer x) (accepted_is def c way answer past due soft)
    ∙ take_by def def.flow c way answer past valid due soft refl
cell_more def (by.Cpu c (cpus.End again unmask note)) past valid due k soft = end_by def def.flow c again unmask note past valid due k.edges refl
cell_more def (by.Thread d (threads.Finish kept true)) past valid due k soft =
    opening def (by.Thread d (threads.Finish kept true)) past (plain _ refl refl refl refl) refl
    (no_edge (is_edge_line def) (is_eoi_flow def.flow))
    (masked_by_opening def (by.Thread d (threads.Finish kept true)) past refl refl refl)
cell_more def (by.Thread d (threads.Finish kept false)) past valid due k soft =
    quiet def (by.Thread d (threads.Finish kept false)) past (plain _ refl refl refl refl) refl
    (no_edge (is_edge_line def) (is_eoi_flow def.flow))
    (masked_by_opening def (by.Thread d (threads.Finish kept false)) past refl refl refl)
cell_more def (by.Driver r (drivers.Request flags answer opened d)) past valid due k soft =
    by_start def (by.Driver r (drivers.Request flags answer opened d)) past opened due refl (plain _ refl refl refl refl) refl refl refl refl refl
cell_more def (by.CpuCall c call) past valid due k soft = cell_call def call (by.CpuCall c call) past due (call_tests (actors.Cpu c) call)
cell_more def (by.ThreadCall x call) past valid due k soft = cell_call def call (by.ThreadCall x call) past due (call_tests (actors.Thread x) call)
cell_more def (by.DriverCall s call) past valid due k soft = cell_call def call (by.DriverCall s call) past due (call_tests (actors.Driver s) call)
cell_more def e past valid due k soft =
    asks_nothing def e past (plain _ refl refl refl refl) refl (no_edge (is_edge_line def) (is_eoi_flow def.flow)) refl refl refl

-- ---- every legal past

cell_none : (def : LineDef) → cell_after def [] ≡ cell_of def []
cell_none def = same_rest def _ _ _ _ _ _ _ (low (is_level_line def) def.devices) (idle (serves def))
  where
    idle : (v : Bool) → false ≡ (v && false)
    idle true = refl
    idle false = refl

    low : (l : Bool) (xs : List DeviceDef) → false ≡ (l && list_any (λ x. not (is_quiet [] x.dev) && nat_lt 0 (unserved_asks def x.dev [])) xs)
    low l xs = off l _ (nobody xs)
      where
        none_left : (part : Option Part) (d : DevNo) → left_by_runs part d [] ≡ 0
        none_left None d = refl
        none_left (Some parts.Primary) d = refl
        none_left (Some parts.Thread) d = refl

        nobody : (xs : List DeviceDef) → list_any (λ x. not (is_quiet [] x.dev) && nat_lt 0 (unserved_asks def x.dev [])) xs ≡ false
        nobody [] = refl
        nobody (x ∷ xs) = rw (none_left (serving def x.dev) x.dev) (nobody xs)

        off : (l b : Bool) → b ≡ false → false ≡ (l && b)
        off l b h = grind arith

driven_cell : (def : LineDef) → IsValid def → (past : List Entry) → IsLegalPast def past → cell_after def past ≡ cell_of def past
driven_cell def valid [] legal = cell_none def
driven_cell def valid (e ∷ past) legal =
    ap (λ (x : Cell). driven def e past x) (driven_cell def valid past legal.1)
    ∙ cell_more def e past valid legal.0 (kept def past valid legal.1) (soft_has_edges def past legal.1)

pub is_driven_cell : (def : LineDef) (h : List Entry) → IsValid def → IsLegal def h → IsDrivenCell def h
is_driven_cell def h valid legal = let same = driven_cell def valid (reverse h) legal in record { keeps = same; presents = ap presents same }
