-- The descriptor of a line follows its history.
use Rattle.std.proofs.Common.{◌≡◌, ℕ, ◌+◌, ◌-◌, ◌≤◌, Bool, true, false, not, ◌||◌, ◌&&◌, cond, Option, Some, List, ◌∷◌, refl, ap, ◌∙◌, arith}
use Rattle.irq_base.specs.declared.entries.Entry.{Entry}
use Rattle.irq_base.specs.declared.entries.Entry.TheVariants as by
use Rattle.irq_base.specs.declared.entries.CpuEntry.TheVariants as cpus
use Rattle.irq_base.specs.declared.entries.CallEntry.{CallEntry}
use Rattle.irq_base.specs.declared.entries.CallEntry.TheVariants as called
use Rattle.irq_base.specs.declared.lines.FlowKind.{FlowKind}
use Rattle.irq_base.specs.declared.lines.FlowKind.TheVariants as flows
use Rattle.irq_base.specs.declared.lines.LineDef.{LineDef}
use Rattle.irq_model.specs.Kinds.{is_start, is_last_unlink, is_linked_request, is_handle, is_leave, is_again, is_disable, is_kill, is_off, is_busy}
use Rattle.irq_model.specs.Kinds.{disables, opened_by_call, is_lowering_opened}
use Rattle.irq_model.specs.Legal.{IsLegalPast}
use Rattle.irq_model.specs.Links.{depth, is_reset, is_none_linked, is_oneshot, flags_in, is_deepening, is_lowering}
use Rattle.irq_model.specs.Masks.{take_masks, is_masked, unmasks}
use Rattle.irq_model.specs.Places.{last_of}
use Rattle.irq_model.specs.Rounds.{flow, closes, cpu_of_handle}
use Rattle.irq_model.specs.Valid.{IsValid}
use Rattle.irq_model.specs.Lines.{is_edge_line, is_eoi_flow}
use Rattle.irq_model.specs.Waiting.{is_pending, clears_pending}
use Rattle.irq_model.proofs.DepthSteps.{raised, lowered, raised_reset, raised_more}
use Rattle.irq_model.proofs.MaskSteps.{masked_more}
use Rattle.irq_laws.proofs.KeptAlways.{kept}
use Rattle.desc_state.specs.Desc.{DescSeen}
use Rattle.line_marks.specs.Desc.{desc_of, desc_after, depth_after, take_masks_with}

-- ---- each part

take_masks_so : (def : LineDef) (f : FlowKind) (e : Entry) (past : List Entry) → take_masks def f e past ≡ take_masks_with def f (is_oneshot past) e
take_masks_so def flows.Level e past = refl
take_masks_so def flows.Edge e past = refl
take_masks_so def flows.Eoi e past = refl

chosen : {A B : Type 0} (f : A → B) (b : Bool) (x y : A) → f (cond b x y) ≡ cond b (f x) (f y)
chosen f true x y = refl
chosen f false x y = refl

pub flow_more : (def : LineDef) (e : Entry) (past : List Entry)
    → flow def (e ∷ past) ≡ cond (is_handle e || closes def e) (cpu_of_handle (Some e)) (flow def past)
flow_more def e past = chosen cpu_of_handle (is_handle e || closes def e) (Some e) (last_of (λ x. is_handle x || closes def x) past)

pub oneshot_more : (e : Entry) (past : List Entry) → is_oneshot (e ∷ past) ≡ cond (is_linked_request e) (flags_in (Some e)).oneshot (is_oneshot past)
oneshot_more e past = chosen (λ (o : Option Entry). (flags_in o).oneshot) (is_linked_request e) (Some e) (last_of is_linked_request past)

-- no entry both deepens and lowers
one_way_call : (call : CallEntry) → ((disables call || false) && is_lowering_opened (opened_by_call call)) ≡ false
one_way_call called.Disable = refl
one_way_call (called.Enable answer) = refl
one_way_call _ = refl

one_way : (e : Entry) → (is_deepening e && is_lowering e) ≡ false
one_way (by.CpuCall c call) = one_way_call call
one_way (by.ThreadCall d call) = one_way_call call
one_way (by.DriverCall r call) = one_way_call call
one_way (by.Cpu c (cpus.End again unmask note)) = (let no : (b : Bool) → (b && false) ≡ false = λ b. grind arith in no _)
one_way _ = refl

-- d: it deepens, l: it lowers; the depth was never lowered below zero
moved : (d l : Bool) (a b x y : ℕ) → (d && l) ≡ false → y ≤ x → a ≡ cond d (x + 1) x → b ≡ cond l (y + 1) y
    → a - b ≡ cond d ((x - y) + 1) (cond l ((x - y) - 1) (x - y))
moved true true a b x y h i p q = cc
moved true false a b x y h i p q = omega (arith, i, p, q)
moved false true a b x y h i p q = omega (arith, i, p, q)
moved false false a b x y h i p q = omega (arith, i, p, q)

pub depth_more : (e : Entry) (past : List Entry) → lowered past ≤ raised past → depth (e ∷ past) ≡ depth_after (is_none_linked past) e (depth past)
depth_more e past exact = by_test (is_reset (e ∷ past)) refl
  where
    by_test : (b : Bool) → is_reset (e ∷ past) ≡ b → depth (e ∷ past)
        ≡ cond b (cond (is_start e) 0 1) (cond (is_deepening e) (depth past + 1)
        (cond (is_lowering e) (depth past - 1) (depth past)))
    by_test true is = let n = raised_reset e past is in omega (arith, n.0, n.1)
    by_test false is = let n = raised_more e past is in
        moved (is_deepening e) (is_lowering e) (raised (e ∷ past)) (lowered (e ∷ past)) (raised past) (lowered past)
        (one_way e) exact n.0 n.1

other_way : (a b : Bool) → (a && b) ≡ (b && a)
other_way a b = grind arith

-- ---- all of them

same_desc : (a b : DescSeen) → a.unlazy ≡ b.unlazy → a.depth ≡ b.depth → a.started ≡ b.started → a.masked ≡ b.masked
    → a.pending ≡ b.pending → a.oneshot ≡ b.oneshot → a.spurious ≡ b.spurious → a.soft ≡ b.soft → a.flow ≡ b.flow
    → a ≡ b
same_desc a b u h i j k l m n o = (let e : ◌≡◌ {A = DescSeen}
    (record {
      unlazy = a.unlazy;
      depth = a.depth;
      started = a.started;
      masked = a.masked;
      pending = a.pending;
      oneshot
          = a.oneshot;
      spurious = a.spurious;
      soft = a.soft;
      flow = a.flow;
    }) b = rw (u, h, i, j, k, l, m, n, o) refl in e)

pub desc_follows : (def : LineDef) (e : Entry) (past : List Entry) → IsValid def → IsLegalPast def (e ∷ past)
    → desc_of def (e ∷ past) ≡ desc_after def (is_none_linked past) e (desc_of def past)
desc_follows def e past valid legal =
    let k = kept def past valid legal.1 in
    same_desc (desc_of def (e ∷ past)) (desc_after def (is_none_linked past) e (desc_of def past))
    refl
    (depth_more e past k.depth.exact)
    refl
    (masked_more def e past
    ∙ (ap (λ b. (b || ((def.unlazy && (is_disable e || is_kill e)) || is_last_unlink e)) ||
    (not (unmasks e) && is_masked def past)) (take_masks_so def def.flow e past)
    ∙ ap (λ b. (take_masks_with def def.flow (is_oneshot past) e || (b || is_last_unlink e)) ||
    (not (unmasks e) && is_masked def past)) (other_way def.unlazy (is_disable e || is_kill e))))
    (ap (λ b. (is_off e || b) || (not (clears_pending e) && is_pending def past)) (other_way (is_edge_line def) (is_busy e)))
    (oneshot_more e past)
    refl
    refl
    (flow_more def e past ∙ ap (λ b. cond (is_handle e || (is_leave e || b)) (cpu_of_handle (Some e)) (flow def past))
    (other_way (is_eoi_flow def.flow) (is_again e)))
