-- A processor is within a flow by its own entries exactly if it is so by all of them.
use Rattle.std.proofs.Common.{◌≡◌, ℕ, suc, Bool, true, false, ◌||◌, ◌&&◌, cond, Option, Some, None, is_some}
use Rattle.std.proofs.Common.{List, [], ◌∷◌, map, filter, reverse, refl, sym, ap, ◌∙◌, subst}
use Rattle.irq_base.specs.Who.{actor_of}
use Rattle.irq_base.specs.declared.entries.Actor.{Actor}
use Rattle.irq_base.specs.declared.entries.Actor.TheVariants as actors
use Rattle.irq_base.specs.declared.entries.Entry.{Entry}
use Rattle.irq_base.specs.declared.entries.Entry.TheVariants as by
use Rattle.irq_base.specs.declared.entries.CpuEntry.TheVariants as cpus
use Rattle.irq_base.specs.declared.entries.TakeAnswer.TheVariants as takes
use Rattle.irq_base.specs.declared.lines.LineDef.{LineDef}
use Rattle.irq_base.specs.declared.numbers.CpuNo.{CpuNo}
use Rattle.irq_laws.proofs.ImpliesFlow.{take_due, end_due}
use Rattle.irq_laws.proofs.Chosen.{the_same}
use Rattle.irq_laws.proofs.Lists.{both_ways}
use Rattle.irq_model.specs.Kinds.{same_cpu, is_by, is_handle}
use Rattle.irq_model.specs.Legal.{IsDue, IsLegalPast, IsLegal}
use Rattle.irq_model.specs.Lines.{is_eoi_flow}
use Rattle.irq_model.specs.Links.{is_disabled, is_none_linked}
use Rattle.irq_model.specs.Places.{last_of}
use Rattle.irq_model.specs.Rounds.{closes, cpu_of_handle, flow, has_flow, is_cpu}
use Rattle.irq_model.proofs.Same.{cpu_from_same, same_self_cpu}
use Rattle.line_lock.specs.Placed.{placed, placed_from}
use Rattle.line_lock.specs.declared.view.Placed.{Placed}
use Rattle.workers.specs.Fit.{own_past}
use Rattle.workers.proofs.Own.{filter-reverse}

-- the actor's entries, by their places
by_actor : (who : Actor) (n : ℕ) (h : List Entry) → map (λ (x : Placed). x.entry) (placed_from who n h) ≡ filter (is_by who) h
by_actor who n [] = refl
by_actor who n (e ∷ h) = by_test (is_by who e) (by_actor who (suc n) h)
  where
    by_test : (b : Bool) → map (λ (x : Placed). x.entry) (placed_from who (suc n) h) ≡ filter (is_by who) h
        → map (λ (x : Placed). x.entry) (cond b (record { place = n; entry = e } ∷ placed_from who (suc n) h)
        (placed_from who (suc n) h)) ≡ cond b (e ∷ filter (is_by who) h) (filter (is_by who) h)
    by_test true deeper = ap (λ (es : List Entry). e ∷ es) deeper
    by_test false deeper = deeper

-- ---- another actor's entry neither begins nor ends the flow in progress

busy : (f o : Bool) → f ≡ true → takes.Handle ≡ cond f takes.Busy (cond o takes.Off takes.Handle) → ⊥
busy true o there is = cc
busy false o there is = cc

and_false : (b : Bool) → (b && false) ≡ false
and_false true = refl
and_false false = refl

others_stay : (def : LineDef) (c : CpuNo) (e : Entry) (past : List Entry) → IsDue def e past → flow def past ≡ Some c
    → is_by (actors.Cpu c) e ≡ false → (is_handle e || closes def e) ≡ false
others_stay def c (by.Cpu cpu (cpus.Take way takes.Handle)) past due is other =
    absurd (busy (has_flow def past) (is_disabled past || is_none_linked past) (ap (λ (o : Option CpuNo). is_some o) is)
    (take_due def cpu way takes.Handle past due).answer_is)
others_stay def c (by.Cpu cpu (cpus.End again unmask note)) past due is other =
    let same : cpu ≡ c = cpu_from_same cpu c (ap (is_cpu cpu) (sym is) ∙ (end_due def cpu again unmask note past due).of_flow) in
    both_ways (same_cpu c cpu) (subst (λ (x : CpuNo). same_cpu c x ≡ true) (sym same) (same_self_cpu c)) other
others_stay def c e past due is other = and_false (is_eoi_flow def.flow)

-- a processor's own entries tell its flow
own_flow : (def : LineDef) (c : CpuNo) (past : List Entry) → IsLegalPast def past
    → flow def (filter (is_by (actors.Cpu c)) past) ≡ Some c → flow def past ≡ Some c
own_flow def c [] legal is = is
own_flow def c (e ∷ past) legal is = by_tests (is_by (actors.Cpu c) e) (is_handle e || closes def e) refl refl is (own_flow def c past legal.1)
  where
    own : List Entry
    own = filter (is_by (actors.Cpu c)) past

    last : List Entry → Option Entry
    last es = last_of (λ f. is_handle f || closes def f) es

    by_tests : (b t : Bool) → is_by (actors.Cpu c) e ≡ b → (is_handle e || closes def e) ≡ t
        → flow def (cond b (e ∷ own) own) ≡ Some c → (flow def own ≡ Some c → flow def past ≡ Some c)
        → cpu_of_handle (cond t (Some e) (last past)) ≡ Some c
    by_tests true true mine marks now deeper = ap (λ (t : Bool). cpu_of_handle (cond t (Some e) (last own))) (sym marks) ∙ now
    by_tests true false mine marks now deeper = deeper (ap (λ (t : Bool). cpu_of_handle (cond t (Some e) (last own))) (sym marks) ∙ now)
    by_tests false true mine marks now deeper = both_ways (is_handle e || closes def e) marks (others_stay def c e past legal.0 (deeper now) mine)
    by_tests false false mine marks now deeper = deeper now

-- a take that may begin the processor's flow is its own
take_is_own : (e : Entry) (c : CpuNo) → cpu_of_handle (Some e) ≡ Some c → is_by (actors.Cpu c) e ≡ true
take_is_own (by.Cpu cpu (cpus.Take way answer)) c is = subst (λ (x : CpuNo). same_cpu c x ≡ true) (sym (the_same cpu c is)) (same_self_cpu c)
take_is_own e c is = absurd (no_cpu is)
  where
    no_cpu : None ≡ Some c → ⊥
    no_cpu h = cc

-- its flow is told by its own entries
flow_own : (def : LineDef) (c : CpuNo) (past : List Entry) → flow def past ≡ Some c
    → flow def (filter (is_by (actors.Cpu c)) past) ≡ Some c
flow_own def c [] is = is
flow_own def c (e ∷ past) is = by_tests (is_by (actors.Cpu c) e) (is_handle e || closes def e) refl refl is (flow_own def c past)
  where
    own : List Entry
    own = filter (is_by (actors.Cpu c)) past

    last : List Entry → Option Entry
    last es = last_of (λ f. is_handle f || closes def f) es

    by_tests : (b t : Bool) → is_by (actors.Cpu c) e ≡ b → (is_handle e || closes def e) ≡ t
        → cpu_of_handle (cond t (Some e) (last past)) ≡ Some c → (flow def past ≡ Some c → flow def own ≡ Some c)
        → flow def (cond b (e ∷ own) own) ≡ Some c
    by_tests true true mine marks now deeper = ap (λ (t : Bool). cpu_of_handle (cond t (Some e) (last own))) marks ∙ now
    by_tests true false mine marks now deeper = ap (λ (t : Bool). cpu_of_handle (cond t (Some e) (last own))) marks ∙ deeper now
    by_tests false true other marks now deeper = both_ways (is_by (actors.Cpu c) e) (take_is_own e c now) other
    by_tests false false other marks now deeper = deeper now

module _ (def : LineDef) (c : CpuNo) (h : List Entry) (mine : List Placed) (are : mine ≡ placed (actors.Cpu c) h) where
  same_past : own_past mine ≡ filter (is_by (actors.Cpu c)) (reverse h)
  same_past = ap own_past are ∙ (ap reverse (by_actor (actors.Cpu c) 0 h) ∙ sym (filter-reverse (is_by (actors.Cpu c)) h))

  pub flow_by_own : IsLegal def h → flow def (own_past mine) ≡ Some c → flow def (reverse h) ≡ Some c
  flow_by_own legal own = own_flow def c (reverse h) legal (ap (λ (es : List Entry). flow def es) (sym same_past) ∙ own)

  pub own_by_flow : flow def (reverse h) ≡ Some c → flow def (own_past mine) ≡ Some c
  own_by_flow its = ap (λ (es : List Entry). flow def es) same_past ∙ flow_own def c (reverse h) its

-- ---- what an entry makes of the flow

pub flow_by : (def : LineDef) (e : Entry) (past : List Entry) (h c : Bool) → is_handle e ≡ h → closes def e ≡ c
    → flow def (e ∷ past) ≡ cpu_of_handle (cond (h || c) (Some e) (last_of (λ f. is_handle f || closes def f) past))
flow_by def e past h c is_h is_c =
    ap (λ (b : Bool). cpu_of_handle (cond (b || closes def e) (Some e) (last_of (λ f. is_handle f || closes def f) past))) is_h
    ∙ ap (λ (b : Bool). cpu_of_handle (cond (h || b) (Some e) (last_of (λ f. is_handle f || closes def f) past))) is_c

-- a take that is handled is its processor's
pub handle_cpu : (e : Entry) → is_handle e ≡ true → (c : CpuNo) × (cpu_of_handle (Some e) ≡ Some c) × (actor_of e ≡ actors.Cpu c)
handle_cpu (by.Cpu cpu (cpus.Take way takes.Handle)) is = (cpu, refl, refl)
handle_cpu e is = absurd (let n : false ≡ true = is in let m : ⊥ = cc in m)
