-- What an entry that is due makes of the mask, of the flow and of what is pending, by its kind.
use Rattle.std.proofs.Common.{◌≡◌, ℕ, Bool, true, false, not, ◌||◌, ◌&&◌, cond, is_some, List, ◌∷◌, nat_lt, refl, sym, ap, ◌∙◌, arith}
use Rattle.std.proofs.lemmas.Bool.{ltb-false}
use Rattle.irq_base.specs.declared.numbers.CpuNo.{CpuNo}
use Rattle.irq_base.specs.declared.lines.FlowKind.{FlowKind}
use Rattle.irq_base.specs.declared.lines.FlowKind.TheVariants as flows
use Rattle.irq_base.specs.declared.lines.LineDef.{LineDef}
use Rattle.irq_base.specs.declared.entries.Entry.{Entry}
use Rattle.irq_base.specs.declared.entries.Entry.TheVariants as by
use Rattle.irq_base.specs.declared.entries.CpuEntry.TheVariants as cpus
use Rattle.irq_base.specs.declared.entries.DriverEntry.TheVariants as drivers
use Rattle.irq_base.specs.declared.entries.CallEntry.{CallEntry}
use Rattle.irq_base.specs.declared.entries.CallEntry.TheVariants as called
use Rattle.irq_base.specs.declared.entries.Way.{Way}
use Rattle.irq_base.specs.declared.entries.TakeAnswer.{TakeAnswer}
use Rattle.irq_base.specs.declared.entries.TakeAnswer.TheVariants as takes
use Rattle.irq_base.specs.declared.entries.Note.{Note}
use Rattle.irq_model.specs.Kinds.{is_take, is_handle, is_again, is_leave, is_start, is_disable, is_kill, is_last_unlink, is_reopening}
use Rattle.irq_model.specs.Kinds.{is_started_opened, opened_by_call, disables, unlinks_last}
use Rattle.irq_model.specs.Lines.{is_edge_flow, is_eoi_flow}
use Rattle.irq_model.specs.Links.{depth, is_disabled, is_none_linked}
use Rattle.irq_model.specs.Masks.{take_masks, is_masked}
use Rattle.irq_model.specs.Rounds.{has_flow}
use Rattle.irq_model.specs.Next.{is_off_now}
use Rattle.irq_model.specs.Legal.{IsDue}
use Rattle.irq_model.proofs.RoundSteps.{flow_quiet}
use Rattle.irq_model.proofs.MaskSteps.{masked_more, masked_by_opening}
use Rattle.irq_laws.specs.Kept.{KeepsDepth}
use Rattle.irq_laws.proofs.Lists.{both_ways}
use Rattle.irq_laws.proofs.DepthKept.{StaysEnabled}
use Rattle.irq_laws.proofs.ImpliesFlow.{take_due}

-- ---- flows by their tests

pub edge_is : (f : FlowKind) → is_edge_flow f ≡ true → f ≡ flows.Edge
edge_is flows.Edge h = refl
edge_is flows.Level h = cc
edge_is flows.Eoi h = cc

pub eoi_is : (f : FlowKind) → is_eoi_flow f ≡ true → f ≡ flows.Eoi
eoi_is flows.Eoi h = refl
eoi_is flows.Level h = cc
eoi_is flows.Edge h = cc

pub level_is_not : {P : Type 0} (b : Bool) → b ≡ true → not b ≡ true → P
level_is_not true h n = cc
level_is_not false h n = cc

-- ---- the answers of a take

busy_by : (f o : Bool) → takes.Busy ≡ cond f takes.Busy (cond o takes.Off takes.Handle) → f ≡ true
busy_by true o h = refl
busy_by false true h = cc
busy_by false false h = cc

off_by : (f o : Bool) → takes.Off ≡ cond f takes.Busy (cond o takes.Off takes.Handle) → (f ≡ false) × (o ≡ true)
off_by true o h = cc
off_by false true h = (refl, refl)
off_by false false h = cc

pub busy_has_flow : (def : LineDef) (c : CpuNo) (way : Way) (past : List Entry)
    → IsDue def (by.Cpu c (cpus.Take way takes.Busy)) past → has_flow def past ≡ true
busy_has_flow def c way past due = busy_by (has_flow def past) _ (take_due def c way takes.Busy past due).answer_is

pub not_disabled : (past : List Entry) → depth past ≡ 0 → is_disabled past ≡ false
not_disabled past zero = ap (λ (n : ℕ). nat_lt 0 n) zero

pub zero_depth : (past : List Entry) → is_disabled past ≡ false → depth past ≡ 0
zero_depth past h = let n = ltb-false 0 (depth past) h in omega (arith, n)

-- an enabled line answers no take with Off
pub never_off : {P : Type 0} (def : LineDef) (c : CpuNo) (way : Way) (past : List Entry)
    → IsDue def (by.Cpu c (cpus.Take way takes.Off)) past → KeepsDepth def past → depth past ≡ 0 → P
never_off def c way past due k zero =
    let o = (off_by (has_flow def past) (is_disabled past || is_none_linked past) (take_due def c way takes.Off past due).answer_is).1 in
    let n = (k.enabled zero).1 in
    both_ways (is_disabled past || is_none_linked past) o (or_none (is_disabled past) (is_none_linked past) (not_disabled past zero) n)
  where
    or_none : (a b : Bool) → a ≡ false → b ≡ false → (a || b) ≡ false
    or_none a b x y = grind arith

-- ---- the mask

lazy : (t y u m : Bool) → ((t || ((y && false) || false)) || m) ≡ (t || m)
lazy t y u m = grind arith

-- a take masks as its flow says
pub take_masked : (def : LineDef) (f : FlowKind) (c : CpuNo) (way : Way) (answer : TakeAnswer) (past : List Entry) → def.flow ≡ f
    → is_masked def (by.Cpu c (cpus.Take way answer) ∷ past) ≡ (take_masks def f (by.Cpu c (cpus.Take way answer)) past || is_masked def past)
take_masked def f c way answer past is =
    masked_more def (by.Cpu c (cpus.Take way answer)) past
    ∙ lazy (take_masks def def.flow (by.Cpu c (cpus.Take way answer)) past) def.unlazy false (is_masked def past)
    ∙ ap (λ (g : FlowKind). take_masks def g (by.Cpu c (cpus.Take way answer)) past || is_masked def past) is

starts_alone : (call : CallEntry) → is_started_opened (opened_by_call call) ≡ true
    → (disables call ≡ false) × (unlinks_last call ≡ false)
starts_alone (called.Enable answer) h = (refl, refl)
starts_alone call h = cc

start_alone : (e : Entry) → is_start e ≡ true → (is_take e ≡ false) × ((is_disable e || is_kill e) ≡ false) × (is_last_unlink e ≡ false)
start_alone (by.CpuCall c call) h = let a = starts_alone call h in (refl, rw (a.0) refl, a.1)
start_alone (by.ThreadCall x call) h = let a = starts_alone call h in (refl, rw (a.0) refl, a.1)
start_alone (by.DriverCall s call) h = let a = starts_alone call h in (refl, rw (a.0) refl, a.1)
start_alone (by.Driver s (drivers.Request flags answer opened x)) h = (refl, refl, refl)
start_alone e h = cc

opened_by : (s r m : Bool) → s ≡ true → (not (s || r) && m) ≡ false
opened_by s r m h = grind arith

-- a start opens the line
pub start_opens : (def : LineDef) (e : Entry) (past : List Entry) → is_start e ≡ true → is_masked def (e ∷ past) ≡ false
start_opens def e past h =
    let n = start_alone e h in
    masked_by_opening def e past n.0 n.1 n.2 ∙ opened_by (is_start e) (is_reopening e) (is_masked def past) h

not_opened : (s r m : Bool) → (not (s || r) && m) ≡ true → (m ≡ true) × (r ≡ false)
not_opened s r m h = (grind arith, grind arith)

-- an entry that is no take leaves an enabled line masked only if it was masked before
pub masked_before : (def : LineDef) (e : Entry) (past : List Entry) → is_take e ≡ false → StaysEnabled e past
    → is_masked def (e ∷ past) ≡ true → (is_masked def past ≡ true) × (is_reopening e ≡ false)
masked_before def e past no_take q h =
    not_opened (is_start e) (is_reopening e) (is_masked def past) (sym (masked_by_opening def e past no_take q.no_deepening q.no_last) ∙ h)

-- ---- the flow

-- an entry that is neither a take nor an end
pub record IsPlain (e : Entry) : Type 0 where
  pub no_take : is_take e ≡ false
  pub no_handle : is_handle e ≡ false
  pub no_leave : is_leave e ≡ false
  pub no_again : is_again e ≡ false

pub flow_same : (def : LineDef) (e : Entry) (past : List Entry) → IsPlain e → has_flow def (e ∷ past) ≡ has_flow def past
flow_same def e past p = ap is_some (flow_quiet def e past p.no_handle p.no_leave p.no_again)

-- ---- the end of a flow on an enabled line

pub off_now : (past : List Entry) (c : CpuNo) (again unmask : Bool) (note : Note)
    → StaysEnabled (by.Cpu c (cpus.End again unmask note)) past → is_off_now past note ≡ false
off_now past c again unmask note q = both (is_disabled past) (is_kill (by.Cpu c (cpus.End again unmask note))) (not_disabled past q.was) q.no_deepening
  where
    both : (a b : Bool) → a ≡ false → (false || b) ≡ false → (a || b) ≡ false
    both a b x y = grind arith
