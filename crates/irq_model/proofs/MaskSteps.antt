-- What one more entry makes of the mask.
use Rattle.std.proofs.Common.{◌≡◌, Bool, true, false, not, ◌||◌, ◌&&◌, cond, List, [], ◌∷◌, refl, ap, ◌∙◌, arith}
use Rattle.std.specs.List.{list_any}
use Rattle.irq_base.specs.declared.lines.FlowKind.{FlowKind}
use Rattle.irq_base.specs.declared.lines.FlowKind.TheVariants as flows
use Rattle.irq_base.specs.declared.lines.LineDef.{LineDef}
use Rattle.irq_base.specs.declared.entries.Entry.{Entry}
use Rattle.irq_base.specs.declared.entries.Entry.TheVariants as by
use Rattle.irq_base.specs.declared.entries.CpuEntry.TheVariants as cpus
use Rattle.irq_model.specs.Places.{since_place}
use Rattle.irq_model.specs.Kinds.{is_take, is_disable, is_kill, is_last_unlink}
use Rattle.irq_model.specs.Masks.{take_masks, masks, unmasks, is_masked}

by_masking : (m u r : Bool) → not (cond m false (u || r)) ≡ (m || (not u && not r))
by_masking m u r = grind arith

joined : (b : Bool) (e : Entry) (xs : List Entry) → list_any unmasks (cond b [] (e ∷ xs)) ≡ cond b false (unmasks e || list_any unmasks xs)
joined true e xs = refl
joined false e xs = refl

-- masked is what masks now, or was masked and isn't unmasked
pub masked_more : (def : LineDef) (e : Entry) (past : List Entry) → is_masked def (e ∷ past) ≡ (masks def (e ∷ past) || (not (unmasks e) && is_masked def past))
masked_more def e past =
    ap not (joined (masks def (e ∷ past)) e (since_place (masks def) past))
    ∙ by_masking (masks def (e ∷ past)) (unmasks e) (list_any unmasks (since_place (masks def) past))

pub no_take_masks : (def : LineDef) (f : FlowKind) (e : Entry) (past : List Entry) → is_take e ≡ false → take_masks def f e past ≡ false
no_take_masks def flows.Level e past h = h
no_take_masks def flows.Edge (by.Cpu cpu (cpus.Take way answer)) past h = cc
no_take_masks def flows.Edge e past h = refl
no_take_masks def flows.Eoi (by.Cpu cpu (cpus.Take way answer)) past h = cc
no_take_masks def flows.Eoi e past h = refl

all_off : (t y d k u : Bool) → t ≡ false → (d || k) ≡ false → u ≡ false → (t || ((y && (d || k)) || u)) ≡ false
all_off t y d k u a b c = grind arith

-- no take, no disable, no kill, no last unlink
pub masks_quiet : (def : LineDef) (e : Entry) (past : List Entry) → is_take e ≡ false
    → (is_disable e || is_kill e) ≡ false → is_last_unlink e ≡ false → masks def (e ∷ past) ≡ false
masks_quiet def e past no_take no_disable no_unlink =
    all_off (take_masks def def.flow e past) def.unlazy (is_disable e) (is_kill e) (is_last_unlink e)
    (no_take_masks def def.flow e past no_take) no_disable no_unlink

then_by : (m u r : Bool) → m ≡ false → (m || (not u && r)) ≡ (not u && r)
then_by m u r h = grind arith

-- an entry that masks nothing
pub masked_by_opening : (def : LineDef) (e : Entry) (past : List Entry) → is_take e ≡ false
    → (is_disable e || is_kill e) ≡ false → is_last_unlink e ≡ false
    → is_masked def (e ∷ past) ≡ (not (unmasks e) && is_masked def past)
masked_by_opening def e past a b c = masked_more def e past ∙ then_by (masks def (e ∷ past)) (unmasks e) (is_masked def past) (masks_quiet def e past a b c)
