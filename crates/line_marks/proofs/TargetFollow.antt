-- The chip is aimed at the target, which is the processor of the aim.
use Rattle.std.proofs.Common.{◌≡◌, ℕ, zero, suc, ◌+◌, ◌<◌, Bool, true, false, cond, Option, Some, None, List, ◌∷◌, refl, sym, ap, ◌∙◌, arith}
use Rattle.irq_base.specs.declared.entries.AffinityAnswer.TheVariants as moves
use Rattle.irq_base.specs.declared.entries.Entry.{Entry}
use Rattle.irq_base.specs.declared.entries.Entry.TheVariants as by
use Rattle.irq_base.specs.declared.entries.CpuEntry.TheVariants as cpus
use Rattle.irq_base.specs.declared.entries.DriverEntry.TheVariants as drivers
use Rattle.irq_base.specs.declared.lines.LineDef.{LineDef}
use Rattle.irq_base.specs.declared.numbers.CpuNo.{CpuNo}
use Rattle.irq_model.specs.Lines.{is_in_mask}
use Rattle.irq_model.specs.Signal.{target, lowest_in, lowest_from}
use Rattle.affinity.specs.Seen.{AimSeen}
use Rattle.line_marks.proofs.AimFollow.{aim_more}
use Rattle.line_marks.specs.Aim.{aim_of, aim_after, aimed_of, aimed_by, aimed_after}

-- the target is the processor of the aim, and the chip is aimed at it
pub target_is : (def : LineDef) (past : List Entry) → target def past ≡ lowest_in (aim_of def past).cpus (aim_of def past).mask
target_is def past = refl

pub aimed_is : (def : LineDef) (past : List Entry) → aimed_of def past ≡ aimed_by (aim_of def past)
aimed_is def past = refl

aimed_step : (e : Entry) (a : AimSeen) → aimed_by (aim_after e a) ≡ aimed_after e a (aimed_by a)
aimed_step (by.Driver r (drivers.Affinity moves.Now m)) a = refl
aimed_step (by.Driver r (drivers.Affinity moves.Later m)) a = refl
aimed_step (by.Driver r (drivers.Affinity (moves.Refused error) m)) a = refl
aimed_step (by.Cpu c (cpus.Take way answer)) a = refl
aimed_step _ a = refl

pub aimed_more : (def : LineDef) (e : Entry) (past : List Entry) → aimed_of def (e ∷ past) ≡ aimed_after e (aim_of def past) (aimed_of def past)
aimed_more def e past = ap aimed_by (aim_more def e past) ∙ aimed_step e (aim_of def past)

-- the lowest processor in a mask is one of the machine
below_from : (mask c n : ℕ) (k : CpuNo) → lowest_from mask c n ≡ Some k → k.0 < c + n
below_from mask c zero k h = cc
below_from mask c (suc n) k h = by_test (is_in_mask mask c) h (below_from mask (c + 1) n k)
  where
    by_test : (b : Bool) → cond b (Some (record { 0 = c })) (lowest_from mask (c + 1) n) ≡ Some k
        → (lowest_from mask (c + 1) n ≡ Some k → k.0 < (c + 1) + n) → k.0 < c + suc n
    by_test true is deeper = (let e : k.0 ≡ c = sym (ap number is) in omega (arith, e))
      where
        number : Option CpuNo → ℕ
        number None = 0
        number (Some x) = x.0
    by_test false is deeper = omega (arith, deeper is)

pub lowest_below : (cpus mask : ℕ) (k : CpuNo) → lowest_in cpus mask ≡ Some k → k.0 < cpus
lowest_below cpus mask k h = omega (arith, below_from mask 0 cpus k h)
