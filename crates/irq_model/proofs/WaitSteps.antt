-- What one more entry makes of what is pending.
use Rattle.std.proofs.Common.{◌≡◌, Bool, false, not, ◌||◌, ◌&&◌, List, ◌∷◌, ap, arith}
use Rattle.irq_base.specs.declared.lines.LineDef.{LineDef}
use Rattle.irq_base.specs.declared.entries.Entry.{Entry}
use Rattle.irq_base.specs.declared.entries.Entry.TheVariants as by
use Rattle.irq_base.specs.declared.entries.CpuEntry.TheVariants as cpus
use Rattle.irq_model.specs.Kinds.{is_take}
use Rattle.irq_model.specs.Lines.{is_edge_line}
use Rattle.irq_model.specs.Waiting.{sets_pending, clears_pending, is_pending}

no_busy : (b : Bool) → (false || (b && false)) ≡ false
no_busy b = grind arith

sets_not : (def : LineDef) (e : Entry) → is_take e ≡ false → sets_pending def e ≡ false
sets_not def (by.Cpu cpu (cpus.Take way answer)) h = cc
sets_not def e h = no_busy (is_edge_line def)

-- an entry that is no take: pending is what was pending and isn't cleared
pub pending_by_clearing : (def : LineDef) (e : Entry) (past : List Entry) → is_take e ≡ false
    → is_pending def (e ∷ past) ≡ (not (clears_pending e) && is_pending def past)
pending_by_clearing def e past no_take = ap (λ (b : Bool). b || (not (clears_pending e) && is_pending def past)) (sets_not def e no_take)
