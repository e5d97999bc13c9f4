-- What one more entry makes of the flow in progress.
use Rattle.std.proofs.Common.{◌≡◌, Bool, false, ◌||◌, ◌&&◌, cond, Some, List, ◌∷◌, ap, arith}
use Rattle.irq_base.specs.declared.lines.LineDef.{LineDef}
use Rattle.irq_base.specs.declared.entries.Entry.{Entry}
use Rattle.irq_model.specs.Places.{last_of}
use Rattle.irq_model.specs.Kinds.{is_handle, is_again, is_leave}
use Rattle.irq_model.specs.Lines.{is_eoi_flow}
use Rattle.irq_model.specs.Rounds.{closes, cpu_of_handle, flow}

no_change : (h l a f : Bool) → h ≡ false → l ≡ false → a ≡ false → (h || (l || (f && a))) ≡ false
no_change h l a f x y z = grind arith

-- an entry that is neither a take that is handled nor an end
pub flow_quiet : (def : LineDef) (e : Entry) (past : List Entry) → is_handle e ≡ false → is_leave e ≡ false
    → is_again e ≡ false → flow def (e ∷ past) ≡ flow def past
flow_quiet def e past no_handle no_leave no_again =
    ap (λ (b : Bool). cpu_of_handle (cond b (Some e) (last_of (λ e. is_handle e || closes def e) past)))
    (no_change (is_handle e) (is_leave e) (is_again e) (is_eoi_flow def.flow) no_handle no_leave no_again)
