use Rattle.std.proofs.Common.{◌≡◌, ◌⊎◌, inl, inr, ℕ, Some, option_map, refl, sym, subst, ◌∙◌}
use Rattle.irq_base.specs.declared.calls.Call.{Call}
use Rattle.irq_base.specs.declared.calls.Call.TheVariants as calls
use Rattle.irq_base.specs.declared.entries.Entry.TheVariants as by
use Rattle.irq_base.specs.declared.lines.LineDef.{LineDef}
use Rattle.irq_base.specs.declared.numbers.DevNo.{DevNo}
use Rattle.irq_base.specs.declared.numbers.DriverNo.{DriverNo}
use Rattle.line_marks.specs.Calls.{step_by}
use Rattle.line_marks.specs.DriversDue.{driver_due}
use Rattle.line_marks.specs.State.{StateSeen}
use Rattle.line_state.proofs.state.LineState.due_of_driver.Goals as goal

either : {A B C : Type 0} → (A → C) → (B → C) → A ⊎ B → C
either f g (inl a) = f a
either f g (inr b) = g b

module _ (def : LineDef) (s : StateSeen) (r : DriverNo) (n : ℕ) (c : Call) where
  abbrev IsShared : Call → Type 0
  IsShared x = option_map (by.DriverCall r) (step_by def s (x, n)) ≡ driver_due def s r (Some (x, n))

  one : (x : Call) → IsShared x → c ≡ x → IsShared c
  one x h is = subst IsShared (sym is) h

  of_device : (call : DevNo → Call) → ((d : DevNo) → IsShared (call d)) → (d : DevNo) × (c ≡ call d) → IsShared c
  of_device call h (d, is) = subst IsShared (sym is) (h d)

pub returns-in-Free : goal.returns-in-Free
returns-in-Free g c def =
    let here = one def c.args.self.now.state c.args.driver c.args.within c.args.call in
    let dev = of_device def c.args.self.now.state c.args.driver c.args.within c.args.call in
    c.due_of_shared.ensures def
    ∙ either (dev (λ d. calls.Free d) (λ d. refl))
    (either (here calls.Disable refl)
    (either (here calls.DisableNosync refl)
    (either (here calls.Enable refl)
    (either (here calls.Sync refl)
    (either (here calls.SyncHard refl)
    (either (here calls.DisableHard refl)
    (either (dev (λ d. calls.Wake d) (λ d. refl))
    (either (dev (λ d. calls.Quiet d) (λ d. refl))
    (either (dev (λ d. calls.Arm d) (λ d. refl)) (dev (λ d. calls.Serve d) (λ d. refl)))))))))))
    c.in-Free.is
