-- Calls after calls.
use Rattle.std.proofs.Common.{List, [], ◌∷◌, ◌++◌, refl, sym, subst}
use Rattle.irq_base.specs.declared.devices.Run.{Run}
use Rattle.callbacks.specs.Heard.{Heard}

module _ {H : Type 0} (hears : H → Run → H → Type 0) where
  -- calls, and then more calls
  pub heard_more : (new old : List Run) (h k m : H) → Heard hears old h k → Heard hears new k m → Heard hears (new ++ old) h m
  heard_more [] old h k m a b = subst (Heard hears old h) b a
  heard_more (run ∷ runs) old h k m a b = (b.0, heard_more runs old h k b.0 a b.1, b.2)

  -- one call
  pub heard_one : (run : Run) (h k : H) → hears h run k → Heard hears (run ∷ []) h k
  heard_one run h k called = (h, refl, called)

  -- the call of a run that was one
  pub was_heard : (run : Run) (h k : H) → Heard hears (run ∷ []) h k → hears h run k
  was_heard run h k a = subst (λ (x : H). hears x run k) (sym a.1) a.2
