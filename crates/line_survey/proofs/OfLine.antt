-- In the space of a line nothing is wanted.
use Rattle.std.proofs.Common.{◌≡◌, ℕ, Bool, true, false, List, refl}
use Rattle.irq_base.specs.declared.entries.Entry.{Entry}
use Rattle.state_search.specs.Paths.{IsNearest}

pub never_met : (can : Entry → List Entry → Type 0) (paths : List (List Entry)) (k : ℕ) (met : Bool)
    → (met ≡ true → IsNearest can (λ past. ⊥) paths k) → met ≡ false
never_met can paths k true nearest = absurd (nearest refl).is_wanted
never_met can paths k false nearest = refl
