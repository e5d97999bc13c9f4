-- For each device a stamp: one more than the number of rounds that had begun as its handler was
-- last called; 0 if it never was.
use Rattle.std.specs.Prelude.{◌≡◌, ℕ, ◌≤◌, ◌==◌, Bool, true, List, [], ◌∷◌}
use Rattle.irq_base.specs.declared.numbers.DevNo.{DevNo}
use Rattle.act_list.specs.Lists.{begun_at}
use Rattle.act_list.specs.declared.actions.Action.{Action}

-- who was called in this round
abbrev pub stamped : ℕ → List (DevNo × ℕ) → List (DevNo × Bool)
stamped n [] = []
stamped n (e ∷ es) = (e.0, e.1 == n) ∷ stamped n es

-- no stamp is of a later round
abbrev pub AreStamps : ℕ → List (DevNo × ℕ) → Type 0
AreStamps n [] = Unit {0}
AreStamps n (e ∷ es) = (e.1 ≤ n) × AreStamps n es

-- the handlers of all these actions were called
abbrev pub AreBegun : List (DevNo × Bool) → List (DevNo × Action) → Type 0
AreBegun b [] = Unit {0}
AreBegun b (e ∷ es) = (begun_at b e.0 ≡ true) × AreBegun b es
