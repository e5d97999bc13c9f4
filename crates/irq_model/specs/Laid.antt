-- A driver's entries laid beside its calls, by the place of the due call.
use Rattle.std.specs.Prelude.{◌≡◌, ℕ, zero, suc, ◌<◌, ◌≤◌, Option, Some, None, List, [], ◌∷◌}
use Rattle.std.specs.Prelude.{length, drop}
use Rattle.irq_base.specs.declared.calls.Call.{Call}
use Rattle.irq_base.specs.declared.entries.Entry.{Entry}
use Rattle.irq_model.specs.Due.{entries_of_call}

-- these entries, the oldest first, complete p calls, and the next call has made k entries
abbrev pub Laid : List Call → List Entry → ℕ → ℕ → Type 0
Laid [] es zero k = (es ≡ []) × (k ≡ 0)
Laid [] es (suc p) k = ⊥
Laid (c ∷ cs) es zero k = (length es ≡ k) × (k < entries_of_call c es)
Laid (c ∷ cs) es (suc p) k =
    (entries_of_call c es ≤ length es) × Laid cs (drop (entries_of_call c es) es) p k

abbrev pub with_count : Option Call → ℕ → Option (Call × ℕ)
with_count None k = None
with_count (Some c) k = Some (c, k)
