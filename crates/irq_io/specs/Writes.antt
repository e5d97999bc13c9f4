-- What a write and a flush answer, and what the sink holds after them.
use Rattle.std.specs.Prelude.{◌≡◌, ℕ, ◌≤◌, Bool, true, false, Option, Some, None, List, [], ◌++◌}
use Rattle.std.specs.Prelude.{take}
use Rattle.irq_io.specs.declared.sinks.WriteAnswer.{WriteAnswer}
use Rattle.irq_io.specs.declared.sinks.WriteAnswer.TheVariants as writes
use Rattle.irq_io.specs.declared.sinks.FlushAnswer.{FlushAnswer}
use Rattle.irq_io.specs.declared.sinks.FlushAnswer.TheVariants as flushes

-- whether the write failed
abbrev pub write_failed : WriteAnswer → Bool
write_failed (writes.Took n) = false
write_failed writes.Failed = true

-- whether the flush failed
abbrev pub flush_failed : FlushAnswer → Bool
flush_failed flushes.Done = false
flush_failed flushes.Failed = true

-- if bytes were taken, the fact holds of their number
abbrev pub IfTook : WriteAnswer → (ℕ → Type 0) → Type 0
IfTook (writes.Took n) P = P n
IfTook writes.Failed P = Unit {0}

-- at least one byte was taken, and no more than were given
abbrev pub TookWithin : ℕ → WriteAnswer → Type 0
TookWithin given answer = IfTook answer (λ n. (1 ≤ n) × (n ≤ given))

-- if the sink tells its content: it grew by the bytes that were taken; a fault adds nothing
abbrev pub Writes : Option (List ℕ) → Option (List ℕ) → List ℕ → WriteAnswer → Type 0
Writes None now bytes answer = Unit {0}
Writes (Some before) now bytes (writes.Took n) = now ≡ Some (before ++ take n bytes)
Writes (Some before) now bytes writes.Failed = now ≡ Some before

-- after a flush that is done nothing is kept back
abbrev pub LeavesNone : List ℕ → FlushAnswer → Type 0
LeavesNone kept flushes.Done = kept ≡ []
LeavesNone kept flushes.Failed = Unit {0}

-- how many bytes were taken
abbrev pub taken_of : WriteAnswer → ℕ
taken_of (writes.Took n) = n
taken_of writes.Failed = 0
