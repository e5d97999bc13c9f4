-- What a reading and a writing in many pieces answer and leave.
use Rattle.std.specs.Prelude.{◌≡◌, ℕ, Bool, true, false, Option, Some, None, List, [], ◌++◌, ◌≤◌}
use Rattle.std.specs.Prelude.{length, take, drop, Result, Ok, Err}
use Rattle.irq_io.specs.Told.{IsBeginning}
use Rattle.irq_io.specs.declared.whole.ReadRefused.{ReadRefused}
use Rattle.irq_io.specs.declared.whole.ReadRefused.TheVariants as refusals
use Rattle.irq_io.specs.declared.whole.WriteFailed.{WriteFailed}

-- whether a reading ended with a fault
abbrev pub met_fault : {T : Type 0} → Result T ReadRefused → Bool
met_fault (Ok v) = false
met_fault (Err refusals.Fault) = true
met_fault (Err refusals.NoMemory) = false

-- whether a writing ended with a fault
abbrev pub writing_failed : Result Unit WriteFailed → Bool
writing_failed (Ok _) = false
writing_failed (Err _) = true

-- if a writing with a flush after it is done, the sink keeps nothing back
abbrev pub KeepsNone : List ℕ → Result Unit WriteFailed → Type 0
KeepsNone kept (Ok _) = kept ≡ []
KeepsNone kept (Err _) = Unit {0}

-- if the source tells what is left: the bytes are the first `most` of it, or all of it, and exactly
-- these were taken
abbrev pub TakesUpTo : ℕ → Option (List ℕ) → Option (List ℕ) → List ℕ → Type 0
TakesUpTo most None now bytes = Unit {0}
TakesUpTo most (Some before) now bytes =
    (bytes ≡ take most before) × (now ≡ Some (drop most before))

-- if the source tells what is left: what was taken is a beginning of it, of at most `most` bytes
abbrev pub TakesAtMost : ℕ → Option (List ℕ) → Option (List ℕ) → Type 0
TakesAtMost most None now = Unit {0}
TakesAtMost most (Some before) now =
    (taken : List ℕ) × (rest : List ℕ) × (length taken ≤ most) × (before ≡ taken ++ rest)
    × (now ≡ Some rest)

-- if the sink tells its content: it grew by the bytes, or after a fault by a beginning of them
abbrev pub WritesAll : Option (List ℕ) → Option (List ℕ) → List ℕ → Result Unit WriteFailed
    → Type 0
WritesAll None now bytes end = Unit {0}
WritesAll (Some before) now bytes (Ok _) = now ≡ Some (before ++ bytes)
WritesAll (Some before) now bytes (Err _) =
    (taken : List ℕ) × IsBeginning taken bytes × (now ≡ Some (before ++ taken))
