-- What a read answers, and what the source has left after it.
use Rattle.std.specs.Prelude.{◌≡◌, ℕ, ◌≤◌, Bool, true, false, Option, Some, None, List, []}
use Rattle.std.specs.Prelude.{length, take, drop}
use Rattle.irq_io.specs.declared.sources.ReadAnswer.{ReadAnswer}
use Rattle.irq_io.specs.declared.sources.ReadAnswer.TheVariants as answers

-- whether the read failed
abbrev pub read_failed : ReadAnswer → Bool
read_failed (answers.Got n) = false
read_failed answers.End = false
read_failed answers.Failed = true

-- if bytes came, the fact holds of their number
abbrev pub IfGot : ReadAnswer → (ℕ → Type 0) → Type 0
IfGot (answers.Got n) P = P n
IfGot answers.End P = Unit {0}
IfGot answers.Failed P = Unit {0}

-- at least one byte came, and no more than fit
abbrev pub GotWithin : ℕ → ReadAnswer → Type 0
GotWithin room answer = IfGot answer (λ n. (1 ≤ n) × (n ≤ room))

-- if the source tells what is left: the bytes that came are its first, and are gone from it; the
-- end comes if nothing is left; a fault takes nothing
abbrev pub Reads : Option (List ℕ) → Option (List ℕ) → List ℕ → ReadAnswer → Type 0
Reads None now buf answer = Unit {0}
Reads (Some before) now buf (answers.Got n) =
    (now ≡ Some (drop n before)) × (take n buf ≡ take n before) × (n ≤ length before)
Reads (Some before) now buf answers.End = (before ≡ []) × (now ≡ Some [])
Reads (Some before) now buf answers.Failed = now ≡ Some before
