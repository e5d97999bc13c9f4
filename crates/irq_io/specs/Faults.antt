-- The counts of faults, which never fall.
use Rattle.std.specs.Prelude.{◌≡◌, ℕ, ◌+◌, ◌-◌, ◌^◌, ◌≤◌, min, Bool, true, false}

-- the next value of a counter of 64 bits; the greatest value stays
abbrev pub next_count : ℕ → ℕ
next_count n = min (n + 1) (2 ^ 64 - 1)

-- the count has risen, or is the greatest of its type
abbrev pub Rose : ℕ → ℕ → Type 0
Rose before now = next_count before ≤ now

-- a call that failed made the count rise; any other call left it as it was
abbrev pub Counts : ℕ → ℕ → Bool → Type 0
Counts before now true = (before ≤ now) × Rose before now
Counts before now false = now ≡ before

-- the count after a call, exactly: a fault adds one
abbrev pub count_after : ℕ → Bool → ℕ
count_after before true = next_count before
count_after before false = before
