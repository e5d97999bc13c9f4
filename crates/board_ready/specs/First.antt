-- The first number that passes a test.
use Rattle.std.specs.Prelude.{ℕ, zero, suc, ◌+◌, Bool, if◌then◌else◌, Option, Some, None}

-- the first of n numbers from k on that passes
abbrev pub first_from : (ℕ → Bool) → ℕ → ℕ → Option ℕ
first_from p k zero = None
first_from p k (suc n) = if p k then Some k else first_from p (k + 1) n

-- the first of the numbers below n that passes
abbrev pub first_of : (ℕ → Bool) → ℕ → Option ℕ
first_of p n = first_from p 0 n
