-- Numbers from 1, doubled or raised by one, up to a limit.
use Rattle.std.specs.Prelude.{ℕ, ◌+◌, ◌≤◌, List, [], ◌∷◌}
use Rattle.part_tests.specs.declared.numbers.Step.{Step}
use Rattle.part_tests.specs.declared.numbers.Step.TheVariants as steps

-- the number after a step
abbrev pub stepped : Step → ℕ → ℕ
stepped steps.Double n = n + n
stepped steps.AddOne n = n + 1

-- the number to which the steps lead, the newest first
abbrev pub number : List Step → ℕ
number [] = 1
number (s ∷ g) = stepped s (number g)

-- a step leads to no number above the limit
abbrev pub CanStep : ℕ → Step → List Step → Type 0
CanStep limit s g = stepped s (number g) ≤ limit
