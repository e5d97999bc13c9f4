-- What the generator draws.
use Rattle.std.specs.Prelude.{ℕ, zero, suc, ◌+◌, ◌*◌, ◌/◌, ◌%◌}

-- x after a draw
abbrev pub next_x : ℕ → ℕ
next_x x = (1664525 * x + 1013904223) % 4294967296

-- x after n draws
abbrev pub x_after : ℕ → ℕ → ℕ
x_after zero x = x
x_after (suc k) x = next_x (x_after k x)

-- what a draw below m gives; x is the generator's state after it
abbrev pub drawn : ℕ → ℕ → ℕ
drawn m x = x / 65536 % m

-- what draw number k gives, counted from 1, if x is the first x: a number below m
abbrev pub draw : ℕ → ℕ → ℕ → ℕ
draw k m x = drawn m (x_after k x)
