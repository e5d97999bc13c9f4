use Rattle.std.proofs.Common.{◌≡◌, take}
use Rattle.board_driver.specs.Longer.{with_last_driver}
use Rattle.board_driver.proofs.adding.with_last_driver.Given as goal

-- the calls so far are there
abbrev pub invariant-loop-call : goal.invariant-loop-call
invariant-loop-call l = l.longer ≡ with_last_driver l.fn.board (take l.call-index l.calls)
