use Rattle.std.proofs.Common.{◌≡◌, ℕ, ◌<◌, false}
use Rattle.board_ready.specs.Ready.{is_cpu_ready}
use Rattle.board_ready.proofs.ready.ReadyActors.lowest_that_moves.Given as goal

abbrev pub invariant-loop-cpu : goal.invariant-loop-cpu
invariant-loop-cpu l = (i : ℕ) → i < l.cpu → is_cpu_ready l.self.lines i ≡ false
