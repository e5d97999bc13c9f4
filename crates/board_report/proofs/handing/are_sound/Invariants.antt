use Rattle.std.proofs.Common.{◌≡◌, ℕ, ◌<◌, Some, map, slice_get}
use Rattle.irq_line.specs.Seen.{LineSeen, IsSound}
use Rattle.board_report.proofs.handing.are_sound.Given as goal

abbrev pub invariant-loop-i : goal.invariant-loop-i
invariant-loop-i g l = (k : ℕ) (x : LineSeen) → k < l.i → slice_get (map g.L.IrqLine.seen l.lines) k ≡ Some x → IsSound x
