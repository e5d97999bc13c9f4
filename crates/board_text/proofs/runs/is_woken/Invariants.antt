use Rattle.std.proofs.Common.{◌≡◌, drop}
use Rattle.std.specs.List.{list_any}
use Rattle.board_def.specs.Runs.{wakes_by_call}
use Rattle.board_text.proofs.runs.is_woken.Given as goal

abbrev pub invariant-loop-call : goal.invariant-loop-call
invariant-loop-call l = list_any (wakes_by_call l.dev) l.runs ≡ list_any (wakes_by_call l.dev) (drop l.call-index l.runs)
