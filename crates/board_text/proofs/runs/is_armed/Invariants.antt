use Rattle.std.proofs.Common.{◌≡◌, drop}
use Rattle.std.specs.List.{list_any}
use Rattle.board_def.specs.Runs.{arms_itself}
use Rattle.board_text.proofs.runs.is_armed.Given as goal

abbrev pub invariant-loop-call : goal.invariant-loop-call
invariant-loop-call l = list_any (arms_itself l.dev) l.runs ≡ list_any (arms_itself l.dev) (drop l.call-index l.runs)
