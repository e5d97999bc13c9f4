use Rattle.std.proofs.Common.{◌≡◌, ◌≤◌, ◌+◌, drop}
use Rattle.irq_model.specs.Places.{count_of}
use Rattle.board_def.specs.Runs.{is_call_of}
use Rattle.board_text.proofs.counting.calls_of.Given as goal

abbrev pub invariant-loop-call : goal.invariant-loop-call
invariant-loop-call l = record {
  counted : l.count + count_of (is_call_of l.dev l.part) (drop l.call-index l.runs) ≡ count_of (is_call_of l.dev l.part) l.runs;
  few : l.count ≤ l.call-index;
}
