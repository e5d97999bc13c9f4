use Rattle.std.proofs.Common.{◌≡◌, ◌*◌, ◌^◌, ◌≤◌, take}
use Rattle.std.specs.List.{sum_by}
use Rattle.device_table.specs.Rows.{at}
use Rattle.line_survey.specs.LeftSeen.{unserved_seen}
use Rattle.line_survey.proofs.leaving.unserved.Given as goal

abbrev pub invariant-loop-i : goal.invariant-loop-i
invariant-loop-i l = record {
  sum : l.sum ≡ sum_by (λ x. unserved_seen (at l.state.state.asks x.dev)) (take l.i l.def.devices);
  small : l.sum ≤ l.i * 2 ^ 32;
}
