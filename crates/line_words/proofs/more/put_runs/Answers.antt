use Rattle.std.proofs.Common.{ap, sym, ◌∙◌, arith}
use Rattle.device_table.proofs.Steps.{none_left}
use Rattle.device_table.specs.Rows.{change}
use Rattle.line_state.specs.Seen.{LineStateSeen}
use Rattle.run_scripts.specs.declared.rows.RunRow.{RunRow}
use Rattle.line_words.proofs.Loops.{runs_next, with_run_rows}
use Rattle.line_words.proofs.more.put_runs.Goals as goal
use Rattle.line_words.proofs.more.put_runs.Goals.{in-Some, in_default}

pub loop-i-preserved : goal.loop-i-preserved
loop-i-preserved c =
    let s = c.loop-i.state in
    elim c.match-get.branch [
      | in-Some w ↦
          let row : RunRow → LineStateSeen = λ r. with_run_rows (change (λ _. r) s.state.places.rows w.in-Some.device.dev) s in
          runs_next c.args.devices.now c.loop-i.i w.in-Some.device (sym w.in-Some.ensures) s c.match-get.state
          c.loop-i.left.now c.behind-left.result.now c.behind-left.ensures
          ((w.state-is ∙ w.put_run.ensures) ∙ ap row w.run.ensures)
          ∙ c.loop-i.invariant
      | in_default w ↦ none_left c.args.devices.now c.loop-i.i (omega (arith, c.loop-i-test.true, c.len-i-end.ensures)) (sym w.in_default.ensures)
    ]
