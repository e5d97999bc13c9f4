use Rattle.std.proofs.Common.{ap, sym, ◌∙◌, arith}
use Rattle.device_table.proofs.Steps.{none_left}
use Rattle.device_table.specs.Rows.{change}
use Rattle.line_state.specs.Seen.{LineStateSeen}
use Rattle.act_thread.specs.declared.rows.ThreadRow.{ThreadRow}
use Rattle.line_words.proofs.Loops.{threads_next, with_threads}
use Rattle.line_words.proofs.rows.put_threads.Goals as goal
use Rattle.line_words.proofs.rows.put_threads.Goals.{in-Some, in_default}

pub loop-i-preserved : goal.loop-i-preserved
loop-i-preserved c =
    let s = c.loop-i.state in
    elim c.match-get.branch [
      | in-Some w ↦
          let row : ThreadRow → LineStateSeen = λ r. with_threads (change (λ _. r) s.state.threads w.in-Some.device.dev) s in
          threads_next c.args.devices.now c.loop-i.i w.in-Some.device (sym w.in-Some.ensures) s c.match-get.state
          c.loop-i.left.now c.behind-left.result.now c.behind-left.ensures
          ((w.state-is ∙ w.put_thread.ensures) ∙ ap row w.thread.ensures)
          ∙ c.loop-i.invariant
      | in_default w ↦ none_left c.args.devices.now c.loop-i.i (omega (arith, c.loop-i-test.true, c.len-i-end.ensures)) (sym w.in_default.ensures)
    ]
