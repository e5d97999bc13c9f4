use Rattle.std.proofs.Common.{ap, sym, ◌∙◌, arith}
use Rattle.device_table.proofs.Steps.{none_left}
use Rattle.device_table.specs.Rows.{change}
use Rattle.line_state.specs.Seen.{LineStateSeen}
use Rattle.ask_counts.specs.declared.rows.AskRow.{AskRow}
use Rattle.line_words.proofs.Loops.{asks_next, with_asks}
use Rattle.line_words.proofs.rows.put_asks.Goals as goal
use Rattle.line_words.proofs.rows.put_asks.Goals.{in-Some, in_default}

pub loop-i-preserved : goal.loop-i-preserved
loop-i-preserved c =
    let s = c.loop-i.state in
    elim c.match-get.branch [
      | in-Some w ↦
          let row : AskRow → LineStateSeen = λ r. with_asks (change (λ _. r) s.state.asks w.in-Some.device.dev) s in
          asks_next c.args.devices.now c.loop-i.i w.in-Some.device (sym w.in-Some.ensures) s c.match-get.state
          c.loop-i.left.now c.behind-left.result.now c.behind-left.ensures
          ((w.state-is ∙ w.put_asks.ensures) ∙ ap row w.asks.ensures)
          ∙ c.loop-i.invariant
      | in_default w ↦ none_left c.args.devices.now c.loop-i.i (omega (arith, c.loop-i-test.true, c.len-i-end.ensures)) (sym w.in_default.ensures)
    ]
