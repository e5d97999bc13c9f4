use Rattle.std.proofs.Common.{Bool, ap, sym, ◌∙◌, arith}
use Rattle.device_table.proofs.Steps.{none_left}
use Rattle.ask_counts.specs.Rows.{turned_off}
use Rattle.line_state.specs.Seen.{LineStateSeen}
use Rattle.line_words.specs.Reading.{mark_if}
use Rattle.line_words.proofs.Loops.{quiets_next, with_asks}
use Rattle.line_words.proofs.more.put_quiets.Goals as goal
use Rattle.line_words.proofs.more.put_quiets.Goals.{in-Some+then-bit, in-Some+else-bit, in_default}

pub loop-i-preserved : goal.loop-i-preserved
loop-i-preserved c =
    let s = c.loop-i.state in
    elim c.match-get.branch [
      | in-Some+then-bit w ↦
          let marked : Bool → LineStateSeen = λ b. with_asks (mark_if turned_off b s.state.asks w.in-Some.device.dev) s in
          quiets_next c.args.devices.now c.loop-i.i w.in-Some.device (sym w.in-Some.ensures) s c.match-get.state
          c.loop-i.left.now c.behind-left.result.now c.behind-left.ensures
          ((w.state-is ∙ w.turn_off.ensures) ∙ ap marked (sym w.if-bit.true ∙ w.bit.ensures))
          ∙ c.loop-i.invariant
      | in-Some+else-bit w ↦
          let marked : Bool → LineStateSeen = λ b. with_asks (mark_if turned_off b s.state.asks w.in-Some.device.dev) s in
          quiets_next c.args.devices.now c.loop-i.i w.in-Some.device (sym w.in-Some.ensures) s c.match-get.state
          c.loop-i.left.now c.behind-left.result.now c.behind-left.ensures
          (w.state-is ∙ ap marked (sym w.if-bit.false ∙ w.bit.ensures))
          ∙ c.loop-i.invariant
      | in_default w ↦ none_left c.args.devices.now c.loop-i.i (omega (arith, c.loop-i-test.true, c.len-i-end.ensures)) (sym w.in_default.ensures)
    ]
