use Rattle.std.proofs.Common.{ℕ, List, Vec, Global, ◌++◌, refl, ap, sym, ◌∙◌, arith}
use Rattle.device_table.proofs.Steps.{none_left}
use Rattle.line_futures.specs.Canon.{canon}
use Rattle.line_words.proofs.Loops.{rows_next}
use Rattle.line_words.specs.Told.{quiet_told}
use Rattle.line_words.proofs.more.write_quiets.Goals as goal
use Rattle.line_words.proofs.more.write_quiets.Goals.{in-Some+in_ok-push, in_default}

pub loop-i-preserved : goal.loop-i-preserved
loop-i-preserved c =
    elim c.match-get.branch [
      | in-Some+in_ok-push w ↦
          rows_next (quiet_told (canon c.args.state.now.state)) (λ d rest. refl) c.args.devices.now c.loop-i.i w.in-Some.device (sym w.in-Some.ensures)
          c.loop-i.words.items c.match-get.words.items
          (ap (λ (v : Vec ℕ Global). v.items) w.words-is
          ∙ (w.in_ok-push.ensures.items ∙ ap (λ (k : List ℕ). c.loop-i.words.items ++ k) w.quiet.ensures))
          ∙ c.loop-i.invariant
      | in_default w ↦ none_left c.args.devices.now c.loop-i.i (omega (arith, c.loop-i-test.true, c.len-i-end.ensures)) (sym w.in_default.ensures)
    ]
