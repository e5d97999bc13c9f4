use Rattle.std.proofs.Common.{◌+◌, ◌||◌, sym, ap, ◌∙◌, arith}
use Rattle.device_table.proofs.Steps.{none_left}
use Rattle.line_words.proofs.Quiets.{any_from, any_next, any_end}
use Rattle.line_words.proofs.more.turns_off.Goals as goal
use Rattle.line_words.proofs.more.turns_off.Goals.{in-Some+else-is_quiet_call, in_default}

pub returns-then-is_quiet_call : goal.returns-then-is_quiet_call
returns-then-is_quiet_call c =
    let calls = c.args.calls.now in
    sym (c.loop-i.invariant
    ∙ (any_next calls c.loop-i.i _ (sym c.in-Some.ensures)
    ∙ ap (λ b. b || any_from calls (c.loop-i.i + 1)) (sym c.is_quiet_call.ensures ∙ c.if-is_quiet_call.true)))

pub loop-i-preserved : goal.loop-i-preserved
loop-i-preserved c =
    let calls = c.args.calls.now in
    elim c.match-get.branch [
      | in-Some+else-is_quiet_call w ↦
          c.loop-i.invariant
          ∙ (any_next calls c.loop-i.i _ (sym w.in-Some.ensures)
          ∙ ap (λ b. b || any_from calls (c.loop-i.i + 1)) (sym w.is_quiet_call.ensures ∙ w.if-is_quiet_call.false))
      | in_default w ↦ none_left calls c.loop-i.i (omega (arith, c.loop-i-test.true, c.len-i-end.ensures)) (sym w.in_default.ensures)
    ]

pub returns : goal.returns
returns c = sym (c.loop-i.invariant ∙ any_end c.args.calls.now c.loop-i.i (omega (arith, c.loop-i-test.false, c.len-i-end.ensures)))
