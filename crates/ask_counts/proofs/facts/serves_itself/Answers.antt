use Rattle.std.proofs.Common.{◌+◌, ◌||◌, sym, ap, ◌∙◌, arith}
use Rattle.device_table.proofs.Steps.{none_left}
use Rattle.ask_counts.proofs.FactRows.{any_from, any_next}
use Rattle.ask_counts.proofs.facts.serves_itself.Goals as goal
use Rattle.ask_counts.proofs.facts.serves_itself.Goals.{in-Some+else-is_own_serve, in_default}

pub returns-then-is_own_serve : goal.returns-then-is_own_serve
returns-then-is_own_serve c =
    let runs = c.args.runs.now in
    sym (c.loop-i.invariant
    ∙ (any_next c.args.dev c.args.part runs c.loop-i.i _ (sym c.in-Some.ensures)
    ∙ ap (λ b. b || any_from c.args.dev c.args.part runs (c.loop-i.i + 1)) (sym c.is_own_serve.ensures ∙ c.if-is_own_serve.true)))

pub loop-i-preserved : goal.loop-i-preserved
loop-i-preserved c =
    let runs = c.args.runs.now in
    elim c.match-get.branch [
      | in-Some+else-is_own_serve w ↦
          c.loop-i.invariant
          ∙ (any_next c.args.dev c.args.part runs c.loop-i.i _ (sym w.in-Some.ensures)
          ∙ ap (λ b. b || any_from c.args.dev c.args.part runs (c.loop-i.i + 1)) (sym w.is_own_serve.ensures ∙ w.if-is_own_serve.false))
      | in_default w ↦ none_left runs c.loop-i.i (omega (arith, c.loop-i-test.true, c.len-i-end.ensures)) (sym w.in_default.ensures)
    ]
