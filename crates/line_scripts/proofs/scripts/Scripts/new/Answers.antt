use Rattle.std.proofs.Common.{◌≡◌, ◌+◌, ◌++◌, [], ◌∷◌, if◌then◌else◌, take, sym, ap, ◌∙◌, arith}
use Rattle.irq_base.specs.declared.calls.Call.{Call}
use Rattle.irq_base.specs.declared.numbers.DriverNo.{DriverNo}
use Rattle.irq_model.specs.Bounds.{is_ask_call}
use Rattle.irq_model.specs.Due.{calls_by}
use Rattle.irq_model.specs.Places.{count_of}
use Rattle.line_scripts.specs.Rows.{unbegun, row_of, asks_left}
use Rattle.line_scripts.proofs.RowSteps.{rows_more, take_item, count_last, some_item}
use Rattle.line_scripts.proofs.scripts.Scripts.new.Goals as goal
use Rattle.line_scripts.proofs.scripts.Scripts.new.Goals.{in-Some+in_ok-add, in_default}

pub loop-i-preserved : goal.loop-i-preserved
loop-i-preserved c =
    elim c.match-get.branch [
      | in-Some+in_ok-add w ↦
          let who = w.in-Some.who in
          let call = w.in-Some.call in
          let done = take c.loop-i.i c.args.calls.now in
          let more : take (c.loop-i.i + 1) c.args.calls.now ≡ done ++ (who, call) ∷ [] = take_item c.args.calls.now c.loop-i.i _ (sym w.in-Some.ensures) in
          let added = w.in_ok-add.ensures in
          record {
            rows = λ r.
                ap (λ s. row_of s r) w.scripts-is
                ∙ (rows_more c.loop-i.scripts w.add.new.self done who call c.loop-i.invariant.rows added.own
                added.others r ∙ ap (λ xs. unbegun (calls_by r xs)) (sym more));
            asks =
                ap asks_left w.scripts-is
                ∙ (added.asks ∙ (ap (λ n. n + (if is_ask_call call then 1 else 0)) c.loop-i.invariant.asks
                ∙ (sym (count_last (λ (x : DriverNo × Call). is_ask_call x.1) done (who, call))
                ∙ ap (λ xs. count_of (λ (x : DriverNo × Call). is_ask_call x.1) xs) (sym more))));
          }
      | in_default w ↦ some_item c.args.calls.now c.loop-i.i (omega (arith, c.loop-i-test.true, c.len-i-end.ensures)) (sym w.in_default.ensures)
    ]
