use Rattle.std.proofs.Common.{◌≡◌, ◌+◌, ℕ, take, ap, sym, ◌∙◌, arith}
use Rattle.std.specs.List.{sum_by}
use Rattle.device_table.proofs.Steps.{none_left}
use Rattle.device_table.specs.Rows.{at}
use Rattle.irq_base.specs.declared.devices.DeviceDef.{DeviceDef}
use Rattle.line_survey.proofs.Lists.{sum_next}
use Rattle.line_survey.specs.LeftSeen.{unserved_seen}
use Rattle.line_survey.proofs.leaving.unserved.Goals as goal
use Rattle.line_survey.proofs.leaving.unserved.Goals.{in-Some, in_default}

pub loop-i-preserved : goal.loop-i-preserved
loop-i-preserved c =
    elim c.match-get.branch [
      | in-Some w ↦
          let f : DeviceDef → ℕ = λ x. unserved_seen (at c.args.state.now.state.asks x.dev) in
          let next = sum_next f c.args.def.now.devices c.loop-i.i w.in-Some.device (sym w.in-Some.ensures) in
          let own : w.unserved_of-sum.result ≡ f w.in-Some.device =
          w.unserved_of-sum.ensures.count
          ∙ ap unserved_seen (w.get-in-Some.ensures ∙ ap (λ t. at t w.in-Some.device.dev) w.asks.ensures) in
          record {
            sum = w.sum-is ∙ (ap (λ n. n + w.unserved_of-sum.result) c.loop-i.invariant.sum
                ∙ (ap (λ n. sum_by f (take c.loop-i.i c.args.def.now.devices) + n) own ∙ sym next));
            small = omega (arith, w.sum-is, w.unserved_of-sum.ensures.few, c.loop-i.invariant.small);
          }
      | in_default w ↦ none_left c.args.def.now.devices c.loop-i.i (omega (arith, c.loop-i-test.true, c.len-i-end.ensures)) (sym w.in_default.ensures)
    ]
