use Rattle.std.proofs.Common.{◌≡◌, ◌≤◌, Bool, true, false, Some, List, sym, subst, arith}
use Rattle.irq_base.specs.declared.numbers.DevNo.{DevNo}
use Rattle.device_table.specs.Rows.{at}
use Rattle.device_table.specs.Sums.{one_if}
use Rattle.device_table.proofs.Weights.{weight_put, weight_has, weight_few, length_put}
use Rattle.ask_counts.specs.Rows.{is_waiting}
use Rattle.ask_counts.specs.declared.rows.AskRow.{AskRow}
use Rattle.ask_counts.proofs.asks.Asks.replace.Goals as goal

at_most_two : (b : Bool) → one_if b ≤ 2
at_most_two true = omega arith
at_most_two false = omega arith

pub overflow_add-self : goal.overflow_add-self
overflow_add-self c =
    let few = weight_few (λ (r : AskRow). one_if (is_waiting r)) c.self.inside.rows (λ r. at_most_two (is_waiting r)) in
    let part = at_most_two (is_waiting c.args.new) in
    omega (arith, c.self.invariant.waiting, c.self.invariant.few, few, part, c.waiting_part.ensures)

pub overflow_sub-self : goal.overflow_sub-self
overflow_sub-self c =
    let found = subst (λ (t : List (DevNo × AskRow)). at t c.args.dev ≡ Some c.args.old) (sym c.self.view_is) c.requires in
    let has = weight_has (λ (r : AskRow). one_if (is_waiting r)) c.self.inside.rows c.args.dev c.args.old found in
    omega (arith, c.self.invariant.waiting, has, c.waiting_part-2.ensures)

pub invariant_of-self : goal.invariant_of-self
invariant_of-self c =
    let t = c.self.inside.rows in
    let found = subst (λ (t : List (DevNo × AskRow)). at t c.args.dev ≡ Some c.args.old) (sym c.self.view_is) c.requires in
    let n = weight_put (λ (r : AskRow). one_if (is_waiting r)) t c.args.dev c.args.old c.args.new found in
    let more = length_put t c.args.dev c.args.new in
    rw c.set.ensures
    (record {
      waiting = omega (arith, n, c.self.invariant.waiting, c.waiting_part.ensures, c.waiting_part-2.ensures);
      few = omega (arith, more, c.self.invariant.few);
    })
