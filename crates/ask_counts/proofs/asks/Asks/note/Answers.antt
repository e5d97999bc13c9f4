use Rattle.std.proofs.Common.{◌≡◌, Some, List, sym, subst, ap, arith}
use Rattle.irq_base.specs.declared.numbers.DevNo.{DevNo}
use Rattle.device_table.specs.Rows.{at}
use Rattle.device_table.specs.Sums.{one_if}
use Rattle.device_table.proofs.Weights.{weight_put, length_put}
use Rattle.ask_counts.specs.Rows.{is_waiting}
use Rattle.ask_counts.specs.declared.rows.AskRow.{AskRow}
use Rattle.ask_counts.proofs.asks.Asks.note.Goals as goal

pub invariant_of-self : goal.invariant_of-self
invariant_of-self c =
    let t = c.self.inside.rows in
    let found = subst (λ (t : List (DevNo × AskRow)). at t c.args.dev ≡ Some c.args.old) (sym c.self.view_is) c.requires.there in
    let n = weight_put (λ (r : AskRow). one_if (is_waiting r)) t c.args.dev c.args.old c.args.row found in
    let more = length_put t c.args.dev c.args.row in
    let same = ap one_if c.requires.same in
    rw c.set.ensures
    (record {
      waiting = omega (arith, n, c.self.invariant.waiting, same);
      few = omega (arith, more, c.self.invariant.few);
    })
