use Rattle.std.proofs.Common.{◌≡◌, ℕ, Some, List, sym, subst, ◌∙◌, arith}
use Rattle.irq_base.specs.declared.numbers.DevNo.{DevNo}
use Rattle.device_table.specs.Rows.{at}
use Rattle.device_table.specs.Sums.{one_if}
use Rattle.device_table.proofs.Lowest.{own_put}
use Rattle.device_table.proofs.Weights.{weight_put, weight_has, weight_few, length_put}
use Rattle.act_thread.specs.Steps.{active_row, is_ready, is_returned}
use Rattle.act_thread.specs.declared.rows.ThreadRow.{ThreadRow}
use Rattle.act_thread.proofs.Marking.{marked_put}
use Rattle.act_thread.proofs.Numbering.{rank_put}
use Rattle.act_thread.proofs.Changing.{at_most_two, held_few, ranked_put}
use Rattle.act_thread.proofs.threads.Threads.replace.Goals as goal

abbrev held_row : ThreadRow → ℕ
held_row r = one_if r.held

pub overflow_add-self : goal.overflow_add-self
overflow_add-self c =
    let few = weight_few active_row c.self.inside.rows at_most_two in
    let part = at_most_two c.args.new in
    omega (arith, c.self.invariant.active, c.self.invariant.few, few, part, c.active_part.ensures)

pub overflow_sub-self : goal.overflow_sub-self
overflow_sub-self c =
    let there = subst (λ (t : List (DevNo × ThreadRow)). at t c.args.dev ≡ Some c.args.old) (sym c.self.view_is) c.requires in
    let has = weight_has active_row c.self.inside.rows c.args.dev c.args.old there in
    omega (arith, c.self.invariant.active, has, c.active_part-2.ensures)

pub overflow_add-self-2 : goal.overflow_add-self-2
overflow_add-self-2 c =
    let few = weight_few held_row c.self.inside.rows held_few in
    let part = held_few c.args.new in
    omega (arith, c.self.invariant.held, c.self.invariant.few, few, part, c.held_part.ensures)

pub overflow_sub-self-2 : goal.overflow_sub-self-2
overflow_sub-self-2 c =
    let there = subst (λ (t : List (DevNo × ThreadRow)). at t c.args.dev ≡ Some c.args.old) (sym c.self.view_is) c.requires in
    let has = weight_has held_row c.self.inside.rows c.args.dev c.args.old there in
    omega (arith, c.self.invariant.held, has, c.held_part-2.ensures)

pub invariant_of-self : goal.invariant_of-self
invariant_of-self c =
    let i = c.self.inside in
    let kept = c.self.invariant in
    let there = subst (λ (t : List (DevNo × ThreadRow)). at t c.args.dev ≡ Some c.args.old) (sym c.self.view_is) c.requires in
    let active = weight_put active_row i.rows c.args.dev c.args.old c.args.new there in
    let held = weight_put held_row i.rows c.args.dev c.args.old c.args.new there in
    let more = length_put i.rows c.args.dev c.args.new in
    let mine = kept.ranked c.args.dev c.args.old there in
    rw c.set.ensures
    (record {
      active = omega (arith, active, kept.active, c.active_part.ensures, c.active_part-2.ensures);
      held = omega (arith, held, kept.held, c.held_part.ensures, c.held_part-2.ensures);
      few = omega (arith, more, kept.few);
      own = own_put i.rows c.args.dev c.args.new kept.own;
      ranking = kept.ranking;
      numbered = λ d. kept.numbered d ∙ sym (rank_put i.rows d c.args.dev c.args.old c.args.new there);
      ranked = ranked_put i.rows i.ranks c.args.dev c.args.old c.args.new there kept.ranked;
      readies = marked_put is_ready i.rows i.ranks i.ready c.mark.new.ready c.args.dev c.args.old c.args.new mine.0
          kept.ranking there mine.1 kept.readies c.mark.ensures.ready;
      returns = marked_put is_returned i.rows i.ranks i.returned c.mark.new.returned c.args.dev c.args.old c.args.new
          mine.0 kept.ranking there mine.1 kept.returns c.mark.ensures.returned;
    })
