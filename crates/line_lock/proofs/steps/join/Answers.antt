use Rattle.std.proofs.Common.{Option, arith, refl, ap, ◌∙◌}
use Rattle.atomic_table.specs.Table.{Me}
use Rattle.line_lock.specs.declared.view.View.{View}
use Rattle.line_lock.specs.Rule.{spent_view}
use Rattle.line_lock.proofs.Turning.{join_step, learn_step}
use Rattle.line_lock.proofs.steps.join.Goals as goal

pub join_seat-requires : goal.join_seat-requires
join_seat-requires g c = (
  c.requires.table.0,
  c.requires.table.1,
  c.requires.idle.4,
  omega arith,
  join_step g.T.Kept.definition
      g.T.Kept.entries c.args.lock.now.key c.args.seat.now.id c.args.other.id c.args.seat.now.me.0 c.args.other.me.0
      spent_view c.requires.actor.0 c.requires.idle.1 c.requires.first c.requires.idle.0 c.requires.idle.3
      c.requires.actor.1 c.requires.idle.2 refl refl,
)

pub load-requires : goal.load-requires
load-requires g c =
    let same = c.join_seat.ensures.2 in (
      c.join_seat.ensures.0 ∙ c.requires.table.0,
      omega arith,
      learn_step g.T.Kept.definition g.T.Kept.entries
          c.args.lock.now.key c.args.lock.now.table_id.slots c.join_seat.new.seat.id c.join_seat.new.seat.me
          (ap {A = Me (Option g.row.T.Denot) View} (λ m. m.0.spent) same ∙ c.requires.idle.1)
          (ap {A = Me (Option g.row.T.Denot) View} (λ m. m.0.knows.actor) same ∙ c.requires.first),
    )
