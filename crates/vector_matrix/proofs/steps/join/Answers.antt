use Rattle.std.proofs.Common.{ℕ, ap, ◌∙◌}
use Rattle.atomic_table.specs.Table.{Me}
use Rattle.vector_matrix.specs.declared.view.View.{View}
use Rattle.vector_matrix.proofs.Stepping.{join_step, learn_step}
use Rattle.vector_matrix.proofs.steps.join.Goals as goal

pub join_seat-requires : goal.join_seat-requires
join_seat-requires c = (
  c.requires.table.0,
  c.requires.table.1,
  c.requires.fork.2,
  c.requires.some,
  join_step c.args.words.now.key
      c.args.seat.now.id c.args.other.id c.args.seat.now.me.0 c.args.other.me.0 c.requires.first.0 c.requires.first.1
      c.requires.fork.0,
)

pub load-requires : goal.load-requires
load-requires c = (
  c.join_seat.ensures.0 ∙ c.requires.table.0,
  c.requires.some,
  learn_step c.args.words.now.key
      c.args.words.now.table_id.slots c.join_seat.new.seat.id c.join_seat.new.seat.me
      (ap {A = Me ℕ View} (λ m. m.0.spent) c.join_seat.ensures.2 ∙ c.requires.first.0),
)
