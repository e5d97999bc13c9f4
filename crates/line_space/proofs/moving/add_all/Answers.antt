use Rattle.std.proofs.Common.{arith}
use Rattle.std.proofs.lemmas.Option.{slice_get-get_or}
use Rattle.line_space.proofs.Adding.{first_added}
use Rattle.line_space.proofs.moving.add_all.Goals as goal

pub loop-actor-init : goal.loop-actor-init
loop-actor-init c = record {
  kept = c.in_ok-add_due.ensures.kept;
  found = λ past legal same few.
      first_added c.args.def.now past c.args.actors.now _ c.in-len1-up.len_at_least
      (slice_get-get_or c.args.actors.now 0 _ (omega (arith, c.in-len1-up.len_at_least))) c.args.found.now c.add_due.new.found
      (c.in_ok-add_due.ensures.found past legal same few);
}
