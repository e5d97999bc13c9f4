use Rattle.std.proofs.Common.{rules, slice_set, ap}
use Rattle.board_core.proofs.InLists.{read_at}
use Rattle.board_core.proofs.Placed.{join_fits, one_joined, all_joined}
use Rattle.board_core.proofs.placing.join.Goals as goal

pub join-requires : goal.join-requires
join-requires c =
    let at = read_at c.loop-j.scripts.items {k = c.loop-j.j} (search rules) c.index_mut.ensures.value in
    let at_own = read_at c.args.own.now {k = c.loop-j.j} (search rules) c.index-own-j.is in
    join_fits c.requires.fits c.loop-j.invariant at at_own

pub loop-j-preserved : goal.loop-j-preserved
loop-j-preserved c =
    let at = read_at c.loop-j.scripts.items {k = c.loop-j.j} (search rules) c.index_mut.ensures.value in
    let at_own = read_at c.args.own.now {k = c.loop-j.j} (search rules) c.index-own-j.is in
    one_joined at at_own (ap (λ s. slice_set c.loop-j.scripts.items c.loop-j.j s) c.join.ensures) c.loop-j.invariant

pub returns : goal.returns
returns c = all_joined {n = c.loop-j.j} (search rules) c.loop-j.invariant
