use Rattle.std.proofs.Common.{map, length, sym, ap, ◌∙◌, subst}
use Rattle.board_core.specs.Placing.{CanJoin, AreJoined}
use Rattle.board_core.specs.Seen.{board_lines}
use Rattle.board_core.proofs.Placed.{none_placed, as_many_own, can_join, placed_next, all_placed_seen, line_seen}
use Rattle.board_core.proofs.placing.place_scripts.Goals as goal

pub join-requires-clause-many : goal.join-requires-clause-many
join-requires-clause-many g c =
    let f = g.L.IrqLine.seen in
    let at = line_seen f c.args.lines.now c.loop-k.k c.index-lines-k.result c.loop-k-test.true c.index-lines-k.is in
    as_many_own (board_lines (map f c.args.lines.now)) c.loop-k.k at c.loop-k.invariant c.requires.drivers c.in_ok-own.ensures
    ∙ ap (λ (ss : _). length ss) (sym c.deref.ensures.value)

pub join-requires-clause-fits : goal.join-requires-clause-fits
join-requires-clause-fits g c =
    let f = g.L.IrqLine.seen in
    let at = line_seen f c.args.lines.now c.loop-k.k c.index-lines-k.result c.loop-k-test.true c.index-lines-k.is in
    subst (λ ss. CanJoin ss c.loop-k.scripts.items) (sym c.deref.ensures.value)
    (can_join (board_lines (map f c.args.lines.now)) c.loop-k.k at c.loop-k.invariant c.requires.drivers c.in_ok-own.ensures c.requires.room)

pub loop-k-init : goal.loop-k-init
loop-k-init g c = none_placed c.args.scripts.now.items

pub loop-k-preserved : goal.loop-k-preserved
loop-k-preserved g c =
    let f = g.L.IrqLine.seen in
    let at = line_seen f c.args.lines.now c.loop-k.k c.index-lines-k.result c.loop-k-test.true c.index-lines-k.is in
    placed_next (board_lines (map f c.args.lines.now)) c.loop-k.k at c.loop-k.invariant c.requires.drivers c.in_ok-own.ensures
    (subst (λ ss. AreJoined ss c.loop-k.scripts.items c.join.new.scripts.items) c.deref.ensures.value c.join.ensures)

pub returns : goal.returns
returns g c = all_placed_seen g.L.IrqLine.seen c.args.lines.now c.loop-k-test.false c.loop-k.invariant
