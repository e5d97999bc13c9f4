use Rattle.std.proofs.Common.{rules, arith, map}
use Rattle.std.proofs.Math.ListN.{length-map}
use Rattle.board_core.proofs.Placed.{no_lengths, one_length, all_lengths}
use Rattle.board_core.proofs.Readiness.{seen_at}
use Rattle.board_core.proofs.moves.lengths_of.Goals as goal

pub loop-k-init : goal.loop-k-init
loop-k-init g c = no_lengths (map g.L.IrqLine.seen c.args.lines.now) _ (search rules)

pub loop-k-preserved : goal.loop-k-preserved
loop-k-preserved g c =
    one_length (map g.L.IrqLine.seen c.args.lines.now) c.loop-k.k (g.L.IrqLine.seen c.index-lines-k.result) c.loop-k.lengths _
    (seen_at g.L.IrqLine.seen c.args.lines.now c.loop-k.k c.index-lines-k.result c.loop-k-test.true c.index-lines-k.is)
    (search rules) (search rules) c.loop-k.invariant

pub returns : goal.returns
returns g c = all_lengths (map g.L.IrqLine.seen c.args.lines.now) c.loop-k.lengths c.loop-k.k
    (let n = length-map c.args.lines.now g.L.IrqLine.seen in let end = c.loop-k-test.false in omega (arith, n, end))
    c.loop-k.invariant
