use Rattle.std.proofs.Common.{map, subst, sym, arith}
use Rattle.std.proofs.Math.ListN.{length-map}
use Rattle.irq_base.specs.declared.lines.LineDef.{LineDef}
use Rattle.board_play.specs.Hanging.{IsFirstHung}
use Rattle.board_core.specs.Seen.{board_lines}
use Rattle.board_core.proofs.HungLines.{first_hung, nobody_hangs, nobody_more}
use Rattle.board_core.proofs.Readiness.{seen_at}
use Rattle.board_core.proofs.ends.end_of.Goals as goal

pub loop-line-preserved : goal.loop-line-preserved
loop-line-preserved g c =
    nobody_more (map g.L.IrqLine.seen c.args.lines.now) c.loop-line.line-index (g.L.IrqLine.seen c.line-item.result)
    (seen_at g.L.IrqLine.seen c.args.lines.now c.loop-line.line-index c.line-item.result c.loop-line-test.true c.line-item.is)
    c.loop-line.invariant c.in_default.ensures

pub returns-in-Some : goal.returns-in-Some
returns-in-Some g c =
    subst (λ (def : LineDef). IsFirstHung (board_lines (map g.L.IrqLine.seen c.args.lines.now)) def.line c.in-Some.actor) (sym c.definition.ensures)
    (first_hung (map g.L.IrqLine.seen c.args.lines.now) c.loop-line.line-index (g.L.IrqLine.seen c.line-item.result)
    (seen_at g.L.IrqLine.seen c.args.lines.now c.loop-line.line-index c.line-item.result c.loop-line-test.true c.line-item.is)
    c.loop-line.invariant c.in-Some.actor c.in-Some.ensures)

pub returns : goal.returns
returns g c =
    let long = length-map c.args.lines.now g.L.IrqLine.seen in
    nobody_hangs (map g.L.IrqLine.seen c.args.lines.now) c.loop-line.line-index (omega (arith, long, c.loop-line-test.false)) c.loop-line.invariant
