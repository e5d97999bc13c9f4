use Rattle.std.proofs.Common.{length, map, ap, ◌∙◌, arith}
use Rattle.std.proofs.lemmas.List.{length-set}
use Rattle.board_ready.specs.Seen.{ReadySeen}
use Rattle.board_core.proofs.Readiness.{more_lines, seen_at}
use Rattle.board_core.proofs.refreshing.ask_lines.Goals as goal

pub loop-k-preserved : goal.loop-k-preserved
loop-k-preserved g c =
    let set = ap (λ (r : ReadySeen). r.lines) c.set_line.ensures in
    record {
      lines = more_lines (map g.L.IrqLine.seen c.args.lines.now) c.loop-k.k (g.L.IrqLine.seen c.index-lines-k.result)
          c.readiness_of.result c.loop-k.ready c.set_line.new.self
          (seen_at g.L.IrqLine.seen c.args.lines.now c.loop-k.k c.index-lines-k.result c.loop-k-test.true
          c.index-lines-k.is) (omega (arith, c.loop-k-test.true, c.loop-k.invariant.all, c.requires))
          c.readiness_of.ensures set c.loop-k.invariant.lines;
      all = ap (λ ps. length ps) set ∙ (length-set c.loop-k.ready.lines c.loop-k.k c.readiness_of.result ∙ c.loop-k.invariant.all);
      drivers = ap (λ (r : ReadySeen). r.drivers) c.set_line.ensures ∙ c.loop-k.invariant.drivers;
    }
