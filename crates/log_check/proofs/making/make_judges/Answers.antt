use Rattle.std.proofs.Common.{ap, length, ◌∙◌, arith}
use Rattle.log_check.proofs.Lines.{set_length}
use Rattle.log_check.proofs.NewJudges.{all_made, left_after, makes_for, one_made}
use Rattle.log_check.proofs.making.make_judges.Goals as goal

pub make_line-requires : goal.make_line-requires
make_line-requires g c =
    let b = c.args.board.now in
    let inv = c.loop-i.invariant in
    makes_for b c.loop-i.defs.items c.loop-i.i c.index_mut.result.now
    (omega (arith, c.loop-i-test.true, c.len-i-end.ensures, inv.many, ap length c.in_ok-defs.ensures.defs)) inv.many
    (inv.left c.loop-i.i (omega arith)) c.index_mut.ensures.value
    (g.M.MakesLine.makes c.args.maker.now) c.get.result c.args.layout.now c.requires.makes c.requires.layout c.get.ensures

pub loop-i-preserved : goal.loop-i-preserved
loop-i-preserved g c =
    let b = c.args.board.now in
    let inv = c.loop-i.invariant in
    record {
      made =
          one_made b c.loop-i.defs.items c.loop-i.i c.index_mut.result.now
          (omega (arith, c.loop-i-test.true, c.len-i-end.ensures, inv.many, ap length c.in_ok-defs.ensures.defs))
          inv.many (inv.left c.loop-i.i (omega arith)) c.index_mut.ensures.value
          c.loop-i.judges.items c.push.new.self.items c.new.result _ c.get.result c.args.layout.now inv.made
          c.in_ok-push.ensures.items c.in_ok-line.ensures c.new.ensures.line c.new.ensures.first c.requires.layout c.get.ensures;
      many = set_length c.loop-i.defs.items c.loop-i.i c.make_line.new.def ∙ inv.many;
      left = left_after b c.loop-i.defs.items c.loop-i.i c.make_line.new.def inv.left;
    }

pub returns : goal.returns
returns g c =
    all_made c.args.board.now c.loop-i.i c.loop-i.judges.items c.loop-i.invariant.made
    (omega (arith, c.loop-i-test.false, c.loop-i.auto.i-end, c.len-i-end.ensures, ap length c.in_ok-defs.ensures.defs))
