use Rattle.std.proofs.Common.{rules, ◌≡◌, true, Some, sym, ◌∙◌}
use Rattle.std.specs.List.{slice_get}
use Rattle.log_check.proofs.Trying.{goes, still_legal}
use Rattle.log_check.proofs.judging.judge.Goals as goal

pub loop-i-preserved : goal.loop-i-preserved
loop-i-preserved g c =
    let seen = g.L.IrqLine.seen in
    let def = (seen c.args.line.now).def in
    let h = c.args.history.now.entries in
    let at : slice_get h c.loop-i.i ≡ Some c.in-Some.entry = sym c.in-Some.ensures in
    let added : c.in_ok-adds.field-0 ≡ true = search rules in
    let inv = c.loop-i.invariant in
    record {
      def = c.in_ok-adds.ensures.def ∙ inv.def;
      entries = goes def h c.loop-i.i c.in-Some.entry at (seen c.loop-i.line) (seen c.adds.new.line)
          c.in_ok-adds.field-0 added inv.def inv.entries c.in_ok-adds.ensures.tried;
      legal = still_legal def h c.loop-i.i c.in-Some.entry at (seen c.loop-i.line) (seen c.adds.new.line)
          c.in_ok-adds.field-0 added inv.def inv.entries c.in_ok-adds.ensures.tried inv.legal;
    }
