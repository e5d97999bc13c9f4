use Rattle.std.proofs.Common.{◌≡◌, take}
use Rattle.irq_model.specs.Legal.{IsLegal}
use Rattle.log_check.proofs.judging.judge.Given as goal

-- the line has the entries so far, each of them due
abbrev pub invariant-loop-i : goal.invariant-loop-i
invariant-loop-i g l =
    let seen = g.L.IrqLine.seen in
    record {
      def : (seen l.line).def ≡ (seen l.fn.line).def;
      entries : (seen l.line).entries ≡ take l.i l.history.entries;
      legal : IsLegal (seen l.fn.line).def (take l.i l.history.entries);
    }
