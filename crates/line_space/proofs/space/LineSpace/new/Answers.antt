use Rattle.std.proofs.Common.{sym, subst}
use Rattle.irq_base.specs.declared.lines.LineDef.{LineDef}
use Rattle.line_space.specs.Kept.{IsSpace}
use Rattle.line_space.proofs.space.LineSpace.new.Goals as goal

pub invariant_of-result : goal.invariant_of-result
invariant_of-result c =
    subst (λ (d : LineDef). IsSpace (record {
      alloc = c.args.alloc;
      def = d;
      more = c.has_more-more.result;
      drivers = c.in_ok-drivers.drivers;
      scratch = c.in_ok-scratch.scratch;
      asked = c.new-2.result;
      due = c.new-3.result;
    }))
    (sym c.in_ok-def.ensures)
    (record {
      valid = c.requires.valid;
      valid_runs = c.requires.runs;
      more = c.has_more-more.ensures;
      drivers = c.in_ok-drivers.ensures;
      scratch = c.in_ok-scratch.ensures;
    })
