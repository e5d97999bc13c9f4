use Rattle.std.proofs.Common.{sym, subst, List}
use Rattle.irq_base.specs.declared.entries.Entry.{Entry}
use Rattle.irq_base.specs.declared.lines.LineDef.{LineDef}
use Rattle.line_marks.specs.Line.{IsLine}
use Rattle.line_core.proofs.More.{line_starts}
use Rattle.line_state.specs.Seen.{runs_seen}
use Rattle.line_core.proofs.line.Line.new.Goals as goal

pub invariant_of-result : goal.invariant_of-result
invariant_of-result g c =
    subst (λ (def : LineDef). IsLine def c.in_ok-history.history.entries c.in_ok-state.state.state c.in_ok-scripts.scripts (runs_seen c.in_ok-state.state))
    (sym c.in_ok-own.ensures)
    (subst (λ (h : List Entry). IsLine c.args.def.now h c.in_ok-state.state.state c.in_ok-scripts.scripts (runs_seen c.in_ok-state.state))
    (sym c.in_ok-history.ensures.empty)
    (line_starts c.args.def.now c.in_ok-state.state c.in_ok-scripts.scripts c.requires.valid c.requires.runs
    c.in_ok-state.ensures.state c.in_ok-state.ensures.scripted c.in_ok-scripts.ensures.calls c.in_ok-scripts.ensures.place
    c.in_ok-scripts.ensures.within))
