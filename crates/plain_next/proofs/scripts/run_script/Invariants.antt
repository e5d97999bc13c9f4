use Rattle.std.proofs.Common.{◌≡◌, ◌++◌, drop}
use Rattle.irq_model.specs.Lines.{script_in}
use Rattle.plain_next.proofs.scripts.run_script.Given as goal

abbrev pub invariant-loop-i : goal.invariant-loop-i
invariant-loop-i l = script_in l.runs l.dev l.part ≡ l.own.items ++ script_in (drop l.i l.runs) l.dev l.part
