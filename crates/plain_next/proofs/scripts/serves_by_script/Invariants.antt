use Rattle.std.proofs.Common.{◌≡◌, drop}
use Rattle.std.specs.List.{list_any}
use Rattle.irq_model.specs.Asks.{serves_itself}
use Rattle.irq_model.specs.Lines.{script_in}
use Rattle.plain_next.proofs.scripts.serves_by_script.Given as goal

abbrev pub invariant-loop-i : goal.invariant-loop-i
invariant-loop-i l =
    list_any (serves_itself l.dev) (script_in l.runs l.dev l.part) ≡ list_any (serves_itself l.dev) (script_in (drop l.i l.runs) l.dev l.part)
