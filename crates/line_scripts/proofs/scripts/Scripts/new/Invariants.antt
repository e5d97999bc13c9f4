use Rattle.std.proofs.Common.{◌≡◌, take}
use Rattle.irq_base.specs.declared.numbers.DriverNo.{DriverNo}
use Rattle.irq_model.specs.Bounds.{is_ask_call}
use Rattle.irq_model.specs.Due.{calls_by}
use Rattle.irq_model.specs.Places.{count_of}
use Rattle.line_scripts.specs.Rows.{unbegun, row_of, asks_left}
use Rattle.line_scripts.proofs.scripts.Scripts.new.Given as goal

abbrev pub invariant-loop-i : goal.invariant-loop-i
invariant-loop-i l = record {
  rows : (r : DriverNo) → row_of l.scripts r ≡ unbegun (calls_by r (take l.i l.calls));
  asks : asks_left l.scripts ≡ count_of (λ x. is_ask_call x.1) (take l.i l.calls);
}
