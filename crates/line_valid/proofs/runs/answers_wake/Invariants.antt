use Rattle.std.proofs.Common.{◌≡◌, drop}
use Rattle.std.specs.List.{list_any}
use Rattle.irq_model.specs.Lines.{told_in}
use Rattle.irq_model.specs.RunBounds.{is_wake_word}
use Rattle.line_valid.proofs.runs.answers_wake.Given as goal

abbrev pub invariant-loop-i : goal.invariant-loop-i
invariant-loop-i l = list_any is_wake_word (told_in l.told l.dev l.part) ≡ list_any is_wake_word (told_in (drop l.i l.told) l.dev l.part)
