use Rattle.std.proofs.Common.{◌≡◌, drop}
use Rattle.std.specs.List.{slice_get}
use Rattle.irq_model.specs.Lines.{told_in}
use Rattle.plain_next.proofs.runs.told_after.Given as goal

abbrev pub invariant-loop-i : goal.invariant-loop-i
invariant-loop-i l =
    slice_get (told_in l.told l.dev l.part) l.n ≡ slice_get (told_in (drop l.i l.told) l.dev l.part) l.left
