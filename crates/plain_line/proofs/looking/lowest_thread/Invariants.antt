use Rattle.std.proofs.Common.{◌≡◌, None, drop}
use Rattle.plain_line.specs.Looked.{is_thread_due}
use Rattle.plain_line.proofs.Lowest.{lowest_of}
use Rattle.plain_line.proofs.looking.lowest_thread.Given as goal

abbrev pub invariant-loop-i : goal.invariant-loop-i
invariant-loop-i l =
    lowest_of (is_thread_due l.def l.past) None l.def.devices ≡ lowest_of (is_thread_due l.def l.past) l.lowest (drop l.i l.def.devices)
