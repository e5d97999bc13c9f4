-- The runs of handlers that ended on a line.
use Rattle.std.specs.Prelude.{List, [], ◌∷◌, ◌++◌, reverse}
use Rattle.irq_base.specs.declared.devices.Run.{Run}
use Rattle.irq_base.specs.declared.entries.Entry.{Entry}
use Rattle.irq_base.specs.declared.lines.LineDef.{LineDef}
use Rattle.callbacks.specs.Heard.{one_run}
use Rattle.irq_line.specs.Runs.{run_ended}
use Rattle.irq_line.specs.Seen.{LineSeen}

-- the runs that ended in this past, whose newest entry comes first; the newest run first
abbrev pub runs_in : LineDef → List Entry → List Run
runs_in def [] = []
runs_in def (e ∷ past) = one_run (run_ended def past e) ++ runs_in def past

-- the runs that ended on the line
abbrev pub runs_on : LineSeen → List Run
runs_on line = runs_in line.def (reverse line.entries)
