-- The definition of a board's line.
use Rattle.std.specs.Prelude.{◌==◌, Option, Some, None, List, [], ◌∷◌, map, filter, if◌then◌else◌}
use Rattle.irq_base.specs.declared.devices.DeviceDef.{DeviceDef}
use Rattle.irq_base.specs.declared.lines.LineDef.{LineDef}
use Rattle.irq_base.specs.declared.numbers.LineNo.{LineNo}
use Rattle.irq_base.specs.declared.calls.Call.{Call}
use Rattle.irq_base.specs.declared.numbers.DriverNo.{DriverNo}
use Rattle.domain_rules.specs.Levels.{root_kind, trigger_of_root, flow_of_root, keeps, recalls}
use Rattle.domain_rules.specs.Levels.{retriggers}
use Rattle.domain_rules.specs.Paths.{kinds_from}
use Rattle.board_def.specs.Runs.{of_run, of_told}
use Rattle.board_def.specs.Seen.{BoardSeen}
use Rattle.board_def.specs.Unnamed.{defs_of}
use Rattle.board_def.specs.declared.rows.LineRow.{LineRow}
use Rattle.board_def.specs.declared.rows.RunCall.{RunCall}
use Rattle.board_def.specs.declared.rows.ScriptCall.{ScriptCall}
use Rattle.board_def.specs.declared.rows.ToldRow.{ToldRow}

abbrev pub find_line : List LineRow → LineNo → Option LineRow
find_line [] line = None
find_line (row ∷ rows) line = if row.line.0 == line.0 then Some row else find_line rows line

abbrev pub with_driver : ScriptCall → DriverNo × Call
with_driver c = (c.driver, c.call)

-- The root decides the trigger and the flow; all levels together decide what the chip can do. The
-- line has its devices, the calls about it, and what its devices' runs call and answer, in the
-- board's order.
abbrev pub line_of_row : BoardSeen → LineRow → LineDef
line_of_row b row =
    let kinds = kinds_from (defs_of b.domains) (Some row.domain) in
    record {
      line = row.line;
      flow = flow_of_root (root_kind kinds);
      trigger = trigger_of_root (root_kind kinds);
      keeps = keeps kinds;
      recalls = recalls kinds;
      retriggers = retriggers kinds;
      unlazy = row.unlazy;
      later = row.later;
      mask = row.mask;
      cpus = b.cpus;
      window = b.window;
      limit = b.limit;
      log = b.log;
      devices = filter (λ x. x.line.0 == row.line.0) b.devices;
      calls = map with_driver (filter (λ c. c.line.0 == row.line.0) b.calls);
      runs = map of_run (filter (λ r. r.line.0 == row.line.0) b.runs);
      told = map of_told (filter (λ r. r.line.0 == row.line.0) b.told);
    }

-- the definitions of all its lines, in the board's order
abbrev pub line_defs_of : BoardSeen → List LineDef
line_defs_of b = map (line_of_row b) b.lines

-- the board with these devices, calls and answers in place of its own
abbrev pub with_parts : BoardSeen → List DeviceDef → List ScriptCall → List RunCall → List ToldRow
    → BoardSeen
with_parts b devices calls runs told =
    record b { devices = devices; calls = calls; runs = runs; told = told }
