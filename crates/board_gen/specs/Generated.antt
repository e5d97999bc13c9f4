-- The board that a number generates.
use Rattle.std.specs.Prelude.{ℕ, ◌+◌, ◌-◌, ◌/◌, ◌%◌, true, false, None, List, [], ◌∷◌, ◌++◌, map}
use Rattle.std.specs.Prelude.{codes}
use Rattle.std.specs.List.{flat_map, range_with_len}
use Rattle.irq_base.specs.declared.calls.Call.{Call}
use Rattle.irq_base.specs.declared.calls.Call.TheVariants as calls
use Rattle.irq_base.specs.declared.calls.Flags.{Flags}
use Rattle.irq_base.specs.declared.devices.DeviceDef.{DeviceDef}
use Rattle.irq_base.specs.declared.devices.Kind.{Kind}
use Rattle.irq_base.specs.declared.domains.ControllerKind.{ControllerKind}
use Rattle.irq_base.specs.declared.domains.ControllerKind.TheVariants as levels
use Rattle.irq_base.specs.declared.domains.MapKind.TheVariants as maps
use Rattle.irq_base.specs.declared.numbers.DriverNo.{DriverNo}
use Rattle.board_def.specs.Names.{name_of}
use Rattle.board_def.specs.Seen.{BoardSeen}
use Rattle.board_def.specs.declared.rows.DomainRow.{DomainRow}
use Rattle.board_def.specs.declared.rows.LineRow.{LineRow}
use Rattle.board_def.specs.declared.rows.ScriptCall.{ScriptCall}
use Rattle.board_gen.specs.declared.scripts.Script.{Script}
use Rattle.board_gen.specs.Drawing.{draw, x_after}
use Rattle.board_gen.specs.Plans.{LinePlan, planned}

-- ---- the machine

-- a root domain of sixteen lines
abbrev pub root_domain : List ℕ → ControllerKind → DomainRow
root_domain name kind = record {
  name = name_of name;
  def = record { map = maps.Linear 16; kind = kind; parent = None };
}

abbrev pub four_domains : List DomainRow
four_domains = root_domain (codes "latch") levels.Latch ∷ root_domain (codes "plain") levels.Plain
    ∷ root_domain (codes "level") levels.Level ∷ root_domain (codes "eoi") levels.Eoi ∷ []

-- two processors, and nothing but the four domains
abbrev pub bare_machine : BoardSeen
bare_machine = record {
  version = 1;
  cpus = 2;
  window = 100000;
  limit = 99900;
  log = 65536;
  domains = four_domains;
  lines = [];
  devices = [];
  told = [];
  runs = [];
  drivers = [];
  calls = [];
  picks = [];
}

-- ---- a line

-- a line without options: either of the two processors may take it
abbrev pub line_row : ℕ → ℕ → LineRow
line_row number domain = record {
  line = record { 0 = number };
  domain = domain;
  hw = number - 1;
  unlazy = false;
  later = false;
  mask = 3;
}

-- the devices of a line, numbered on from the first
abbrev pub numbered : ℕ → ℕ → List Kind → List DeviceDef
numbered line first [] = []
numbered line first (kind ∷ kinds) = record {
  dev = record { 0 = first };
  line = record { 0 = line };
  kind = kind;
  held = false;
  forgets = false;
} ∷ numbered line (first + 1) kinds

abbrev pub driver_no : ℕ → DriverNo
driver_no number = record { 0 = number }

-- ---- its driver's script

abbrev pub script_call : Script → Call → ScriptCall
script_call s call =
    record { driver = record { 0 = s.number }; line = record { 0 = s.number }; call = call }

abbrev pub shared_oneshot : Flags
shared_oneshot = record { shared = true; oneshot = true; noauto = false }

-- a request of each device, in order of number
abbrev pub requests : Script → List ScriptCall
requests s = map (λ dev. script_call s (calls.Request (record { 0 = dev }) shared_oneshot))
    (range_with_len s.first s.devices)

-- `count` asks from ask number `place` on, counted from 0; the devices ask in turn
abbrev pub asks_from : Script → ℕ → ℕ → List ScriptCall
asks_from s place count = map (λ k. script_call s
    (calls.Ask (record { 0 = s.first + k % s.devices }))) (range_with_len place count)

-- a free of each device, in order of number
abbrev pub frees : Script → List ScriptCall
frees s =
    map (λ dev. script_call s (calls.Free (record { 0 = dev }))) (range_with_len s.first s.devices)

-- requests; the first half of the asks, rounded down; a disable and an enable; the other asks;
-- frees
abbrev pub script_calls : Script → List ScriptCall
script_calls s =
    requests s ++ asks_from s 0 (s.asks / 2)
    ++ (script_call s calls.Disable ∷ script_call s calls.Enable ∷ [])
    ++ asks_from s (s.asks / 2) (s.asks - s.asks / 2) ++ frees s

-- ---- the board

abbrev pub plan_devices : LinePlan → List DeviceDef
plan_devices p = numbered p.script.number p.script.first p.kinds

-- the machine with these lines, their devices, drivers and scripts
abbrev pub board_of_plans : List LinePlan → BoardSeen
board_of_plans plans =
    record bare_machine {
      lines = map (λ p. line_row p.script.number p.domain) plans;
      devices = flat_map plan_devices plans;
      drivers = map (λ p. driver_no p.script.number) plans;
      calls = flat_map (λ p. script_calls p.script) plans;
    }

-- the board with one line more
abbrev pub with_plan : BoardSeen → LinePlan → BoardSeen
with_plan b p =
    record b {
      lines = b.lines ++ line_row p.script.number p.domain ∷ [];
      devices = b.devices ++ plan_devices p;
      drivers = b.drivers ++ driver_no p.script.number ∷ [];
      calls = b.calls ++ script_calls p.script;
    }

-- n is x at first; the first draw gives the number of lines, 4 to 16
abbrev pub generated : ℕ → BoardSeen
generated n = board_of_plans (planned (4 + draw 1 13 n) (x_after 1 n)).plans
