-- All lines, what they are said to do, and what becomes of them as processors go offline and come
-- online.
use Rattle.std.specs.Prelude.{◌≡◌, ℕ, nat_lt, nat_le, max, Bool, true, false, if◌then◌else◌, Option}
use Rattle.std.specs.Prelude.{Some, None, unwrap_or, option_to_list, List, [], ◌∷◌, ◌++◌, length}
use Rattle.std.specs.Prelude.{replicate, count_by, slice_set}
use Rattle.irq_base.specs.declared.lines.LineDef.{LineDef}
use Rattle.irq_base.specs.declared.numbers.CpuNo.{CpuNo}
use Rattle.irq_base.specs.declared.numbers.LineNo.{LineNo}
use Rattle.irq_model.specs.Signal.{lowest_in}
use Rattle.board_def.specs.Layout.{layout_of}
use Rattle.board_def.specs.LineOf.{line_defs_of}
use Rattle.board_def.specs.Seen.{BoardSeen}
use Rattle.domain_rules.specs.declared.layouts.Placement.{Placement}
use Rattle.domain_rules.specs.declared.layouts.Placement.TheVariants as placements
use Rattle.vector_matrix.specs.declared.view.Vector.{Vector}
use Rattle.irq_hotplug.specs.Berths.{all_found, all_settled, left_out}
use Rattle.irq_hotplug.specs.Placing.{is_online}
use Rattle.irq_hotplug.specs.Rows.{all_rows}
use Rattle.irq_hotplug.specs.declared.berths.Berth.{Berth}
use Rattle.irq_hotplug.specs.declared.berths.Moving.TheVariants as moving
use Rattle.irq_hotplug.specs.declared.rows.FleetRow.{FleetRow}
use Rattle.irq_hotplug.specs.declared.rows.FleetRow.TheVariants as rows
use Rattle.irq_hotplug.specs.declared.rows.OffAnswer.{OffAnswer}
use Rattle.irq_hotplug.specs.declared.rows.OffAnswer.TheVariants as offs
use Rattle.irq_hotplug.specs.declared.rows.OnAnswer.{OnAnswer}
use Rattle.irq_hotplug.specs.declared.rows.OnAnswer.TheVariants as ons
use Rattle.irq_hotplug.specs.declared.events.Event.{Event}
use Rattle.irq_hotplug.specs.declared.events.Event.TheVariants as events

pub record FleetSeen : Type 0 where
  -- how many vectors each processor has
  pub vectors : ℕ
  -- of each processor of the machine whether it is online
  pub online : List Bool
  -- the lines that take part, in the board's order
  pub berths : List Berth
  -- what was said so far
  pub said : List FleetRow

-- ---- at first

-- a line before it is placed
abbrev pub berth_of : LineDef → Berth
berth_of def =
    record {
      line = def.line;
      mask = def.mask;
      queues = max 1 (length def.devices);
      target = lowest_in def.cpus def.mask;
      place = None;
    }

-- none if the layout refused the line
abbrev pub berth_if : LineDef → Option Placement → Option Berth
berth_if def (Some (placements.Mapped virq path)) = Some (berth_of def)
berth_if def _ = None

-- of lines with these definitions those that take part
abbrev pub berths_from : List LineDef → List Placement → List Berth
berths_from [] places = []
berths_from (def ∷ defs) [] = []
berths_from (def ∷ defs) (place ∷ places) =
    option_to_list (berth_if def (Some place)) ++ berths_from defs places

-- the board's lines that take part, in its order
abbrev pub berths_of : BoardSeen → List Berth
berths_of b = berths_from (line_defs_of b) (layout_of b)

-- these lines, each placed
abbrev pub placed_fleet : ℕ → List Bool → List Berth → FleetSeen
placed_fleet vectors online berths =
    let found = all_found moving.All vectors online berths [] berths in
    record {
      vectors = vectors;
      online = online;
      berths = all_settled berths found;
      said = all_rows moving.All berths found;
    }

-- all processors are online, and each line of the board is placed
abbrev pub first_fleet : BoardSeen → ℕ → FleetSeen
first_fleet b vectors = placed_fleet vectors (replicate b.cpus true) (berths_of b)

-- ---- a processor goes offline

-- nothing changes, and this is said
abbrev pub says : FleetSeen → FleetRow → FleetSeen
says f row = record f { said = f.said ++ row ∷ [] }

-- why it may not go, if one looks at processors alone
abbrev pub off_refusal : List Bool → CpuNo → Option OffAnswer
off_refusal online cpu =
    if nat_lt cpu.0 (length online) then
    (if is_online online cpu.0 then
    (if nat_le (count_by (λ on. on) online) 1 then Some offs.LastOne else None)
    else Some offs.NotOnline)
    else Some offs.NotThere

abbrev pub without_cpu : List Bool → CpuNo → List Bool
without_cpu online cpu = slice_set online cpu.0 false

-- what the lines on the processor find on the others
abbrev pub found_off : FleetSeen → CpuNo → List (Option Vector)
found_off f cpu =
    all_found (moving.From cpu) f.vectors (without_cpu f.online cpu) f.berths [] f.berths

abbrev pub unless_left : Option LineNo → OffAnswer
unless_left None = offs.Ok
unless_left (Some line) = offs.NoVector line

abbrev pub off_answer : FleetSeen → CpuNo → OffAnswer
off_answer f cpu =
    unwrap_or (off_refusal f.online cpu)
    (unless_left (left_out (moving.From cpu) f.berths (found_off f cpu)))

-- the processor went offline, and its lines are where they found a vector
abbrev pub emptied : FleetSeen → CpuNo → FleetSeen
emptied f cpu =
    record f {
      online = without_cpu f.online cpu;
      berths = all_settled f.berths (found_off f cpu);
      said = f.said ++ rows.Off cpu offs.Ok ∷ all_rows (moving.From cpu) f.berths (found_off f cpu);
    }

abbrev pub after_off_by : FleetSeen → CpuNo → OffAnswer → FleetSeen
after_off_by f cpu offs.Ok = emptied f cpu
after_off_by f cpu answer = says f (rows.Off cpu answer)

abbrev pub after_off : FleetSeen → CpuNo → FleetSeen
after_off f cpu = after_off_by f cpu (off_answer f cpu)

-- ---- a processor comes online

abbrev pub on_answer : List Bool → CpuNo → OnAnswer
on_answer online cpu =
    if nat_lt cpu.0 (length online) then
    (if is_online online cpu.0 then ons.IsOnline else ons.Ok)
    else ons.NotThere

-- no line moves
abbrev pub after_on_by : FleetSeen → CpuNo → OnAnswer → FleetSeen
after_on_by f cpu ons.Ok =
    record f {
      online = slice_set f.online cpu.0 true;
      said = f.said ++ rows.On cpu ons.Ok ∷ [];
    }
after_on_by f cpu answer = says f (rows.On cpu answer)

abbrev pub after_on : FleetSeen → CpuNo → FleetSeen
after_on f cpu = after_on_by f cpu (on_answer f.online cpu)

-- ---- events, one after another

abbrev pub after_event : FleetSeen → Event → FleetSeen
after_event f (events.Off cpu) = after_off f cpu
after_event f (events.On cpu) = after_on f cpu

abbrev pub after_events : FleetSeen → List Event → FleetSeen
after_events f [] = f
after_events f (e ∷ es) = after_events (after_event f e) es

-- a beginning of the events was taken
pub record IsAfterSome (f : FleetSeen) (es : List Event) (now : FleetSeen) : Type 0 where
  pub taken : List Event
  pub left : List Event
  pub parts : es ≡ taken ++ left
  pub after : now ≡ after_events f taken

abbrev pub fleet_after : BoardSeen → ℕ → List Event → FleetSeen
fleet_after b vectors es = after_events (first_fleet b vectors) es
