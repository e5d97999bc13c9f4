-- What a line keeps of its history, apart from the drivers' places: read off the past, and what an
-- entry makes of it.
use Rattle.std.specs.Prelude.{◌≡◌, ℕ, Bool, false, ◌&&◌, if◌then◌else◌, nat_lt, Option, None, List}
use Rattle.irq_base.specs.Cell.{Cell, fresh_cell, after_edge, after_high}
use Rattle.irq_base.specs.declared.entries.Actor.{Actor}
use Rattle.irq_base.specs.declared.entries.Entry.{Entry}
use Rattle.irq_base.specs.declared.entries.Entry.TheVariants as by
use Rattle.irq_base.specs.declared.entries.CpuEntry.TheVariants as cpus
use Rattle.irq_base.specs.declared.entries.ThreadEntry.TheVariants as threads
use Rattle.irq_base.specs.declared.entries.DriverEntry.TheVariants as drivers
use Rattle.irq_base.specs.declared.entries.CallEntry.{CallEntry}
use Rattle.irq_base.specs.declared.entries.CallEntry.TheVariants as called
use Rattle.irq_base.specs.declared.lines.LineDef.{LineDef}
use Rattle.irq_base.specs.declared.numbers.DevNo.{DevNo}
use Rattle.irq_model.specs.Kinds.{is_kill, is_chip_start, is_start, unlinks_last}
use Rattle.irq_model.specs.Kinds.{opened_by_enable, is_chip_opened, is_started_opened}
use Rattle.irq_model.specs.Lines.{is_edge_line, is_level_line, serves}
use Rattle.irq_model.specs.Signal.{lowest_in}
use Rattle.irq_model.specs.Spurious.{no_counts}
use Rattle.irq_model.specs.Up.{is_up}
use Rattle.irq_laws.specs.Driven.{cell_after, accepted, taken, ended, masked_if, unmasked_if}
use Rattle.irq_laws.specs.Driven.{retriggered_if}
use Rattle.irq_laws.specs.Kept.{freeing}
use Rattle.device_table.specs.Rows.{all_with}
use Rattle.device_table.specs.Sums.{how_many}
use Rattle.act_list.specs.Actions.{is_bare}
use Rattle.act_list.specs.Lists.{ListSeen, first_list}
use Rattle.act_thread.specs.Steps.{idle_row}
use Rattle.act_thread.specs.Threads.{threads_after}
use Rattle.act_thread.specs.declared.rows.ThreadRow.{ThreadRow}
use Rattle.ask_counts.specs.Facts.{all_facts}
use Rattle.ask_counts.specs.Rows.{is_waiting, no_asks}
use Rattle.ask_counts.specs.declared.facts.DeviceFacts.{DeviceFacts}
use Rattle.ask_counts.specs.declared.rows.AskRow.{AskRow}
use Rattle.affinity.specs.Seen.{AimSeen}
use Rattle.run_scripts.specs.Places.{PlacesSeen, first_place, first_row}
use Rattle.spurious.specs.Seen.{CountsSeen}
use Rattle.desc_state.specs.Desc.{DescSeen, fresh_desc}
use Rattle.line_marks.specs.Actions.{list_of, list_after}
use Rattle.line_marks.specs.Aim.{number_of, aim_of, aim_after, aimed_of, aimed_after}
use Rattle.line_marks.specs.Asks.{asks_of, asks_after}
use Rattle.line_marks.specs.Counts.{tally_of, tally_after}
use Rattle.line_marks.specs.Desc.{desc_of, desc_after}
use Rattle.line_marks.specs.Freeing.{freeing_after}
use Rattle.line_marks.specs.Places.{places_of, places_after}
use Rattle.line_marks.specs.Rounds.{RoundSeen, round_of, round_after}
use Rattle.line_marks.specs.Threads.{threads_of}
use Rattle.line_marks.specs.Up.{active_after}

pub record StateSeen : Type 0 where
  pub desc : DescSeen
  -- what the chip keeps: its cell, whether it is active, and the processor that it is aimed at
  pub cell : Cell
  pub active : Bool
  pub aimed : ℕ
  pub aim : AimSeen
  pub list : ListSeen
  pub threads : List (DevNo × ThreadRow)
  pub asks : List (DevNo × AskRow)
  -- what is fixed of the devices
  pub facts : List (DevNo × DeviceFacts)
  -- how far the runs are with their calls, and which answers told devices have
  pub places : PlacesSeen
  pub round : RoundSeen
  pub counts : CountsSeen
  -- the free under way, who makes it and of which device; meanwhile the request mutex is held
  pub freeing : Option (Actor × DevNo)

-- each part, read off the past
abbrev pub state_of : LineDef → List Entry → StateSeen
state_of def past = record {
  desc = desc_of def past;
  cell = cell_after def past;
  active = is_up past;
  aimed = aimed_of def past;
  aim = aim_of def past;
  list = list_of def past;
  threads = threads_of def past;
  asks = asks_of def past;
  facts = all_facts def;
  places = places_of def past;
  round = round_of def past;
  counts = tally_of def past;
  freeing = freeing past;
}

-- a line to which nothing was done
abbrev pub first_state : LineDef → StateSeen
first_state def = record {
  desc = fresh_desc def.unlazy;
  cell = fresh_cell def.trigger def.keeps def.recalls def.retriggers (serves def);
  active = false;
  aimed = number_of (lowest_in def.cpus def.mask);
  aim = record { cpus = def.cpus; later = def.later; mask = def.mask; waiting = None };
  list = first_list def.devices;
  threads = all_with idle_row def.devices;
  asks = all_with no_asks def.devices;
  facts = all_facts def;
  places = record { work = first_place; rows = all_with first_row def.devices };
  round = record { working = None; wakes = false; handles = false; moment = 0 };
  counts = record { window = def.window; limit = def.limit; counts = no_counts };
  freeing = None;
}

-- the level: some device that isn't quiet has an unserved ask
abbrev pub high_in : List (DevNo × AskRow) → Bool
high_in t = nat_lt 0 (how_many is_waiting t)

-- the device makes an edge, or none; the level of a level line is set
abbrev pub signalled : LineDef → Bool → Bool → Cell → Cell
signalled def edge high c =
    if is_edge_line def then (if edge then after_edge c else c) else after_high high c

-- what the step of a call does to the cell, whoever makes it
abbrev pub called_to : LineDef → CallEntry → DescSeen → Bool → Cell → Cell
called_to def called.Disable d high c = masked_if d.unlazy c
called_to def (called.Unlink answer dev) d high c =
    masked_if (unlinks_last (called.Unlink answer dev)) c
called_to def (called.Enable answer) d high c =
    retriggered_if (is_chip_opened (opened_by_enable answer))
    (unmasked_if (is_started_opened (opened_by_enable answer)) c)
called_to def (called.Quiet dev) d high c = signalled def false high c
called_to def (called.Arm edge dev) d high c = signalled def edge high c
called_to def (called.Serve dev count) d high c = signalled def false high c
called_to def _ d high c = c

-- what the entry does to the cell, given the descriptor before it, and whether the level is high
-- after it
abbrev pub driven_by : LineDef → Entry → DescSeen → Bool → Cell → Cell
driven_by def (by.Driver driver (drivers.Ask edge dev)) d high c = signalled def edge high c
driven_by def (by.Cpu cpu (cpus.Return answer dev count)) d high c =
    if is_level_line def && nat_lt 0 count then after_high high c else c
driven_by def (by.Thread dev (threads.Return handled count)) d high c =
    if is_level_line def && nat_lt 0 count then after_high high c else c
driven_by def (by.Cpu cpu (cpus.Take way answer)) d high c =
    taken def def.flow d.oneshot answer (accepted way c)
driven_by def (by.Cpu cpu (cpus.End again unmask note)) d high c
    = ended def def.flow again unmask (masked_if
    (is_kill (by.Cpu cpu (cpus.End again unmask note)) && d.unlazy) c)
driven_by def (by.Thread dev (threads.Finish kept unmask)) d high c = unmasked_if unmask c
driven_by def (by.Driver driver (drivers.Request flags answer opened dev)) d high c =
    retriggered_if (is_chip_start (by.Driver driver (drivers.Request flags answer opened dev)))
    (unmasked_if (is_start (by.Driver driver (drivers.Request flags answer opened dev))) c)
driven_by def (by.CpuCall cpu call) d high c = called_to def call d high c
driven_by def (by.ThreadCall dev call) d high c = called_to def call d high c
driven_by def (by.DriverCall driver call) d high c = called_to def call d high c
driven_by def _ d high c = c

-- what an entry makes of each part
abbrev pub state_after : LineDef → Entry → StateSeen → StateSeen
state_after def e s = record {
  desc = desc_after def (is_bare s.list.actions) e s.desc;
  cell = driven_by def e s.desc (high_in (asks_after s.facts e s.asks)) s.cell;
  active = active_after (is_bare s.list.actions) e s.active;
  aimed = aimed_after e s.aim s.aimed;
  aim = aim_after e s.aim;
  list = list_after def e s.list;
  threads = threads_after s.desc.oneshot e s.threads;
  asks = asks_after s.facts e s.asks;
  facts = s.facts;
  places = places_after def s.round.working e s.places;
  round = round_after def e s.round;
  counts = tally_after e s.round s.counts;
  freeing = freeing_after e s.freeing;
}

-- the cell has the properties of the definition
pub record IsOf (def : LineDef) (s : StateSeen) : Type 0 where
  pub trigger : s.cell.trigger ≡ def.trigger
  pub retriggers : s.cell.retriggers ≡ def.retriggers
