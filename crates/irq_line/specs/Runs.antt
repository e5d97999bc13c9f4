-- The run of a handler that an entry ends.
use Rattle.std.specs.Prelude.{Option, Some, None, List, reverse}
use Rattle.irq_base.specs.declared.numbers.DevNo.{DevNo}
use Rattle.irq_base.specs.declared.devices.DeviceDef.{DeviceDef}
use Rattle.irq_base.specs.declared.devices.Part.{Part}
use Rattle.irq_base.specs.declared.devices.Part.TheVariants as parts
use Rattle.irq_base.specs.declared.devices.Run.{Run}
use Rattle.irq_base.specs.declared.entries.Actor.{Actor}
use Rattle.irq_base.specs.declared.entries.Entry.{Entry}
use Rattle.irq_base.specs.declared.entries.Entry.TheVariants as by
use Rattle.irq_base.specs.declared.entries.CpuEntry.TheVariants as cpus
use Rattle.irq_base.specs.declared.entries.ThreadEntry.TheVariants as threads
use Rattle.irq_base.specs.declared.lines.LineDef.{LineDef}
use Rattle.irq_model.specs.Lines.{kind_of, is_held, does_forget}
use Rattle.irq_model.specs.Next.{next}
use Rattle.irq_model.specs.Runs.{met_by, told_of}

-- the line's device of that number
abbrev pub device_of : LineDef → DevNo → DeviceDef
device_of def dev = record {
  dev = dev;
  line = def.line;
  kind = kind_of def dev;
  held = is_held def dev;
  forgets = does_forget def dev;
}

-- the run of that part of the device: how many asks were unserved as it began, and what a told
-- device is to answer in it
abbrev pub run_at : LineDef → Part → DevNo → List Entry → Run
run_at def part dev past = record {
  def = device_of def dev;
  part = part;
  unserved = met_by def part dev past;
  told = told_of def part dev past;
}

-- a return ends a run of the device's handler, a thread's return a run of its thread
abbrev pub run_ended : LineDef → List Entry → Entry → Option Run
run_ended def past (by.Cpu cpu (cpus.Return answer dev served))
    = Some (run_at def parts.Primary dev past)
run_ended def past (by.Thread dev (threads.Return handled served))
    = Some (run_at def parts.Thread dev past)
run_ended def past _ = None

abbrev pub run_of_entry : LineDef → List Entry → Option Entry → Option Run
run_of_entry def past None = None
run_of_entry def past (Some e) = run_ended def past e

-- the run that ends with the entry that is due of the actor, if that entry is a return or a
-- thread's return
abbrev pub run_of : LineDef → List Entry → Actor → Option Run
run_of def h actor = run_of_entry def (reverse h) (next def h actor)
