-- The runs that a return and a thread's return end, read off the state.
use Rattle.irq_base.specs.declared.devices.DeviceDef.{DeviceDef}
use Rattle.irq_base.specs.declared.devices.Part.{Part}
use Rattle.irq_base.specs.declared.devices.Run.{Run}
use Rattle.irq_base.specs.declared.lines.LineDef.{LineDef}
use Rattle.irq_base.specs.declared.numbers.DevNo.{DevNo}
use Rattle.ask_counts.specs.Facts.{facts_at}
use Rattle.line_marks.specs.Facts.{kind_at}
use Rattle.line_marks.specs.Runs.{met_at, told_at}
use Rattle.line_marks.specs.State.{StateSeen}

-- the device of that number on the line
abbrev pub device_at : LineDef → StateSeen → DevNo → DeviceDef
device_at def s dev = record {
  dev = dev;
  line = def.line;
  kind = kind_at s.facts dev;
  held = (facts_at s.facts dev).held;
  forgets = (facts_at s.facts dev).forgets;
}

-- the run of that part of the device, with what it met, and what a told device is to answer
abbrev pub run_there : LineDef → StateSeen → Part → DevNo → Run
run_there def s part dev = record {
  def = device_at def s dev;
  part = part;
  unserved = met_at s part dev;
  told = told_at def s part dev;
}
