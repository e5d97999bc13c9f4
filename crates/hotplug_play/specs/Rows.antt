-- The rows of placings and of events, as bytes.
use Rattle.std.specs.Prelude.{ℕ, List, ◌++◌, codes, decimal}
use Rattle.irq_hotplug.specs.declared.rows.FleetRow.{FleetRow}
use Rattle.irq_hotplug.specs.declared.rows.FleetRow.TheVariants as rows
use Rattle.irq_hotplug.specs.declared.rows.OffAnswer.{OffAnswer}
use Rattle.irq_hotplug.specs.declared.rows.OffAnswer.TheVariants as offs
use Rattle.irq_hotplug.specs.declared.rows.OnAnswer.{OnAnswer}
use Rattle.irq_hotplug.specs.declared.rows.OnAnswer.TheVariants as ons

-- a space, and how a processor's going offline was answered
abbrev pub off_text : OffAnswer → List ℕ
off_text offs.Ok = codes " ok"
off_text offs.NotThere = codes " refused not-there"
off_text offs.NotOnline = codes " refused not-online"
off_text offs.LastOne = codes " refused last"
off_text (offs.NoVector line) = codes " refused no-vector " ++ decimal line.0

-- a space, and how a processor's coming online was answered
abbrev pub on_text : OnAnswer → List ℕ
on_text ons.Ok = codes " ok"
on_text ons.NotThere = codes " refused not-there"
on_text ons.IsOnline = codes " refused is-online"

-- `# vector LINE CPU VECTOR QUEUE`, or `# vector LINE none`; `# off N` and `# on N` with the answer
abbrev pub row_text : FleetRow → List ℕ
row_text (rows.Placed line v queues queue moved) =
    codes "# vector " ++ decimal line.0 ++ codes " " ++ decimal v.cpu.0
    ++ codes " " ++ decimal v.number ++ codes " " ++ decimal queue ++ codes "\n"
row_text (rows.Unplaced line) = codes "# vector " ++ decimal line.0 ++ codes " none" ++ codes "\n"
row_text (rows.Off cpu answer) = codes "# off " ++ decimal cpu.0 ++ off_text answer ++ codes "\n"
row_text (rows.On cpu answer) = codes "# on " ++ decimal cpu.0 ++ on_text answer ++ codes "\n"
