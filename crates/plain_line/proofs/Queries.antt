-- What was looked up in the past of a line is what is asked of the line.
use Rattle.std.proofs.Common.{Option, Some, None, reverse}
use Rattle.irq_base.specs.declared.numbers.DevNo.{DevNo}
use Rattle.irq_line.specs.Queries.{IsLowestThread}
use Rattle.irq_line.specs.Seen.{LineSeen}
use Rattle.plain_line.specs.Looked.{IsLowestAt}

pub lowest_seen : (line : LineSeen) (o : Option DevNo) → IsLowestAt line.def (reverse line.entries) o → IsLowestThread line o
lowest_seen line None h = h
lowest_seen line (Some l) h = h
