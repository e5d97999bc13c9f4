use Rattle.std.proofs.Common.{subst}
use Rattle.board_core.specs.Hung.{SaysEnd}
use Rattle.board_core.specs.Seen.{board_lines}
use Rattle.irq_chained.specs.Seen.{DemuxSeen}
use Rattle.irq_chained.proofs.demux.Demux.end_after.Goals as goal

pub returns-clause-says : goal.returns-clause-says
returns-clause-says g c = subst (λ (d : DemuxSeen). SaysEnd (board_lines d.lines) c.end_after.result) c.self.view_is c.end_after.ensures.says
