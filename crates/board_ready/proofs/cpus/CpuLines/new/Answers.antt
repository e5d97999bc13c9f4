use Rattle.std.proofs.Common.{refl}
use Rattle.board_ready.proofs.Processors.{fresh_lines, fresh_some}
use Rattle.board_ready.proofs.cpus.CpuLines.new.Goals as goal

pub invariant_of-result : goal.invariant_of-result
invariant_of-result c = fresh_some _ refl

pub returns : goal.returns
returns c = fresh_lines _ 32 refl
