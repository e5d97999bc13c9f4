use Rattle.std.proofs.Common.{arith}
use Rattle.board_ready.proofs.Processors.{none_past}
use Rattle.board_ready.proofs.cpus.CpuLines.cpus.Goals as goal

pub returns-clause-few : goal.returns-clause-few
returns-clause-few c = λ n past few. none_past c.self.inside.words c.self.inside.some n (omega (arith, past)) few c.self.invariant
