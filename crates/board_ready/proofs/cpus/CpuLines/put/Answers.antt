use Rattle.std.proofs.Common.{arith}
use Rattle.board_ready.proofs.Processors.{put_some}
use Rattle.board_ready.proofs.cpus.CpuLines.put.Goals as goal

pub invariant_of-self : goal.invariant_of-self
invariant_of-self c = put_some c.self.inside.words c.self.inside.some c.with_bit-self-inside.result c.in-Some.cpu.0
    c.with_bit-word.result (omega (arith, c.self.told, c.if-cpu-lt-CPUS.true)) (omega (arith, c.with_bit-word.type_inv))
    c.self.invariant c.with_bit-self-inside.ensures
