use Rattle.std.proofs.Common.{arith}
use Rattle.affinity.proofs.Lowest.{has_lowest}
use Rattle.affinity.proofs.aim.has_processor.Goals as goal

pub returns : goal.returns
returns c = has_lowest c.args.cpus c.args.mask (omega arith) c.requires
