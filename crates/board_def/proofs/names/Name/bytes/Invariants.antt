use Rattle.std.proofs.Common.{◌-◌, ◌≡◌, ◌≤◌, ◌++◌, take, drop}
use Rattle.board_def.specs.Names.{before_zero}
use Rattle.board_def.proofs.names.Name.bytes.Given as goal

abbrev pub invariant-loop-len : goal.invariant-loop-len
invariant-loop-len l = (l.len ≤ 16) × (before_zero l.fn.self.padded ≡ take l.len l.fn.self.padded ++ before_zero (drop l.len l.fn.self.padded))

abbrev pub decreases-loop-len : goal.decreases-loop-len
decreases-loop-len l = 16 - l.len
