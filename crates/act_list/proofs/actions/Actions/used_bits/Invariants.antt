use Rattle.std.proofs.Common.{◌≡◌, drop}
use Rattle.act_list.specs.Actions.{bits_from, bits_of}
use Rattle.act_list.proofs.actions.Actions.used_bits.Given as goal

abbrev pub invariant-loop-i : goal.invariant-loop-i
invariant-loop-i l = bits_from l.used (drop l.i l.self.actions) ≡ bits_of l.self.actions
