use Rattle.std.proofs.Common.{subst}
use Rattle.act_list.specs.Actions.{ActionsSeen, AreKept}
use Rattle.act_list.proofs.Bits.{free_at}
use Rattle.act_list.proofs.actions.Actions.free_bit.Goals as goal

pub overflow_shl-result : goal.overflow_shl-result
overflow_shl-result c = (free_at c.args.self.now.actions c.used_bits.result c.trailing_ones-place.result
    (subst (λ (s : ActionsSeen). AreKept s.actions) c.self.view_is c.self.invariant) c.used_bits.ensures
    c.trailing_ones-place.ensures c.requires).0

pub returns-clause-bit : goal.returns-clause-bit
returns-clause-bit c = (free_at c.args.self.now.actions c.used_bits.result c.trailing_ones-place.result
    (subst (λ (s : ActionsSeen). AreKept s.actions) c.self.view_is c.self.invariant) c.used_bits.ensures
    c.trailing_ones-place.ensures c.requires).1

pub returns-clause-free : goal.returns-clause-free
returns-clause-free c = (free_at c.args.self.now.actions c.used_bits.result c.trailing_ones-place.result
    (subst (λ (s : ActionsSeen). AreKept s.actions) c.self.view_is c.self.invariant) c.used_bits.ensures
    c.trailing_ones-place.ensures c.requires).2
