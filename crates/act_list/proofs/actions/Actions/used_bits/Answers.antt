use Rattle.std.proofs.Common.{◌+◌, bit_or, drop, sym, ap, ◌∙◌, arith}
use Rattle.act_list.specs.Actions.{bits_from}
use Rattle.act_list.proofs.Walking.{bits_next, bits_all}
use Rattle.act_list.proofs.actions.Actions.used_bits.Goals as goal

pub loop-i-preserved : goal.loop-i-preserved
loop-i-preserved c =
    let t = c.args.self.now.actions in
    ap (λ b. bits_from (bit_or c.loop-i.used b) (drop (c.loop-i.i + 1) t)) c.bit_at-used.ensures
    ∙ (bits_next t c.loop-i.i c.loop-i.used (omega (arith, c.loop-i-test.true, c.len-i-end.ensures))
    ∙ c.loop-i.invariant)

pub returns : goal.returns
returns c =
    let t = c.args.self.now.actions in
    sym (bits_all t c.loop-i.i c.loop-i.used (omega (arith, c.loop-i-test.false, c.len-i-end.ensures))) ∙ c.loop-i.invariant
