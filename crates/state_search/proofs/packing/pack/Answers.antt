use Rattle.std.proofs.Common.{ap, ◌∙◌, arith}
use Rattle.state_search.specs.Packed.{unpacked}
use Rattle.state_search.proofs.Bytes.{packed_all, packed_back}
use Rattle.state_search.proofs.packing.pack.Goals as goal

pub returns-clause-words : goal.returns-clause-words
returns-clause-words c =
    ap unpacked (packed_all c.args.words.now c.loop-i.bytes.items c.loop-i.i (omega (arith, c.loop-i-test.false)) c.loop-i.invariant.packed)
    ∙ packed_back c.args.words.now (λ k d less. c.loop-i.invariant.small k d (omega (arith, less, c.loop-i-test.false)))
