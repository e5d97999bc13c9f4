use Rattle.std.proofs.Common.{ap, sym, ◌∙◌, ◌++◌, length, arith}
use Rattle.std.proofs.lemmas.List.{at_drop_all}
use Rattle.state_search.specs.Packed.{unpacked}
use Rattle.state_search.proofs.Bytes.{cut_short}
use Rattle.state_search.proofs.packing.unpack_word.Goals as goal

pub returns-then-bytes-at-lt5-clause-words : goal.returns-then-bytes-at-lt5-clause-words
returns-then-bytes-at-lt5-clause-words c =
    ap (λ t. c.args.words.now.items ++ t)
    (at_drop_all unpacked c.args.bytes.now (length c.args.bytes.now) (omega arith)
    ∙ sym (cut_short c.args.bytes.now c.args.at _ c.requires c.if-byte-lt-WIDE.false (omega (arith, c.requires, c.if-bytes-at-lt5.true))))
