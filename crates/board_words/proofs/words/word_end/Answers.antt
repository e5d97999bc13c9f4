use Rattle.std.proofs.Common.{length, arith}
use Rattle.std.proofs.lemmas.List.Sums.{position_or_len_is}
use Rattle.board_words.specs.Ends.{ends_word}
use Rattle.board_words.proofs.words.word_end.Goals as goal

pub returns-clause-value : goal.returns-clause-value
returns-clause-value c =
    let all = position_or_len_is ends_word c.args.line.now (length c.args.line.now) 0 (omega arith)
    (λ k h. c.loop-i.invariant k (omega arith)) (λ h. absurd (omega arith)) in
    cc
