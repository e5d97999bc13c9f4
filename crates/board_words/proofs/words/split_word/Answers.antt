use Rattle.std.proofs.Common.{arith}
use Rattle.board_words.proofs.Texts.{first_word_of, no_word_of}
use Rattle.board_words.proofs.words.split_word.Goals as goal

pub returns-then-end-eq0 : goal.returns-then-end-eq0
returns-then-end-eq0 c =
    no_word_of c.args.line.now c.split_at.result.1.now c.word_start.result c.word_end-end.result
    c.word_start.ensures.value c.split_at.ensures.back c.word_end-end.ensures.value c.if-end-eq0.true

pub returns : goal.returns
returns c =
    first_word_of c.args.line.now c.split_at.result.1.now c.word_start.result c.word_end-end.result
    c.split_at-2.result.0.now c.split_at-2.result.1.now c.word_start.ensures.value c.split_at.ensures.back
    c.word_end-end.ensures.value (omega arith) c.split_at-2.ensures.front c.split_at-2.ensures.back
