use Rattle.std.proofs.Common.{◌+◌, ◌*◌, ◌-◌, get_or, sym, ◌∙◌, arith}
use Rattle.board_words.proofs.Spelled.{value_more, too_large}
use Rattle.board_words.proofs.spelling.value_up_to.Goals as goal

pub returns-then-value-from : goal.returns-then-value-from
returns-then-value-from c =
    let digits = c.args.digits.now in
    let i = c.loop-b.b-index in
    let value = 10 * c.loop-b.value + (get_or digits i 0 - 48) in
    let more = value_more digits i c.loop-b.value (omega arith) in
    too_large digits (i + 1) value c.args.high (omega arith) (sym more ∙ c.loop-b.invariant.rest)
