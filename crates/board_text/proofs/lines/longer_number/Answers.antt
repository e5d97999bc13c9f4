use Rattle.std.proofs.Common.{rules, ◌≡◌, ◌≤◌, length, get_or, sym, ◌∙◌}
use Rattle.board_text.proofs.Asks.{two_read, three_read}
use Rattle.board_text.proofs.lines.longer_number.Goals as goal

pub returns-then-is_digit-2 : goal.returns-then-is_digit-2
returns-then-is_digit-2 c =
    let text = c.args.text.now in
    let long : 4 ≤ length text = search rules in
    let end : get_or text 3 0 ≡ 10 = search rules in
    rw (c.value_of.ensures, c.value_of-then-is_digit-2.ensures, c.value_of-then-is_digit-2-2.ensures) (three_read text long end
    (sym c.is_above_zero.ensures ∙ c.if-is_above_zero.true) (sym c.is_digit.ensures ∙ c.if-is_digit.true)
    (sym c.is_digit-then-is_digit.ensures ∙ c.if-is_digit-2.true))

pub returns-then-is_digit-3 : goal.returns-then-is_digit-3
returns-then-is_digit-3 c =
    let text = c.args.text.now in
    let long : 3 ≤ length text = search rules in
    let end : get_or text 2 0 ≡ 10 = search rules in
    rw (c.value_of-then-is_digit-3.ensures, c.value_of-then-is_digit-3-2.ensures) (two_read text long end
    (sym c.is_above_zero-in-10.ensures ∙ c.if-is_above_zero-2.true) (sym c.is_digit-then-is_above_zero-2.ensures ∙ c.if-is_digit-3.true))
