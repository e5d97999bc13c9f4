use Rattle.std.proofs.Common.{rules, ◌≡◌, get_or, sym, ◌∙◌}
use Rattle.board_text.proofs.Asks.{one_read}
use Rattle.board_text.proofs.lines.device_asked.Goals as goal

pub returns-in-97 : goal.returns-in-97
returns-in-97 c =
    let text = c.args.text.now in
    let a : get_or text 0 0 ≡ 97 = search rules in
    let s : get_or text 1 0 ≡ 115 = search rules in
    let k : get_or text 2 0 ≡ 107 = search rules in
    let blank : get_or text 3 0 ≡ 32 = search rules in
    let end : get_or text 5 0 ≡ 10 = search rules in
    rw c.value_of.ensures (one_read text c.in-97.len_at_least a s k blank end (sym c.is_above_zero.ensures ∙ c.if-is_above_zero.true))
