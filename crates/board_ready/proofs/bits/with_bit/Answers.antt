use Rattle.std.proofs.Common.{sym, ap, ◌∙◌, cond, eqb}
use Rattle.board_ready.specs.Sets.{has}
use Rattle.board_ready.proofs.Numbers.{with_number, without_number}
use Rattle.board_ready.proofs.bits.with_bit.Goals as goal

pub returns-then-to : goal.returns-then-to
returns-then-to c = λ i small. with_number c.args.word c.args.number i c.requires small
    ∙ ap (λ b. cond (eqb i c.args.number) b (has c.args.word i)) (sym c.if-to.true)

pub returns-else-to : goal.returns-else-to
returns-else-to c = λ i small. without_number c.args.word c.args.number i c.requires small
    ∙ ap (λ b. cond (eqb i c.args.number) b (has c.args.word i)) (sym c.if-to.false)
