use Rattle.std.proofs.Common.{◌≡◌, ◌==◌, ◌||◌, ◌&&◌, sym, ap, ◌∙◌}
use Rattle.std.specs.Int.{bit_at}
use Rattle.device_table.proofs.Words.{either_bit}
use Rattle.device_table.proofs.rank_set.joined.Goals as goal

pub returns-then-with : goal.returns-then-with
returns-then-with c = λ i. either_bit c.args.first c.args.second i
    ∙ ap (λ b. (bit_at c.args.first i == 1) || (b && (bit_at c.args.second i == 1))) (sym c.if-with.true)
