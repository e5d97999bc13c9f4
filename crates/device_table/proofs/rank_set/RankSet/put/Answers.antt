use Rattle.std.proofs.Common.{◌≡◌, ◌/◌, ◌%◌, ◌<◌, ◌==◌, true, false, cond, slice_index, length, w64, sym, ap, ◌∙◌, arith}
use Rattle.std.proofs.lemmas.Nat.Bits.{bit_at_set_same, bit_at_set_other, bit_at_clear_same, bit_at_clear_other}
use Rattle.device_table.specs.RankSets.{holds}
use Rattle.device_table.proofs.Words.{change_bit}
use Rattle.device_table.proofs.rank_set.RankSet.put.Goals as goal

pub returns-then-to : goal.returns-then-to
returns-then-to c = λ r small.
    let ws = c.self.inside.words in
    let word = slice_index ws (c.args.rank / 64) in
    let k : c.args.rank % 64 < 64 = omega arith in
    let inside : c.args.rank / 64 < length ws = omega (arith, c.requires) in
    change_bit ws c.args.rank r true _ inside (ap (λ n. n == 1) (bit_at_set_same w64 word (c.args.rank % 64) k))
    (λ i low apart. bit_at_set_other w64 word (c.args.rank % 64) k i apart)
    ∙ (ap (λ b. cond (r == c.args.rank) b (holds ws r)) (sym c.if-to.true) ∙ ap (λ s. cond (r == c.args.rank) c.args.to (holds s r)) c.self.view_is)

pub returns-else-to : goal.returns-else-to
returns-else-to c = λ r small.
    let ws = c.self.inside.words in
    let word = slice_index ws (c.args.rank / 64) in
    let k : c.args.rank % 64 < 64 = omega arith in
    let inside : c.args.rank / 64 < length ws = omega (arith, c.requires) in
    change_bit ws c.args.rank r false _ inside (ap (λ n. n == 1) (bit_at_clear_same w64 word (c.args.rank % 64) k))
    (λ i low apart. bit_at_clear_other w64 word (c.args.rank % 64) k i low apart)
    ∙ (ap (λ b. cond (r == c.args.rank) b (holds ws r)) (sym c.if-to.false) ∙ ap (λ s. cond (r == c.args.rank) c.args.to (holds s r)) c.self.view_is)
