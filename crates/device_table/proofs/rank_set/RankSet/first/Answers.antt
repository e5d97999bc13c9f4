use Rattle.std.proofs.Common.{◌≡◌, ℕ, ◌<◌, ◌||◌, ◌&&◌, sym, ap, ◌∙◌, arith}
use Rattle.device_table.specs.RankSets.{holds}
use Rattle.device_table.proofs.Words.{found_first, none_here, word_test}
use Rattle.device_table.proofs.rank_set.RankSet.first.Goals as goal

pub returns-then-word-ne0 : goal.returns-then-word-ne0
returns-then-word-ne0 c =
    let ws = c.self.inside.words in
    let os = c.other.inside.words in
    let test = λ (r : ℕ). holds ws r || (c.args.with && holds os r) in
    let back = λ (r : ℕ). ap (λ s. holds s r || (c.args.with && holds c.args.other.now r)) (sym c.self.view_is)
    ∙ ap (λ s. holds ws r || (c.args.with && holds s r)) (sym c.other.view_is) in
    let found =
    found_first test c.joined-word.result c.loop-k.k (omega arith) (omega arith) (omega (arith, c.joined-word.type_inv))
    (word_test ws os c.args.with c.joined-word.result c.loop-k.k c.joined-word.ensures)
    c.loop-k.invariant in
    (found.0, back _ ∙ found.1, λ q below. back q ∙ found.2 q below)

pub loop-k-preserved : goal.loop-k-preserved
loop-k-preserved c =
    none_here (λ (r : ℕ). holds c.self.inside.words r || (c.args.with && holds c.other.inside.words r)) c.joined-word.result c.loop-k.k c.if-word-ne0.false
    (word_test c.self.inside.words c.other.inside.words c.args.with c.joined-word.result c.loop-k.k c.joined-word.ensures) c.loop-k.invariant

pub returns : goal.returns
returns c = λ r small.
    ap (λ s. holds s r || (c.args.with && holds c.args.other.now r)) (sym c.self.view_is)
    ∙ (ap (λ s. holds c.self.inside.words r || (c.args.with && holds s r)) (sym c.other.view_is)
    ∙ c.loop-k.invariant r (omega (arith, small, c.loop-k-test.false)))
