use Rattle.std.proofs.Common.{refl, ◌∙◌, arith, length-set}
use Rattle.std.specs.Mem.Slots.{slots_items}
use Rattle.vector_matrix.proofs.Ends.{zero_word, copied, zeros_left}
use Rattle.vector_matrix.proofs.matrix.words_of.Goals as goal

pub loop-at-init : goal.loop-at-init
loop-at-init c = (refl, (λ k less. absurd (omega arith)), (λ k more. zero_word 32 k))

pub loop-at-preserved : goal.loop-at-preserved
loop-at-preserved c =
    let old = c.loop-at.invariant in (
      length-set c.loop-at.words c.loop-at.at c.word.result ∙ old.0,
      copied c.loop-at.words (slots_items c.args.closed.now.words) c.loop-at.at c.word.result (omega arith) c.word.ensures old.1,
      zeros_left c.loop-at.words c.loop-at.at c.word.result old.2,
    )
