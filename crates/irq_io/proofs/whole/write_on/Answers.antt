use Rattle.std.proofs.Common.{arith, ◌∙◌, length, drop, ◌-◌}
use Rattle.std.proofs.lemmas.List.{length-take, length-drop, take_rest}
use Rattle.irq_io.proofs.Pieces.{WritesAll-failed, WritesAll-more}
use Rattle.irq_io.proofs.whole.write_on.Goals as goal

pub loop-done-preserved : goal.loop-done-preserved
loop-done-preserved g c =
    let bytes = c.args.bytes.now in
    let done = c.loop-done.done in
    let before = c.loop-done.invariant in
    let write = c.in-Took.ensures in
    record {
      within = omega (arith, write.bound.1, length-take (length bytes - done) (drop done bytes), length-drop done bytes, before.within);
      content = WritesAll-more _ _ _ bytes done c.in-Took.count before.content (rw (take_rest bytes done) at write.content);
      same = write.cause ∙ before.same;
    }

pub returns-in-Failed-clause-content : goal.returns-in-Failed-clause-content
returns-in-Failed-clause-content g c = WritesAll-failed _ _ _ _ _ _ _ c.loop-done.invariant.content c.in-Failed.ensures.content
