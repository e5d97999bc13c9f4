use Rattle.std.proofs.Common.{◌+◌, Option, List, cond, count_by, drop, ap, ◌∙◌, add-zero}
use Rattle.std.proofs.lemmas.List.{drop_all}
use Rattle.vector_matrix.specs.Vectors.{count_of}
use Rattle.vector_matrix.specs.declared.view.Vector.{Vector}
use Rattle.irq_hotplug.specs.Berths.{is_at}
use Rattle.irq_hotplug.proofs.Counting.{back_tie, count_more, there_back}
use Rattle.irq_hotplug.proofs.placing.give_all.Goals as goal

pub give_one-requires : goal.give_one-requires
give_one-requires c =
    there_back c.loop-i.held.held c.args.held.now.held c.args.found.now c.at-vector.result (drop (c.loop-i.i + 1) c.args.found.now)
    (λ v. c.loop-i.invariant.tie v ∙ ap (λ (xs : List (Option Vector)). count_of v c.args.held.now.held + count_by (is_at v) xs) c.at-vector.ensures.left)
    c.requires

pub loop-i-preserved : goal.loop-i-preserved
loop-i-preserved c =
    let rest = drop (c.loop-i.i + 1) c.args.found.now in
    record {
      cpus = c.give_one.ensures.sized.0 ∙ c.loop-i.invariant.cpus;
      vectors = c.give_one.ensures.sized.1 ∙ c.loop-i.invariant.vectors;
      tie = λ v.
          back_tie (count_of v c.loop-i.held.held) (count_of v c.give_one.new.held.held) (cond (is_at v c.at-vector.result) 1 0)
          (count_by (is_at v) c.args.found.now)
          (count_of v c.args.held.now.held) (count_by (is_at v) (drop c.loop-i.i c.args.found.now)) (count_by (is_at v) rest)
          (c.give_one.ensures.held v) (c.loop-i.invariant.tie v)
          (ap (count_by (is_at v)) c.at-vector.ensures.left ∙ count_more (is_at v) c.at-vector.result rest);
    }

pub returns-clause-held : goal.returns-clause-held
returns-clause-held c v =
    c.loop-i.invariant.tie v
    ∙ ap (λ (xs : List (Option Vector)). count_of v c.args.held.now.held + count_by (is_at v) xs) (drop_all c.loop-i.i c.args.found.now c.loop-i-test.false)
    ∙ add-zero (count_of v c.args.held.now.held)
