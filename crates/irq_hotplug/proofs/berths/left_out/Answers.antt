use Rattle.std.proofs.Common.{◌+◌, cond, Option, Some, List, ◌∷◌, drop, ap, ◌∙◌, sym}
use Rattle.vector_matrix.specs.declared.view.Vector.{Vector}
use Rattle.irq_hotplug.specs.Berths.{left_out}
use Rattle.irq_hotplug.specs.declared.berths.Berth.{Berth}
use Rattle.irq_hotplug.proofs.berths.left_out.Goals as goal

pub loop-i-preserved : goal.loop-i-preserved
loop-i-preserved c =
    let b = c.at-berth.result in
    let bs = drop (c.loop-i.i + 1) c.args.berths.now in
    let ps = drop (c.loop-i.i + 1) c.args.found.now in
    c.loop-i.invariant
    ∙ ap (λ (xs : List Berth). left_out c.args.moving xs (drop c.loop-i.i c.args.found.now)) c.at-berth.ensures.left
    ∙ ap (λ (ys : List (Option Vector)). left_out c.args.moving (b ∷ bs) ys) c.at-vector.ensures.left
    ∙ ap (λ t. cond t (Some b.line) (left_out c.args.moving bs ps)) (sym c.is_left_out.ensures ∙ c.if-is_left_out.false)
