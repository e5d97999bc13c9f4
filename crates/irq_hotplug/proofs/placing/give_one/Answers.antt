use Rattle.std.proofs.Common.{◌≡◌, ◌+◌, true, cond, Option, ap, ◌∙◌, subst}
use Rattle.vector_matrix.specs.Vectors.{count_of, is_in, without}
use Rattle.vector_matrix.specs.declared.view.Vector.{Vector}
use Rattle.vector_matrix.proofs.Listing.{in_counts}
use Rattle.irq_hotplug.specs.Berths.{IfThere, is_at}
use Rattle.irq_hotplug.specs.Held.{HeldSeen}
use Rattle.irq_hotplug.proofs.Counting.{one_less}
use Rattle.irq_hotplug.proofs.placing.give_one.Goals as goal

pub returns-in-Some-clause-held : goal.returns-in-Some-clause-held
returns-in-Some-clause-held c v =
    let w = c.in-Some.vector in
    let held = c.args.held.now.held in
    let there : is_in w held ≡ true = subst (λ (p : Option Vector). IfThere (λ x. is_in x held ≡ true) p) c.in-Some.is c.requires in
    ap (λ (h : HeldSeen). count_of v h.held + cond (is_at v c.args.vector) 1 0) c.give_back.ensures
    ∙ ap (λ (p : Option Vector). count_of v (without w held) + cond (is_at v p) 1 0) c.in-Some.is
    ∙ one_less v w held (c.is_each_once.ensures w) (in_counts w held there)
