use Rattle.std.proofs.Common.{◌≡◌, ◌↔◌, ◌∙◌, ap, subst, reverse, IsTrue, Option, Some}
use Rattle.irq_base.specs.declared.entries.Actor.{Actor}
use Rattle.irq_base.specs.declared.entries.Entry.{Entry}
use Rattle.irq_base.specs.Who.{actor_of}
use Rattle.irq_base.proofs.SameEntries.{found_same}
use Rattle.irq_model.specs.Next.{next_past}
use Rattle.irq_vectors.proofs.judging.is_due.Goals as goal

pub returns : goal.returns
returns c =
    let past = reverse c.args.history.now.entries in
    let due : c.in_ok-due.due ≡ next_past c.args.def.now past (actor_of c.args.entry) =
    c.in_ok-due.ensures ∙ ap (λ (a : Actor). next_past c.args.def.now past a) c.actor.ensures in
    let P : Option Entry → Type 0 = λ found. IsTrue c.eq.result ↔ (found ≡ Some c.args.entry) in
    subst P due (found_same c.in_ok-due.due c.args.entry c.eq.result c.eq.ensures)
