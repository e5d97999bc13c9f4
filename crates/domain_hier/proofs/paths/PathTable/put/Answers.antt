use Rattle.std.proofs.Common.{◌≡◌, ◌+◌, sym, ◌∙◌, drop, subst}
use Rattle.domain_hier.specs.PathsInUse.{first_free, placed}
use Rattle.domain_hier.proofs.Slots.{Paths, free_after}
use Rattle.domain_hier.proofs.paths.PathTable.put.Goals as goal

pub next_free-self-inside-requires : goal.next_free-self-inside-requires
next_free-self-inside-requires c =
    let is : c.as_slice.result.now ≡ placed c.self.inside.paths.items c.args.path = c.as_slice.ensures.value ∙ c.in_ok-store.ensures.ok in
    subst (λ (ps : Paths). first_free (drop c.self.inside.free ps) + c.self.inside.free ≡ first_free ps) (sym is)
    (free_after c.self.inside.paths.items c.args.path c.self.inside.free c.self.invariant)
