use Rattle.std.proofs.Common.{◌<◌, ◌+◌, length, sym, subst, ap, ◌∙◌, ◌≡◌, arith}
use Rattle.std.specs.List.{slice_get}
use Rattle.std.proofs.lemmas.List.{length_push}
use Rattle.domain_rules.specs.Paths.{parent_in}
use Rattle.domain_hier.specs.Hierarchies.{HierarchySeen}
use Rattle.domain_hier.proofs.Ways.{IsBelow, parent_there}
use Rattle.domain_hier.proofs.hierarchy.Hierarchy.+push_levels.Goals as goal

pub push_levels-requires : goal.push_levels-requires
push_levels-requires t c =
    let domains = c.self.inside.domains.items in
    let here : c.in-Some.place < length c.args.self.now.domains = subst (IsBelow (length c.args.self.now.domains)) c.in-Some.is c.requires.there in
    let there : c.in-Some.place < length domains = subst (λ (h : HierarchySeen). c.in-Some.place < length h.domains) (sym c.self.view_is) here in
    let is : parent_in (slice_get domains c.in-Some.place)
    ≡ c.parent_of-above.result = sym (c.parent_of-above.ensures
    ∙ ap parent_in (c.domain_at.ensures ∙ ap (λ ds. slice_get ds c.in-Some.place) c.as_slice.ensures.value)) in
    let long : length c.push.new.self ≡ length c.args.path.now + 1 = ap length c.push.ensures
    ∙ length_push c.args.path.now (c.in-Some.place, c.lowest_free.result) in (
      omega (arith, c.decreases, c.if-left-eq0.false),
      (
        omega (arith, long, c.requires.room, c.if-left-eq0.false),
        (
          subst (λ (h : HierarchySeen). IsBelow (length h.domains) c.parent_of-above.result) c.self.view_is
              (subst (IsBelow (length domains)) is (parent_there domains c.self.invariant.each c.in-Some.place there)),
          c.requires.few,
        ),
      ),
    )
