use Rattle.std.proofs.Common.{◌≡◌, IfSome, IfNone, ap, subst, ◌∙◌}
use Rattle.state_search.specs.Firsts.{IsNoted, IsNotedAt}
use Rattle.state_search.proofs.searched.Searched.first.Goals as goal

pub returns-clause-some : goal.returns-clause-some
returns-clause-some g c =
    let is = c.as_slice.ensures.value ∙ ap (λ s. s.firsts) c.self.view_is in
    subst (λ fs. IfSome c.place_of.result (λ n. IsNotedAt g.L.PartialEq.eq fs c.args.label (λ m. m ≡ n))) is c.place_of.ensures.some

pub returns-clause-none : goal.returns-clause-none
returns-clause-none g c =
    let is = c.as_slice.ensures.value ∙ ap (λ s. s.firsts) c.self.view_is in
    subst (λ fs. IfNone c.place_of.result (IsNoted g.L.PartialEq.eq fs c.args.label → ⊥)) is c.place_of.ensures.none
