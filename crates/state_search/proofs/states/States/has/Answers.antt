use Rattle.std.proofs.Common.{sym, subst, ◌∙◌}
use Rattle.state_search.specs.Growing.{IsIn}
use Rattle.state_search.specs.Packed.{unpacked}
use Rattle.state_search.specs.Paths.{states_of}
use Rattle.state_search.proofs.Kept.{has_yes, has_no}
use Rattle.state_search.proofs.states.States.has.Goals as goal

pub returns : goal.returns
returns g c =
    let bytes = c.args.packed.now in (
      λ h. subst (λ t. IsIn (states_of t) (unpacked bytes)) c.self.view_is
          (has_yes c.self.inside.rows.entries bytes (sym c.contains_key.ensures ∙ h)),
      λ h. c.contains_key.ensures ∙ has_no c.self.inside.rows.entries bytes c.self.invariant.1 c.requires
          (subst (λ t. IsIn (states_of t) (unpacked bytes)) (sym c.self.view_is) h),
    )
