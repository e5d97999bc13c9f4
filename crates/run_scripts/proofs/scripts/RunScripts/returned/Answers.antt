use Rattle.std.proofs.Common.{◌≡◌, subst}
use Rattle.run_scripts.specs.Places.{after_return}
use Rattle.run_scripts.specs.Runs.{RunsSeen}
use Rattle.run_scripts.proofs.Bare.{return_stands}
use Rattle.run_scripts.proofs.scripts.RunScripts.returned.Goals as goal

pub returns-then-self : goal.returns-then-self
returns-then-self c =
    subst (λ (s : RunsSeen). s ≡ record s { places = after_return c.args.dev c.args.part s.places }) c.self.view_is
    (return_stands _ (c.self.invariant.bare_is c.if-self.true) c.args.dev c.args.part)
