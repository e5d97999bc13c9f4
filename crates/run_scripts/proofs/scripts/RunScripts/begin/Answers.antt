use Rattle.std.proofs.Common.{◌≡◌, subst}
use Rattle.std.proofs.Common.{length}
use Rattle.run_scripts.specs.Places.{after_begin}
use Rattle.run_scripts.specs.Runs.{RunsSeen, answers_of}
use Rattle.run_scripts.proofs.Bare.{begin_stands}
use Rattle.run_scripts.proofs.scripts.RunScripts.begin.Goals as goal

pub returns-then-self : goal.returns-then-self
returns-then-self c =
    subst (λ (s : RunsSeen). s ≡ record s {
      places = after_begin (length (answers_of s c.args.dev c.args.part))
          c.args.dev c.args.part s.places;
    }) c.self.view_is
    (begin_stands _ (c.self.invariant.bare_is c.if-self.true) c.args.dev c.args.part)
