use Rattle.std.proofs.Common.{Bool, Ok, subst}
use Rattle.irq_pm.specs.Phases.{Asleep}
use Rattle.irq_sleeper.specs.Hearing.{HearsOn}
use Rattle.irq_sleeper.specs.Steps.{GoesTo, Suspends}
use Rattle.irq_sleeper.proofs.Hearing.{hears_all, hears_then}
use Rattle.irq_sleeper.proofs.sleeper.Sleeper.play.Given as given
use Rattle.irq_sleeper.proofs.sleeper.Sleeper.play.Goals as goal
use Rattle.irq_sleeper.proofs.sleeper.Sleeper.play.Goals.{After-go_on, After-resume, After-sleep, After-suspend, Else-not-branch}

-- the machine is asleep
asleep : (g : given.Over) (c : Else-not-branch g) → GoesTo c.make_picks.new.self c.suspend.new.self c.args.picks.now Asleep
asleep g c = subst (λ (b : Bool). Suspends c.make_picks.new.self c.suspend.new.self c.args.picks.now (Ok b))
    c.if-not-branch.false c.in_ok-suspend.ensures.reaches

pub sleep-requires : goal.sleep-requires
sleep-requires g c = (asleep g (goal.at.sleep-requires g c).Else-not-branch).1

-- what was heard up to the end of each phase

suspended : (g : given.Over) (c : After-suspend g)
    → HearsOn g.H.Handler.hears c.args.self.now c.args.handlers.now c.suspend.new.self c.suspend.new.handlers
suspended g c = hears_then g.H.Handler.hears c.args.self.now c.make_picks.new.self c.suspend.new.self
    c.args.handlers.now c.make_picks.new.handlers c.suspend.new.handlers
    c.make_picks.ensures.heard c.in_ok-make_picks.ensures.reaches.1.told c.suspend.ensures.heard

slept : (g : given.Over) (c : After-sleep g)
    → HearsOn g.H.Handler.hears c.args.self.now c.args.handlers.now c.sleep.new.self c.sleep.new.handlers
slept g c = hears_then g.H.Handler.hears c.args.self.now c.suspend.new.self c.sleep.new.self c.args.handlers.now c.suspend.new.handlers c.sleep.new.handlers
    (suspended g (goal.at.After-sleep g c).After-suspend) (asleep g (goal.at.After-sleep g c).Else-not-branch).1.told c.sleep.ensures.heard

resumed : (g : given.Over) (c : After-resume g)
    → HearsOn g.H.Handler.hears c.args.self.now c.args.handlers.now c.resume.new.self c.resume.new.handlers
resumed g c = hears_then g.H.Handler.hears c.args.self.now c.sleep.new.self c.resume.new.self c.args.handlers.now c.sleep.new.handlers c.resume.new.handlers
    (slept g (goal.at.After-resume g c).After-sleep) c.in_ok-sleep.ensures.reaches.1.told c.resume.ensures.heard

gone_on : (g : given.Over) (c : After-go_on g)
    → HearsOn g.H.Handler.hears c.args.self.now c.args.handlers.now c.go_on.new.self c.go_on.new.handlers
gone_on g c = hears_then g.H.Handler.hears c.args.self.now c.resume.new.self c.go_on.new.self c.args.handlers.now c.resume.new.handlers c.go_on.new.handlers
    (resumed g (goal.at.After-go_on g c).After-resume) c.in_ok-resume.ensures.reaches.1.told c.go_on.ensures.heard

pub returns-in_err-make_picks-clause-heard : goal.returns-in_err-make_picks-clause-heard
returns-in_err-make_picks-clause-heard g c = hears_all g.H.Handler.hears c.args.self.now c.make_picks.new.self c.args.picks.now _ _ c.requires
    c.make_picks.ensures.heard

pub returns-in_err-suspend-clause-heard : goal.returns-in_err-suspend-clause-heard
returns-in_err-suspend-clause-heard g c = hears_all g.H.Handler.hears c.args.self.now c.suspend.new.self c.args.picks.now _ _ c.requires
    (suspended g (goal.at.returns-in_err-suspend-clause-heard g c).After-suspend)

pub returns-in_err-sleep-clause-heard : goal.returns-in_err-sleep-clause-heard
returns-in_err-sleep-clause-heard g c = hears_all g.H.Handler.hears c.args.self.now c.sleep.new.self c.args.picks.now _ _ c.requires
    (slept g (goal.at.returns-in_err-sleep-clause-heard g c).After-sleep)

pub returns-in_err-resume-clause-heard : goal.returns-in_err-resume-clause-heard
returns-in_err-resume-clause-heard g c = hears_all g.H.Handler.hears c.args.self.now c.resume.new.self c.args.picks.now _ _ c.requires
    (resumed g (goal.at.returns-in_err-resume-clause-heard g c).After-resume)

pub returns-then-not-branch-clause-heard : goal.returns-then-not-branch-clause-heard
returns-then-not-branch-clause-heard g c = hears_all g.H.Handler.hears c.args.self.now c.suspend.new.self c.args.picks.now _ _ c.requires
    (suspended g (goal.at.returns-then-not-branch-clause-heard g c).After-suspend)

pub returns-clause-heard : goal.returns-clause-heard
returns-clause-heard g c = hears_all g.H.Handler.hears c.args.self.now c.go_on.new.self c.args.picks.now _ _ c.requires
    (gone_on g (goal.at.returns-clause-heard g c).After-go_on)
