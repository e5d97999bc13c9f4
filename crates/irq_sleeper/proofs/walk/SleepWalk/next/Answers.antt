use Rattle.std.proofs.Common.{◌≡◌, None, [], ◌∷◌}
use Rattle.irq_pm.specs.declared.entries.SleepEntry.TheVariants as sleeps
use Rattle.irq_sleeper.specs.Seen.{asleep_at, marked}
use Rattle.irq_sleeper.proofs.Marking.{found_asleep, found_wake, not_here, no_mark, first_of, rest_of}
use Rattle.irq_sleeper.proofs.walk.SleepWalk.next.Given as given
use Rattle.irq_sleeper.proofs.walk.SleepWalk.next.Goals as goal
use Rattle.irq_sleeper.proofs.walk.SleepWalk.next.Goals.{in-Some+else-at-self, in_default, Then-at-self, Then-wake-self}

-- the mark that stands first in what is left
asleep : (g : given.Over) (c : Then-at-self g)
    → c.args.self.now ≡ sleeps.Asleep ∷ marked None c.self.inside.wake c.self.inside.at c.self.inside.moves
asleep g c = found_asleep c.self.inside.asleep c.self.inside.wake c.self.inside.at c.in-Some.at c.self.inside.moves c.args.self.now
    c.in-Some.is c.if-at-self.true c.self.view_is

wake : (g : given.Over) (c : Then-wake-self g)
    → c.args.self.now ≡ sleeps.Wake c.in-Some-wake.wake.line ∷ marked c.self.inside.asleep None c.self.inside.at c.self.inside.moves
wake g c =
    let none : asleep_at c.self.inside.asleep c.self.inside.at ≡ [] = elim c.match-self.branch [
      | in-Some+else-at-self w ↦ not_here c.self.inside.asleep w.in-Some.at c.self.inside.at w.in-Some.is w.if-at-self.false
      | in_default w ↦ no_mark c.self.inside.asleep c.self.inside.at w.in_default.not-Some
    ] in
    found_wake c.self.inside.asleep c.self.inside.wake c.in-Some-wake.wake c.self.inside.at c.self.inside.moves c.args.self.now
    c.in-Some-wake.is none c.if-wake-self.true c.self.view_is

pub returns-then-at-self-clause-first : goal.returns-then-at-self-clause-first
returns-then-at-self-clause-first g c = first_of c.args.self.now _ _ (asleep g (goal.at.returns-then-at-self-clause-first g c).Then-at-self)

pub returns-then-at-self-clause-rest : goal.returns-then-at-self-clause-rest
returns-then-at-self-clause-rest g c = rest_of c.args.self.now _ _ (asleep g (goal.at.returns-then-at-self-clause-rest g c).Then-at-self)

pub returns-then-wake-self-clause-first : goal.returns-then-wake-self-clause-first
returns-then-wake-self-clause-first g c = first_of c.args.self.now _ _ (wake g (goal.at.returns-then-wake-self-clause-first g c).Then-wake-self)

pub returns-then-wake-self-clause-rest : goal.returns-then-wake-self-clause-rest
returns-then-wake-self-clause-rest g c = rest_of c.args.self.now _ _ (wake g (goal.at.returns-then-wake-self-clause-rest g c).Then-wake-self)
