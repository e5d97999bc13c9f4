use Rattle.std.proofs.Common.{◌≡◌, drop}
use Rattle.std.specs.List.{list_any}
use Rattle.board_stated.specs.FaultsAfter.{picks_nothing}
use Rattle.board_text.proofs.faults.any_picks_nothing.Given as goal

abbrev pub invariant-loop-i : goal.invariant-loop-i
invariant-loop-i l = list_any (λ p. picks_nothing l.board p.who) l.picks ≡ list_any (λ p. picks_nothing l.board p.who) (drop l.i l.picks)
