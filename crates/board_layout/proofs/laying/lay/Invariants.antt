use Rattle.board_layout.specs.Laid.{IsLaid}
use Rattle.board_layout.proofs.laying.lay.Given as goal

abbrev pub invariant-loop-i : goal.invariant-loop-i
invariant-loop-i l = IsLaid l.board l.i l.domains l.layout
