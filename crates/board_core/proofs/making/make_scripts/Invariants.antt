use Rattle.board_core.specs.Making.{AreCut}
use Rattle.board_core.proofs.making.make_scripts.Given as goal

abbrev pub invariant-loop-call : goal.invariant-loop-call
invariant-loop-call l = AreCut l.board l.call-index l.scripts.items
