use Rattle.std.proofs.Common.{refl}
use Rattle.board_ready.proofs.Processors.{fresh_lines}
use Rattle.board_ready.proofs.calls.CallSets.new.Goals as goal

pub returns-clause-lines : goal.returns-clause-lines
returns-clause-lines c = fresh_lines _ 64 refl
