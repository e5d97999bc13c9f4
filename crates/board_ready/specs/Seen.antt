-- What is seen of the ready actors: two lists.
use Rattle.std.specs.Prelude.{List, Option}
use Rattle.board_ready.specs.declared.parts.LineReadiness.{LineReadiness}
use Rattle.board_ready.specs.declared.parts.CurrentCall.{CurrentCall}

pub record ReadySeen : Type 0 where
  -- a readiness for each line
  pub lines : List LineReadiness
  -- the current call of each driver, none if its script is at its end
  pub drivers : List (Option CurrentCall)
