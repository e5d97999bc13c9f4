-- The calls and the answers of runs, which no reading changes.
use Rattle.std.specs.Prelude.{◌≡◌}
use Rattle.line_state.specs.Seen.{LineStateSeen}

-- both states know the same
pub record AreSameRuns (a b : LineStateSeen) : Type 0 where
  pub calls : b.fixed.calls ≡ a.fixed.calls
  pub answers : b.fixed.answers ≡ a.fixed.answers
