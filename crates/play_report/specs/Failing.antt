-- How a play ended.
use Rattle.std.specs.Prelude.{Bool, true, false, Result, Ok, Err}
use Rattle.board_core.specs.declared.ends.PlayEnd.{PlayEnd}
use Rattle.play_report.specs.declared.failing.PlayFailed.{PlayFailed}
use Rattle.play_report.specs.declared.failing.PlayFailed.TheVariants as fails

-- the report was being printed when a fault came
abbrev pub is_write_fault : Result PlayEnd PlayFailed → Bool
is_write_fault (Err (fails.Write _)) = true
is_write_fault _ = false

-- something may have been printed
abbrev pub is_printing : Result PlayEnd PlayFailed → Bool
is_printing (Ok _) = true
is_printing (Err (fails.Write _)) = true
is_printing _ = false
