-- What is seen of workers' jobs.
use Rattle.std.specs.Prelude.{ℕ, Bool, Option, List, Result}
use Rattle.irq_line.specs.declared.answers.StepRefused.{StepRefused}
use Rattle.workers.specs.declared.job.Work.{Work}
use Rattle.irq_base.specs.declared.entries.Actor.{Actor}
use Rattle.board_def.specs.Seen.{BoardSeen}
use Rattle.line_lock.specs.Passes.{PassSeen}

-- a pass, and whether its actor is known to have nothing due on what the pass has seen
pub record PostSeen : Type 0 where
  pub pass : PassSeen
  pub rests : Bool

-- The job of an actor: its passes, of the line at index `first` and of the lines after it; for a
-- processor the pass with which it has a flow in progress; for a driver how many of the board's
-- calls it is past; how many more steps it may make in this shift; and how its part of the last
-- shift ended.
pub record JobSeen : Type 0 where
  pub actor : Actor
  pub first : ℕ
  pub posts : List PostSeen
  pub flow : Option ℕ
  pub at : ℕ
  pub left : ℕ
  pub end : Result Work StepRefused

-- the board that is run, the jobs, and the first pass of each line
pub record JobsSeen : Type 0 where
  pub board : BoardSeen
  pub jobs : List JobSeen
  pub firsts : List PassSeen
