-- The rows that say the verdict on a log, and why it is unlawful.
use Rattle.std.specs.Prelude.{ℕ, Option, Some, None, List, [], ◌++◌, codes, decimal}
use Rattle.irq_base.specs.declared.numbers.LineNo.{LineNo}
use Rattle.line_obstacles.specs.declared.obstacle.Obstacle.{Obstacle}
use Rattle.line_obstacles.specs.declared.obstacle.Obstacle.TheVariants as obstacles
use Rattle.log_check.specs.declared.verdict.Verdict.{Verdict}
use Rattle.log_check.specs.declared.verdict.Verdict.TheVariants as verdicts
use Rattle.log_check.specs.declared.why.DueThen.{DueThen}
use Rattle.log_check.specs.declared.why.DueThen.TheVariants as dues
use Rattle.log_check.specs.declared.why.Undue.{Undue}
use Rattle.log_text.specs.EntryWords.{actor_word}
use Rattle.log_text.specs.Rows.{entry_text}
use Rattle.irq_check.specs.declared.answers.Judgement.{Judgement}

abbrev pub verdict_text : Verdict → List ℕ
verdict_text verdicts.Lawful = codes "lawful\n"
verdict_text (verdicts.Unlawful line entry) =
    codes "unlawful " ++ decimal line.0 ++ codes " " ++ decimal entry ++ codes "\n"
verdict_text (verdicts.Malformed row) = codes "malformed " ++ decimal row ++ codes "\n"

-- what stood in an actor's way
abbrev pub obstacle_text : Obstacle → List ℕ
obstacle_text (obstacles.Flow cpu) = codes "the flow of c" ++ decimal cpu.0
obstacle_text (obstacles.Thread dev) = codes "the thread of " ++ decimal dev.0
obstacle_text (obstacles.Mutex holder) = codes "the mutex of " ++ actor_word holder
obstacle_text obstacles.Masked = codes "masked"
obstacle_text obstacles.NoSignal = codes "no signal"
obstacle_text (obstacles.Target cpu) = codes "the target is c" ++ decimal cpu.0

-- what was due in place of an entry that wasn't
abbrev pub due_text : LineNo → DueThen → List ℕ
due_text line (dues.Entry e) = entry_text line e
due_text line (dues.Nothing None) = codes "nothing\n"
due_text line (dues.Nothing (Some obstacle)) =
    codes "nothing: " ++ obstacle_text obstacle ++ codes "\n"

-- the row of the line's entry that wasn't due, and what was
abbrev pub why_text : LineNo → Undue → List ℕ
why_text line undue =
    codes "row " ++ decimal undue.row ++ codes "\ndue " ++ due_text line undue.due

-- the rows behind the verdict's
abbrev pub rest_text : Verdict → Option Undue → List ℕ
rest_text (verdicts.Unlawful line entry) (Some undue) = why_text line undue
rest_text verdict why = []

abbrev pub answer_text : Judgement → List ℕ
answer_text answer = verdict_text answer.verdict ++ rest_text answer.verdict answer.why
