-- What a run answers and serves, and which call of it is due, read off the state of the line.
use Rattle.std.specs.Prelude.{ℕ, ◌&&◌, Bool, true, if◌then◌else◌, Option, Some, None, slice_get}
use Rattle.irq_base.specs.Handlers.{answer_of}
use Rattle.irq_base.specs.declared.calls.Call.{Call}
use Rattle.irq_base.specs.declared.devices.Answer.{Answer}
use Rattle.irq_base.specs.declared.devices.Part.{Part}
use Rattle.irq_base.specs.declared.devices.Part.TheVariants as parts
use Rattle.irq_base.specs.declared.devices.ToldAnswer.{ToldAnswer}
use Rattle.irq_base.specs.declared.lines.LineDef.{LineDef}
use Rattle.irq_base.specs.declared.numbers.DevNo.{DevNo}
use Rattle.irq_model.specs.Lines.{told_answers}
use Rattle.irq_model.specs.Runs.{is_recognised, serves_by_word}
use Rattle.irq_model.specs.Laid.{with_count}
use Rattle.device_table.specs.Rows.{at}
use Rattle.ask_counts.specs.Rows.{taken_by}
use Rattle.ask_counts.specs.declared.rows.AskRow.{AskRow}
use Rattle.run_scripts.specs.Places.{place_at, turn_at}
use Rattle.line_marks.specs.Facts.{kind_at, serves_in}
use Rattle.line_marks.specs.Places.{call_at}
use Rattle.line_marks.specs.State.{StateSeen}

-- how many asks were unserved as the run of that part began
abbrev pub met_in : Part → Option AskRow → ℕ
met_in part None = 0
met_in parts.Primary (Some r) = r.met_by_handler
met_in parts.Thread (Some r) = r.met_by_thread

abbrev pub met_at : StateSeen → Part → DevNo → ℕ
met_at s part d = met_in part (at s.asks d)

-- what the board has for the run, of a told device
abbrev pub told_at : LineDef → StateSeen → Part → DevNo → Option ToldAnswer
told_at def s part d = slice_get (told_answers def d part) (turn_at s.places d part).now

abbrev pub answer_at : LineDef → StateSeen → Part → DevNo → Answer
answer_at def s part d =
    answer_of (kind_at s.facts d) part (met_at s part d) (told_at def s part d)

-- how many asks the run serves as it returns
abbrev pub taken_in : Option AskRow → ℕ
taken_in None = 0
taken_in (Some r) = taken_by r

abbrev pub served_at : LineDef → StateSeen → Part → DevNo → ℕ
served_at def s part d =
    if serves_in s.facts part d && serves_by_word (kind_at s.facts d) (told_at def s part d)
    then taken_in (at s.asks d) else 0

-- a handler that doesn't recognise its device makes no call; a thread makes its calls in each run
abbrev pub makes_calls_at : LineDef → StateSeen → Part → DevNo → Bool
makes_calls_at def s parts.Primary d = is_recognised (answer_at def s parts.Primary d)
makes_calls_at def s parts.Thread d = true

-- the run's first call that isn't complete, and how many entries it has made
abbrev pub due_in_run_at : LineDef → StateSeen → Part → DevNo → Option (Call × ℕ)
due_in_run_at def s part d = if makes_calls_at def s part d
    then with_count (call_at def s.places part d) (place_at s.places d part).within else None
