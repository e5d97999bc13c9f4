-- What the board says of a run: what it answers, and the calls that it makes (`handle_irq_event`,
-- `irq_thread`: a driver's own code, so all of this is ours).
use Rattle.std.specs.Prelude.{ℕ, min, Bool, true, false, not, ◌&&◌, ◌||◌, ◌==◌, if◌then◌else◌}
use Rattle.std.specs.Prelude.{Option, Some, None, List, [], ◌∷◌, nat_lt, length, filter, reverse}
use Rattle.std.specs.Prelude.{slice_get}
use Rattle.irq_base.specs.declared.numbers.DevNo.{DevNo}
use Rattle.irq_base.specs.declared.calls.Call.{Call}
use Rattle.irq_base.specs.declared.devices.Answer.{Answer}
use Rattle.irq_base.specs.declared.devices.Answer.TheVariants as answers
use Rattle.irq_base.specs.declared.devices.Kind.{Kind}
use Rattle.irq_base.specs.declared.devices.Kind.TheVariants as kinds
use Rattle.irq_base.specs.declared.devices.Part.{Part}
use Rattle.irq_base.specs.declared.devices.Part.TheVariants as parts
use Rattle.irq_base.specs.declared.devices.ToldAnswer.{ToldAnswer}
use Rattle.irq_base.specs.declared.devices.ToldAnswer.TheVariants as tolds
use Rattle.irq_base.specs.declared.lines.LineDef.{LineDef}
use Rattle.irq_base.specs.declared.entries.Entry.{Entry}
use Rattle.irq_base.specs.Handlers.{answer_of}
use Rattle.irq_model.specs.Places.{since, before, count_of}
use Rattle.irq_model.specs.Kinds.{is_begin_or_return, is_thread_begin, is_cpu_call, is_thread_call}
use Rattle.irq_model.specs.Lines.{kind_of, run_script, told_answers, same_part}
use Rattle.irq_model.specs.Asks.{begins_run, serving, taken_away, unserved_asks}
use Rattle.irq_model.specs.Due.{due_of}

-- ---- what a run answers

-- how many runs of that part of d began before the one that is there
abbrev pub runs_before : Part → DevNo → List Entry → ℕ
runs_before part d past = count_of (begins_run part d) (before (begins_run part d) past)

-- the answer that the board has for the run; after its last answer, and without any: nothing. The
-- lesser of two numbers, so that a search has finitely many states
abbrev pub told_of : LineDef → Part → DevNo → List Entry → Option ToldAnswer
told_of def part d past = slice_get (told_answers def d part)
    (min (runs_before part d past) (length (told_answers def d part)))

-- how many asks were unserved as the run began
abbrev pub met_by : LineDef → Part → DevNo → List Entry → ℕ
met_by def part d past = unserved_asks def d (before (begins_run part d) past)

abbrev pub answer_of_run_now : LineDef → Part → DevNo → List Entry → Answer
answer_of_run_now def part d past =
    answer_of (kind_of def d) part (met_by def part d past) (told_of def part d past)

abbrev pub is_handled_word : Option ToldAnswer → Bool
is_handled_word (Some tolds.Handled) = true
is_handled_word _ = false

-- a run of the kind serves: a told device's only where its word is `handled`
abbrev pub serves_by_word : Kind → Option ToldAnswer → Bool
serves_by_word (kinds.Told threaded) told = is_handled_word told
serves_by_word _ told = true

abbrev pub is_that_part : Part → Option Part → Bool
is_that_part part None = false
is_that_part part (Some serving) = same_part part serving

-- how many asks the run serves as it returns
abbrev pub served_by_run : LineDef → Part → DevNo → List Entry → ℕ
served_by_run def part d past =
    if is_that_part part (serving def d) && serves_by_word (kind_of def d) (told_of def part d past)
    then taken_away def part d past else 0

-- ---- the calls of a run

abbrev pub is_recognised : Answer → Bool
is_recognised answers.Nothing = false
is_recognised _ = true

-- a handler that doesn't recognise its device makes no call; a thread makes its calls in each run
abbrev pub makes_calls : LineDef → Part → DevNo → List Entry → Bool
makes_calls def parts.Primary d past = is_recognised (answer_of_run_now def parts.Primary d past)
makes_calls def parts.Thread d past = true

-- the entries of the run's calls so far, the oldest first: between a handler's begin and its return
-- nobody else makes calls as a processor
abbrev pub entries_of_run : Part → DevNo → List Entry → List Entry
entries_of_run parts.Primary d past = reverse (filter is_cpu_call (since is_begin_or_return past))
entries_of_run parts.Thread d past =
    reverse (filter (is_thread_call d) (since (is_thread_begin d) past))

-- the run's first call that isn't complete, and how many entries it has made
abbrev pub due_in_run : LineDef → Part → DevNo → List Entry → Option (Call × ℕ)
due_in_run def part d past = if makes_calls def part d past
    then due_of (run_script def d part) (entries_of_run part d past) else None
