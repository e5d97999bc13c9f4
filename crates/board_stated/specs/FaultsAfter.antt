-- What is wrong with a statement after the statements before it, which stand newest first. A fault
-- in the statement itself comes before all of these.
use Rattle.std.specs.Prelude.{ℕ, ◌+◌, Bool, true, false, not, ◌&&◌, ◌||◌, ◌==◌, nat_lt, nat_le}
use Rattle.std.specs.Prelude.{is_none, if◌then◌else◌, Option, Some, None, List, [], ◌∷◌, length}
use Rattle.std.specs.List.{list_any}
use Rattle.std.specs.Option.{option_map_or}
use Rattle.irq_base.specs.Handlers.{has_thread}
use Rattle.irq_base.specs.declared.calls.Call.{Call}
use Rattle.irq_base.specs.declared.calls.Call.TheVariants as calls
use Rattle.irq_base.specs.declared.devices.DeviceDef.{DeviceDef}
use Rattle.irq_base.specs.declared.devices.Part.{Part}
use Rattle.irq_base.specs.declared.devices.Part.TheVariants as parts
use Rattle.irq_base.specs.declared.numbers.DevNo.{DevNo}
use Rattle.irq_model.specs.Kinds.{same_dev}
use Rattle.irq_model.specs.Places.{count_of}
use Rattle.irq_model.specs.Signal.{lowest_in}
use Rattle.irq_model.specs.ValidRuns.{has_script, is_told}
use Rattle.board_def.specs.Find.{place_of_name, last_line, last_device, last_driver}
use Rattle.board_def.specs.Rules.{has_name, has_line, find_device, has_driver, is_bad_unlazy}
use Rattle.board_def.specs.Rules.{is_bad_owner}
use Rattle.domain_rules.specs.Domains.{is_bad_parent}
use Rattle.board_def.specs.Runs.{is_call_of, arms_itself, is_allowed_run, is_told_one}
use Rattle.board_def.specs.Seen.{BoardSeen}
use Rattle.board_def.specs.Unnamed.{defs_of}
use Rattle.board_def.specs.declared.names.Name.{Name}
use Rattle.board_def.specs.declared.rows.DomainRow.{DomainRow}
use Rattle.board_def.specs.declared.rows.RunCall.{RunCall}
use Rattle.board_words.specs.declared.faults.FaultKind.{FaultKind}
use Rattle.board_words.specs.declared.faults.FaultKind.TheVariants as faults
use Rattle.board_words.specs.declared.statements.AnswerWord.{AnswerWord}
use Rattle.board_words.specs.declared.statements.CallWords.{CallWords}
use Rattle.board_words.specs.declared.statements.CallWords.TheVariants as words
use Rattle.irq_base.specs.declared.entries.Actor.{Actor}
use Rattle.irq_base.specs.declared.entries.Actor.TheVariants as actors
use Rattle.board_words.specs.declared.statements.PickWord.{PickWord}
use Rattle.board_words.specs.declared.statements.Statement.{Statement}
use Rattle.board_words.specs.declared.statements.Statement.TheVariants as statements
use Rattle.board_stated.specs.Sections.{section_in, section_reached, writer_of, turn_after}
use Rattle.board_stated.specs.Sections.{turn_reached, is_header, is_cpus, is_spurious, is_log}
use Rattle.board_stated.specs.Stated.{board_of, parent_place, place_or_first, driver_writing}
use Rattle.board_stated.specs.Stated.{call_of_words, run_call}
use Rattle.board_stated.specs.declared.writers.Writer.{Writer}
use Rattle.board_stated.specs.declared.writers.Writer.TheVariants as writers

-- out of order

abbrev pub is_empty : {A : Type 0} → List A → Bool
is_empty xs = length xs == 0

-- a number that isn't above the last one of its kind
abbrev pub is_misplaced : BoardSeen → Statement → Bool
is_misplaced b (statements.Line l) =
    option_map_or (λ last. nat_le l.line.0 last.0) (last_line b.lines) false
is_misplaced b (statements.Device d) =
    option_map_or (λ last. nat_le d.dev.0 last.0) (last_device b.devices) false
is_misplaced b (statements.Driver driver) =
    option_map_or (λ last. nat_le driver.0 last.0) (last_driver b.drivers) false
is_misplaced b _ = false

abbrev pub is_nobody : Writer → Bool
is_nobody writers.Nobody = true
is_nobody _ = false

-- a call that is of no script, or a statement on runs after one of a later turn
abbrev pub is_out_of_turn : List Statement → Statement → Bool
is_out_of_turn past (statements.Call c) = is_nobody (writer_of past)
is_out_of_turn past s = nat_lt (turn_after (turn_reached past) s) (turn_reached past)

abbrev pub is_out_of_order : List Statement → Statement → Bool
is_out_of_order past s =
    nat_lt (section_in (section_reached past) s) (section_reached past)
    || (is_misplaced (board_of past) s || is_out_of_turn past s)

-- twice

abbrev pub has_flag_twice : CallWords → Bool
has_flag_twice (words.Request dev flags twice) = twice
has_flag_twice _ = false

-- its turn is that of the newest statement on runs
abbrev pub has_turn_again : List Statement → Statement → Bool
has_turn_again past s = turn_after (turn_reached past) s == turn_reached past

abbrev pub is_twice : List Statement → Statement → Bool
is_twice past (statements.Board version) = list_any is_header past
is_twice past (statements.Cpus cpus) = list_any is_cpus past
is_twice past (statements.Spurious window limit) = list_any is_spurious past
is_twice past (statements.Log log) = list_any is_log past
is_twice past (statements.Domain d) = has_name (board_of past).domains d.name || d.twice
is_twice past (statements.Line l) = l.twice
is_twice past (statements.Device d) = d.twice
is_twice past (statements.Answers dev part answers) = has_turn_again past
    (statements.Answers dev part answers)
is_twice past (statements.Runs dev part) = has_turn_again past (statements.Runs dev part)
is_twice past (statements.Call c) = has_flag_twice c
is_twice past _ = false

-- not there

abbrev pub is_parent_missing : List DomainRow → Option Name → Bool
is_parent_missing domains (Some name) = not (has_name domains name)
is_parent_missing domains None = false

abbrev pub has_no_device : BoardSeen → DevNo → Bool
has_no_device b dev = is_none (find_device b.devices dev)

abbrev pub names_nothing : BoardSeen → CallWords → Bool
names_nothing b (words.Request dev flags twice) = has_no_device b dev
names_nothing b (words.Free dev) = has_no_device b dev
names_nothing b (words.Ask dev) = has_no_device b dev
names_nothing b (words.Disable line) = not (has_line b.lines line)
names_nothing b (words.DisableNosync line) = not (has_line b.lines line)
names_nothing b (words.Enable line) = not (has_line b.lines line)
names_nothing b (words.Sync line) = not (has_line b.lines line)
names_nothing b (words.Affinity line mask) = not (has_line b.lines line)
names_nothing b (words.Moment line at) = not (has_line b.lines line)
names_nothing b (words.SyncHard line) = not (has_line b.lines line)
names_nothing b (words.DisableHard line) = not (has_line b.lines line)
names_nothing b (words.Wake dev) = has_no_device b dev
names_nothing b (words.Quiet dev) = has_no_device b dev
names_nothing b (words.Arm dev) = has_no_device b dev
names_nothing b (words.Serve dev) = has_no_device b dev

abbrev pub has_no_thread : Option DeviceDef → Bool
has_no_thread (Some x) = not (has_thread x.kind)
has_no_thread None = true

-- no device, or no thread of it
abbrev pub has_no_part : Part → Option DeviceDef → Bool
has_no_part parts.Primary x = is_none x
has_no_part parts.Thread x = has_no_thread x

-- no device; of a told one, no such part
abbrev pub cannot_answer : Part → Option DeviceDef → Bool
cannot_answer part (Some x) = is_told x.kind && has_no_part part (Some x)
cannot_answer part None = true

abbrev pub picks_nothing : BoardSeen → Actor → Bool
picks_nothing b (actors.Thread dev) = has_no_thread (find_device b.devices dev)
picks_nothing b (actors.Cpu cpu) = nat_le b.cpus cpu.0
picks_nothing b (actors.Driver driver) = not (has_driver b.drivers driver)

abbrev pub is_not_there : BoardSeen → Statement → Bool
is_not_there b (statements.Domain d) = is_parent_missing b.domains d.parent
is_not_there b (statements.Line l) = not (has_name b.domains l.domain)
is_not_there b (statements.Device d) = not (has_line b.lines d.line)
is_not_there b (statements.Answers dev part answers) =
    cannot_answer part (find_device b.devices dev)
is_not_there b (statements.Runs dev part) = has_no_part part (find_device b.devices dev)
is_not_there b (statements.Call c) = names_nothing b c
is_not_there b (statements.Picks picks) = list_any (λ p. picks_nothing b p.who) picks
is_not_there b _ = false

-- parents, options, owners

abbrev pub has_bad_parent : BoardSeen → Statement → Bool
has_bad_parent b (statements.Domain d) =
    is_bad_parent (defs_of b.domains) d.kind (parent_place b.domains d.parent)
has_bad_parent b _ = false

abbrev pub has_bad_unlazy : BoardSeen → Statement → Bool
has_bad_unlazy b (statements.Line l) =
    is_bad_unlazy (defs_of b.domains) (place_or_first (place_of_name b.domains l.domain)) l.unlazy
has_bad_unlazy b _ = false

abbrev pub is_mask_empty : ℕ → Option ℕ → Bool
is_mask_empty cpus (Some mask) = is_none (lowest_in cpus mask)
is_mask_empty cpus None = false

abbrev pub has_bad_mask : BoardSeen → Statement → Bool
has_bad_mask b (statements.Line l) = is_mask_empty b.cpus l.mask
has_bad_mask b _ = false

abbrev pub has_bad_owner : Writer → BoardSeen → Statement → Bool
has_bad_owner writers.Driver b (statements.Call c) =
    is_bad_owner b.calls (driver_writing b.drivers) (call_of_words c)
has_bad_owner whose b _ = false

-- runs

-- a driver wrote the handler or the thread
abbrev pub is_written : Part → Option DeviceDef → Bool
is_written part (Some x) = has_script x.kind part
is_written part None = false

-- a handler wakes a told device by this call, and the thread of that device arms it
abbrev pub wakes_what_arms : BoardSeen → RunCall → Call → Bool
wakes_what_arms b r (calls.Wake dev) =
    is_told_one (find_device b.devices dev) && list_any (arms_itself dev) b.runs
wakes_what_arms b r _ = false

-- the device's runs may not make the call
abbrev pub may_not_call : BoardSeen → RunCall → Bool
may_not_call b r =
    not (is_allowed_run b.runs r (find_device b.devices r.dev)) || wakes_what_arms b r r.call

abbrev pub has_bad_run : Writer → BoardSeen → Statement → Bool
has_bad_run whose b (statements.Answers dev part answers) =
    not (is_told_one (find_device b.devices dev))
has_bad_run whose b (statements.Runs dev part) =
    not (is_written part (find_device b.devices dev))
has_bad_run (writers.Runs dev part) b (statements.Call c) = may_not_call b (run_call b dev part c)
has_bad_run whose b _ = false

-- too many

abbrev pub count_of_picks : List PickWord → ℕ
count_of_picks [] = 0
count_of_picks (p ∷ ps) = p.times + count_of_picks ps

abbrev pub count_of_answers : List AnswerWord → ℕ
count_of_answers [] = 0
count_of_answers (a ∷ answers) = a.times + count_of_answers answers

-- no more room for so many answers of the device
abbrev pub has_no_room_for : BoardSeen → DevNo → ℕ → Bool
has_no_room_for b dev more = nat_lt 65536 (length b.told + more)
    || nat_lt 4096 (count_of (λ r. same_dev dev r.dev) b.told + more)

-- no more room for a call of the script that is written
abbrev pub has_no_room_to_call : Writer → BoardSeen → Bool
has_no_room_to_call (writers.Runs dev part) b = nat_le 256 (length b.runs)
    || nat_le 16 (count_of (is_call_of dev part) b.runs)
has_no_room_to_call whose b = nat_le 16384 (length b.calls)

abbrev pub is_one_too_many : Writer → BoardSeen → Statement → Bool
is_one_too_many whose b (statements.Domain d) = nat_le 32 (length b.domains)
is_one_too_many whose b (statements.Line l) = nat_le 64 (length b.lines)
is_one_too_many whose b (statements.Device d) = nat_le 256 (length b.devices)
is_one_too_many whose b (statements.Answers dev part answers) =
    has_no_room_for b dev (count_of_answers answers)
is_one_too_many whose b (statements.Driver driver) = nat_le 64 (length b.drivers)
is_one_too_many whose b (statements.Call c) = has_no_room_to_call whose b
is_one_too_many whose b (statements.Picks picks) =
    nat_lt 65536 (length b.picks + count_of_picks picks)
is_one_too_many whose b _ = false

-- the first of these faults that the statement has
abbrev pub fault_after : List Statement → Statement → Option FaultKind
fault_after past s =
    if is_out_of_order past s then Some faults.OutOfOrder
    else if is_twice past s then Some faults.Twice
    else if is_not_there (board_of past) s then Some faults.NotThere
    else if has_bad_parent (board_of past) s then Some faults.BadParent
    else if has_bad_unlazy (board_of past) s then Some faults.BadUnlazy
    else if has_bad_mask (board_of past) s then Some faults.BadMask
    else if has_bad_owner (writer_of past) (board_of past) s then Some faults.BadOwner
    else if has_bad_run (writer_of past) (board_of past) s then Some faults.BadRun
    else if is_one_too_many (writer_of past) (board_of past) s then Some faults.TooMany
    else None
