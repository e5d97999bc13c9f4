-- The rules that a board keeps. Whether a row is allowed depends on the rows before it.
use Rattle.std.specs.Prelude.{◌≡◌, ℕ, ◌*◌, ◌<◌, ◌≤◌, Bool, true, false, not, ◌&&◌, ◌||◌, ◌==◌}
use Rattle.std.specs.Prelude.{IsSome, Option, Some, None, List, [], ◌∷◌, ◌++◌, length, reverse}
use Rattle.std.specs.Prelude.{if◌then◌else◌, All}
use Rattle.std.specs.List.{list_any}
use Rattle.irq_base.specs.Cell.{is_edge_trigger}
use Rattle.irq_base.specs.Handlers.{has_thread}
use Rattle.irq_base.specs.declared.calls.Call.{Call}
use Rattle.irq_base.specs.declared.calls.Call.TheVariants as calls
use Rattle.irq_base.specs.declared.devices.DeviceDef.{DeviceDef}
use Rattle.irq_base.specs.declared.devices.Part.{Part}
use Rattle.irq_base.specs.declared.domains.DomainDef.{DomainDef}
use Rattle.irq_base.specs.declared.entries.Actor.{Actor}
use Rattle.irq_base.specs.declared.entries.Actor.TheVariants as actors
use Rattle.irq_base.specs.declared.numbers.DevNo.{DevNo}
use Rattle.irq_base.specs.declared.numbers.DriverNo.{DriverNo}
use Rattle.irq_base.specs.declared.numbers.LineNo.{LineNo}
use Rattle.irq_model.specs.Kinds.{same_dev}
use Rattle.irq_model.specs.Places.{count_of}
use Rattle.irq_model.specs.Signal.{lowest_in}
use Rattle.irq_model.specs.Valid.{requests_dev, frees_dev}
use Rattle.board_def.specs.Names.{is_name, name_bytes, same_name}
use Rattle.domain_rules.specs.Domains.{EachAfter, IsDomainAfter}
use Rattle.domain_rules.specs.Levels.{root_kind, trigger_of_root, keeps}
use Rattle.domain_rules.specs.Paths.{kinds_from}
use Rattle.board_def.specs.Runs.{is_call_of, is_allowed_run, answers_wake, is_allowed_answer}
use Rattle.board_def.specs.Runs.{fits_wakes, with_thread}
use Rattle.board_def.specs.Seen.{BoardSeen}
use Rattle.board_def.specs.Unnamed.{defs_of}
use Rattle.board_def.specs.declared.names.Name.{Name}
use Rattle.board_def.specs.declared.rows.DomainRow.{DomainRow}
use Rattle.board_def.specs.declared.rows.LineRow.{LineRow}
use Rattle.board_def.specs.declared.rows.RunCall.{RunCall}
use Rattle.board_def.specs.declared.rows.ScriptCall.{ScriptCall}
use Rattle.board_def.specs.declared.rows.ToldRow.{ToldRow}

-- the number of a line, a device or a driver
abbrev pub IsNumber : ℕ → Type 0
IsNumber n = (1 ≤ n) × (n ≤ 65535)

-- what a board declares

abbrev pub is_domain_named : Name → DomainRow → Bool
is_domain_named name row = same_name name row.name

abbrev pub has_name : List DomainRow → Name → Bool
has_name domains name = list_any (is_domain_named name) domains

abbrev pub has_line : List LineRow → LineNo → Bool
has_line lines line = list_any (λ row. row.line.0 == line.0) lines

abbrev pub find_device : List DeviceDef → DevNo → Option DeviceDef
find_device [] dev = None
find_device (x ∷ xs) dev = if same_dev dev x.dev then Some x else find_device xs dev

abbrev pub has_driver : List DriverNo → DriverNo → Bool
has_driver drivers driver = list_any (λ d. d.0 == driver.0) drivers

-- domains

pub record IsDomainRowAfter (earlier : List DomainRow) (row : DomainRow) : Type 0 where
  pub spelled : is_name (name_bytes row.name) ≡ true
  pub new : has_name earlier row.name ≡ false
  pub def : IsDomainAfter (defs_of earlier) row.def

-- lines

-- an edge line that is masked as soon as it is disabled needs a level that keeps what comes then
abbrev pub is_bad_unlazy : List DomainDef → ℕ → Bool → Bool
is_bad_unlazy domains domain unlazy =
    unlazy && (is_edge_trigger (trigger_of_root (root_kind (kinds_from domains (Some domain))))
    && not (keeps (kinds_from domains (Some domain))))

pub record IsLineAfter (b : BoardSeen) (earlier : List LineRow) (row : LineRow) : Type 0 where
  pub number : IsNumber row.line.0
  pub rises : All (λ e. e.line.0 < row.line.0) earlier
  pub domain : row.domain < length b.domains
  pub unlazy : is_bad_unlazy (defs_of b.domains) row.domain row.unlazy ≡ false
  -- the mask has a processor of the machine
  pub mask : IsSome (lowest_in b.cpus row.mask)

-- devices and drivers

pub record IsDeviceAfter (b : BoardSeen) (earlier : List DeviceDef) (device : DeviceDef)
    : Type 0 where
  pub number : IsNumber device.dev.0
  pub rises : All (λ e. e.dev.0 < device.dev.0) earlier
  pub line : has_line b.lines device.line ≡ true
  -- a told device has a thread exactly if some answer of its handler wakes it
  pub thread : fits_wakes (list_any (answers_wake device.dev) b.told) device.kind ≡ true

pub record IsDriverAfter (earlier : List DriverNo) (driver : DriverNo) : Type 0 where
  pub number : IsNumber driver.0
  pub rises : All (λ e. e.0 < driver.0) earlier

-- calls

abbrev pub is_owning : DevNo → ScriptCall → Bool
is_owning dev c = requests_dev dev c.call || frees_dev dev c.call

-- the first request or free of the device
abbrev pub first_owning : DevNo → List ScriptCall → Option ScriptCall
first_owning dev [] = None
first_owning dev (c ∷ cs) = if is_owning dev c then Some c else first_owning dev cs

abbrev pub is_of_another : DriverNo → Option ScriptCall → Bool
is_of_another driver (Some c) = not (c.driver.0 == driver.0)
is_of_another driver None = false

abbrev pub is_a_request : DevNo → Option ScriptCall → Bool
is_a_request dev (Some c) = requests_dev dev c.call
is_a_request dev None = false

-- The driver that made the first request or free of a device makes all of them, and between two
-- requests stands a free.
abbrev pub is_bad_owner : List ScriptCall → DriverNo → Call → Bool
is_bad_owner earlier driver (calls.Request dev flags) =
    is_of_another driver (first_owning dev earlier)
    || is_a_request dev (first_owning dev (reverse earlier))
is_bad_owner earlier driver (calls.Free dev) = is_of_another driver (first_owning dev earlier)
is_bad_owner earlier driver _ = false

abbrev pub is_on_line : LineNo → Option DeviceDef → Bool
is_on_line line (Some x) = x.line.0 == line.0
is_on_line line None = false

-- a call's device is a device of the line; a moment is handed in to the line itself
abbrev pub fits_line : List DeviceDef → LineNo → Call → Bool
fits_line devices line (calls.Ask dev) = is_on_line line (find_device devices dev)
fits_line devices line (calls.Request dev flags) = is_on_line line (find_device devices dev)
fits_line devices line (calls.Free dev) = is_on_line line (find_device devices dev)
fits_line devices line (calls.Wake dev) = is_on_line line (find_device devices dev)
fits_line devices line (calls.Quiet dev) = is_on_line line (find_device devices dev)
fits_line devices line (calls.Arm dev) = is_on_line line (find_device devices dev)
fits_line devices line (calls.Serve dev) = is_on_line line (find_device devices dev)
fits_line devices line _ = true

pub record IsCallAfter (b : BoardSeen) (earlier : List ScriptCall) (c : ScriptCall) : Type 0 where
  pub driver : has_driver b.drivers c.driver ≡ true
  -- the calls are sorted by driver, so the scripts stand one after another
  pub in_order : All (λ e. e.driver.0 ≤ c.driver.0) earlier
  pub line : has_line b.lines c.line ≡ true
  pub device : fits_line b.devices c.line c.call ≡ true
  pub owner : is_bad_owner earlier c.driver c.call ≡ false

-- runs

-- the runs' calls: of a script at most 16, each of a device that may make it, on its own line
pub record AreRuns (devices : List DeviceDef) (runs : List RunCall) : Type 0 where
  pub few : length runs ≤ 256
  pub short : (d : DevNo) (part : Part) → count_of (is_call_of d part) runs ≤ 16
  pub allowed : All (λ r. is_allowed_run runs r (find_device devices r.dev) ≡ true) runs
  pub fit : All (λ r. fits_line devices r.line r.call ≡ true) runs

-- what told devices answer: of a device at most 4,096, each an answer that its part may give
pub record AreAnswers (devices : List DeviceDef) (told : List ToldRow) : Type 0 where
  pub few : length told ≤ 65536
  pub short : (d : DevNo) → count_of (λ r. same_dev d r.dev) told ≤ 4096
  pub allowed : All (λ r. is_allowed_answer r (find_device devices r.dev) ≡ true) told

-- the answers of a device after the board's
abbrev pub with_answers : DevNo → List ToldRow → BoardSeen → BoardSeen
with_answers dev rows b = record b {
  told = b.told ++ rows;
  devices = if list_any (answers_wake dev) rows then with_thread dev b.devices else b.devices;
}

-- picks

abbrev pub is_threaded : Option DeviceDef → Bool
is_threaded (Some x) = has_thread x.kind
is_threaded None = false

-- the actor is there: a device's thread, a processor, or a driver
abbrev pub IsActorOf : BoardSeen → Actor → Type 0
IsActorOf b (actors.Thread dev) = is_threaded (find_device b.devices dev) ≡ true
IsActorOf b (actors.Cpu cpu) = cpu.0 < b.cpus
IsActorOf b (actors.Driver driver) = has_driver b.drivers driver ≡ true

pub record IsBoard (b : BoardSeen) : Type 0 where
  pub some_cpu : 1 ≤ b.cpus
  pub few_cpus : b.cpus ≤ 32
  pub small_window : b.window ≤ 1000000
  pub limit : b.limit < b.window
  pub some_log : 1 ≤ b.log
  pub small_log : b.log ≤ 1000000
  pub few_domains : length b.domains ≤ 32
  pub few_lines : length b.lines ≤ 64
  pub few_devices : length b.devices ≤ 256
  pub few_drivers : length b.drivers ≤ 64
  pub few_calls : length b.calls ≤ 16384
  pub few_picks : length b.picks ≤ 65536
  -- the most entries of all histories together
  pub entries : b.log * length b.lines ≤ 4000000
  pub domains : EachAfter IsDomainRowAfter b.domains
  pub lines : EachAfter (IsLineAfter b) b.lines
  pub devices : EachAfter (IsDeviceAfter b) b.devices
  pub told : AreAnswers b.devices b.told
  pub runs : AreRuns b.devices b.runs
  pub drivers : EachAfter IsDriverAfter b.drivers
  pub calls : EachAfter (IsCallAfter b) b.calls
  pub picks : All (IsActorOf b) b.picks
