-- The board that statements state, the newest one first: each adds its own row.
use Rattle.std.specs.Prelude.{ℕ, ◌-◌, ◌^◌, Option, Some, None, List, [], ◌∷◌, ◌++◌, replicate}
use Rattle.std.specs.List.{flat_map}
use Rattle.std.specs.Option.{unwrap_or}
use Rattle.irq_base.specs.declared.calls.Call.{Call}
use Rattle.irq_base.specs.declared.calls.Call.TheVariants as calls
use Rattle.irq_base.specs.declared.devices.DeviceDef.{DeviceDef}
use Rattle.irq_base.specs.declared.devices.Part.{Part}
use Rattle.irq_base.specs.declared.entries.Actor.{Actor}
use Rattle.irq_base.specs.declared.numbers.DevNo.{DevNo}
use Rattle.irq_base.specs.declared.numbers.DriverNo.{DriverNo}
use Rattle.irq_base.specs.declared.numbers.LineNo.{LineNo}
use Rattle.board_def.specs.Find.{place_of_name, last_driver}
use Rattle.board_def.specs.Rules.{find_device, with_answers}
use Rattle.board_def.specs.Seen.{BoardSeen}
use Rattle.board_def.specs.declared.names.Name.{Name}
use Rattle.board_def.specs.declared.rows.DomainRow.{DomainRow}
use Rattle.board_def.specs.declared.rows.LineRow.{LineRow}
use Rattle.board_def.specs.declared.rows.RunCall.{RunCall}
use Rattle.board_def.specs.declared.rows.ScriptCall.{ScriptCall}
use Rattle.board_def.specs.declared.rows.ToldRow.{ToldRow}
use Rattle.board_words.specs.declared.statements.AnswerWord.{AnswerWord}
use Rattle.board_words.specs.declared.statements.CallWords.{CallWords}
use Rattle.board_words.specs.declared.statements.CallWords.TheVariants as words
use Rattle.board_words.specs.declared.statements.DeviceWords.{DeviceWords}
use Rattle.board_words.specs.declared.statements.DomainWords.{DomainWords}
use Rattle.board_words.specs.declared.statements.LineWords.{LineWords}
use Rattle.board_words.specs.declared.statements.PickWord.{PickWord}
use Rattle.board_words.specs.declared.statements.Statement.{Statement}
use Rattle.board_words.specs.declared.statements.Statement.TheVariants as statements
use Rattle.board_stated.specs.Sections.{writer_of}
use Rattle.board_stated.specs.declared.writers.Writer.{Writer}
use Rattle.board_stated.specs.declared.writers.Writer.TheVariants as writers

-- version 1, one processor, the default window and limit, the default log limit, and nothing
-- declared
abbrev pub first_board : BoardSeen
first_board = record {
  version = 1;
  cpus = 1;
  window = 100000;
  limit = 99900;
  log = 10000;
  domains = [];
  lines = [];
  devices = [];
  told = [];
  runs = [];
  drivers = [];
  calls = [];
  picks = [];
}

abbrev pub place_or_first : Option ℕ → ℕ
place_or_first (Some place) = place
place_or_first None = 0

abbrev pub parent_place : List DomainRow → Option Name → Option ℕ
parent_place domains (Some name) = place_of_name domains name
parent_place domains None = None

abbrev pub domain_row : List DomainRow → DomainWords → DomainRow
domain_row domains d = record {
  name = d.name;
  def = record { map = d.map; kind = d.kind; parent = parent_place domains d.parent };
}

-- the mask of all processors
abbrev pub all_processors : ℕ → ℕ
all_processors cpus = 2 ^ cpus - 1

abbrev pub mask_or_all : ℕ → Option ℕ → ℕ
mask_or_all cpus (Some mask) = mask
mask_or_all cpus None = all_processors cpus

abbrev pub line_row : BoardSeen → LineWords → LineRow
line_row b l = record {
  line = l.line;
  domain = place_or_first (place_of_name b.domains l.domain);
  hw = l.hw;
  unlazy = l.unlazy;
  later = l.later;
  mask = mask_or_all b.cpus l.mask;
}

-- the driver whose script is written: the last one declared
abbrev pub driver_writing : List DriverNo → DriverNo
driver_writing drivers = unwrap_or (last_driver drivers) (record { 0 = 0 })

abbrev pub line_or_none : Option DeviceDef → LineNo
line_or_none (Some x) = x.line
line_or_none None = record { 0 = 0 }

abbrev pub line_of_device : List DeviceDef → DevNo → LineNo
line_of_device devices dev = line_or_none (find_device devices dev)

-- the line that a call is about
abbrev pub line_of_call : List DeviceDef → CallWords → LineNo
line_of_call devices (words.Request dev flags twice) = line_of_device devices dev
line_of_call devices (words.Free dev) = line_of_device devices dev
line_of_call devices (words.Ask dev) = line_of_device devices dev
line_of_call devices (words.Wake dev) = line_of_device devices dev
line_of_call devices (words.Quiet dev) = line_of_device devices dev
line_of_call devices (words.Arm dev) = line_of_device devices dev
line_of_call devices (words.Serve dev) = line_of_device devices dev
line_of_call devices (words.Disable line) = line
line_of_call devices (words.DisableNosync line) = line
line_of_call devices (words.Enable line) = line
line_of_call devices (words.Sync line) = line
line_of_call devices (words.Affinity line mask) = line
line_of_call devices (words.Moment line at) = line
line_of_call devices (words.SyncHard line) = line
line_of_call devices (words.DisableHard line) = line

abbrev pub call_of_words : CallWords → Call
call_of_words (words.Request dev flags twice) = calls.Request dev flags
call_of_words (words.Free dev) = calls.Free dev
call_of_words (words.Ask dev) = calls.Ask dev
call_of_words (words.Disable line) = calls.Disable
call_of_words (words.DisableNosync line) = calls.DisableNosync
call_of_words (words.Enable line) = calls.Enable
call_of_words (words.Sync line) = calls.Sync
call_of_words (words.Affinity line mask) = calls.Affinity mask
call_of_words (words.Moment line at) = calls.Moment at
call_of_words (words.SyncHard line) = calls.SyncHard
call_of_words (words.DisableHard line) = calls.DisableHard
call_of_words (words.Wake dev) = calls.Wake dev
call_of_words (words.Quiet dev) = calls.Quiet dev
call_of_words (words.Arm dev) = calls.Arm dev
call_of_words (words.Serve dev) = calls.Serve dev

abbrev pub script_call : BoardSeen → CallWords → ScriptCall
script_call b c = record {
  driver = driver_writing b.drivers;
  line = line_of_call b.devices c;
  call = call_of_words c;
}

abbrev pub run_call : BoardSeen → DevNo → Part → CallWords → RunCall
run_call b dev part c = record {
  line = line_of_call b.devices c;
  dev = dev;
  part = part;
  call = call_of_words c;
}

abbrev pub device_of_words : DeviceWords → DeviceDef
device_of_words d = record {
  dev = d.dev;
  line = d.line;
  kind = d.kind;
  held = d.held;
  forgets = d.forgets;
}

-- the answers of one word: what it says, in as many runs
abbrev pub answers_told : LineNo → DevNo → Part → AnswerWord → List ToldRow
answers_told line dev part a =
    replicate a.times (record { line = line; dev = dev; part = part; answer = a.answer })

abbrev pub told_rows : BoardSeen → DevNo → Part → List AnswerWord → List ToldRow
told_rows b dev part answers =
    flat_map (answers_told (line_of_device b.devices dev) dev part) answers

-- the picks of one word: its actor, as many times as it says
abbrev pub actors_picked : PickWord → List Actor
actors_picked p = replicate p.times p.who

-- the board with one call more, of the script that is written
abbrev pub with_call : Writer → CallWords → BoardSeen → BoardSeen
with_call (writers.Runs dev part) c b =
    record b { runs = b.runs ++ run_call b dev part c ∷ [] }
with_call _ c b = record b { calls = b.calls ++ script_call b c ∷ [] }

-- what a statement adds to the board
abbrev pub with_statement : Writer → Statement → BoardSeen → BoardSeen
with_statement whose (statements.Board version) b = record b { version = version }
with_statement whose (statements.Cpus cpus) b = record b { cpus = cpus }
with_statement whose (statements.Spurious window limit) b =
    record b { window = window; limit = limit }
with_statement whose (statements.Log log) b = record b { log = log }
with_statement whose (statements.Domain d) b =
    record b { domains = b.domains ++ domain_row b.domains d ∷ [] }
with_statement whose (statements.Line l) b = record b { lines = b.lines ++ line_row b l ∷ [] }
with_statement whose (statements.Device d) b =
    record b { devices = b.devices ++ device_of_words d ∷ [] }
with_statement whose (statements.Answers dev part answers) b =
    with_answers dev (told_rows b dev part answers) b
with_statement whose (statements.Runs dev part) b = b
with_statement whose (statements.Driver driver) b =
    record b { drivers = b.drivers ++ driver ∷ [] }
with_statement whose (statements.Call c) b = with_call whose c b
with_statement whose (statements.Picks picks) b =
    record b { picks = b.picks ++ flat_map actors_picked picks }

-- the board that the statements state
abbrev pub board_of : List Statement → BoardSeen
board_of [] = first_board
board_of (s ∷ past) = with_statement (writer_of past) s (board_of past)
