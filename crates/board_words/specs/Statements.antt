-- What a statement without a fault in itself says.
use Rattle.std.specs.Prelude.{ℕ, ◌+◌, Bool, true, false, ◌||◌, nat_lt, if◌then◌else◌, Option}
use Rattle.std.specs.Prelude.{Some, None, List, [], ◌∷◌, codes, drop, get_or}
use Rattle.std.specs.List.{list_any}
use Rattle.irq_base.specs.declared.devices.Kind.{Kind}
use Rattle.irq_base.specs.declared.devices.Kind.TheVariants as kinds
use Rattle.irq_base.specs.declared.devices.Part.{Part}
use Rattle.irq_base.specs.declared.devices.Part.TheVariants as parts
use Rattle.irq_base.specs.declared.domains.ControllerKind.{ControllerKind}
use Rattle.irq_base.specs.declared.domains.ControllerKind.TheVariants as levels
use Rattle.irq_base.specs.declared.domains.MapKind.{MapKind}
use Rattle.irq_base.specs.declared.domains.MapKind.TheVariants as maps
use Rattle.irq_base.specs.declared.numbers.DevNo.{DevNo}
use Rattle.irq_base.specs.declared.numbers.LineNo.{LineNo}
use Rattle.board_def.specs.Names.{name_of}
use Rattle.board_def.specs.declared.names.Name.{Name}
use Rattle.board_words.specs.Forms.{is}
use Rattle.board_words.specs.Spelling.{value_of, pick_of, answer_of}
use Rattle.board_words.specs.declared.statements.AnswerWord.{AnswerWord}
use Rattle.board_words.specs.declared.statements.CallWords.{CallWords}
use Rattle.board_words.specs.declared.statements.CallWords.TheVariants as calls
use Rattle.board_words.specs.declared.statements.DeviceWords.{DeviceWords}
use Rattle.board_words.specs.declared.statements.DomainWords.{DomainWords}
use Rattle.board_words.specs.declared.statements.LineWords.{LineWords}
use Rattle.board_words.specs.declared.statements.PickWord.{PickWord}
use Rattle.board_words.specs.declared.statements.Statement.{Statement}
use Rattle.board_words.specs.declared.statements.Statement.TheVariants as statements

-- the number at place n after the first word, counted from 0
abbrev pub number_at : ℕ → List (List ℕ) → ℕ
number_at i words = value_of (get_or words i [])

abbrev pub dev_at : ℕ → List (List ℕ) → DevNo
dev_at i words = record { 0 = number_at i words }

abbrev pub line_at : ℕ → List (List ℕ) → LineNo
line_at i words = record { 0 = number_at i words }

abbrev pub name_at : ℕ → List (List ℕ) → Name
name_at i words = name_of (get_or words i [])

-- the text is among the words
abbrev pub stands : List ℕ → List (List ℕ) → Bool
stands text words = list_any (λ word. is word text) words

abbrev pub count_of : List ℕ → List (List ℕ) → ℕ
count_of text [] = 0
count_of text (word ∷ words) = if is word text then count_of text words + 1 else count_of text words

abbrev pub stands_again : List ℕ → List (List ℕ) → Bool
stands_again text words = nat_lt 1 (count_of text words)

abbrev pub controller_kind : List ℕ → ControllerKind
controller_kind word =
    if is word (codes "latch") then levels.Latch
    else if is word (codes "plain") then levels.Plain
    else if is word (codes "level") then levels.Level
    else if is word (codes "eoi") then levels.Eoi
    else if is word (codes "vector") then levels.Vector
    else if is word (codes "msi") then levels.Msi
    else if is word (codes "lpi") then levels.Lpi
    else if is word (codes "pin") then levels.Pin
    else levels.Remap

abbrev pub device_kind : List ℕ → Kind
device_kind word =
    if is word (codes "direct") then kinds.Direct
    else if is word (codes "check") then kinds.Check
    else if is word (codes "null") then kinds.Null
    else if is word (codes "odd") then kinds.Odd
    else if is word (codes "told") then kinds.Told false
    else kinds.Stuck

-- the name after `parent`
abbrev pub parent_name : List (List ℕ) → Option Name
parent_name (word ∷ name ∷ words) = Some (name_of name)
parent_name _ = None

-- more than one `parent NAME` stands
abbrev pub has_more_parents : List (List ℕ) → Bool
has_more_parents (word ∷ name ∷ more ∷ words) = true
has_more_parents _ = false

abbrev pub domain_of : List (List ℕ) → MapKind → List (List ℕ) → DomainWords
domain_of words map rest = record {
  name = name_at 0 words;
  map = map;
  kind = controller_kind (get_or rest 0 []);
  parent = parent_name (drop 1 rest);
  twice = has_more_parents (drop 1 rest);
}

abbrev pub domain_words : List (List ℕ) → DomainWords
domain_words words =
    if is (get_or words 1 []) (codes "linear")
    then domain_of words (maps.Linear (number_at 2 words)) (drop 3 words)
    else domain_of words maps.Tree (drop 2 words)

-- the number after the first `mask`
abbrev pub mask_after : List (List ℕ) → Option ℕ
mask_after [] = None
mask_after (word ∷ words) =
    if is word (codes "mask") then Some (number_at 0 words) else mask_after words

abbrev pub line_words : List (List ℕ) → LineWords
line_words words =
    let options = drop 3 words in
    record {
      line = line_at 0 words;
      domain = name_at 1 words;
      hw = number_at 2 words;
      unlazy = stands (codes "unlazy") options;
      later = stands (codes "later") options;
      mask = mask_after options;
      twice = stands_again (codes "unlazy") options
          || (stands_again (codes "later") options || stands_again (codes "mask") options);
    }

abbrev pub device_words : List (List ℕ) → DeviceWords
device_words words =
    let options = drop 3 words in
    record {
      dev = dev_at 0 words;
      line = line_at 1 words;
      kind = device_kind (get_or words 2 []);
      held = stands (codes "held") options;
      forgets = stands (codes "forgets") options;
      twice = stands_again (codes "held") options || stands_again (codes "forgets") options;
    }

abbrev pub request_words : List (List ℕ) → CallWords
request_words words =
    let flags = drop 1 words in
    calls.Request (dev_at 0 words) (record {
      shared = stands (codes "shared") flags;
      oneshot = stands (codes "oneshot") flags;
      noauto = stands (codes "noauto") flags;
    })
    (stands_again (codes "shared") flags
    || (stands_again (codes "oneshot") flags || stands_again (codes "noauto") flags))

abbrev pub onto_picks : Option PickWord → List PickWord → List PickWord
onto_picks (Some pick) picks = pick ∷ picks
onto_picks None picks = picks

abbrev pub picks_of : List (List ℕ) → List PickWord
picks_of [] = []
picks_of (word ∷ words) = onto_picks (pick_of word) (picks_of words)

-- the part whose answers these words are: `thread` stands before a thread's
abbrev pub part_at : List (List ℕ) → Part
part_at words = if is (get_or words 0 []) (codes "thread") then parts.Thread else parts.Primary

abbrev pub after_part : List (List ℕ) → List (List ℕ)
after_part words = if is (get_or words 0 []) (codes "thread") then drop 1 words else words

abbrev pub onto_answers : Option AnswerWord → List AnswerWord → List AnswerWord
onto_answers (Some answer) answers = answer ∷ answers
onto_answers None answers = answers

abbrev pub answers_of : Part → List (List ℕ) → List AnswerWord
answers_of part [] = []
answers_of part (word ∷ words) = onto_answers (answer_of part word) (answers_of part words)

abbrev pub answers_words : List (List ℕ) → Statement
answers_words words =
    let rest = drop 1 words in
    statements.Answers (dev_at 0 words) (part_at rest) (answers_of (part_at rest) (after_part rest))

abbrev pub call_of : List ℕ → List (List ℕ) → CallWords
call_of word words =
    if is word (codes "request") then request_words words
    else if is word (codes "free") then calls.Free (dev_at 0 words)
    else if is word (codes "ask") then calls.Ask (dev_at 0 words)
    else if is word (codes "disable") then calls.Disable (line_at 0 words)
    else if is word (codes "disable_nosync") then calls.DisableNosync (line_at 0 words)
    else if is word (codes "enable") then calls.Enable (line_at 0 words)
    else if is word (codes "sync") then calls.Sync (line_at 0 words)
    else if is word (codes "moment") then calls.Moment (line_at 0 words) (number_at 1 words)
    else if is word (codes "sync_hard") then calls.SyncHard (line_at 0 words)
    else if is word (codes "disable_hard") then calls.DisableHard (line_at 0 words)
    else if is word (codes "wake") then calls.Wake (dev_at 0 words)
    else if is word (codes "quiet") then calls.Quiet (dev_at 0 words)
    else if is word (codes "arm") then calls.Arm (dev_at 0 words)
    else if is word (codes "serve") then calls.Serve (dev_at 0 words)
    else calls.Affinity (line_at 0 words) (number_at 1 words)

abbrev pub statement_after : List ℕ → List (List ℕ) → Statement
statement_after word words =
    if is word (codes "board") then statements.Board (number_at 0 words)
    else if is word (codes "cpus") then statements.Cpus (number_at 0 words)
    else if is word (codes "spurious")
    then statements.Spurious (number_at 0 words) (number_at 1 words)
    else if is word (codes "log") then statements.Log (number_at 0 words)
    else if is word (codes "domain") then statements.Domain (domain_words words)
    else if is word (codes "line") then statements.Line (line_words words)
    else if is word (codes "device") then statements.Device (device_words words)
    else if is word (codes "answers") then answers_words words
    else if is word (codes "handler") then statements.Runs (dev_at 0 words) parts.Primary
    else if is word (codes "thread") then statements.Runs (dev_at 0 words) parts.Thread
    else if is word (codes "driver") then statements.Driver (record { 0 = number_at 0 words })
    else if is word (codes "picks") then statements.Picks (picks_of words)
    else statements.Call (call_of word words)

abbrev pub statement_of : List (List ℕ) → Statement
statement_of [] = statements.Board 1
statement_of (word ∷ words) = statement_after word words
