-- The forms of the statements. A form has places, and each word takes the next place. It lists what
-- is wrong: a word that doesn't fit its place, a place without a word, words that are left over.
use Rattle.std.specs.Prelude.{ℕ, ◌-◌, Bool, not, ◌&&◌, is_some, if◌then◌else◌, Option, List, []}
use Rattle.std.specs.Prelude.{◌∷◌, ◌++◌, codes}
use Rattle.std.specs.List.{list_any, flat_map}
use Rattle.std.specs.Str.{bytes_eq}
use Rattle.board_def.specs.Names.{is_name}
use Rattle.board_words.specs.Spelling.{number_between, pick_of, answer_of, value_of}
use Rattle.board_words.specs.Versions.{has_moments, has_runs}
use Rattle.board_words.specs.Faults.{first_in_order}
use Rattle.board_words.specs.Keywords.{run_call_texts}
use Rattle.irq_base.specs.declared.devices.Part.{Part}
use Rattle.irq_base.specs.declared.devices.Part.TheVariants as parts
use Rattle.board_words.specs.declared.faults.FaultKind.{FaultKind}
use Rattle.board_words.specs.declared.faults.FaultKind.TheVariants as faults

-- the word is this text
abbrev pub is : List ℕ → List ℕ → Bool
is word text = bytes_eq word text

-- places, and what is wrong with a word there

abbrev pub number : ℕ → ℕ → List ℕ → List FaultKind
number low high word = if is_some (number_between low high word) then [] else faults.BadNumber ∷ []

abbrev pub name : List ℕ → List FaultKind
name word = if is_name word then [] else faults.BadName ∷ []

abbrev pub pick : List ℕ → List FaultKind
pick word = if is_some (pick_of word) then [] else faults.BadName ∷ []

abbrev pub answer : Part → List ℕ → List FaultKind
answer part word = if is_some (answer_of part word) then [] else faults.UnknownWord ∷ []

abbrev pub one_of : List (List ℕ) → List ℕ → List FaultKind
one_of texts word = if list_any (is word) texts then [] else faults.UnknownWord ∷ []

-- a word at a place, and the rest after it
abbrev pub at : (List ℕ → List FaultKind) → (List (List ℕ) → List FaultKind) → List (List ℕ)
    → List FaultKind
at place rest [] = faults.WrongCount ∷ []
at place rest (word ∷ words) = place word ++ rest words

-- nothing more
abbrev pub full : List (List ℕ) → List FaultKind
full [] = []
full (word ∷ words) = faults.WrongCount ∷ []

-- the ranges of numbers

abbrev pub part_number : List ℕ → List FaultKind
part_number = number 1 65535

abbrev pub mask_number : List ℕ → List FaultKind
mask_number = number 0 4294967295

-- milliseconds
abbrev pub moment_number : List ℕ → List FaultKind
moment_number = number 0 4294967295

-- the statements

-- the kinds of levels, in versions 1 and 2, and in all
abbrev pub old_level_kinds : List (List ℕ)
old_level_kinds = codes "latch" ∷ codes "plain" ∷ codes "level" ∷ codes "eoi" ∷ codes "vector"
    ∷ codes "msi" ∷ codes "remap" ∷ codes "lpi" ∷ []

abbrev pub all_level_kinds : List (List ℕ)
all_level_kinds = codes "pin" ∷ old_level_kinds

abbrev pub level_kinds : ℕ → List (List ℕ)
level_kinds version = if has_runs version then all_level_kinds else old_level_kinds

-- the kinds of devices, likewise
abbrev pub old_device_kinds : List (List ℕ)
old_device_kinds = codes "direct" ∷ codes "check" ∷ codes "null" ∷ codes "stuck" ∷ []

abbrev pub all_device_kinds : List (List ℕ)
all_device_kinds = codes "odd" ∷ codes "told" ∷ old_device_kinds

abbrev pub device_kinds : ℕ → List (List ℕ)
device_kinds version = if has_runs version then all_device_kinds else old_device_kinds

abbrev pub device_flags : List (List ℕ)
device_flags = codes "held" ∷ codes "forgets" ∷ []

abbrev pub request_flags : List (List ℕ)
request_flags = codes "shared" ∷ codes "oneshot" ∷ codes "noauto" ∷ []

-- `spurious W L`: the limit is below the window
abbrev pub spurious_form : List (List ℕ) → List FaultKind
spurious_form [] = faults.WrongCount ∷ []
spurious_form (window ∷ words) =
    number 1 1000000 window ++ at (number 0 (value_of window - 1)) full words

-- `parent NAME`, as often as it stands
abbrev pub parents_form : List (List ℕ) → List FaultKind
parents_form [] = []
parents_form (word ∷ []) = one_of (codes "parent" ∷ []) word ++ faults.WrongCount ∷ []
parents_form (word ∷ of ∷ words) =
    one_of (codes "parent" ∷ []) word ++ (name of ++ parents_form words)

-- `linear SIZE KIND` or `tree KIND`
abbrev pub map_form : ℕ → List (List ℕ) → List FaultKind
map_form version [] = faults.WrongCount ∷ []
map_form version (word ∷ words) =
    if is word (codes "linear")
    then at (number 1 1024) (at (one_of (level_kinds version)) parents_form) words
    else if is word (codes "tree") then at (one_of (level_kinds version)) parents_form words
    else faults.UnknownWord ∷ []

-- `unlazy`, `later` and `mask M`, in any order
abbrev pub line_options : List (List ℕ) → List FaultKind
line_options [] = []
line_options (word ∷ []) =
    if is word (codes "mask") then faults.WrongCount ∷ []
    else one_of (codes "unlazy" ∷ codes "later" ∷ []) word
line_options (word ∷ next ∷ words) =
    if is word (codes "mask") then mask_number next ++ line_options words
    else one_of (codes "unlazy" ∷ codes "later" ∷ []) word ++ line_options (next ∷ words)

-- `held` and `forgets`, in any order
abbrev pub device_options : ℕ → List (List ℕ) → List FaultKind
device_options version words =
    if has_runs version then flat_map (one_of device_flags) words else full words

-- one or more answers of that part
abbrev pub answers_form : Part → List (List ℕ) → List FaultKind
answers_form part = at (answer part) (flat_map (answer part))

-- `thread`, if they are a thread's, and the answers
abbrev pub part_form : List (List ℕ) → List FaultKind
part_form [] = faults.WrongCount ∷ []
part_form (word ∷ words) =
    if is word (codes "thread") then answers_form parts.Thread words
    else answers_form parts.Primary (word ∷ words)

-- one or more picks
abbrev pub picks_form : List (List ℕ) → List FaultKind
picks_form = at pick (flat_map pick)

-- the places after a statement's first word, in a text of that version
abbrev pub form_after : ℕ → List ℕ → List (List ℕ) → List FaultKind
form_after version word words =
    if is word (codes "board") then at (number 1 3) full words
    else if is word (codes "cpus") then at (number 1 32) full words
    else if is word (codes "spurious") then spurious_form words
    else if is word (codes "log") then at (number 1 1000000) full words
    else if is word (codes "domain") then at name (map_form version) words
    else if is word (codes "line") then at part_number (at name (at mask_number line_options)) words
    else if is word (codes "device")
    then at part_number
    (at part_number (at (one_of (device_kinds version)) (device_options version))) words
    else if is word (codes "answers") then at part_number part_form words
    else if is word (codes "handler") then at part_number full words
    else if is word (codes "thread") then at part_number full words
    else if is word (codes "driver") then at part_number full words
    else if is word (codes "request") then at part_number (flat_map (one_of request_flags)) words
    else if is word (codes "affinity") then at part_number (at mask_number full) words
    else if is word (codes "moment") then at part_number (at moment_number full) words
    else if is word (codes "picks") then picks_form words
    else if list_any (is word) (codes "free" ∷ codes "ask" ∷ codes "disable"
    ∷ codes "disable_nosync" ∷ codes "enable" ∷ codes "sync" ∷ codes "sync_hard"
    ∷ codes "disable_hard" ∷ codes "wake" ∷ codes "quiet" ∷ codes "arm" ∷ codes "serve"
    ∷ []) then at part_number full words
    else faults.UnknownWord ∷ []

-- the places after a call's first word, the same in each version that has the call
abbrev pub call_form : List ℕ → List (List ℕ) → List FaultKind
call_form word words = form_after 3 word words

-- the first words of statements that only texts of version 3 have
abbrev pub run_words : List (List ℕ)
run_words = codes "answers" ∷ codes "handler" ∷ codes "thread" ∷ run_call_texts

-- the word is one of a later version
abbrev pub is_of_later : ℕ → List ℕ → Bool
is_of_later version word =
    if is word (codes "moment") then not (has_moments version)
    else list_any (is word) run_words && not (has_runs version)

-- what is wrong with a statement in itself, in a text of that version
abbrev pub faults_of : ℕ → List (List ℕ) → List FaultKind
faults_of version [] = faults.UnknownWord ∷ []
faults_of version (word ∷ words) =
    if is_of_later version word then faults.UnknownWord ∷ [] else form_after version word words

-- the first fault of a statement in itself
abbrev pub fault_of_words : ℕ → List (List ℕ) → Option FaultKind
fault_of_words version words = first_in_order (faults_of version words)
