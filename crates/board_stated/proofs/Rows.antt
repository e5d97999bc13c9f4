-- Texts by hand: the board that each states, or its first fault. The checker computes them.
use Rattle.std.proofs.Common.{◌≡◌, ℕ, true, false, Bool, Some, None, Result, Ok, Err, List, [], ◌∷◌, ◌++◌, codes, refl}
use Rattle.irq_base.specs.declared.calls.Call.TheVariants as calls
use Rattle.irq_base.specs.declared.devices.Kind.TheVariants as kinds
use Rattle.irq_base.specs.declared.domains.ControllerKind.TheVariants as levels
use Rattle.irq_base.specs.declared.domains.MapKind.TheVariants as maps
use Rattle.irq_base.specs.declared.entries.Actor.TheVariants as actors
use Rattle.board_def.specs.Names.{name_of}
use Rattle.board_def.specs.Seen.{BoardSeen}
use Rattle.board_words.specs.declared.faults.FaultKind.{FaultKind}
use Rattle.board_words.specs.declared.faults.FaultKind.TheVariants as faults
use Rattle.board_stated.specs.TextOf.{board_of_text}
use Rattle.board_words.specs.declared.faults.BoardFault.{BoardFault}

-- text lines, each with its end
abbrev text : List (List ℕ) → List ℕ
text [] = []
text (line ∷ lines) = line ++ (10 ∷ text lines)

abbrev fault : ℕ → FaultKind → Result BoardSeen BoardFault
fault at kind = Err (record { at = at; kind = kind })

abbrev is_board : Result BoardSeen BoardFault → Bool
is_board (Ok b) = true
is_board (Err x) = false

-- the text of the header and that line
abbrev with_header : List ℕ → List ℕ
with_header line = text (codes "board 1" ∷ line ∷ [])

-- a latch with a line, a device on it, and a driver; and then these text lines
abbrev on_latch : List (List ℕ) → List ℕ
on_latch lines = text (codes "board 1" ∷ codes "domain a linear 4 latch" ∷ codes "line 1 a 0" ∷ codes "device 1 1 direct" ∷ codes "driver 1" ∷ lines)

-- ---- a board

one_line : board_of_text (text (codes "board 1" ∷ codes "domain intc linear 4 latch" ∷ codes "line 1 intc 2"
    ∷ codes "device 1 1 direct" ∷ codes "driver 1" ∷ codes "request 1" ∷ codes "ask 1" ∷ codes "free 1"
    ∷ codes "picks c0*2 d1" ∷ []))
    ≡ Ok (record {
      version = 1;
      cpus = 1;
      window = 100000;
      limit = 99900;
      log = 10000;
      domains = record { name = name_of (codes "intc"); def = record { map = maps.Linear 4; kind = levels.Latch; parent = None } } ∷ [];
      lines = record { line = record { 0 = 1 }; domain = 0; hw = 2; unlazy = false; later = false; mask = 1 } ∷ [];
      devices = record { dev = record { 0 = 1 }; line = record { 0 = 1 }; kind = kinds.Direct; held = false; forgets = false } ∷ [];
      told = [];
      runs = [];
      drivers = record { 0 = 1 } ∷ [];
      calls = record {
        driver = record { 0 = 1 };
        line = record { 0 = 1 };
        call
            = calls.Request (record { 0 = 1 }) (record { shared = false; oneshot = false; noauto = false });
      }
          ∷ record { driver = record { 0 = 1 }; line = record { 0 = 1 }; call = calls.Ask (record { 0 = 1 }) }
          ∷ record { driver = record { 0 = 1 }; line = record { 0 = 1 }; call = calls.Free (record { 0 = 1 }) } ∷ [];
      picks = actors.Cpu (record { 0 = 0 }) ∷ actors.Cpu (record { 0 = 0 }) ∷ actors.Driver (record { 0 = 1 }) ∷ [];
    })
one_line = refl

-- ---- texts that are cut off, bad bytes

empty : board_of_text [] ≡ fault 1 faults.NoHeader
empty = refl

cut_off : board_of_text (text (codes "board 1" ∷ []) ++ codes "domai") ≡ fault 2 faults.UnknownWord
cut_off = refl

no_header : board_of_text (text ([] ∷ codes "cpus 1" ∷ [])) ≡ fault 2 faults.NoHeader
no_header = refl

no_statement : board_of_text (text ([] ∷ (35 ∷ 7 ∷ []) ∷ [])) ≡ fault 1 faults.NoHeader
no_statement = refl

first_byte : board_of_text (text ((35 ∷ 7 ∷ []) ∷ [])) ≡ fault 1 faults.BadByte
first_byte = refl

byte_before : board_of_text (text ([] ∷ (35 ∷ 7 ∷ []) ∷ codes "board 1" ∷ [])) ≡ fault 2 faults.BadByte
byte_before = refl

byte_in_word : board_of_text (text ([] ∷ (7 ∷ []) ∷ [])) ≡ fault 2 faults.BadByte
byte_in_word = refl

-- ---- faults of one statement in their order

no_parent_word : board_of_text (with_header (codes "domain a tree latch foo")) ≡ fault 2 faults.UnknownWord
no_parent_word = refl

parent_without_name : board_of_text (with_header (codes "domain a tree latch parent")) ≡ fault 2 faults.WrongCount
parent_without_name = refl

parent_twice : board_of_text (text (codes "board 1" ∷ codes "domain a tree latch" ∷ codes "domain b tree remap parent a parent a" ∷ [])) ≡ fault 3 faults.Twice
parent_twice = refl

zero_is_no_number : board_of_text (with_header (codes "ask 0")) ≡ fault 2 faults.BadNumber
zero_is_no_number = refl

number_too_large : board_of_text (with_header (codes "ask 65536")) ≡ fault 2 faults.BadNumber
number_too_large = refl

word_before_count : board_of_text (with_header (codes "device 1 1 foo extra")) ≡ fault 2 faults.UnknownWord
word_before_count = refl

count_before_number : board_of_text (with_header (codes "domain a linear latch")) ≡ fault 2 faults.WrongCount
count_before_number = refl

count_before_twice : board_of_text (with_header (codes "line 1 a 0 mask 1 mask")) ≡ fault 2 faults.WrongCount
count_before_twice = refl

mask_of_word : board_of_text (with_header (codes "line 1 a 0 mask unlazy")) ≡ fault 2 faults.BadNumber
mask_of_word = refl

word_after_mask : board_of_text (with_header (codes "line 1 a 0 mask mask 1")) ≡ fault 2 faults.UnknownWord
word_after_mask = refl

spelling_before_absence : board_of_text (with_header (codes "picks t9 x1")) ≡ fault 2 faults.BadName
spelling_before_absence = refl

no_moment : board_of_text (with_header (codes "moment")) ≡ fault 2 faults.UnknownWord
no_moment = refl

window_of_zero : board_of_text (with_header (codes "spurious 0 0")) ≡ fault 2 faults.BadNumber
window_of_zero = refl

limit_at_window : board_of_text (with_header (codes "spurious 10 10")) ≡ fault 2 faults.BadNumber
limit_at_window = refl

-- ---- faults after the statements before

header_again : board_of_text (with_header (codes "board 1")) ≡ fault 2 faults.Twice
header_again = refl

header_late : board_of_text (text (codes "board 1" ∷ codes "log 5" ∷ codes "board 1" ∷ [])) ≡ fault 3 faults.OutOfOrder
header_late = refl

setting_again : board_of_text (text (codes "board 1" ∷ codes "cpus 2" ∷ codes "log 5" ∷ codes "cpus 2" ∷ [])) ≡ fault 4 faults.Twice
setting_again = refl

setting_late : board_of_text (text (codes "board 1" ∷ codes "domain a tree latch" ∷ codes "cpus 2" ∷ [])) ≡ fault 3 faults.OutOfOrder
setting_late = refl

own_parent : board_of_text (with_header (codes "domain a tree remap parent a")) ≡ fault 2 faults.NotThere
own_parent = refl

root_with_absent_parent : board_of_text (with_header (codes "domain a tree latch parent b")) ≡ fault 2 faults.NotThere
root_with_absent_parent = refl

root_with_parent : board_of_text (text (codes "board 1" ∷ codes "domain a tree latch" ∷ codes "domain b tree latch parent a" ∷ [])) ≡ fault 3 faults.BadParent
root_with_parent = refl

call_before_driver : board_of_text (with_header (codes "ask 1")) ≡ fault 2 faults.OutOfOrder
call_before_driver = refl

number_does_not_rise : board_of_text (on_latch (codes "driver 1" ∷ [])) ≡ fault 6 faults.OutOfOrder
number_does_not_rise = refl

no_thread : board_of_text (on_latch (codes "picks t1" ∷ [])) ≡ fault 6 faults.NotThere
no_thread = refl

processor_absent : board_of_text (on_latch (codes "picks c1" ∷ [])) ≡ fault 6 faults.NotThere
processor_absent = refl

empty_mask : board_of_text (text (codes "board 1" ∷ codes "domain a tree plain" ∷ codes "line 1 a 0 mask 2" ∷ [])) ≡ fault 3 faults.BadMask
empty_mask = refl

unlazy_on_plain : board_of_text (text (codes "board 1" ∷ codes "domain a tree plain" ∷ codes "line 1 a 0 mask 2 unlazy" ∷ [])) ≡ fault 3 faults.BadUnlazy
unlazy_on_plain = refl

owner_of_free : board_of_text (on_latch (codes "free 1" ∷ codes "driver 2" ∷ codes "request 1" ∷ [])) ≡ fault 8 faults.BadOwner
owner_of_free = refl

requested_again : board_of_text (on_latch (codes "request 1" ∷ codes "ask 1" ∷ codes "request 1" ∷ [])) ≡ fault 8 faults.BadOwner
requested_again = refl

frees_repeat : is_board (board_of_text (on_latch (codes "free 1" ∷ codes "free 1" ∷ codes "request 1" ∷ codes "free 1" ∷ codes "request 1" ∷ []))) ≡ true
frees_repeat = refl

picks_count_their_times : board_of_text (on_latch (codes "picks c0*65535 c0*2" ∷ [])) ≡ fault 6 faults.TooMany
picks_count_their_times = refl

-- ---- faults of the whole text

refused_lines_count : board_of_text (text (codes "board 1" ∷ codes "log 1000000" ∷ codes "domain a linear 1 latch"
    ∷ codes "line 1 a 0" ∷ codes "line 2 a 0" ∷ codes "line 3 a 0" ∷ codes "line 4 a 0" ∷ codes "line 5 a 0" ∷ []))
    ≡ fault 0 faults.LogTooLarge
refused_lines_count = refl

-- ---- texts without a fault

header_is_a_text : is_board (board_of_text (codes "board 1")) ≡ true
header_is_a_text = refl

mask_is_no_fault : is_board (board_of_text (text (codes "board 1" ∷ codes "domain a linear 4 latch" ∷ codes "line 1 a 0 mask 1" ∷ []))) ≡ true
mask_is_no_fault = refl

-- ---- the second version: moments

second_version : is_board (board_of_text (codes "board 2")) ≡ true
second_version = refl

no_fourth_version : board_of_text (codes "board 4") ≡ fault 1 faults.BadNumber
no_fourth_version = refl

-- an LPI controller, two lines on it, the second through messages, and a driver; and then these
-- text lines
abbrev on_lpi : List (List ℕ) → List ℕ
on_lpi lines = text (codes "board 2" ∷ codes "domain its tree lpi" ∷ codes "domain m tree msi parent its"
    ∷ codes "line 1 its 2 unlazy" ∷ codes "line 2 m 2 unlazy" ∷ codes "driver 1" ∷ lines)

moments : board_of_text (on_lpi (codes "moment 1 0" ∷ codes "moment 2 4294967295" ∷ []))
    ≡ Ok (record {
      version = 2;
      cpus = 1;
      window = 100000;
      limit = 99900;
      log = 10000;
      domains = record { name = name_of (codes "its"); def = record { map = maps.Tree; kind = levels.Lpi; parent = None } }
          ∷ record { name = name_of (codes "m"); def = record { map = maps.Tree; kind = levels.Msi; parent = Some 0 } } ∷ [];
      lines = record { line = record { 0 = 1 }; domain = 0; hw = 2; unlazy = true; later = false; mask = 1 }
          ∷ record { line = record { 0 = 2 }; domain = 1; hw = 2; unlazy = true; later = false; mask = 1 } ∷ [];
      devices = [];
      told = [];
      runs = [];
      drivers = record { 0 = 1 } ∷ [];
      calls = record { driver = record { 0 = 1 }; line = record { 0 = 1 }; call = calls.Moment 0 }
          ∷ record { driver = record { 0 = 1 }; line = record { 0 = 2 }; call = calls.Moment 4294967295 } ∷ [];
      picks = [];
    })
moments = refl

moment_too_late : board_of_text (on_lpi (codes "moment 1 4294967296" ∷ [])) ≡ fault 7 faults.BadNumber
moment_too_late = refl

moment_of_no_line : board_of_text (on_lpi (codes "moment 3 5" ∷ [])) ≡ fault 7 faults.NotThere
moment_of_no_line = refl

moment_before_driver : board_of_text (text (codes "board 2" ∷ codes "moment 1 5" ∷ [])) ≡ fault 2 faults.OutOfOrder
moment_before_driver = refl

-- whatever follows the word
moment_in_first_version : board_of_text (on_latch (codes "moment 1 5" ∷ [])) ≡ fault 6 faults.UnknownWord
moment_in_first_version = refl

-- a header that stands again is told, and not its version
version_again : board_of_text (text (codes "board 1" ∷ codes "board 2" ∷ codes "moment 1 5" ∷ [])) ≡ fault 2 faults.Twice
version_again = refl

lpi_has_no_parent : board_of_text (text (codes "board 1" ∷ codes "domain a tree latch" ∷ codes "domain b tree lpi parent a" ∷ [])) ≡ fault 3 faults.BadParent
lpi_has_no_parent = refl
