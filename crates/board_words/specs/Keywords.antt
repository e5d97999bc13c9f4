-- The first words of statements.
use Rattle.std.specs.Prelude.{ℕ, List, [], ◌∷◌, codes}
use Rattle.board_words.specs.declared.keywords.PartWord.{PartWord}
use Rattle.board_words.specs.declared.keywords.PartWord.TheVariants as parts
use Rattle.board_words.specs.declared.keywords.CallWord.{CallWord}
use Rattle.board_words.specs.declared.keywords.CallWord.TheVariants as calls

abbrev pub part_text : PartWord → List ℕ
part_text parts.Board = codes "board"
part_text parts.Cpus = codes "cpus"
part_text parts.Spurious = codes "spurious"
part_text parts.Log = codes "log"
part_text parts.Domain = codes "domain"
part_text parts.Line = codes "line"
part_text parts.Device = codes "device"
part_text parts.Handler = codes "handler"
part_text parts.Thread = codes "thread"
part_text parts.Driver = codes "driver"

abbrev pub part_texts : List (List ℕ)
part_texts = codes "board" ∷ codes "cpus" ∷ codes "spurious" ∷ codes "log" ∷ codes "domain"
    ∷ codes "line" ∷ codes "device" ∷ codes "handler" ∷ codes "thread" ∷ codes "driver" ∷ []

abbrev pub call_text : CallWord → List ℕ
call_text calls.Request = codes "request"
call_text calls.Free = codes "free"
call_text calls.Ask = codes "ask"
call_text calls.Disable = codes "disable"
call_text calls.DisableNosync = codes "disable_nosync"
call_text calls.Enable = codes "enable"
call_text calls.Sync = codes "sync"
call_text calls.Affinity = codes "affinity"
call_text calls.Moment = codes "moment"
call_text calls.SyncHard = codes "sync_hard"
call_text calls.DisableHard = codes "disable_hard"
call_text calls.Wake = codes "wake"
call_text calls.Quiet = codes "quiet"
call_text calls.Arm = codes "arm"
call_text calls.Serve = codes "serve"

-- the calls of version 3 alone
abbrev pub run_call_texts : List (List ℕ)
run_call_texts = codes "sync_hard" ∷ codes "disable_hard" ∷ codes "wake" ∷ codes "quiet"
    ∷ codes "arm" ∷ codes "serve" ∷ []

abbrev pub call_texts : List (List ℕ)
call_texts = codes "request" ∷ codes "free" ∷ codes "ask" ∷ codes "disable" ∷ codes "disable_nosync"
    ∷ codes "enable" ∷ codes "sync" ∷ codes "affinity" ∷ codes "moment" ∷ run_call_texts
