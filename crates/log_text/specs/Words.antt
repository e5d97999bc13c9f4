-- The words of a log's rows: of numbers, of who acts, and of what is answered.
use Rattle.std.specs.Prelude.{ℕ, Bool, true, false, List, [], ◌∷◌, ◌++◌, codes, decimal}
use Rattle.irq_base.specs.declared.numbers.CpuNo.{CpuNo}
use Rattle.irq_base.specs.declared.numbers.DriverNo.{DriverNo}
use Rattle.irq_base.specs.declared.numbers.DevNo.{DevNo}
use Rattle.irq_base.specs.declared.calls.Flags.{Flags}
use Rattle.irq_base.specs.declared.devices.Answer.{Answer}
use Rattle.irq_base.specs.declared.devices.Answer.TheVariants as answers
use Rattle.irq_base.specs.declared.entries.Errno.{Errno}
use Rattle.irq_base.specs.declared.entries.Errno.TheVariants as errnos
use Rattle.irq_base.specs.declared.entries.Way.{Way}
use Rattle.irq_base.specs.declared.entries.Way.TheVariants as ways
use Rattle.irq_base.specs.declared.entries.TakeAnswer.{TakeAnswer}
use Rattle.irq_base.specs.declared.entries.TakeAnswer.TheVariants as takes
use Rattle.irq_base.specs.declared.entries.Note.{Note}
use Rattle.irq_base.specs.declared.entries.Note.TheVariants as notes
use Rattle.irq_base.specs.declared.entries.Resend.{Resend}
use Rattle.irq_base.specs.declared.entries.Resend.TheVariants as resends
use Rattle.irq_base.specs.declared.entries.EnableAnswer.{EnableAnswer}
use Rattle.irq_base.specs.declared.entries.EnableAnswer.TheVariants as enables
use Rattle.irq_base.specs.declared.entries.Opened.{Opened}
use Rattle.irq_base.specs.declared.entries.Opened.TheVariants as openings
use Rattle.irq_base.specs.declared.entries.LinkAnswer.{LinkAnswer}
use Rattle.irq_base.specs.declared.entries.LinkAnswer.TheVariants as links
use Rattle.irq_base.specs.declared.entries.UnlinkAnswer.{UnlinkAnswer}
use Rattle.irq_base.specs.declared.entries.UnlinkAnswer.TheVariants as unlinks
use Rattle.irq_base.specs.declared.entries.AffinityAnswer.{AffinityAnswer}
use Rattle.irq_base.specs.declared.entries.AffinityAnswer.TheVariants as affinities

-- who acts: a letter, and the number right behind it
abbrev pub driver_word : DriverNo → List ℕ
driver_word driver = codes "d" ++ decimal driver.0

abbrev pub cpu_word : CpuNo → List ℕ
cpu_word cpu = codes "c" ++ decimal cpu.0

-- the thread of the device
abbrev pub thread_word : DevNo → List ℕ
thread_word dev = codes "t" ++ decimal dev.0

abbrev pub way_word : Way → List ℕ
way_word ways.Line = codes "line"
way_word ways.Resend = codes "resend"

abbrev pub take_word : TakeAnswer → List ℕ
take_word takes.Handle = codes "handle"
take_word takes.Busy = codes "busy"
take_word takes.Off = codes "off"

abbrev pub answer_word : Answer → List ℕ
answer_word answers.Nothing = codes "nothing"
answer_word answers.Handled = codes "handled"
answer_word answers.Wake = codes "wake"

-- whether the flow handler goes round again
abbrev pub loop_word : Bool → List ℕ
loop_word true = codes "again"
loop_word false = codes "leave"

-- whether the line is unmasked, or its mask stays as it is
abbrev pub mask_word : Bool → List ℕ
mask_word true = codes "unmask"
mask_word false = codes "asis"

abbrev pub note_word : Note → List ℕ
note_word notes.Quiet = codes "quiet"
note_word notes.Counted = codes "counted"
note_word notes.Killed = codes "killed"

abbrev pub yes_word : Bool → List ℕ
yes_word true = codes "yes"
yes_word false = codes "no"

-- an ask that makes no edge on an edge line says so
abbrev pub edge_words : Bool → List (List ℕ)
edge_words true = []
edge_words false = codes "no" ∷ []

-- what a thread's handler answers, unless its number tells: whether it served
abbrev pub handled_words : Bool → Bool → List (List ℕ)
handled_words true true = []
handled_words false false = []
handled_words true false = codes "handled" ∷ []
handled_words false true = codes "nothing" ∷ []

-- whether the thread's bit is kept
abbrev pub bit_word : Bool → List ℕ
bit_word true = codes "kept"
bit_word false = codes "cleared"

abbrev pub resend_word : Resend → List ℕ
resend_word resends.No = codes "no"
resend_word resends.Chip = codes "chip"
resend_word resends.Soft = codes "soft"

-- the number of the error
abbrev pub error_word : Errno → List ℕ
error_word errnos.Inval = codes "22"
error_word errnos.Busy = codes "16"

-- a flag's letter, if the flag is set
abbrev pub letter_if : Bool → List ℕ → List ℕ
letter_if true letter = letter
letter_if false letter = []

abbrev pub or_dash : List ℕ → List ℕ
or_dash [] = codes "-"
or_dash (letter ∷ letters) = letter ∷ letters

-- the letters of the flags that are set, or a dash for none
abbrev pub flags_word : Flags → List ℕ
flags_word flags = or_dash (letter_if flags.shared (codes "s")
    ++ letter_if flags.oneshot (codes "o") ++ letter_if flags.noauto (codes "n"))

abbrev pub enable_words : EnableAnswer → List (List ℕ)
enable_words enables.Unbalanced = codes "unbalanced" ∷ []
enable_words enables.Lowered = codes "lowered" ∷ []
enable_words (enables.Started resend) = codes "started" ∷ resend_word resend ∷ []

abbrev pub opened_words : Opened → List (List ℕ)
opened_words openings.No = codes "no" ∷ []
opened_words openings.Unbalanced = codes "unbalanced" ∷ []
opened_words openings.Lowered = codes "lowered" ∷ []
opened_words (openings.Started resend) = codes "started" ∷ resend_word resend ∷ []

-- what a request answers: a refused one opened nothing, and doesn't say so
abbrev pub link_words : LinkAnswer → Opened → List (List ℕ)
link_words links.Linked opened = codes "linked" ∷ opened_words opened
link_words (links.Refused errno) opened = codes "refused" ∷ error_word errno ∷ []

abbrev pub unlink_word : UnlinkAnswer → List ℕ
unlink_word unlinks.NotThere = codes "notthere"
unlink_word (unlinks.Unlinked true) = codes "last"
unlink_word (unlinks.Unlinked false) = codes "more"

abbrev pub affinity_words : AffinityAnswer → List (List ℕ)
affinity_words affinities.Now = codes "now" ∷ []
affinity_words affinities.Later = codes "later" ∷ []
affinity_words (affinities.Refused errno) = codes "refused" ∷ error_word errno ∷ []
