-- A row has at most 320 bytes.
use Rattle.std.proofs.Common.{◌≡◌, ℕ, ◌+◌, ◌<◌, ◌≤◌, Bool, true, false, Option, Some, None, IfSome, List, [], ◌∷◌, ◌++◌, length, decimal}
use Rattle.std.specs.Prelude.{nat_lt}
use Rattle.std.proofs.Common.{ap, arith}
use Rattle.std.proofs.lemmas.Fmt.{length-decimal-le}
use Rattle.std.proofs.lemmas.List.{length-append}
use Rattle.irq_base.specs.declared.devices.Answer.{Answer}
use Rattle.irq_base.specs.declared.devices.Answer.TheVariants as answers
use Rattle.irq_base.specs.declared.entries.Actor.{Actor}
use Rattle.irq_base.specs.declared.entries.Actor.TheVariants as actors
use Rattle.irq_base.specs.declared.entries.Entry.{Entry}
use Rattle.irq_base.specs.declared.entries.Entry.TheVariants as by
use Rattle.irq_base.specs.declared.entries.CpuEntry.{CpuEntry}
use Rattle.irq_base.specs.declared.entries.CpuEntry.TheVariants as cpus
use Rattle.irq_base.specs.declared.entries.ThreadEntry.{ThreadEntry}
use Rattle.irq_base.specs.declared.entries.ThreadEntry.TheVariants as threads
use Rattle.irq_base.specs.declared.entries.DriverEntry.{DriverEntry}
use Rattle.irq_base.specs.declared.entries.DriverEntry.TheVariants as drivers
use Rattle.irq_base.specs.declared.entries.CallEntry.{CallEntry}
use Rattle.irq_base.specs.declared.entries.CallEntry.TheVariants as called
use Rattle.irq_base.specs.declared.entries.Errno.TheVariants as errnos
use Rattle.irq_base.specs.declared.entries.Way.{Way}
use Rattle.irq_base.specs.declared.entries.Way.TheVariants as ways
use Rattle.irq_base.specs.declared.entries.TakeAnswer.{TakeAnswer}
use Rattle.irq_base.specs.declared.entries.TakeAnswer.TheVariants as takes
use Rattle.irq_base.specs.declared.entries.Note.{Note}
use Rattle.irq_base.specs.declared.entries.Note.TheVariants as notes
use Rattle.irq_base.specs.declared.entries.Resend.TheVariants as resends
use Rattle.irq_base.specs.declared.entries.EnableAnswer.{EnableAnswer}
use Rattle.irq_base.specs.declared.entries.EnableAnswer.TheVariants as enables
use Rattle.irq_base.specs.declared.entries.Opened.{Opened}
use Rattle.irq_base.specs.declared.entries.Opened.TheVariants as openings
use Rattle.irq_base.specs.declared.entries.LinkAnswer.{LinkAnswer}
use Rattle.irq_base.specs.declared.entries.LinkAnswer.TheVariants as links
use Rattle.irq_base.specs.declared.entries.UnlinkAnswer.{UnlinkAnswer}
use Rattle.irq_base.specs.declared.entries.UnlinkAnswer.TheVariants as unlinks
use Rattle.irq_base.specs.declared.entries.AffinityAnswer.{AffinityAnswer}
use Rattle.irq_base.specs.declared.entries.AffinityAnswer.TheVariants as affinities
use Rattle.irq_base.specs.declared.numbers.LineNo.{LineNo}
use Rattle.line_wanted.specs.declared.left.Left.{Left}
use Rattle.line_wanted.specs.declared.left.Standing.{Standing}
use Rattle.line_wanted.specs.declared.left.Standing.TheVariants as standings
use Rattle.line_wanted.specs.declared.wanted.Wanted.{Wanted}
use Rattle.line_wanted.specs.declared.wanted.Wanted.TheVariants as wants
use Rattle.log_read.specs.Who.{HasSmallActor}
use Rattle.log_text.specs.EntryWords.{actor_word, call_words, cpu_words, driver_words, entry_words, thread_words}
use Rattle.log_text.specs.Formed.{HasSmallCall, HasSmallCpu, HasSmallDriver, HasSmallThread, IsSmall, IsWritable}
use Rattle.log_text.specs.Words.{way_word, take_word, answer_word, loop_word, mask_word, note_word, bit_word}
use Rattle.log_text.specs.Words.{flags_word, enable_words, link_words, unlink_word, affinity_words, yes_word, edge_words}
use Rattle.log_text.specs.Words.{handled_words}
use Rattle.explore_words.specs.Rows.{HasRow, Spells, hung_words, joined, standing_word, waits_word, wanted_words}
use Rattle.explore_words.proofs.Hung.{rest_of}

-- the bytes of words, each with a byte behind it
abbrev size : List (List ℕ) → ℕ
size [] = 0
size (word ∷ words) = length word + (1 + size words)

joined_size : (word : List ℕ) (words : List (List ℕ)) → length (joined (word ∷ words)) + 1 ≡ size (word ∷ words)
joined_size word [] = omega arith
joined_size word (next ∷ words) =
    let rest = joined_size next words in
    let all = length-append word (32 ∷ joined (next ∷ words)) in
    omega (arith, rest, all)

-- the words have at most n bytes, with one more for each
abbrev Fit : ℕ → List (List ℕ) → Type 0
Fit n words = size words ≤ n

number_short : (n : ℕ) → IsSmall n → length (decimal n) ≤ 10
number_short n small = length-decimal-le 10 n (omega arith) (omega (arith, small)) (omega (arith, small))

none : Fit 0 []
none = omega arith

more : (m n : ℕ) (word : List ℕ) (words : List (List ℕ)) → length word ≤ m → Fit n words → Fit (m + 1 + n) (word ∷ words)
more m n word words short fit = omega (arith, short, fit)

number_fits : (n k : ℕ) (words : List (List ℕ)) → IsSmall k → Fit n words → Fit (11 + n) (decimal k ∷ words)
number_fits n k words small fit = let short = number_short k small in omega (arith, short, fit)

who_fits : (m n k letter : ℕ) (words : List (List ℕ)) → IsSmall k → (verb : List ℕ) → length verb ≤ m → Fit n words
    → Fit (12 + (m + 1 + n)) ((letter ∷ decimal k) ∷ verb ∷ words)
who_fits m n k letter words small verb v fit = let short = number_short k small in omega (arith, short, v, fit)

way_fits : (x : Way) → length (way_word x) ≤ 11
way_fits ways.Line = omega arith
way_fits ways.Resend = omega arith

take_fits : (x : TakeAnswer) → length (take_word x) ≤ 11
take_fits takes.Handle = omega arith
take_fits takes.Busy = omega arith
take_fits takes.Off = omega arith

answer_fits : (x : Answer) → length (answer_word x) ≤ 11
answer_fits answers.Nothing = omega arith
answer_fits answers.Handled = omega arith
answer_fits answers.Wake = omega arith

loop_fits : (x : Bool) → length (loop_word x) ≤ 11
loop_fits true = omega arith
loop_fits false = omega arith

mask_fits : (x : Bool) → length (mask_word x) ≤ 11
mask_fits true = omega arith
mask_fits false = omega arith

note_fits : (x : Note) → length (note_word x) ≤ 11
note_fits notes.Quiet = omega arith
note_fits notes.Counted = omega arith
note_fits notes.Killed = omega arith

bit_fits : (x : Bool) → length (bit_word x) ≤ 11
bit_fits true = omega arith
bit_fits false = omega arith

flags_by : (s o n : Bool) → length (flags_word (record { shared = s; oneshot = o; noauto = n })) ≤ 11
flags_by true true true = omega arith
flags_by true true false = omega arith
flags_by true false true = omega arith
flags_by true false false = omega arith
flags_by false true true = omega arith
flags_by false true false = omega arith
flags_by false false true = omega arith
flags_by false false false = omega arith

unlink_fits : (x : UnlinkAnswer) → length (unlink_word x) ≤ 11
unlink_fits unlinks.NotThere = omega arith
unlink_fits (unlinks.Unlinked true) = omega arith
unlink_fits (unlinks.Unlinked false) = omega arith

enable_fits : (x : EnableAnswer) → Fit 30 (enable_words x)
enable_fits enables.Unbalanced = omega arith
enable_fits enables.Lowered = omega arith
enable_fits (enables.Started resends.No) = omega arith
enable_fits (enables.Started resends.Chip) = omega arith
enable_fits (enables.Started resends.Soft) = omega arith

link_fits : (x : LinkAnswer) (o : Opened) → Fit 30 (link_words x o)
link_fits links.Linked openings.No = omega arith
link_fits links.Linked openings.Unbalanced = omega arith
link_fits links.Linked openings.Lowered = omega arith
link_fits links.Linked (openings.Started resends.No) = omega arith
link_fits links.Linked (openings.Started resends.Chip) = omega arith
link_fits links.Linked (openings.Started resends.Soft) = omega arith
link_fits (links.Refused errnos.Inval) o = omega arith
link_fits (links.Refused errnos.Busy) o = omega arith

affinity_fits : (x : AffinityAnswer) → Fit 30 (affinity_words x)
affinity_fits affinities.Now = omega arith
affinity_fits affinities.Later = omega arith
affinity_fits (affinities.Refused errnos.Inval) = omega arith
affinity_fits (affinities.Refused errnos.Busy) = omega arith

yes_fits : (x : Bool) → length (yes_word x) ≤ 11
yes_fits true = omega arith
yes_fits false = omega arith

edge_fits : (x : Bool) → Fit 30 (edge_words x)
edge_fits true = omega arith
edge_fits false = omega arith

handled_fits : (x y : Bool) → Fit 30 (handled_words x y)
handled_fits true true = omega arith
handled_fits true false = omega arith
handled_fits false true = omega arith
handled_fits false false = omega arith

cpu_fits : (e : CpuEntry) → HasSmallCpu e → Fit 100 (cpu_words e)
cpu_fits (cpus.Take way answer) w = let a = way_fits way in let b = take_fits answer in omega (arith, a, b)
cpu_fits (cpus.Begin dev) w = let a = number_short dev.0 w in omega (arith, a)
cpu_fits (cpus.Return answer dev served) w =
    let a = number_short dev.0 w.0 in let b = answer_fits answer in let c = number_short served w.1 in omega (arith, a, b, c)
cpu_fits (cpus.End again unmask note) w =
    let a = loop_fits again in let b = mask_fits unmask in let c = note_fits note in omega (arith, a, b, c)

thread_fits : (e : ThreadEntry) → HasSmallThread e → Fit 100 (thread_words e)
thread_fits threads.Begin w = omega arith
thread_fits (threads.Return handled served) w = let a = number_short served w in let b = handled_fits handled (nat_lt 0 served) in omega (arith, a, b)
thread_fits (threads.Finish kept unmask) w = let a = bit_fits kept in let b = mask_fits unmask in omega (arith, a, b)
thread_fits threads.Done w = omega arith

driver_fits : (e : DriverEntry) → HasSmallDriver e → Fit 100 (driver_words e)
driver_fits (drivers.Ask edge dev) w = let a = number_short dev.0 w in let b = edge_fits edge in omega (arith, a, b)
driver_fits (drivers.Request flags answer opened dev) w =
    let a = number_short dev.0 w in
    let b = flags_by flags.shared flags.oneshot flags.noauto in
    let c = link_fits answer opened in omega (arith, a, b, c)
driver_fits (drivers.Affinity answer mask) w = let a = number_short mask w in let b = affinity_fits answer in omega (arith, a, b)
driver_fits (drivers.Moment moment) w = let a = number_short moment w in omega (arith, a)

call_fits : (call : CallEntry) → HasSmallCall call → Fit 100 (call_words call)
call_fits called.Disable w = omega arith
call_fits called.HardClear w = omega arith
call_fits called.Synced w = omega arith
call_fits (called.Enable answer) w = let a = enable_fits answer in omega (arith, a)
call_fits (called.Unlink answer dev) w = let a = number_short dev.0 w in let b = unlink_fits answer in omega (arith, a, b)
call_fits (called.Freed dev) w = let a = number_short dev.0 w in omega (arith, a)
call_fits (called.Wake woken dev) w = let a = number_short dev.0 w in let b = yes_fits woken in omega (arith, a, b)
call_fits (called.Quiet dev) w = let a = number_short dev.0 w in omega (arith, a)
call_fits (called.Arm edge dev) w = let a = number_short dev.0 w in let b = yes_fits edge in omega (arith, a, b)
call_fits (called.Serve dev served) w = let a = number_short dev.0 w.0 in let b = number_short served w.1 in omega (arith, a, b)

entry_fits : (e : Entry) → IsWritable e → Fit 300 (entry_words e)
entry_fits (by.Cpu cpu e) w = let a = number_short cpu.0 w.small.0 in let b = cpu_fits e w.small.1 in omega (arith, a, b)
entry_fits (by.Thread dev e) w = let a = number_short dev.0 w.small.0 in let b = thread_fits e w.small.1 in omega (arith, a, b)
entry_fits (by.Driver driver e) w = let a = number_short driver.0 w.small.0 in let b = driver_fits e w.small.1 in omega (arith, a, b)
entry_fits (by.CpuCall cpu call) w = let a = number_short cpu.0 w.small.0 in let b = call_fits call w.small.1 in omega (arith, a, b)
entry_fits (by.ThreadCall dev call) w = let a = number_short dev.0 w.small.0 in let b = call_fits call w.small.1 in omega (arith, a, b)
entry_fits (by.DriverCall driver call) w = let a = number_short driver.0 w.small.0 in let b = call_fits call w.small.1 in omega (arith, a, b)

standing_fits : (x : Standing) → length (standing_word x) ≤ 11
standing_fits standings.Stopped = omega arith
standing_fits standings.Enabled = omega arith
standing_fits standings.Disabled = omega arith
standing_fits standings.Killed = omega arith

waits_fits : (stored pending : Bool) → length (waits_word (stored, pending)) ≤ 11
waits_fits false false = omega arith
waits_fits true false = omega arith
waits_fits false true = omega arith
waits_fits true true = omega arith

actor_fits : (x : Actor) → HasSmallActor x → length (actor_word x) ≤ 11
actor_fits (actors.Thread dev) small = let short = number_short dev.0 small in omega (arith, short)
actor_fits (actors.Cpu cpu) small = let short = number_short cpu.0 small in omega (arith, short)
actor_fits (actors.Driver driver) small = let short = number_short driver.0 small in omega (arith, short)

hung_fits : (hung : Option Actor) (words : List (List ℕ)) → IfSome hung HasSmallActor → Fit 60 words → Fit 80 (hung_words hung ++ words)
hung_fits None words small fit = omega (arith, fit)
hung_fits (Some x) words small fit = let a = actor_fits x small in omega (arith, a, fit)

rest_fits : (left : Left) → IsSmall left.unserved → Fit 60 (rest_of left)
rest_fits left small =
    let a = standing_fits left.standing in
    let b = number_short left.unserved small in
    let c = waits_fits left.stored left.pending in omega (arith, a, b, c)

wanted_fits : (line : LineNo) (wanted : Wanted) → IsSmall line.0 → HasRow wanted → Fit 311 (wanted_words line wanted)
wanted_fits line (wants.Row e) small w = let a = number_short line.0 small in let b = entry_fits e w in omega (arith, a, b)
wanted_fits line (wants.Rest left) small w =
    let a = number_short line.0 small in
    let b = hung_fits left.hung (rest_of left) w.1 (rest_fits left w.0) in omega (arith, a, b)

joined_fits : (words : List (List ℕ)) → Fit 311 words → length (joined words) ≤ 320
joined_fits [] fit = omega arith
joined_fits (word ∷ words) fit = let same = joined_size word words in omega (arith, same, fit)

-- a text that is longer is no row
pub too_long : (bytes : List ℕ) → 320 < length bytes → (line : LineNo) (wanted : Wanted) → Spells bytes line wanted → ⊥
too_long bytes long line wanted is =
    let fits = joined_fits (wanted_words line wanted) (wanted_fits line wanted is.number is.has_row) in
    let same : length bytes ≡ length (joined (wanted_words line wanted)) = ap length is.text in
    omega (arith, long, fits, same)
