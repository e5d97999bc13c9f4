-- What words say, read back: each word of an answer is another, and so is each entry's.
use Rattle.std.proofs.Common.{◌≡◌, ℕ, Bool, true, false, cond, List, [], codes, decimal}
use Rattle.std.proofs.Common.{drop, get_or, refl, ap, arith}
use Rattle.std.specs.Str.{bytes_eq}
use Rattle.std.specs.Str.Parse.{digits_value}
use Rattle.std.proofs.lemmas.Fmt.{decimal_is_IsNumeral}
use Rattle.irq_base.specs.declared.calls.Flags.{Flags}
use Rattle.irq_base.specs.declared.devices.Answer.{Answer}
use Rattle.irq_base.specs.declared.devices.Answer.TheVariants as answers
use Rattle.irq_base.specs.declared.entries.Errno.{Errno}
use Rattle.irq_base.specs.declared.entries.Errno.TheVariants as errnos
use Rattle.irq_base.specs.declared.entries.Way.{Way}
use Rattle.irq_base.specs.declared.entries.Way.TheVariants as ways
use Rattle.irq_base.specs.declared.entries.TakeAnswer.{TakeAnswer}
use Rattle.irq_base.specs.declared.entries.TakeAnswer.TheVariants as takes
use Rattle.irq_base.specs.declared.entries.Note.{Note}
use Rattle.irq_base.specs.declared.entries.Note.TheVariants as notes
use Rattle.irq_base.specs.declared.entries.Resend.{Resend}
use Rattle.irq_base.specs.declared.entries.Resend.TheVariants as resends
use Rattle.irq_base.specs.declared.entries.EnableAnswer.{EnableAnswer}
use Rattle.irq_base.specs.declared.entries.EnableAnswer.TheVariants as enables
use Rattle.irq_base.specs.declared.entries.Opened.{Opened}
use Rattle.irq_base.specs.declared.entries.Opened.TheVariants as openings
use Rattle.irq_base.specs.declared.entries.LinkAnswer.{LinkAnswer}
use Rattle.irq_base.specs.declared.entries.LinkAnswer.TheVariants as links
use Rattle.irq_base.specs.declared.entries.UnlinkAnswer.{UnlinkAnswer}
use Rattle.irq_base.specs.declared.entries.UnlinkAnswer.TheVariants as unlinks
use Rattle.irq_base.specs.declared.entries.AffinityAnswer.{AffinityAnswer}
use Rattle.irq_base.specs.declared.entries.AffinityAnswer.TheVariants as affinities
use Rattle.log_text.specs.Formed.{IsSmall}
use Rattle.log_text.specs.Words.{way_word, take_word, answer_word, loop_word}
use Rattle.log_text.specs.Words.{mask_word, note_word, bit_word, resend_word, error_word, flags_word, enable_words}
use Rattle.log_text.specs.Words.{opened_words, link_words, unlink_word, affinity_words, yes_word, edge_words, handled_words}

abbrev pub is : List ℕ → List ℕ → Bool
is word text = bytes_eq word text

-- the word at a place
abbrev pub at : List (List ℕ) → ℕ → List ℕ
at words i = get_or words i []

abbrev pub way_at : List ℕ → Way
way_at word = cond (is word (codes "line")) ways.Line ways.Resend

abbrev pub take_at : List ℕ → TakeAnswer
take_at word = cond (is word (codes "handle")) takes.Handle (cond (is word (codes "busy")) takes.Busy takes.Off)

abbrev pub answer_at : List ℕ → Answer
answer_at word = cond (is word (codes "nothing")) answers.Nothing (cond (is word (codes "handled")) answers.Handled answers.Wake)

abbrev pub loop_at : List ℕ → Bool
loop_at word = is word (codes "again")

abbrev pub mask_at : List ℕ → Bool
mask_at word = is word (codes "unmask")

abbrev pub note_at : List ℕ → Note
note_at word = cond (is word (codes "quiet")) notes.Quiet (cond (is word (codes "counted")) notes.Counted notes.Killed)

abbrev pub bit_at : List ℕ → Bool
bit_at word = is word (codes "kept")

abbrev pub yes_at : List ℕ → Bool
yes_at word = is word (codes "yes")

-- whether an ask made an edge, by the word behind its device
abbrev pub edge_at : List (List ℕ) → Bool
edge_at words = cond (is (at words 0) (codes "no")) false true

-- what a thread's handler answered, by the word behind its number, and whether it served
abbrev pub handled_at : List (List ℕ) → Bool → Bool
handled_at words served =
    cond (is (at words 0) (codes "handled")) true (cond (is (at words 0) (codes "nothing")) false served)

abbrev pub resend_at : List ℕ → Resend
resend_at word = cond (is word (codes "no")) resends.No (cond (is word (codes "chip")) resends.Chip resends.Soft)

abbrev pub error_at : List ℕ → Errno
error_at word = cond (is word (codes "22")) errnos.Inval errnos.Busy

abbrev has : List ℕ → ℕ → Bool
has word letter = Rattle.std.specs.List.list_any (λ b. Rattle.std.specs.Prelude.nat_eq b letter) word

abbrev pub flags_at : List ℕ → Flags
flags_at word = record { shared = has word 115; oneshot = has word 111; noauto = has word 110 }

abbrev pub unlink_at : List ℕ → UnlinkAnswer
unlink_at word = cond (is word (codes "notthere")) unlinks.NotThere (unlinks.Unlinked (is word (codes "last")))

abbrev pub enable_at : List (List ℕ) → EnableAnswer
enable_at words =
    cond (is (at words 0) (codes "unbalanced")) enables.Unbalanced
    (cond (is (at words 0) (codes "lowered")) enables.Lowered (enables.Started (resend_at (at words 1))))

abbrev pub opened_at : List (List ℕ) → Opened
opened_at words =
    cond (is (at words 0) (codes "no")) openings.No
    (cond (is (at words 0) (codes "unbalanced")) openings.Unbalanced
    (cond (is (at words 0) (codes "lowered")) openings.Lowered (openings.Started (resend_at (at words 1)))))

abbrev pub link_at : List (List ℕ) → LinkAnswer
link_at words = cond (is (at words 0) (codes "linked")) links.Linked (links.Refused (error_at (at words 1)))

abbrev pub linked_at : List (List ℕ) → Opened
linked_at words = cond (is (at words 0) (codes "linked")) (opened_at (drop 1 words)) openings.No

abbrev pub affinity_at : List (List ℕ) → AffinityAnswer
affinity_at words =
    cond (is (at words 0) (codes "now")) affinities.Now
    (cond (is (at words 0) (codes "later")) affinities.Later (affinities.Refused (error_at (at words 1))))

pub way_back : (x : Way) → way_at (way_word x) ≡ x
way_back ways.Line = refl
way_back ways.Resend = refl

pub take_back : (x : TakeAnswer) → take_at (take_word x) ≡ x
take_back takes.Handle = refl
take_back takes.Busy = refl
take_back takes.Off = refl

pub answer_back : (x : Answer) → answer_at (answer_word x) ≡ x
answer_back answers.Nothing = refl
answer_back answers.Handled = refl
answer_back answers.Wake = refl

pub loop_back : (x : Bool) → loop_at (loop_word x) ≡ x
loop_back true = refl
loop_back false = refl

pub mask_back : (x : Bool) → mask_at (mask_word x) ≡ x
mask_back true = refl
mask_back false = refl

pub note_back : (x : Note) → note_at (note_word x) ≡ x
note_back notes.Quiet = refl
note_back notes.Counted = refl
note_back notes.Killed = refl

pub bit_back : (x : Bool) → bit_at (bit_word x) ≡ x
bit_back true = refl
bit_back false = refl

pub yes_back : (x : Bool) → yes_at (yes_word x) ≡ x
yes_back true = refl
yes_back false = refl

pub edge_back : (x : Bool) → edge_at (edge_words x) ≡ x
edge_back true = refl
edge_back false = refl

pub handled_back : (x served : Bool) → handled_at (handled_words x served) served ≡ x
handled_back true true = refl
handled_back true false = refl
handled_back false true = refl
handled_back false false = refl

pub resend_back : (x : Resend) → resend_at (resend_word x) ≡ x
resend_back resends.No = refl
resend_back resends.Chip = refl
resend_back resends.Soft = refl

pub error_back : (x : Errno) → error_at (error_word x) ≡ x
error_back errnos.Inval = refl
error_back errnos.Busy = refl

abbrev flags : Bool → Bool → Bool → Flags
flags s o n = record { shared = s; oneshot = o; noauto = n }

flags_by : (s o n : Bool) → flags_at (flags_word (flags s o n)) ≡ flags s o n
flags_by true true true = refl
flags_by true true false = refl
flags_by true false true = refl
flags_by true false false = refl
flags_by false true true = refl
flags_by false true false = refl
flags_by false false true = refl
flags_by false false false = refl

pub flags_back : (x : Flags) → flags_at (flags_word x) ≡ x
flags_back x = flags_by x.shared x.oneshot x.noauto

pub unlink_back : (x : UnlinkAnswer) → unlink_at (unlink_word x) ≡ x
unlink_back unlinks.NotThere = refl
unlink_back (unlinks.Unlinked true) = refl
unlink_back (unlinks.Unlinked false) = refl

pub enable_back : (x : EnableAnswer) → enable_at (enable_words x) ≡ x
enable_back enables.Unbalanced = refl
enable_back enables.Lowered = refl
enable_back (enables.Started resend) = ap (λ r. enables.Started r) (resend_back resend)

pub opened_back : (x : Opened) → opened_at (opened_words x) ≡ x
opened_back openings.No = refl
opened_back openings.Unbalanced = refl
opened_back openings.Lowered = refl
opened_back (openings.Started resend) = ap (λ r. openings.Started r) (resend_back resend)

pub link_back : (x : LinkAnswer) (o : Opened) → link_at (link_words x o) ≡ x
link_back links.Linked o = refl
link_back (links.Refused errno) o = ap (λ e. links.Refused e) (error_back errno)

pub affinity_back : (x : AffinityAnswer) → affinity_at (affinity_words x) ≡ x
affinity_back affinities.Now = refl
affinity_back affinities.Later = refl
affinity_back (affinities.Refused errno) = ap (λ e. affinities.Refused e) (error_back errno)

-- a number's digits have its value
pub number_back : (n : ℕ) → IsSmall n → digits_value 10 (decimal n) ≡ n
number_back n small = (decimal_is_IsNumeral n (omega (arith, small))).1
