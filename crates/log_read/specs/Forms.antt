-- What follows the verb of a row, verb by verb; and what follows the first word of an answer.
use Rattle.std.specs.Prelude.{◌≡◌, ℕ, nat_lt, Bool, Some, None, List, [], ◌∷◌, ◌++◌, codes}
use Rattle.std.specs.Prelude.{decimal}
use Rattle.irq_base.specs.Who.{actor_of}
use Rattle.irq_base.specs.declared.entries.Actor.{Actor}
use Rattle.irq_base.specs.declared.entries.AffinityAnswer.{AffinityAnswer}
use Rattle.irq_base.specs.declared.entries.AffinityAnswer.TheVariants as affinities
use Rattle.irq_base.specs.declared.entries.CallEntry.{CallEntry}
use Rattle.irq_base.specs.declared.entries.CallEntry.TheVariants as called
use Rattle.irq_base.specs.declared.entries.CpuEntry.{CpuEntry}
use Rattle.irq_base.specs.declared.entries.CpuEntry.TheVariants as cpus
use Rattle.irq_base.specs.declared.entries.DriverEntry.{DriverEntry}
use Rattle.irq_base.specs.declared.entries.DriverEntry.TheVariants as drivers
use Rattle.irq_base.specs.declared.entries.EnableAnswer.{EnableAnswer}
use Rattle.irq_base.specs.declared.entries.EnableAnswer.TheVariants as enables
use Rattle.irq_base.specs.declared.entries.Entry.{Entry}
use Rattle.irq_base.specs.declared.entries.Errno.TheVariants as errnos
use Rattle.irq_base.specs.declared.entries.LinkAnswer.{LinkAnswer}
use Rattle.irq_base.specs.declared.entries.LinkAnswer.TheVariants as links
use Rattle.irq_base.specs.declared.entries.Opened.{Opened}
use Rattle.irq_base.specs.declared.entries.Opened.TheVariants as opens
use Rattle.irq_base.specs.declared.entries.ThreadEntry.{ThreadEntry}
use Rattle.irq_base.specs.declared.entries.ThreadEntry.TheVariants as threads
use Rattle.irq_base.specs.declared.numbers.DevNo.{DevNo}
use Rattle.log_text.specs.EntryWords.{call_words}
use Rattle.log_text.specs.Formed.{IsSmall, IsWritable, HasSmallCall}
use Rattle.log_text.specs.Words.{way_word, take_word, answer_word, loop_word, mask_word}
use Rattle.log_text.specs.Words.{note_word, bit_word, resend_word, error_word, flags_word}
use Rattle.log_text.specs.Words.{unlink_word, enable_words, opened_words, link_words}
use Rattle.log_text.specs.Words.{affinity_words, yes_word, edge_words, handled_words}
use Rattle.log_read.specs.Left.{left_of}
use Rattle.log_read.specs.Takes.{TakesAs, EndsAs, Any, one, number_words, Both, then, text_words}
use Rattle.log_read.specs.declared.cpus.CpuVerb.{CpuVerb}
use Rattle.log_read.specs.declared.cpus.CpuVerb.TheVariants as cpu_verbs
use Rattle.log_read.specs.declared.threads.ThreadVerb.{ThreadVerb}
use Rattle.log_read.specs.declared.threads.ThreadVerb.TheVariants as thread_verbs
use Rattle.log_read.specs.declared.drivers.DriverVerb.{DriverVerb}
use Rattle.log_read.specs.declared.drivers.DriverVerb.TheVariants as driver_verbs
use Rattle.log_read.specs.declared.calls.CallVerb.{CallVerb}
use Rattle.log_read.specs.declared.calls.CallVerb.TheVariants as call_verbs
use Rattle.log_read.specs.declared.kinds.Opening.{Opening}
use Rattle.log_read.specs.declared.kinds.Opening.TheVariants as openings
use Rattle.log_read.specs.declared.kinds.Linking.{Linking}
use Rattle.log_read.specs.declared.kinds.Linking.TheVariants as linkings
use Rattle.log_read.specs.declared.kinds.Moving.{Moving}
use Rattle.log_read.specs.declared.kinds.Moving.TheVariants as movings
use Rattle.log_read.specs.declared.words.Words.{Words}

abbrev pub dev_no : ℕ → DevNo
dev_no n = record { 0 = n }

-- no word
abbrev pub no_words : Unit {0} → List (List ℕ)
no_words u = []

-- what follows the first word of an answer

abbrev pub TakesOpening : Opening → Words → Words → Opened → Type 0
TakesOpening openings.No old new o = TakesAs Any no_words (λ u. opens.No) old new o
TakesOpening openings.Unbalanced old new o = TakesAs Any no_words (λ u. opens.Unbalanced) old new o
TakesOpening openings.Lowered old new o = TakesAs Any no_words (λ u. opens.Lowered) old new o
TakesOpening openings.Started old new o =
    TakesAs Any (one resend_word) (λ r. opens.Started r) old new o

abbrev pub TakesEnabling : Opening → Words → Words → EnableAnswer → Type 0
TakesEnabling openings.No old new o = left_of new ≡ None
TakesEnabling openings.Unbalanced old new o =
    TakesAs Any no_words (λ u. enables.Unbalanced) old new o
TakesEnabling openings.Lowered old new o = TakesAs Any no_words (λ u. enables.Lowered) old new o
TakesEnabling openings.Started old new o =
    TakesAs Any (one resend_word) (λ r. enables.Started r) old new o

-- a refused request opened nothing
abbrev pub IsLink : LinkAnswer × Opened → Type 0
IsLink (links.Linked, opened) = Unit {0}
IsLink (links.Refused errno, opened) = opened ≡ opens.No

abbrev pub link_said : LinkAnswer × Opened → List (List ℕ)
link_said link = link_words link.0 link.1

abbrev pub TakesLinking : Linking → Words → Words → LinkAnswer × Opened → Type 0
TakesLinking linkings.Linked old new link =
    TakesAs Any opened_words (λ opened. (links.Linked, opened)) old new link
TakesLinking linkings.Refused old new link =
    TakesAs Any (one error_word) (λ errno. (links.Refused errno, opens.No)) old new link

-- a mask is only refused as invalid
abbrev pub IsMoved : AffinityAnswer → Type 0
IsMoved affinities.Now = Unit {0}
IsMoved affinities.Later = Unit {0}
IsMoved (affinities.Refused errno) = errno ≡ errnos.Inval

abbrev pub TakesMoving : Moving → Words → Words → AffinityAnswer → Type 0
TakesMoving movings.Now old new answer = TakesAs Any no_words (λ u. affinities.Now) old new answer
TakesMoving movings.Later old new answer =
    TakesAs Any no_words (λ u. affinities.Later) old new answer
TakesMoving movings.Refused old new answer =
    TakesAs Any (text_words (codes "22")) (λ u. affinities.Refused errnos.Inval) old new answer

-- what an actor did, by its verb

abbrev pub TakesCpu : CpuVerb → Words → Words → CpuEntry → Type 0
TakesCpu cpu_verbs.Take old new e = TakesAs (Both Any Any)
    (then (one way_word) (one take_word)) (λ p. cpus.Take p.0 p.1) old new e
TakesCpu cpu_verbs.Begin old new e =
    TakesAs IsSmall number_words (λ n. cpus.Begin (dev_no n)) old new e
TakesCpu cpu_verbs.Return old new e =
    TakesAs (Both IsSmall (Both Any IsSmall))
    (then number_words (then (one answer_word) number_words))
    (λ p. cpus.Return p.1.0 (dev_no p.0) p.1.1) old new e
TakesCpu cpu_verbs.End old new e =
    TakesAs (Both Any (Both Any Any)) (then (one loop_word)
    (then (one mask_word) (one note_word))) (λ p. cpus.End p.0 p.1.0 p.1.1) old new e

-- what a thread's handler answered follows its number, unless that tells
abbrev pub returned_words : ℕ × Bool → List (List ℕ)
returned_words p = decimal p.0 ∷ handled_words p.1 (nat_lt 0 p.0)

abbrev pub TakesThread : ThreadVerb → Words → Words → ThreadEntry → Type 0
TakesThread thread_verbs.Begin old new e = TakesAs Any no_words (λ u. threads.Begin) old new e
TakesThread thread_verbs.Return old new e =
    EndsAs (Both IsSmall Any) returned_words (λ p. threads.Return p.1 p.0) old new e
TakesThread thread_verbs.Finish old new e
    = TakesAs (Both Any Any) (then (one bit_word) (one mask_word))
    (λ p. threads.Finish p.0 p.1) old new e
TakesThread thread_verbs.Done old new e = TakesAs Any no_words (λ u. threads.Done) old new e

abbrev pub TakesDriver : DriverVerb → Words → Words → DriverEntry → Type 0
TakesDriver driver_verbs.Ask old new e =
    EndsAs (Both IsSmall Any) (then number_words edge_words) (λ p. drivers.Ask p.1 (dev_no p.0))
    old new e
TakesDriver driver_verbs.Request old new e =
    TakesAs (Both IsSmall (Both Any IsLink)) (then number_words (then (one flags_word) link_said))
    (λ p. drivers.Request p.1.0 p.1.1.0 p.1.1.1 (dev_no p.0)) old new e
TakesDriver driver_verbs.Affinity old new e =
    TakesAs (Both IsSmall IsMoved) (then number_words affinity_words)
    (λ p. drivers.Affinity p.1 p.0) old new e
TakesDriver driver_verbs.Moment old new e =
    TakesAs IsSmall number_words (λ n. drivers.Moment n) old new e

abbrev pub TakesCall : CallVerb → Words → Words → CallEntry → Type 0
TakesCall call_verbs.Disable old new e = TakesAs Any no_words (λ u. called.Disable) old new e
TakesCall call_verbs.HardClear old new e = TakesAs Any no_words (λ u. called.HardClear) old new e
TakesCall call_verbs.Synced old new e = TakesAs Any no_words (λ u. called.Synced) old new e
TakesCall call_verbs.Enable old new e =
    TakesAs Any enable_words (λ answer. called.Enable answer) old new e
TakesCall call_verbs.Unlink old new e =
    TakesAs (Both IsSmall Any) (then number_words (one unlink_word))
    (λ p. called.Unlink p.1 (dev_no p.0)) old new e
TakesCall call_verbs.Freed old new e =
    TakesAs IsSmall number_words (λ n. called.Freed (dev_no n)) old new e
TakesCall call_verbs.Wake old new e =
    TakesAs (Both IsSmall Any) (then number_words (one yes_word))
    (λ p. called.Wake p.1 (dev_no p.0)) old new e
TakesCall call_verbs.Quiet old new e =
    TakesAs IsSmall number_words (λ n. called.Quiet (dev_no n)) old new e
TakesCall call_verbs.Arm old new e =
    TakesAs (Both IsSmall Any) (then number_words (one yes_word))
    (λ p. called.Arm p.1 (dev_no p.0)) old new e
TakesCall call_verbs.Serve old new e =
    TakesAs (Both IsSmall IsSmall) (then number_words number_words)
    (λ p. called.Serve (dev_no p.0) p.1) old new e

-- a call, of which this is the first word, and the others are left
pub record TakesCallFrom (word : List ℕ) (old new : Words) (e : CallEntry) : Type 0 where
  pub sound : (rest : List (List ℕ)) → left_of new ≡ Some rest
      → (x : CallEntry) × HasSmallCall x × (e ≡ x)
      × (words : List (List ℕ)) × (left_of old ≡ Some words) × (word ∷ words ≡ call_words x ++ rest)
  pub complete : (x : CallEntry) (rest words : List (List ℕ)) → HasSmallCall x
      → left_of old ≡ Some words → word ∷ words ≡ call_words x ++ rest
      → (e ≡ x) × (left_of new ≡ Some rest)

-- this actor made the entry
abbrev pub IsBy : Actor → Entry → Type 0
IsBy actor e = IsWritable e × (actor_of e ≡ actor)
