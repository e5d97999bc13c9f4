-- Entries, kind by kind: each is read exactly as it is written.
use Rattle.std.proofs.Common.{◌≡◌, ℕ, nat_lt, Bool, true, false, cond, Some, None, List, [], ◌∷◌, codes, decimal}
use Rattle.std.proofs.Common.{refl, sym, ap, subst, ◌∙◌}
use Rattle.std.proofs.lemmas.Bool.{false≢true}
use Rattle.std.specs.Str.{bytes_eq}
use Rattle.irq_base.specs.Who.{actor_of}
use Rattle.irq_base.specs.declared.entries.Actor.{Actor}
use Rattle.irq_base.specs.declared.entries.Actor.TheVariants as actors
use Rattle.irq_base.specs.declared.entries.AffinityAnswer.{AffinityAnswer}
use Rattle.irq_base.specs.declared.entries.AffinityAnswer.TheVariants as affinities
use Rattle.irq_base.specs.declared.entries.CallEntry.{CallEntry}
use Rattle.irq_base.specs.declared.entries.CpuEntry.{CpuEntry}
use Rattle.irq_base.specs.declared.entries.CpuEntry.TheVariants as cpus
use Rattle.irq_base.specs.declared.entries.DriverEntry.{DriverEntry}
use Rattle.irq_base.specs.declared.entries.DriverEntry.TheVariants as drivers
use Rattle.irq_base.specs.declared.entries.Entry.{Entry}
use Rattle.irq_base.specs.declared.entries.Entry.TheVariants as by
use Rattle.irq_base.specs.declared.entries.LinkAnswer.{LinkAnswer}
use Rattle.irq_base.specs.declared.entries.LinkAnswer.TheVariants as links
use Rattle.irq_base.specs.declared.entries.Opened.{Opened}
use Rattle.irq_base.specs.declared.entries.ThreadEntry.{ThreadEntry}
use Rattle.irq_base.specs.declared.entries.ThreadEntry.TheVariants as threads
use Rattle.irq_base.specs.declared.calls.Flags.{Flags}
use Rattle.irq_base.specs.declared.numbers.CpuNo.{CpuNo}
use Rattle.irq_base.specs.declared.numbers.DevNo.{DevNo}
use Rattle.irq_base.specs.declared.numbers.DriverNo.{DriverNo}
use Rattle.log_text.specs.EntryWords.{actor_word, cpu_words, thread_words, driver_words, said_words, entry_words, IsPrintableDriver}
use Rattle.log_text.specs.Formed.{IsSmall, IsWritable, HasSmallCpu, HasSmallThread, HasSmallDriver}
use Rattle.log_text.specs.Words.{way_word, take_word, answer_word, loop_word, mask_word, note_word, bit_word, edge_words, handled_words}
use Rattle.log_text.specs.Words.{flags_word, link_words, affinity_words}
use Rattle.log_read.proofs.CallKinds.{is_call_word, no_call, call_whole, call_read}
use Rattle.log_read.proofs.Saying.{Complete, Sound, EndComplete, EndSound}
use Rattle.log_read.proofs.Taking.{ends, known, under, under_end}
use Rattle.log_read.specs.Forms.{dev_no, TakesCpu, TakesThread, TakesDriver, TakesCallFrom, IsLink, IsMoved, IsBy}
use Rattle.log_read.specs.Kinds.{cpu_verb_word, thread_verb_word, driver_verb_word}
use Rattle.log_read.specs.Left.{left_of}
use Rattle.log_read.specs.Takes.{TakesAs, EndsAs, Takes, Any, Reads, one}
use Rattle.log_read.specs.Who.{HasSmallActor}
use Rattle.log_read.specs.declared.cpus.CpuVerb.{CpuVerb}
use Rattle.log_read.specs.declared.cpus.CpuVerb.TheVariants as cpu_verbs
use Rattle.log_read.specs.declared.threads.ThreadVerb.{ThreadVerb}
use Rattle.log_read.specs.declared.threads.ThreadVerb.TheVariants as thread_verbs
use Rattle.log_read.specs.declared.drivers.DriverVerb.{DriverVerb}
use Rattle.log_read.specs.declared.drivers.DriverVerb.TheVariants as driver_verbs
use Rattle.log_read.specs.declared.words.Words.{Words}

abbrev is_cpu : Actor → Bool
is_cpu (actors.Cpu cpu) = true
is_cpu _ = false

abbrev is_thread : Actor → Bool
is_thread (actors.Thread dev) = true
is_thread _ = false

abbrev is_driver : Actor → Bool
is_driver (actors.Driver driver) = true
is_driver _ = false

abbrev number_of : Actor → ℕ
number_of (actors.Cpu cpu) = cpu.0
number_of (actors.Thread dev) = dev.0
number_of (actors.Driver driver) = driver.0

abbrev cpu_no : ℕ → CpuNo
cpu_no n = record { 0 = n }

abbrev driver_no : ℕ → DriverNo
driver_no n = record { 0 = n }

same_cpu : {a b : CpuNo} → actors.Cpu a ≡ actors.Cpu b → b ≡ a
same_cpu {a = a} {b = b} h = ap (λ w. cpu_no (number_of w)) (sym h)

same_dev : {a b : DevNo} → actors.Thread a ≡ actors.Thread b → b ≡ a
same_dev {a = a} {b = b} h = ap (λ w. dev_no (number_of w)) (sym h)

same_driver : {a b : DriverNo} → actors.Driver a ≡ actors.Driver b → b ≡ a
same_driver {a = a} {b = b} h = ap (λ w. driver_no (number_of w)) (sym h)

-- the verbs, each by its word; none is a call's

abbrev is : List ℕ → List ℕ → Bool
is word text = bytes_eq word text

abbrev cpu_at : List ℕ → CpuVerb
cpu_at word =
    cond (is word (codes "take")) cpu_verbs.Take
    (cond (is word (codes "begin")) cpu_verbs.Begin (cond (is word (codes "return")) cpu_verbs.Return cpu_verbs.End))

cpu_back : (v : CpuVerb) → cpu_at (cpu_verb_word v) ≡ v
cpu_back cpu_verbs.Take = refl
cpu_back cpu_verbs.Begin = refl
cpu_back cpu_verbs.Return = refl
cpu_back cpu_verbs.End = refl

cpu_tells : (a b : CpuVerb) → cpu_verb_word a ≡ cpu_verb_word b → a ≡ b
cpu_tells a b same = sym (cpu_back a) ∙ (ap cpu_at same ∙ cpu_back b)

cpu_no_call : (v : CpuVerb) → is_call_word (cpu_verb_word v) ≡ false
cpu_no_call cpu_verbs.Take = refl
cpu_no_call cpu_verbs.Begin = refl
cpu_no_call cpu_verbs.Return = refl
cpu_no_call cpu_verbs.End = refl

abbrev thread_at : List ℕ → ThreadVerb
thread_at word =
    cond (is word (codes "begin")) thread_verbs.Begin
    (cond (is word (codes "return")) thread_verbs.Return (cond (is word (codes "finish")) thread_verbs.Finish thread_verbs.Done))

thread_back : (v : ThreadVerb) → thread_at (thread_verb_word v) ≡ v
thread_back thread_verbs.Begin = refl
thread_back thread_verbs.Return = refl
thread_back thread_verbs.Finish = refl
thread_back thread_verbs.Done = refl

thread_tells : (a b : ThreadVerb) → thread_verb_word a ≡ thread_verb_word b → a ≡ b
thread_tells a b same = sym (thread_back a) ∙ (ap thread_at same ∙ thread_back b)

thread_no_call : (v : ThreadVerb) → is_call_word (thread_verb_word v) ≡ false
thread_no_call thread_verbs.Begin = refl
thread_no_call thread_verbs.Return = refl
thread_no_call thread_verbs.Finish = refl
thread_no_call thread_verbs.Done = refl

abbrev driver_at : List ℕ → DriverVerb
driver_at word =
    cond (is word (codes "ask")) driver_verbs.Ask
    (cond (is word (codes "request")) driver_verbs.Request
    (cond (is word (codes "affinity")) driver_verbs.Affinity driver_verbs.Moment))

driver_back : (v : DriverVerb) → driver_at (driver_verb_word v) ≡ v
driver_back driver_verbs.Ask = refl
driver_back driver_verbs.Request = refl
driver_back driver_verbs.Affinity = refl
driver_back driver_verbs.Moment = refl

driver_tells : (a b : DriverVerb) → driver_verb_word a ≡ driver_verb_word b → a ≡ b
driver_tells a b same = sym (driver_back a) ∙ (ap driver_at same ∙ driver_back b)

driver_no_call : (v : DriverVerb) → is_call_word (driver_verb_word v) ≡ false
driver_no_call driver_verbs.Ask = refl
driver_no_call driver_verbs.Request = refl
driver_no_call driver_verbs.Affinity = refl
driver_no_call driver_verbs.Moment = refl

-- requests and changes of affinity that have a row

link_from : (flags : Flags) (answer : LinkAnswer) (opened : Opened) (dev : DevNo)
    → IsLink (answer, opened) → IsPrintableDriver (drivers.Request flags answer opened dev)
link_from flags links.Linked opened dev h = tt
link_from flags (links.Refused errno) opened dev h = h

link_to : (flags : Flags) (answer : LinkAnswer) (opened : Opened) (dev : DevNo)
    → IsPrintableDriver (drivers.Request flags answer opened dev) → IsLink (answer, opened)
link_to flags links.Linked opened dev h = tt
link_to flags (links.Refused errno) opened dev h = h

moved_from : (answer : AffinityAnswer) (mask : ℕ) → IsMoved answer → IsPrintableDriver (drivers.Affinity answer mask)
moved_from affinities.Now mask h = tt
moved_from affinities.Later mask h = tt
moved_from (affinities.Refused errno) mask h = h

moved_to : (answer : AffinityAnswer) (mask : ℕ) → IsPrintableDriver (drivers.Affinity answer mask) → IsMoved answer
moved_to affinities.Now mask h = tt
moved_to affinities.Later mask h = tt
moved_to (affinities.Refused errno) mask h = h

small_actor : (e : Entry) → IsWritable e → HasSmallActor (actor_of e)
small_actor (by.Cpu cpu e) w = w.small.0
small_actor (by.Thread dev e) w = w.small.0
small_actor (by.Driver driver e) w = w.small.0
small_actor (by.CpuCall cpu call) w = w.small.0
small_actor (by.ThreadCall dev call) w = w.small.0
small_actor (by.DriverCall driver call) w = w.small.0

-- what a driver alone did has a row
abbrev FitsDriver : DriverEntry → Type 0
FitsDriver e = IsPrintableDriver e × HasSmallDriver e

module _ (old mid new : Words) where
  cpu_sound : (verb : CpuVerb) (e : CpuEntry) → Takes (one cpu_verb_word) old mid verb → TakesCpu verb mid new e → Sound HasSmallCpu cpu_words old new e
  cpu_sound cpu_verbs.Take e took t rest h = let s = (under took t).sound rest h in (cpus.Take s.0.0 s.0.1, tt, s.2, s.3)
  cpu_sound cpu_verbs.Begin e took t rest h = let s = (under took t).sound rest h in (cpus.Begin (dev_no s.0), s.1, s.2, s.3)
  cpu_sound cpu_verbs.Return e took t rest h =
      let s = (under took t).sound rest h in (cpus.Return s.0.1.0 (dev_no s.0.0) s.0.1.1, (s.1.0, s.1.1.1), s.2, s.3)
  cpu_sound cpu_verbs.End e took t rest h = let s = (under took t).sound rest h in (cpus.End s.0.0 s.0.1.0 s.0.1.1, tt, s.2, s.3)

  cpu_complete : (verb : CpuVerb) (e : CpuEntry) → Takes (one cpu_verb_word) old mid verb → TakesCpu verb mid new e
      → Complete HasSmallCpu cpu_words old new e
  cpu_complete verb e took t (cpus.Take way answer) rest fits h =
      let v = took.complete cpu_verbs.Take (way_word way ∷ take_word answer ∷ rest) tt h in
      (subst (λ v. TakesCpu v mid new e) v.0 t).complete (way, answer) rest (tt, tt) v.1
  cpu_complete verb e took t (cpus.Begin dev) rest fits h =
      let v = took.complete cpu_verbs.Begin (decimal dev.0 ∷ rest) tt h in
      (subst (λ v. TakesCpu v mid new e) v.0 t).complete dev.0 rest fits v.1
  cpu_complete verb e took t (cpus.Return answer dev served) rest fits h =
      let v = took.complete cpu_verbs.Return (decimal dev.0 ∷ answer_word answer ∷ decimal served ∷ rest) tt h in
      (subst (λ v. TakesCpu v mid new e) v.0 t).complete (dev.0, (answer, served)) rest (fits.0, (tt, fits.1)) v.1
  cpu_complete verb e took t (cpus.End again unmask note) rest fits h =
      let v = took.complete cpu_verbs.End (loop_word again ∷ mask_word unmask ∷ note_word note ∷ rest) tt h in
      (subst (λ v. TakesCpu v mid new e) v.0 t).complete (again, (unmask, note)) rest (tt, (tt, tt)) v.1

  cpu_takes : (verb : CpuVerb) (e : CpuEntry) → Takes (one cpu_verb_word) old mid verb → TakesCpu verb mid new e
      → EndsAs HasSmallCpu cpu_words (λ f. f) old new e
  cpu_takes verb e took t =
      let whole : TakesAs HasSmallCpu cpu_words (λ f. f) old new e
      = record { sound = cpu_sound verb e took t; complete = cpu_complete verb e took t } in ends whole

  thread_sound : (verb : ThreadVerb) (e : ThreadEntry) → Takes (one thread_verb_word) old mid verb → TakesThread verb mid new e
      → EndSound HasSmallThread thread_words old new e
  thread_sound thread_verbs.Begin e took t h = let s = (ends (under took t)).sound h in (threads.Begin, tt, s.2, s.3)
  thread_sound thread_verbs.Return e took t h = let s = (under_end took t).sound h in (threads.Return s.0.1 s.0.0, s.1.0, s.2, s.3)
  thread_sound thread_verbs.Finish e took t h = let s = (ends (under took t)).sound h in (threads.Finish s.0.0 s.0.1, tt, s.2, s.3)
  thread_sound thread_verbs.Done e took t h = let s = (ends (under took t)).sound h in (threads.Done, tt, s.2, s.3)

  thread_complete : (verb : ThreadVerb) (e : ThreadEntry) → Takes (one thread_verb_word) old mid verb → TakesThread verb mid new e
      → EndComplete HasSmallThread thread_words old new e
  thread_complete verb e took t threads.Begin fits h =
      let v = took.complete thread_verbs.Begin [] tt h in (subst (λ v. TakesThread v mid new e) v.0 t).complete tt [] tt v.1
  thread_complete verb e took t (threads.Return handled served) fits h =
      let v = took.complete thread_verbs.Return (decimal served ∷ handled_words handled (nat_lt 0 served)) tt h in
      (subst (λ v. TakesThread v mid new e) v.0 t).complete (served, handled) (fits, tt) v.1
  thread_complete verb e took t (threads.Finish kept unmask) fits h =
      let v = took.complete thread_verbs.Finish (bit_word kept ∷ mask_word unmask ∷ []) tt h in
      (subst (λ v. TakesThread v mid new e) v.0 t).complete (kept, unmask) [] (tt, tt) v.1
  thread_complete verb e took t threads.Done fits h =
      let v = took.complete thread_verbs.Done [] tt h in (subst (λ v. TakesThread v mid new e) v.0 t).complete tt [] tt v.1

  thread_takes : (verb : ThreadVerb) (e : ThreadEntry) → Takes (one thread_verb_word) old mid verb → TakesThread verb mid new e
      → EndsAs HasSmallThread thread_words (λ f. f) old new e
  thread_takes verb e took t = record { sound = thread_sound verb e took t; complete = thread_complete verb e took t }

  driver_sound : (verb : DriverVerb) (e : DriverEntry) → Takes (one driver_verb_word) old mid verb → TakesDriver verb mid new e
      → EndSound FitsDriver driver_words old new e
  driver_sound driver_verbs.Ask e took t h = let s = (under_end took t).sound h in (drivers.Ask s.0.1 (dev_no s.0.0), (tt, s.1.0), s.2, s.3)
  driver_sound driver_verbs.Request e took t h =
      let s = (ends (under took t)).sound h in (
        drivers.Request s.0.1.0 s.0.1.1.0 s.0.1.1.1 (dev_no s.0.0),
        (link_from s.0.1.0 s.0.1.1.0 s.0.1.1.1 (dev_no s.0.0) s.1.1.1, s.1.0),
        s.2,
        s.3,
      )
  driver_sound driver_verbs.Affinity e took t h =
      let s = (ends (under took t)).sound h in (drivers.Affinity s.0.1 s.0.0, (moved_from s.0.1 s.0.0 s.1.1, s.1.0), s.2, s.3)
  driver_sound driver_verbs.Moment e took t h = let s = (ends (under took t)).sound h in (drivers.Moment s.0, (tt, s.1), s.2, s.3)

  driver_complete : (verb : DriverVerb) (e : DriverEntry) → Takes (one driver_verb_word) old mid verb → TakesDriver verb mid new e
      → EndComplete FitsDriver driver_words old new e
  driver_complete verb e took t (drivers.Ask edge dev) fits h =
      let v = took.complete driver_verbs.Ask (decimal dev.0 ∷ edge_words edge) tt h in
      (subst (λ v. TakesDriver v mid new e) v.0 t).complete (dev.0, edge) (fits.1, tt) v.1
  driver_complete verb e took t (drivers.Request flags answer opened dev) fits h =
      let v = took.complete driver_verbs.Request (decimal dev.0 ∷ flags_word flags ∷ link_words answer opened) tt h in
      (ends (subst (λ v. TakesDriver v mid new e) v.0 t)).complete (dev.0, (flags, (answer, opened)))
      (fits.1, (tt, link_to flags answer opened dev fits.0)) v.1
  driver_complete verb e took t (drivers.Affinity answer mask) fits h =
      let v = took.complete driver_verbs.Affinity (decimal mask ∷ affinity_words answer) tt h in
      (ends (subst (λ v. TakesDriver v mid new e) v.0 t)).complete (mask, answer) (fits.1, moved_to answer mask fits.0) v.1
  driver_complete verb e took t (drivers.Moment at) fits h =
      let v = took.complete driver_verbs.Moment (decimal at ∷ []) tt h in (subst (λ v. TakesDriver v mid new e) v.0 t).complete at [] fits.1 v.1

  driver_takes : (verb : DriverVerb) (e : DriverEntry) → Takes (one driver_verb_word) old mid verb → TakesDriver verb mid new e
      → EndsAs FitsDriver driver_words (λ f. f) old new e
  driver_takes verb e took t = record { sound = driver_sound verb e took t; complete = driver_complete verb e took t }

-- who made the entry did something of its own, or made a call

module _ (old mid new : Words) (word : List ℕ) (took : Takes (one (λ w. w)) old mid word) where
  no_cpu : Reads Any cpu_verb_word word None → (f : CpuEntry) → left_of old ≡ Some (cpu_words f) → ⊥
  no_cpu unread (cpus.Take way answer) h = unread cpu_verbs.Take tt (took.complete (codes "take") (way_word way ∷ take_word answer ∷ []) tt h).0
  no_cpu unread (cpus.Begin dev) h = unread cpu_verbs.Begin tt (took.complete (codes "begin") (decimal dev.0 ∷ []) tt h).0
  no_cpu unread (cpus.Return answer dev served) h =
      unread cpu_verbs.Return tt (took.complete (codes "return") (decimal dev.0 ∷ answer_word answer ∷ decimal served ∷ []) tt h).0
  no_cpu unread (cpus.End again unmask note) h =
      unread cpu_verbs.End tt (took.complete (codes "end") (loop_word again ∷ mask_word unmask ∷ note_word note ∷ []) tt h).0

  no_thread : Reads Any thread_verb_word word None → (f : ThreadEntry) → left_of old ≡ Some (thread_words f) → ⊥
  no_thread unread threads.Begin h = unread thread_verbs.Begin tt (took.complete (codes "begin") [] tt h).0
  no_thread unread (threads.Return handled served) h =
      unread thread_verbs.Return tt (took.complete (codes "return") (decimal served ∷ handled_words handled (nat_lt 0 served)) tt h).0
  no_thread unread (threads.Finish kept unmask) h =
      unread thread_verbs.Finish tt (took.complete (codes "finish") (bit_word kept ∷ mask_word unmask ∷ []) tt h).0
  no_thread unread threads.Done h = unread thread_verbs.Done tt (took.complete (codes "done") [] tt h).0

  no_driver : Reads Any driver_verb_word word None → (f : DriverEntry) → left_of old ≡ Some (driver_words f) → ⊥
  no_driver unread (drivers.Ask edge dev) h = unread driver_verbs.Ask tt (took.complete (codes "ask") (decimal dev.0 ∷ edge_words edge) tt h).0
  no_driver unread (drivers.Request flags answer opened dev) h =
      unread driver_verbs.Request tt (took.complete (codes "request") (decimal dev.0 ∷ flags_word flags ∷ link_words answer opened) tt h).0
  no_driver unread (drivers.Affinity answer mask) h =
      unread driver_verbs.Affinity tt (took.complete (codes "affinity") (decimal mask ∷ affinity_words answer) tt h).0
  no_driver unread (drivers.Moment at) h = unread driver_verbs.Moment tt (took.complete (codes "moment") (decimal at ∷ []) tt h).0

  cpu_complete_own : (cpu : CpuNo) (e : CpuEntry) → EndsAs HasSmallCpu cpu_words (λ f. f) old new e → is_call_word word ≡ false
      → EndComplete (IsBy (actors.Cpu cpu)) said_words old new (by.Cpu cpu e)
  cpu_complete_own cpu e t other (by.Cpu c f) fits h =
      let s = t.complete f fits.0.small.1 h in (ap (λ g. by.Cpu cpu g) s.0 ∙ ap (λ z. by.Cpu z f) (same_cpu fits.1), s.1)
  cpu_complete_own cpu e t other (by.CpuCall c call) fits h = absurd (no_call old mid word took other call h)
  cpu_complete_own cpu e t other f fits h = absurd (false≢true (ap is_cpu fits.1))

  pub cpu_own : (cpu : CpuNo) → IsSmall cpu.0 → (verb : CpuVerb) → word ≡ cpu_verb_word verb → (e : CpuEntry) → TakesCpu verb mid new e
      → EndsAs (IsBy (actors.Cpu cpu)) said_words (λ f. f) old new (by.Cpu cpu e)
  cpu_own cpu small verb is e t =
      let own = cpu_takes old mid new verb e (known cpu_tells took is) t in
      record {
        sound = λ h. let s = own.sound h in (by.Cpu cpu s.0, (record { printable = tt; small = (small, s.1) }, refl), ap (λ f. by.Cpu cpu f) s.2, s.3);
        complete = cpu_complete_own cpu e own (ap is_call_word is ∙ cpu_no_call verb);
      }

  cpu_complete_call : (cpu : CpuNo) (e : CallEntry) → TakesCallFrom word mid new e → Reads Any cpu_verb_word word None
      → EndComplete (IsBy (actors.Cpu cpu)) said_words old new (by.CpuCall cpu e)
  cpu_complete_call cpu e t unread (by.Cpu c f) fits h = absurd (no_cpu unread f h)
  cpu_complete_call cpu e t unread (by.CpuCall c call) fits h =
      let s = call_read old mid word took new e t call fits.0.small.1 h in
      (ap (λ g. by.CpuCall cpu g) s.0 ∙ ap (λ z. by.CpuCall z call) (same_cpu fits.1), s.1)
  cpu_complete_call cpu e t unread f fits h = absurd (false≢true (ap is_cpu fits.1))

  pub cpu_call : (cpu : CpuNo) → IsSmall cpu.0 → Reads Any cpu_verb_word word None → (e : CallEntry) → TakesCallFrom word mid new e
      → EndsAs (IsBy (actors.Cpu cpu)) said_words (λ f. f) old new (by.CpuCall cpu e)
  cpu_call cpu small unread e t = record {
    sound = λ h.
        let s = call_whole old mid word took new e t h in
        (by.CpuCall cpu s.0, (record { printable = tt; small = (small, s.1) }, refl), ap (λ f. by.CpuCall cpu f) s.2, s.3);
    complete = cpu_complete_call cpu e t unread;
  }

  thread_complete_own : (dev : DevNo) (e : ThreadEntry) → EndsAs HasSmallThread thread_words (λ f. f) old new e → is_call_word word ≡ false
      → EndComplete (IsBy (actors.Thread dev)) said_words old new (by.Thread dev e)
  thread_complete_own dev e t other (by.Thread c f) fits h =
      let s = t.complete f fits.0.small.1 h in (ap (λ g. by.Thread dev g) s.0 ∙ ap (λ z. by.Thread z f) (same_dev fits.1), s.1)
  thread_complete_own dev e t other (by.ThreadCall c call) fits h = absurd (no_call old mid word took other call h)
  thread_complete_own dev e t other f fits h = absurd (false≢true (ap is_thread fits.1))

  pub thread_own : (dev : DevNo) → IsSmall dev.0 → (verb : ThreadVerb) → word ≡ thread_verb_word verb → (e : ThreadEntry) → TakesThread verb mid new e
      → EndsAs (IsBy (actors.Thread dev)) said_words (λ f. f) old new (by.Thread dev e)
  thread_own dev small verb is e t =
      let own = thread_takes old mid new verb e (known thread_tells took is) t in
      record {
        sound = λ h. let s = own.sound h in (by.Thread dev s.0, (record { printable = tt; small = (small, s.1) }, refl), ap (λ f. by.Thread dev f) s.2, s.3);
        complete = thread_complete_own dev e own (ap is_call_word is ∙ thread_no_call verb);
      }

  thread_complete_call : (dev : DevNo) (e : CallEntry) → TakesCallFrom word mid new e → Reads Any thread_verb_word word None
      → EndComplete (IsBy (actors.Thread dev)) said_words old new (by.ThreadCall dev e)
  thread_complete_call dev e t unread (by.Thread c f) fits h = absurd (no_thread unread f h)
  thread_complete_call dev e t unread (by.ThreadCall c call) fits h =
      let s = call_read old mid word took new e t call fits.0.small.1 h in
      (ap (λ g. by.ThreadCall dev g) s.0 ∙ ap (λ z. by.ThreadCall z call) (same_dev fits.1), s.1)
  thread_complete_call dev e t unread f fits h = absurd (false≢true (ap is_thread fits.1))

  pub thread_call : (dev : DevNo) → IsSmall dev.0 → Reads Any thread_verb_word word None → (e : CallEntry) → TakesCallFrom word mid new e
      → EndsAs (IsBy (actors.Thread dev)) said_words (λ f. f) old new (by.ThreadCall dev e)
  thread_call dev small unread e t = record {
    sound = λ h.
        let s = call_whole old mid word took new e t h in
        (by.ThreadCall dev s.0, (record { printable = tt; small = (small, s.1) }, refl), ap (λ f. by.ThreadCall dev f) s.2, s.3);
    complete = thread_complete_call dev e t unread;
  }

  driver_complete_own : (driver : DriverNo) (e : DriverEntry) → EndsAs FitsDriver driver_words (λ f. f) old new e → is_call_word word ≡ false
      → EndComplete (IsBy (actors.Driver driver)) said_words old new (by.Driver driver e)
  driver_complete_own driver e t other (by.Driver c f) fits h =
      let s = t.complete f (fits.0.printable, fits.0.small.1) h in (ap (λ g. by.Driver driver g) s.0 ∙ ap (λ z. by.Driver z f) (same_driver fits.1), s.1)
  driver_complete_own driver e t other (by.DriverCall c call) fits h = absurd (no_call old mid word took other call h)
  driver_complete_own driver e t other f fits h = absurd (false≢true (ap is_driver fits.1))

  pub driver_own : (driver : DriverNo) → IsSmall driver.0 → (verb : DriverVerb) → word ≡ driver_verb_word verb → (e : DriverEntry) → TakesDriver verb mid new e
      → EndsAs (IsBy (actors.Driver driver)) said_words (λ f. f) old new (by.Driver driver e)
  driver_own driver small verb is e t =
      let own = driver_takes old mid new verb e (known driver_tells took is) t in
      record {
        sound = λ h. let s = own.sound h in (
          by.Driver driver s.0,
          (record { printable = s.1.0; small = (small, s.1.1) }, refl),
          ap (λ f. by.Driver driver f) s.2,
          s.3,
        );
        complete = driver_complete_own driver e own (ap is_call_word is ∙ driver_no_call verb);
      }

  driver_complete_call : (driver : DriverNo) (e : CallEntry) → TakesCallFrom word mid new e → Reads Any driver_verb_word word None
      → EndComplete (IsBy (actors.Driver driver)) said_words old new (by.DriverCall driver e)
  driver_complete_call driver e t unread (by.Driver c f) fits h = absurd (no_driver unread f h)
  driver_complete_call driver e t unread (by.DriverCall c call) fits h =
      let s = call_read old mid word took new e t call fits.0.small.1 h in
      (ap (λ g. by.DriverCall driver g) s.0 ∙ ap (λ z. by.DriverCall z call) (same_driver fits.1), s.1)
  driver_complete_call driver e t unread f fits h = absurd (false≢true (ap is_driver fits.1))

  pub driver_call : (driver : DriverNo) → IsSmall driver.0 → Reads Any driver_verb_word word None → (e : CallEntry) → TakesCallFrom word mid new e
      → EndsAs (IsBy (actors.Driver driver)) said_words (λ f. f) old new (by.DriverCall driver e)
  driver_call driver small unread e t = record {
    sound = λ h.
        let s = call_whole old mid word took new e t h in
        (by.DriverCall driver s.0, (record { printable = tt; small = (small, s.1) }, refl), ap (λ f. by.DriverCall driver f) s.2, s.3);
    complete = driver_complete_call driver e t unread;
  }

module _ (old mid new : Words) where
  entry_sound : (actor : Actor) (e : Entry) → TakesAs HasSmallActor (one actor_word) (λ a. a) old mid actor
      → EndsAs (IsBy actor) said_words (λ f. f) mid new e → EndSound IsWritable entry_words old new e
  entry_sound actor e took t h =
      let s = t.sound h in
      let w = took.sound (said_words s.0) s.3 in
      (s.0, s.1.0, s.2, w.3 ∙ ap (λ x. Some (actor_word x ∷ said_words s.0)) (sym w.2 ∙ sym s.1.1))

  entry_complete : (actor : Actor) (e : Entry) → TakesAs HasSmallActor (one actor_word) (λ a. a) old mid actor
      → EndsAs (IsBy actor) said_words (λ f. f) mid new e → EndComplete IsWritable entry_words old new e
  entry_complete actor e took t f writable h =
      let w = took.complete (actor_of f) (said_words f) (small_actor f writable) h in
      t.complete f (writable, sym w.0) w.1

  pub entry_takes : (actor : Actor) (e : Entry) → TakesAs HasSmallActor (one actor_word) (λ a. a) old mid actor
      → EndsAs (IsBy actor) said_words (λ f. f) mid new e → EndsAs IsWritable entry_words (λ f. f) old new e
  entry_takes actor e took t = record { sound = entry_sound actor e took t; complete = entry_complete actor e took t }
