-- Two lists of words that are equal are words of equal parts.
use Rattle.std.proofs.Common.{◌≡◌, ℕ, Bool, true, false, is_some, Option, Some, None, List, [], ◌∷◌, refl, sym, ap, ◌∙◌, arith}
use Rattle.irq_base.specs.declared.calls.Flags.{Flags}
use Rattle.irq_base.specs.declared.entries.Actor.{Actor}
use Rattle.irq_base.specs.declared.entries.Actor.TheVariants as actors
use Rattle.irq_base.specs.declared.numbers.CpuNo.{CpuNo}
use Rattle.irq_base.specs.declared.numbers.DevNo.{DevNo}
use Rattle.device_table.specs.Sums.{one_if}
use Rattle.act_thread.specs.declared.rows.Stage.{Stage}
use Rattle.act_thread.specs.declared.rows.Stage.TheVariants as stages
use Rattle.act_thread.specs.declared.rows.ThreadRow.{ThreadRow}
use Rattle.ask_counts.specs.declared.rows.AskRow.{AskRow}
use Rattle.run_scripts.specs.declared.rows.RunPlace.{RunPlace}
use Rattle.run_scripts.specs.declared.rows.RunRow.{RunRow}
use Rattle.run_scripts.specs.declared.rows.Turn.{Turn}
use Rattle.line_marks.specs.Aim.{number_of}
use Rattle.line_words.specs.Words.{dev_number, mask_number, stage_word, actor_word, actor_number, freeing_words, begun_words, thread_words, ask_words}
use Rattle.line_words.specs.Words.{quiet_words, place_words, run_words, table_words, linked_words}

pub one_told : (a b : Bool) → one_if a ≡ one_if b → a ≡ b
one_told true true h = refl
one_told true false h = absurd (omega (arith, h))
one_told false true h = absurd (omega (arith, h))
one_told false false h = refl

-- whether it is there, and its number
pub cpu_told : (a b : Option CpuNo) → one_if (is_some a) ≡ one_if (is_some b) → number_of a ≡ number_of b → a ≡ b
cpu_told None None h k = refl
cpu_told None (Some d) h k = absurd (omega (arith, h))
cpu_told (Some c) None h k = absurd (omega (arith, h))
cpu_told (Some c) (Some d) h k = ap (λ n. Some (record { 0 = n })) k

pub dev_told : (a b : Option DevNo) → one_if (is_some a) ≡ one_if (is_some b) → dev_number a ≡ dev_number b → a ≡ b
dev_told None None h k = refl
dev_told None (Some d) h k = absurd (omega (arith, h))
dev_told (Some c) None h k = absurd (omega (arith, h))
dev_told (Some c) (Some d) h k = ap (λ n. Some (record { 0 = n })) k

pub mask_told : (a b : Option ℕ) → one_if (is_some a) ≡ one_if (is_some b) → mask_number a ≡ mask_number b → a ≡ b
mask_told None None h k = refl
mask_told None (Some d) h k = absurd (omega (arith, h))
mask_told (Some c) None h k = absurd (omega (arith, h))
mask_told (Some c) (Some d) h k = ap Some k

stage_told : (a b : Stage) → stage_word a ≡ stage_word b → a ≡ b
stage_told stages.Idle stages.Idle h = refl
stage_told stages.Begun stages.Begun h = refl
stage_told stages.Returned stages.Returned h = refl
stage_told stages.Finished stages.Finished h = refl
stage_told stages.Idle stages.Begun h = absurd (omega (arith, h))
stage_told stages.Idle stages.Returned h = absurd (omega (arith, h))
stage_told stages.Idle stages.Finished h = absurd (omega (arith, h))
stage_told stages.Begun stages.Idle h = absurd (omega (arith, h))
stage_told stages.Begun stages.Returned h = absurd (omega (arith, h))
stage_told stages.Begun stages.Finished h = absurd (omega (arith, h))
stage_told stages.Returned stages.Idle h = absurd (omega (arith, h))
stage_told stages.Returned stages.Begun h = absurd (omega (arith, h))
stage_told stages.Returned stages.Finished h = absurd (omega (arith, h))
stage_told stages.Finished stages.Idle h = absurd (omega (arith, h))
stage_told stages.Finished stages.Begun h = absurd (omega (arith, h))
stage_told stages.Finished stages.Returned h = absurd (omega (arith, h))

-- what stands before the rest is told, and so is the rest
abbrev pub Tells : {R : Type 0} → (R → List ℕ → List ℕ) → Type 0
Tells {R} words = (r q : R) (a b : List ℕ) → words r a ≡ words q b → (r ≡ q) × (a ≡ b)

actor_told : (a b : Actor) → actor_word a ≡ actor_word b → actor_number a ≡ actor_number b → a ≡ b
actor_told (actors.Driver a) (actors.Driver b) h k = ap (λ n. actors.Driver (record { 0 = n })) k
actor_told (actors.Cpu a) (actors.Cpu b) h k = ap (λ n. actors.Cpu (record { 0 = n })) k
actor_told (actors.Thread a) (actors.Thread b) h k = ap (λ n. actors.Thread (record { 0 = n })) k
actor_told (actors.Driver a) (actors.Cpu b) h k = absurd (omega (arith, h))
actor_told (actors.Driver a) (actors.Thread b) h k = absurd (omega (arith, h))
actor_told (actors.Cpu a) (actors.Driver b) h k = absurd (omega (arith, h))
actor_told (actors.Cpu a) (actors.Thread b) h k = absurd (omega (arith, h))
actor_told (actors.Thread a) (actors.Driver b) h k = absurd (omega (arith, h))
actor_told (actors.Thread a) (actors.Cpu b) h k = absurd (omega (arith, h))

-- there is an actor
some_actor : (a : Actor) → actor_word a ≡ 0 → ⊥
some_actor (actors.Driver a) h = omega (arith, h)
some_actor (actors.Cpu a) h = omega (arith, h)
some_actor (actors.Thread a) h = omega (arith, h)

free_by : (r s : Actor) (d f : DevNo) → r ≡ s → d.0 ≡ f.0 → ◌≡◌ {A = Option (Actor × DevNo)} (Some (r, d)) (Some (s, f))
free_by r s d f i j = let dev : ℕ → DevNo = λ n. record { 0 = n } in ap (λ (x : Actor). Some (x, d)) i ∙ ap (λ n. Some (s, dev n)) j

pub freeing_told : Tells freeing_words
freeing_told None None a b h = (refl, (let e : a ≡ b = cc in e))
freeing_told None (Some f) a b h = let e : 0 ≡ actor_word f.0 = cc in absurd (some_actor f.0 (sym e))
freeing_told (Some f) None a b h = let e : actor_word f.0 ≡ 0 = cc in absurd (some_actor f.0 e)
freeing_told (Some (r, d)) (Some (s, f)) a b h =
    let w : actor_word r ≡ actor_word s = cc in
    let i : actor_number r ≡ actor_number s = cc in
    let j : d.0 ≡ f.0 = cc in
    (free_by r s d f (actor_told r s w i) j, (let e : a ≡ b = cc in e))

pub begun_told : Tells begun_words
begun_told r q a b h = (one_told r q (let e : one_if r ≡ one_if q = cc in e), (let e : a ≡ b = cc in e))

thread_by : (r q : ThreadRow) → r.woken ≡ q.woken → r.stage ≡ q.stage → r.held ≡ q.held → r ≡ q
thread_by r q a b c = (let e : ◌≡◌ {A = ThreadRow} (record { woken = r.woken; stage = r.stage; held = r.held }) q = rw (a, b, c) refl in e)

pub thread_told : Tells thread_words
thread_told r q a b h =
    let w : one_if r.woken ≡ one_if q.woken = cc in
    let s : stage_word r.stage ≡ stage_word q.stage = cc in
    let d : one_if r.held ≡ one_if q.held = cc in
    (thread_by r q (one_told r.woken q.woken w) (stage_told r.stage q.stage s) (one_told r.held q.held d), (let e : a ≡ b = cc in e))

-- what the first four words of a row of asks tell: all but whether the device is quiet
pub record SameCounts (r q : AskRow) : Type 0 where
  pub unserved : r.unserved ≡ q.unserved
  pub fresh : r.fresh ≡ q.fresh
  pub by_handler : r.met_by_handler ≡ q.met_by_handler
  pub by_thread : r.met_by_thread ≡ q.met_by_thread

counts_told : (r q : AskRow) (a b : List ℕ) → ask_words r a ≡ ask_words q b → SameCounts r q × (a ≡ b)
counts_told r q a b h = (
  record {
    unserved = (let e : r.unserved ≡ q.unserved = cc in e);
    fresh = (let e : r.fresh ≡ q.fresh = cc in e);
    by_handler = (let e : r.met_by_handler ≡ q.met_by_handler = cc in e);
    by_thread = (let e : r.met_by_thread ≡ q.met_by_thread = cc in e);
  },
  (let e : a ≡ b = cc in e),
)

ask_by : (r q : AskRow) → SameCounts r q → r.quiet ≡ q.quiet → r ≡ q
ask_by r q same quiet =
    (let e : ◌≡◌ {A = AskRow} (record {
      unserved = r.unserved;
      fresh = r.fresh;
      met_by_handler = r.met_by_handler;
      met_by_thread = r.met_by_thread;
      quiet = r.quiet;
    }) q = rw (same.unserved, same.fresh, same.by_handler, same.by_thread, quiet) refl in e)

place_by : (p q : RunPlace) → p.place ≡ q.place → p.within ≡ q.within → p ≡ q
place_by p q a b = (let e : ◌≡◌ {A = RunPlace} (record { place = p.place; within = p.within }) q = rw (a, b) refl in e)

turn_by : (s t : Turn) → s.now ≡ t.now → s.next ≡ t.next → s ≡ t
turn_by s t a b = (let e : ◌≡◌ {A = Turn} (record { now = s.now; next = s.next }) t = rw (a, b) refl in e)

run_by : (r q : RunRow) → r.calls ≡ q.calls → r.handler ≡ q.handler → r.thread ≡ q.thread → r ≡ q
run_by r q a b c = (let e : ◌≡◌ {A = RunRow} (record { calls = r.calls; handler = r.handler; thread = r.thread }) q = rw (a, b, c) refl in e)

pub place_told : Tells place_words
place_told p q a b h =
    let i : p.place ≡ q.place = cc in
    let j : p.within ≡ q.within = cc in
    (place_by p q i j, (let e : a ≡ b = cc in e))

pub run_told : Tells run_words
run_told r q a b h =
    let i : r.calls.place ≡ q.calls.place = cc in
    let j : r.calls.within ≡ q.calls.within = cc in
    let k : r.handler.now ≡ q.handler.now = cc in
    let l : r.handler.next ≡ q.handler.next = cc in
    let m : r.thread.now ≡ q.thread.now = cc in
    let n : r.thread.next ≡ q.thread.next = cc in
    (run_by r q (place_by r.calls q.calls i j) (turn_by r.handler q.handler k l) (turn_by r.thread q.thread m n), (let e : a ≡ b = cc in e))

-- ---- tables of the same devices

module _ {R : Type 0} where
  abbrev pub keys_of : List (DevNo × R) → List DevNo
  keys_of [] = []
  keys_of (e ∷ es) = e.0 ∷ keys_of es

  row_by : (e f : DevNo × R) → e.0 ≡ f.0 → e.1 ≡ f.1 → e ≡ f
  row_by e f p q = ap (λ (x : DevNo). (x, e.1)) p ∙ ap (λ (x : R). (f.0, x)) q

  pub table_told : (words : R → List ℕ → List ℕ) → Tells words → (t u : List (DevNo × R)) (a b : List ℕ)
      → keys_of t ≡ keys_of u → table_words words t a ≡ table_words words u b → (t ≡ u) × (a ≡ b)
  table_told words tells [] [] a b k h = (refl, h)
  table_told words tells [] (f ∷ fs) a b k h = absurd (let x : ⊥ = cc k in x)
  table_told words tells (e ∷ es) [] a b k h = absurd (let x : ⊥ = cc k in x)
  table_told words tells (e ∷ es) (f ∷ fs) a b k h =
      let row = tells e.1 f.1 (table_words words es a) (table_words words fs b) h in
      let key : e.0 ≡ f.0 = cc k in
      let keys : keys_of es ≡ keys_of fs = cc k in
      let rest = table_told words tells es fs a b keys row.1 in
      (ap (λ (x : DevNo × R). x ∷ es) (row_by e f key row.0) ∙ ap (λ (x : List (DevNo × R)). f ∷ x) rest.0, rest.1)

-- ---- the asks: their counts, and which devices are quiet

abbrev pub Counted : List (DevNo × AskRow) → List (DevNo × AskRow) → Type 0
Counted [] [] = Unit {0}
Counted (e ∷ es) (f ∷ fs) = (e.0 ≡ f.0) × SameCounts e.1 f.1 × Counted es fs
Counted [] (f ∷ fs) = ⊥
Counted (e ∷ es) [] = ⊥

pub asks_told : (t u : List (DevNo × AskRow)) (a b : List ℕ) → keys_of t ≡ keys_of u → table_words ask_words t a ≡ table_words ask_words u b
    → Counted t u × (a ≡ b)
asks_told [] [] a b k h = (tt, h)
asks_told [] (f ∷ fs) a b k h = absurd (let x : ⊥ = cc k in x)
asks_told (e ∷ es) [] a b k h = absurd (let x : ⊥ = cc k in x)
asks_told (e ∷ es) (f ∷ fs) a b k h =
    let row = counts_told e.1 f.1 (table_words ask_words es a) (table_words ask_words fs b) h in
    let key : e.0 ≡ f.0 = cc k in
    let keys : keys_of es ≡ keys_of fs = cc k in
    let rest = asks_told es fs a b keys row.1 in
    ((key, row.0, rest.0), rest.1)

pub quiet_told : (t u : List (DevNo × AskRow)) (a b : List ℕ) → Counted t u → table_words quiet_words t a ≡ table_words quiet_words u b
    → (t ≡ u) × (a ≡ b)
quiet_told [] [] a b same h = (refl, h)
quiet_told [] (f ∷ fs) a b same h = absurd same
quiet_told (e ∷ es) [] a b same h = absurd same
quiet_told (e ∷ es) (f ∷ fs) a b same h =
    let q : one_if e.1.quiet ≡ one_if f.1.quiet = cc h in
    let left : table_words quiet_words es a ≡ table_words quiet_words fs b = cc h in
    let rest = quiet_told es fs a b same.2 left in (
      ap (λ (x : DevNo × AskRow). x ∷ es) (row_by e f same.0 (ask_by e.1 f.1 same.1 (one_told e.1.quiet f.1.quiet q)))
          ∙ ap (λ (x : List (DevNo × AskRow)). f ∷ x) rest.0,
      rest.1,
    )

-- where no device is quiet the counts are all
abbrev pub AreLoud : List (DevNo × AskRow) → Type 0
AreLoud [] = Unit {0}
AreLoud (e ∷ es) = (e.1.quiet ≡ false) × AreLoud es

pub loud_told : (t u : List (DevNo × AskRow)) → Counted t u → AreLoud t → AreLoud u → t ≡ u
loud_told [] [] same a b = refl
loud_told [] (f ∷ fs) same a b = absurd same
loud_told (e ∷ es) [] same a b = absurd same
loud_told (e ∷ es) (f ∷ fs) same a b =
    ap (λ (x : DevNo × AskRow). x ∷ es) (row_by e f same.0 (ask_by e.1 f.1 same.1 (a.0 ∙ sym b.0)))
    ∙ ap (λ (x : List (DevNo × AskRow)). f ∷ x) (loud_told es fs same.2 a.1 b.1)

-- ---- the linked devices

flags_by : (f g : Flags) → f.shared ≡ g.shared → f.oneshot ≡ g.oneshot → f.noauto ≡ g.noauto → f ≡ g
flags_by f g a b c = (let e : ◌≡◌ {A = Flags} (record { shared = f.shared; oneshot = f.oneshot; noauto = f.noauto }) g = rw (a, b, c) refl in e)

pub linked_told : (t u : List (DevNo × Flags)) → linked_words t ≡ linked_words u → t ≡ u
linked_told [] [] h = refl
linked_told [] (f ∷ fs) h = absurd (let x : ⊥ = cc h in x)
linked_told (e ∷ es) [] h = absurd (let x : ⊥ = cc h in x)
linked_told (e ∷ es) (f ∷ fs) h =
    let d : e.0.0 ≡ f.0.0 = cc in
    let s : one_if e.1.shared ≡ one_if f.1.shared = cc in
    let o : one_if e.1.oneshot ≡ one_if f.1.oneshot = cc in
    let n : one_if e.1.noauto ≡ one_if f.1.noauto = cc in
    let r : linked_words es ≡ linked_words fs = cc in
    let dev : ℕ → DevNo = λ n. record { 0 = n } in
    ap (λ n. (dev n, e.1) ∷ es) d
    ∙ (ap (λ (x : Flags). (f.0, x) ∷ es) (flags_by e.1 f.1 (one_told e.1.shared f.1.shared s)
    (one_told e.1.oneshot f.1.oneshot o) (one_told e.1.noauto f.1.noauto n))
    ∙ ap (λ (x : List (DevNo × Flags)). f ∷ x) (linked_told es fs r))
