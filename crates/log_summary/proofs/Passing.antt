-- A history is gone through entry by entry.
use Rattle.std.proofs.Common.{◌≡◌, ℕ, zero, suc, ◌+◌, ◌≤◌, Bool, true, false, rules, not, ◌&&◌, ◌||◌, cond, Some, List}
use Rattle.std.proofs.Common.{[], ◌∷◌, ◌++◌, length, take, get_or, reverse, refl, sym, ap, ◌∙◌, subst, arith}
use Rattle.std.specs.List.{slice_get}
use Rattle.std.specs.Prelude.{count_by, sum_by}
use Rattle.std.proofs.lemmas.List.{reverse-append}
use Rattle.std.proofs.lemmas.List.Sums.{sum_by-append, count_by-le-length, count_by_more_yes, count_by_more_no}
use Rattle.std.proofs.lemmas.Option.{slice_get_within, get_or_from_slice_get}
use Rattle.irq_base.specs.declared.entries.Entry.{Entry}
use Rattle.irq_base.specs.declared.entries.Entry.TheVariants as by
use Rattle.irq_base.specs.declared.entries.CpuEntry.TheVariants as cpus
use Rattle.irq_base.specs.declared.entries.ThreadEntry.TheVariants as threads
use Rattle.irq_base.specs.declared.entries.DriverEntry.TheVariants as drivers
use Rattle.irq_base.specs.declared.entries.CallEntry.{CallEntry}
use Rattle.irq_base.specs.declared.entries.CallEntry.TheVariants as called
use Rattle.irq_base.specs.declared.entries.LinkAnswer.TheVariants as links
use Rattle.irq_base.specs.declared.entries.UnlinkAnswer.TheVariants as unlinks
use Rattle.irq_base.specs.declared.entries.Note.TheVariants as notes
use Rattle.irq_base.specs.declared.kinds.EntryKind.{EntryKind}
use Rattle.irq_base.specs.declared.kinds.EntryKind.TheVariants as kinds
use Rattle.irq_base.specs.declared.numbers.DevNo.{DevNo}
use Rattle.irq_base.specs.declared.numbers.DriverNo.{DriverNo}
use Rattle.irq_base.specs.EntryKinds.{kind_of_entry, kind_of_call}
use Rattle.irq_model.specs.Kinds.{is_any_ask, is_take, is_start, is_unlink, is_last_unlink, is_linked_request}
use Rattle.irq_model.specs.Links.{is_none_linked, is_empty, is_reset, is_deepening, is_lowering}
use Rattle.irq_model.specs.Places.{EachEntry}
use Rattle.irq_model.proofs.LinkSteps.{linked_request}
use Rattle.irq_model.proofs.ListSteps.{linked_refused, linked_not_there}
use Rattle.irq_model.proofs.DepthSteps.{raised_reset, raised_more}
use Rattle.log_summary.specs.Counted.{is_run, is_thread_run, served_by}
use Rattle.log_summary.specs.Gained.{AreCountsOf, one_if, asks_of, takes_of, runs_of, thread_runs_of, served_of, counts_with}
use Rattle.log_summary.specs.Lasts.{TellsLast, TellsLasts}
use Rattle.log_summary.specs.Standings.{StandsAfter, raised, lowered, resets, standing_with}
use Rattle.log_summary.specs.declared.counts.Counts.{Counts}
use Rattle.log_summary.specs.declared.standing.Standing.{Standing}

-- ---- one more place

take_suc : {X : Type 0} (xs : List X) (n : ℕ) (x : X) → slice_get xs n ≡ Some x → take (suc n) xs ≡ take n xs ++ x ∷ []
take_suc [] n x at = cc
take_suc (y ∷ ys) zero x at = let same : y ≡ x = cc in ap (λ z. z ∷ []) same
take_suc (y ∷ ys) (suc n) x at = ap (λ zs. y ∷ zs) (take_suc ys n x at)

take_next : {X : Type 0} (xs : List X) (n : ℕ) (x : X) → slice_get xs n ≡ Some x → take (n + 1) xs ≡ take n xs ++ x ∷ []
take_next xs n x at = let e : n + 1 ≡ suc n = omega arith in ap (λ m. take m xs) e ∙ take_suc xs n x at

newest : {X : Type 0} (xs : List X) (n : ℕ) (x : X) → slice_get xs n ≡ Some x → reverse (take (n + 1) xs) ≡ x ∷ reverse (take n xs)
newest xs n x at = ap reverse (take_next xs n x at) ∙ reverse-append (take n xs) (x ∷ [])

-- ---- the counts

count_next : (p : Entry → Bool) (h : List Entry) (n : ℕ) (e : Entry) → slice_get h n ≡ Some e
    → count_by p (take (n + 1) h) ≡ count_by p (take n h) + cond (p e) 1 0
count_next p h n e at = by_test (p e) (ap p (get_or_from_slice_get h n e e at))
  where
    by_test : (b : Bool) → p (get_or h n e) ≡ b → count_by p (take (n + 1) h) ≡ count_by p (take n h) + cond b 1 0
    by_test true is = count_by_more_yes p h n e (slice_get_within h n e at) is
    by_test false is = count_by_more_no p h n e (slice_get_within h n e at) is ∙ omega arith

sum_last : {X : Type 0} (f : X → ℕ) (xs : List X) (x : X) → sum_by f (xs ++ x ∷ []) ≡ sum_by f xs + f x
sum_last f xs x = sum_by-append f xs (x ∷ []) ∙ ap (λ n. sum_by f xs + n) (omega arith)

-- what an entry adds to each count, told by its kind
record IsCountedAs (e : Entry) (k : EntryKind) : Type 0 where
  asks : cond (is_any_ask e) 1 0 ≡ asks_of k
  takes : cond (is_take e) 1 0 ≡ takes_of k
  runs : cond (is_run e) 1 0 ≡ runs_of k
  threads : cond (is_thread_run e) 1 0 ≡ thread_runs_of k
  served : served_by e ≡ served_of k

call_counted : (r : DriverNo) (call : CallEntry) → IsCountedAs (by.DriverCall r call) (kind_of_call call)
call_counted r called.Disable = record { asks = refl; takes = refl; runs = refl; threads = refl; served = refl }
call_counted r called.HardClear = record { asks = refl; takes = refl; runs = refl; threads = refl; served = refl }
call_counted r called.Synced = record { asks = refl; takes = refl; runs = refl; threads = refl; served = refl }
call_counted r (called.Enable a) = record { asks = refl; takes = refl; runs = refl; threads = refl; served = refl }
call_counted r (called.Unlink a b) = record { asks = refl; takes = refl; runs = refl; threads = refl; served = refl }
call_counted r (called.Freed a) = record { asks = refl; takes = refl; runs = refl; threads = refl; served = refl }
call_counted r (called.Wake a b) = record { asks = refl; takes = refl; runs = refl; threads = refl; served = refl }
call_counted r (called.Quiet a) = record { asks = refl; takes = refl; runs = refl; threads = refl; served = refl }
call_counted r (called.Arm a b) = record { asks = refl; takes = refl; runs = refl; threads = refl; served = refl }
call_counted r (called.Serve a b) = record { asks = refl; takes = refl; runs = refl; threads = refl; served = refl }

counted : (e : Entry) → IsCountedAs e (kind_of_entry e)
counted (by.Driver a (drivers.Ask edge b)) = record { asks = refl; takes = refl; runs = refl; threads = refl; served = refl }
counted (by.Cpu a (cpus.Take b c)) = record { asks = refl; takes = refl; runs = refl; threads = refl; served = refl }
counted (by.Cpu a (cpus.Begin b)) = record { asks = refl; takes = refl; runs = refl; threads = refl; served = refl }
counted (by.Cpu a (cpus.Return c b d)) = record { asks = refl; takes = refl; runs = refl; threads = refl; served = refl }
counted (by.Cpu a (cpus.End b c notes.Quiet)) = record { asks = refl; takes = refl; runs = refl; threads = refl; served = refl }
counted (by.Cpu a (cpus.End b c notes.Counted)) = record { asks = refl; takes = refl; runs = refl; threads = refl; served = refl }
counted (by.Cpu a (cpus.End b c notes.Killed)) = record { asks = refl; takes = refl; runs = refl; threads = refl; served = refl }
counted (by.Thread a threads.Begin) = record { asks = refl; takes = refl; runs = refl; threads = refl; served = refl }
counted (by.Thread a (threads.Return handled b)) = record { asks = refl; takes = refl; runs = refl; threads = refl; served = refl }
counted (by.Thread a (threads.Finish b c)) = record { asks = refl; takes = refl; runs = refl; threads = refl; served = refl }
counted (by.Thread a threads.Done) = record { asks = refl; takes = refl; runs = refl; threads = refl; served = refl }
counted (by.Driver a (drivers.Request c d f b)) = record { asks = refl; takes = refl; runs = refl; threads = refl; served = refl }
counted (by.Driver a (drivers.Affinity c b)) = record { asks = refl; takes = refl; runs = refl; threads = refl; served = refl }
counted (by.Driver a (drivers.Moment b)) = record { asks = refl; takes = refl; runs = refl; threads = refl; served = refl }
counted (by.CpuCall a call) =
    let k = call_counted (record { 0 = 0 }) call in record { asks = k.asks; takes = k.takes; runs = k.runs; threads = k.threads; served = k.served }
counted (by.ThreadCall a call) =
    let k = call_counted (record { 0 = 0 }) call in record { asks = k.asks; takes = k.takes; runs = k.runs; threads = k.threads; served = k.served }
counted (by.DriverCall a call) = call_counted a call

pub counts_more : (h : List Entry) (n : ℕ) (e : Entry) (c : Counts) → slice_get h n ≡ Some e → AreCountsOf (take n h) c
    → AreCountsOf (take (n + 1) h) (counts_with c (kind_of_entry e))
counts_more h n e c at k =
    let told = counted e in
    let one : (p : Entry → Bool) (m x : ℕ) → cond (p e) 1 0 ≡ x → m ≡ count_by p (take n h) → m + x ≡ count_by p (take (n + 1) h) =
    λ p m x same is. ap (λ y. m + y) (sym same) ∙ (ap (λ y. y + cond (p e) 1 0) is ∙ sym (count_next p h n e at)) in
    record {
      asks = one is_any_ask c.asks (asks_of (kind_of_entry e)) told.asks k.asks;
      takes = one is_take c.takes (takes_of (kind_of_entry e)) told.takes k.takes;
      runs = one is_run c.runs (runs_of (kind_of_entry e)) told.runs k.runs;
      threads = one is_thread_run c.threads (thread_runs_of (kind_of_entry e)) told.threads k.threads;
      served = ap (λ x. c.served + x) (sym told.served)
          ∙ (ap (λ x. x + served_by e) k.served ∙ (sym (sum_last served_by (take n h) e) ∙ ap (sum_by served_by) (sym (take_next h n e at))));
    }

-- no count is above the number of entries
pub count_small : (p : Entry → Bool) (h : List Entry) (n m : ℕ) → m ≡ count_by p (take n h) → length h ≤ 100000000 → m ≤ 100000000
count_small p h n m is few =
    let a = count_by-le-length p (take n h) in
    let b = length_taken n h in
    omega (arith, a, b)
  where
    length_taken : (n : ℕ) (xs : List Entry) → length (take n xs) ≤ length xs
    length_taken zero xs = omega arith
    length_taken (suc n) [] = omega arith
    length_taken (suc n) (x ∷ xs) = let m = length_taken n xs in omega (arith, m)

-- ---- how the line stands

some_last : (xs : List DevNo) (d : DevNo) → is_empty (xs ++ d ∷ []) ≡ false
some_last [] d = refl
some_last (x ∷ xs) d = refl

no_more : (b : Bool) → (b || false) ≡ b
no_more true = refl
no_more false = refl

one_more : (b : Bool) → (b || true) ≡ true
one_more true = refl
one_more false = refl

-- whether a device is linked

call_linked : (r : DriverNo) (call : CallEntry) (past : List Entry) (b : Bool) → b ≡ not (is_none_linked past) → TellsLast (by.DriverCall r call) past
    → cond (is_unlink (by.DriverCall r call)) (not (is_last_unlink (by.DriverCall r call))) (b || false) ≡ not (is_none_linked (by.DriverCall r call ∷ past))
call_linked r (called.Unlink (unlinks.Unlinked last) d) past b is told = ap not (sym (told refl))
call_linked r (called.Unlink unlinks.NotThere d) past b is told = no_more b ∙ (is ∙ ap (λ ds. not (is_empty ds)) (sym (linked_not_there r d past)))
call_linked r call past b is told = no_more b ∙ is

linked_more : (e : Entry) (past : List Entry) (b : Bool) → b ≡ not (is_none_linked past) → TellsLast e past
    → cond (is_unlink e) (not (is_last_unlink e)) (b || is_linked_request e) ≡ not (is_none_linked (e ∷ past))
linked_more (by.CpuCall c call) past b is told = call_linked (record { 0 = 0 }) call past b is told
linked_more (by.ThreadCall c call) past b is told = call_linked (record { 0 = 0 }) call past b is told
linked_more (by.DriverCall r call) past b is told = call_linked r call past b is told
linked_more (by.Driver r (drivers.Request flags links.Linked opened d)) past b is told =
    one_more b ∙ ap not (sym (ap is_empty (linked_request r d flags opened past) ∙ some_last _ d))
linked_more (by.Driver r (drivers.Request flags (links.Refused error) opened d)) past b is told =
    no_more b ∙ (is ∙ ap (λ ds. not (is_empty ds)) (sym (linked_refused r d flags error opened past)))
linked_more e past b is told = no_more b ∙ is

twice : (n : Bool) → not (not n) ≡ n
twice true = refl
twice false = refl

resets_is : (e : Entry) (past : List Entry) (s : Standing) → s.linked ≡ not (is_none_linked past) → resets s e ≡ is_reset (e ∷ past)
resets_is e past s is = ap (λ n. is_last_unlink e || (is_linked_request e && n)) (ap not is ∙ twice (is_none_linked past))

gained : (b : Bool) (m n : ℕ) → m ≡ n → m + cond b 1 0 ≡ cond b (n + 1) n
gained true m n is = omega (arith, is)
gained false m n is = omega (arith, is)

sides_more : (e : Entry) (past : List Entry) (s : Standing) → StandsAfter past s → (b : Bool) → is_reset (e ∷ past) ≡ b
    → (cond b (cond (is_start e) 0 1) (s.raised + one_if (is_deepening e)) ≡ raised (e ∷ past))
    × (cond b 0 (s.lowered + one_if (is_lowering e)) ≡ lowered (e ∷ past))
sides_more e past s k true is = let n = raised_reset e past is in (sym n.0, sym n.1)
sides_more e past s k false is =
    let n = raised_more e past is in
    (gained (is_deepening e) s.raised (raised past) k.raised_is ∙ sym n.0, gained (is_lowering e) s.lowered (lowered past) k.lowered_is ∙ sym n.1)

pub stands_more : (e : Entry) (past : List Entry) (s : Standing) → StandsAfter past s → TellsLast e past → StandsAfter (e ∷ past) (standing_with s e)
stands_more e past s k told =
    let sides = sides_more e past s k (is_reset (e ∷ past)) refl in
    let same = resets_is e past s k.linked in
    record {
      linked = linked_more e past s.linked k.linked told;
      raised_is = ap (λ b. cond b (cond (is_start e) 0 1) (s.raised + one_if (is_deepening e))) same ∙ sides.0;
      lowered_is = ap (λ b. cond b 0 (s.lowered + one_if (is_lowering e))) same ∙ sides.1;
    }

-- what a history tells of the entry at a place
older : (newer past : List Entry) → EachEntry TellsLast (newer ++ past) → EachEntry TellsLast past
older [] past told = told
older (e ∷ newer) past told = older newer past told.1

split : (xs : List Entry) (n : ℕ) → (ys : List Entry) × (xs ≡ take n xs ++ ys)
split [] zero = ([], refl)
split [] (suc n) = ([], refl)
split (x ∷ xs) zero = (x ∷ xs, refl)
split (x ∷ xs) (suc n) = let rest = split xs n in (rest.0, ap (λ ys. x ∷ ys) rest.1)

told_at : (h : List Entry) (n : ℕ) (e : Entry) → slice_get h n ≡ Some e → TellsLasts h → TellsLast e (reverse (take n h))
told_at h n e at told =
    let parts = split h (n + 1) in
    let whole : EachEntry TellsLast (reverse (take (n + 1) h ++ parts.0)) = subst (λ (xs : List Entry). TellsLasts xs) parts.1 told in
    let upto : EachEntry TellsLast (reverse (take (n + 1) h)) =
    older (reverse parts.0) (reverse (take (n + 1) h)) (subst (λ (xs : List Entry). EachEntry TellsLast xs) (reverse-append (take (n + 1) h) parts.0) whole) in
    (subst (λ (xs : List Entry). EachEntry TellsLast xs) (newest h n e at) upto).0

pub stands_next : (h : List Entry) (n : ℕ) (e : Entry) (s : Standing) → slice_get h n ≡ Some e → TellsLasts h
    → StandsAfter (reverse (take n h)) s → StandsAfter (reverse (take (n + 1) h)) (standing_with s e)
stands_next h n e s at told k =
    subst (λ (past : List Entry). StandsAfter past (standing_with s e)) (sym (newest h n e at)) (stands_more e (reverse (take n h)) s k (told_at h n e at told))

-- ---- what carries along is small

pub raised_small : (e : Entry) (s : Standing) (n : ℕ) → s.raised ≤ n → (standing_with s e).raised ≤ n + 1
raised_small e s n h = by_tests (resets s e) (is_start e) (is_deepening e)
  where
    by_tests : (a b c : Bool) → cond a (cond b 0 1) (s.raised + cond c 1 0) ≤ n + 1
    by_tests true true c = omega arith
    by_tests true false c = omega arith
    by_tests false b true = omega arith
    by_tests false b false = omega arith

pub lowered_small : (e : Entry) (s : Standing) (n : ℕ) → s.lowered ≤ n → (standing_with s e).lowered ≤ n + 1
lowered_small e s n h = by_tests (resets s e) (is_lowering e)
  where
    by_tests : (a b : Bool) → cond a 0 (s.lowered + cond b 1 0) ≤ n + 1
    by_tests true b = omega arith
    by_tests false true = omega arith
    by_tests false false = omega arith

-- ---- an entry of another kind changes nothing of how the line stands

unmoved : (e : Entry) (s : Standing) → is_unlink e ≡ false → is_last_unlink e ≡ false → is_linked_request e ≡ false
    → is_deepening e ≡ false → is_lowering e ≡ false → standing_with s e ≡ s
unmoved e s a b c d f = rw (a, b, c, d, f) (let n = no_more s.linked in search (rules, n))

call_same : (r : DriverNo) (call : CallEntry) (s : Standing) → (kind_of_call call ≡ kinds.Standing → ⊥) → standing_with s (by.DriverCall r call) ≡ s
call_same r called.Disable s other = absurd (other refl)
call_same r called.HardClear s other = unmoved (by.DriverCall r called.HardClear) s refl refl refl refl refl
call_same r called.Synced s other = unmoved (by.DriverCall r called.Synced) s refl refl refl refl refl
call_same r (called.Enable a) s other = absurd (other refl)
call_same r (called.Unlink a b) s other = absurd (other refl)
call_same r (called.Freed a) s other = unmoved (by.DriverCall r (called.Freed a)) s refl refl refl refl refl
call_same r (called.Wake a b) s other = unmoved (by.DriverCall r (called.Wake a b)) s refl refl refl refl refl
call_same r (called.Quiet a) s other = unmoved (by.DriverCall r (called.Quiet a)) s refl refl refl refl refl
call_same r (called.Arm a b) s other = unmoved (by.DriverCall r (called.Arm a b)) s refl refl refl refl refl
call_same r (called.Serve a b) s other = unmoved (by.DriverCall r (called.Serve a b)) s refl refl refl refl refl

pub stands_same : (e : Entry) (s : Standing) → (kind_of_entry e ≡ kinds.Standing → ⊥) → standing_with s e ≡ s
stands_same (by.Driver a (drivers.Ask edge b)) s other = unmoved (by.Driver a (drivers.Ask edge b)) s refl refl refl refl refl
stands_same (by.Cpu a (cpus.Take b c)) s other = unmoved (by.Cpu a (cpus.Take b c)) s refl refl refl refl refl
stands_same (by.Cpu a (cpus.Begin b)) s other = unmoved (by.Cpu a (cpus.Begin b)) s refl refl refl refl refl
stands_same (by.Cpu a (cpus.Return c b d)) s other = unmoved (by.Cpu a (cpus.Return c b d)) s refl refl refl refl refl
stands_same (by.Cpu a (cpus.End b c notes.Quiet)) s other = unmoved (by.Cpu a (cpus.End b c notes.Quiet)) s refl refl refl refl refl
stands_same (by.Cpu a (cpus.End b c notes.Counted)) s other = unmoved (by.Cpu a (cpus.End b c notes.Counted)) s refl refl refl refl refl
stands_same (by.Cpu a (cpus.End b c notes.Killed)) s other = absurd (other refl)
stands_same (by.Thread a threads.Begin) s other = unmoved (by.Thread a threads.Begin) s refl refl refl refl refl
stands_same (by.Thread a (threads.Return handled b)) s other = unmoved (by.Thread a (threads.Return handled b)) s refl refl refl refl refl
stands_same (by.Thread a (threads.Finish b c)) s other = unmoved (by.Thread a (threads.Finish b c)) s refl refl refl refl refl
stands_same (by.Thread a threads.Done) s other = unmoved (by.Thread a threads.Done) s refl refl refl refl refl
stands_same (by.Driver a (drivers.Request c d f b)) s other = absurd (other refl)
stands_same (by.Driver a (drivers.Affinity c b)) s other = unmoved (by.Driver a (drivers.Affinity c b)) s refl refl refl refl refl
stands_same (by.Driver a (drivers.Moment b)) s other = unmoved (by.Driver a (drivers.Moment b)) s refl refl refl refl refl
stands_same (by.CpuCall a call) s other = call_same (record { 0 = 0 }) call s other
stands_same (by.ThreadCall a call) s other = call_same (record { 0 = 0 }) call s other
stands_same (by.DriverCall a call) s other = call_same a call s other
