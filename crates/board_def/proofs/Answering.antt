-- A board with more answers of a told device is a board.
use Rattle.std.proofs.Common.{◌≡◌, ℕ, zero, suc, ◌+◌, ◌<◌, ◌≤◌, ◌==◌, Bool, true, false, cond, ◌&&◌, ◌||◌, not, Option}
use Rattle.std.proofs.Common.{Some, None, List, [], ◌∷◌, ◌++◌, length, map, take, All, refl, sym, ap, subst, ◌∙◌, arith}
use Rattle.std.specs.List.{slice_get, list_any}
use Rattle.std.specs.Option.{option_map}
use Rattle.std.proofs.Math.ListN.{length-append}
use Rattle.std.proofs.lemmas.Bool.Decides.{nat_tests}
use Rattle.std.proofs.lemmas.List.{take-map, length-map}
use Rattle.std.proofs.lemmas.List.Elements.{All-append, All-head, All-tail}
use Rattle.std.proofs.lemmas.List.Folds.{list_any-append}
use Rattle.std.proofs.lemmas.Option.{slice_get-map}
use Rattle.irq_base.specs.declared.calls.Call.{Call}
use Rattle.irq_base.specs.declared.calls.Call.TheVariants as calls
use Rattle.irq_base.specs.declared.devices.DeviceDef.{DeviceDef}
use Rattle.irq_base.specs.declared.devices.Kind.{Kind}
use Rattle.irq_base.specs.declared.devices.Kind.TheVariants as kinds
use Rattle.irq_base.specs.declared.devices.Part.{Part}
use Rattle.irq_base.specs.declared.devices.Part.TheVariants as parts
use Rattle.irq_base.specs.declared.devices.ToldAnswer.{ToldAnswer}
use Rattle.irq_base.specs.declared.devices.ToldAnswer.TheVariants as tolds
use Rattle.irq_base.specs.declared.entries.Actor.{Actor}
use Rattle.irq_base.specs.declared.entries.Actor.TheVariants as actors
use Rattle.irq_base.specs.declared.numbers.DevNo.{DevNo}
use Rattle.irq_base.specs.declared.numbers.LineNo.{LineNo}
use Rattle.irq_model.specs.Kinds.{same_dev}
use Rattle.irq_model.specs.Lines.{same_part}
use Rattle.irq_model.specs.Places.{count_of}
use Rattle.irq_model.specs.RunBounds.{is_wake_word}
use Rattle.irq_model.specs.ValidRuns.{is_told, may_stand, may_answer}
use Rattle.domain_rules.specs.Domains.{EachAfter}
use Rattle.board_def.specs.Rules.{IsBoard, IsLineAfter, IsDeviceAfter, IsCallAfter, IsActorOf, AreRuns, AreAnswers}
use Rattle.board_def.specs.Rules.{find_device, fits_line, is_on_line, is_threaded, with_answers}
use Rattle.board_def.specs.Runs.{may_call, arms_itself, arms_though_woken, wakes_by_call, is_allowed_run}
use Rattle.board_def.specs.Runs.{is_told_one, is_allowed_answer, answers_wake, fits_wakes, threaded, with_thread}
use Rattle.board_def.specs.Seen.{BoardSeen}
use Rattle.board_def.specs.declared.rows.LineRow.{LineRow}
use Rattle.board_def.specs.declared.rows.RunCall.{RunCall}
use Rattle.board_def.specs.declared.rows.ScriptCall.{ScriptCall}
use Rattle.board_def.specs.declared.rows.ToldRow.{ToldRow}
use Rattle.board_def.proofs.Grows.{each_from, all_from}
use Rattle.board_def.proofs.Threads.{same_device}

-- ---- what is told of a device stays, if it is told too of a told device that got a thread

module _ (dev : DevNo) (test : Option DeviceDef → Bool) where
  -- of another device
  elsewhere : (d : DevNo) → same_dev d dev ≡ false → (xs : List DeviceDef) → test (find_device xs d) ≡ true
      → test (find_device (with_thread dev xs) d) ≡ true
  elsewhere d other [] h = h
  elsewhere d other (x ∷ xs) h = by (same_dev dev x.dev) refl (same_dev d x.dev) refl h (elsewhere d other xs)
    where
      by : (b : Bool) → same_dev dev x.dev ≡ b → (c : Bool) → same_dev d x.dev ≡ c → test (cond c (Some x) (find_device xs d)) ≡ true
          → (test (find_device xs d) ≡ true → test (find_device (with_thread dev xs) d) ≡ true)
          → test (cond (same_dev d (cond b (threaded x) x).dev) (Some (cond b (threaded x) x)) (find_device (with_thread dev xs) d)) ≡ true
      by true is true own h rest =
          let same : dev.0 ≡ x.dev.0 = grind (arith, nat_tests) in
          absurd (let no : true ≡ false = sym own ∙ (ap (λ n. d.0 == n) (sym same) ∙ other) in cc)
      by true is false own h rest = ap (λ t. test (cond t (Some (threaded x)) (find_device (with_thread dev xs) d))) own ∙ rest h
      by false is true own h rest = ap (λ t. test (cond t (Some x) (find_device (with_thread dev xs) d))) own ∙ h
      by false is false own h rest = ap (λ t. test (cond t (Some x) (find_device (with_thread dev xs) d))) own ∙ rest h

  other_dev : (d e : DevNo) → same_dev dev e ≡ true → same_dev d e ≡ false → same_dev d dev ≡ false
  other_dev d e is other = let same : dev.0 ≡ e.0 = grind (arith, nat_tests) in ap (λ n. d.0 == n) same ∙ other

  thread_stays : ((x : DeviceDef) → is_told x.kind ≡ true → test (Some x) ≡ true → test (Some (threaded x)) ≡ true)
      → (xs : List DeviceDef) → is_told_one (find_device xs dev) ≡ true → (d : DevNo)
      → test (find_device xs d) ≡ true → test (find_device (with_thread dev xs) d) ≡ true
  thread_stays more [] told d h = h
  thread_stays more (x ∷ xs) told d h = by (same_dev dev x.dev) refl (same_dev d x.dev) refl told h (λ t. thread_stays more xs t d)
    where
      by : (b : Bool) → same_dev dev x.dev ≡ b → (c : Bool) → same_dev d x.dev ≡ c → is_told_one (cond b (Some x) (find_device xs dev)) ≡ true
          → test (cond c (Some x) (find_device xs d)) ≡ true
          → (is_told_one (find_device xs dev) ≡ true → test (find_device xs d) ≡ true → test (find_device (with_thread dev xs) d) ≡ true)
          → test (cond (same_dev d (cond b (threaded x) x).dev) (Some (cond b (threaded x) x)) (find_device (with_thread dev xs) d)) ≡ true
      by true is true own told h rest = ap (λ t. test (cond t (Some (threaded x)) (find_device (with_thread dev xs) d))) own ∙ more x told h
      by true is false other told h rest =
          ap (λ t. test (cond t (Some (threaded x)) (find_device (with_thread dev xs) d))) other
          ∙ elsewhere d (other_dev d x.dev is other) xs h
      by false is true own told h rest = ap (λ t. test (cond t (Some x) (find_device (with_thread dev xs) d))) own ∙ h
      by false is false other told h rest = ap (λ t. test (cond t (Some x) (find_device (with_thread dev xs) d))) other ∙ rest told h

-- ---- the tests

stands_alike : (part : Part) (d : DevNo) (call : Call) (t : Bool) → may_stand (kinds.Told t) part d call ≡ may_stand (kinds.Told true) part d call
stands_alike part d calls.DisableNosync t = refl
stands_alike part d calls.Enable t = refl
stands_alike part d calls.Disable t = refl
stands_alike part d calls.Sync t = refl
stands_alike part d (calls.Quiet dev) t = refl
stands_alike part d (calls.Serve dev) t = refl
stands_alike parts.Primary d (calls.Wake dev) t = refl
stands_alike parts.Thread d (calls.Wake dev) t = refl
stands_alike parts.Primary d (calls.Free dev) t = refl
stands_alike parts.Thread d (calls.Free dev) t = refl
stands_alike parts.Primary d (calls.Arm dev) t = refl
stands_alike parts.Thread d (calls.Arm dev) t = refl
stands_alike parts.Primary d (calls.Ask dev) t = refl
stands_alike parts.Thread d (calls.Ask dev) t = refl
stands_alike parts.Primary d (calls.Request dev flags) t = refl
stands_alike parts.Thread d (calls.Request dev flags) t = refl
stands_alike parts.Primary d (calls.Affinity mask) t = refl
stands_alike parts.Thread d (calls.Affinity mask) t = refl
stands_alike parts.Primary d (calls.Moment at) t = refl
stands_alike parts.Thread d (calls.Moment at) t = refl
stands_alike parts.Primary d calls.SyncHard t = refl
stands_alike parts.Thread d calls.SyncHard t = refl
stands_alike parts.Primary d calls.DisableHard t = refl
stands_alike parts.Thread d calls.DisableHard t = refl

calls_on : (part : Part) (d : DevNo) (call : Call) (t : Bool) → may_call (kinds.Told t) part d call ≡ true → may_call (kinds.Told true) part d call ≡ true
calls_on parts.Primary d call t h = sym (stands_alike parts.Primary d call t) ∙ h
calls_on parts.Thread d call true h = h
calls_on parts.Thread d call false h = absurd cc

run_on : (runs : List RunCall) (r : RunCall) (x : DeviceDef) → is_told x.kind ≡ true → is_allowed_run runs r (Some x) ≡ true
    → is_allowed_run runs r (Some (threaded x)) ≡ true
run_on runs r x told h = by x.kind told h
  where
    parts_of : (l m a w : Bool) → (l && (m && not (true && (a && w)))) ≡ true → (l ≡ true) × (m ≡ true) × (not (true && (a && w)) ≡ true)
    parts_of true true a w h = (refl, refl, h)
    parts_of true false a w h = absurd cc
    parts_of false m a w h = absurd cc

    by : (k : Kind) → is_told k ≡ true → ((x.line.0 == r.line.0) && (may_call k r.part r.dev r.call && not (arms_though_woken runs r k))) ≡ true
        → ((x.line.0 == r.line.0) && (may_call (kinds.Told true) r.part r.dev r.call && not (arms_though_woken runs r (kinds.Told true)))) ≡ true
    by (kinds.Told t) told h =
        let p = parts_of (x.line.0 == r.line.0) (may_call (kinds.Told t) r.part r.dev r.call) (arms_itself r.dev r) (list_any (wakes_by_call r.dev) runs) h in
        ap (λ b. b && (may_call (kinds.Told true) r.part r.dev r.call && not (arms_though_woken runs r (kinds.Told true)))) p.0
        ∙ (ap (λ b. b && not (arms_though_woken runs r (kinds.Told true))) (calls_on r.part r.dev r.call t p.1) ∙ p.2)
    by kinds.Direct told h = absurd cc
    by kinds.Check told h = absurd cc
    by kinds.Null told h = absurd cc
    by kinds.Stuck told h = absurd cc
    by kinds.Odd told h = absurd cc

answer_on : (r : ToldRow) (x : DeviceDef) → is_told x.kind ≡ true → is_allowed_answer r (Some x) ≡ true → is_allowed_answer r (Some (threaded x)) ≡ true
answer_on r x told h = by x.kind r.part r.answer told h
  where
    alike : (l m n : Bool) → (m ≡ true → n ≡ true) → (l && m) ≡ true → (l && n) ≡ true
    alike true m n on h = on h
    alike false m n on h = absurd cc

    by : (k : Kind) (p : Part) (a : ToldAnswer) → is_told k ≡ true → ((x.line.0 == r.line.0) && may_answer k p a) ≡ true
        → ((x.line.0 == r.line.0) && may_answer (kinds.Told true) p a) ≡ true
    by k parts.Primary a told h = alike (x.line.0 == r.line.0) (may_answer k parts.Primary a) (may_answer (kinds.Told true) parts.Primary a) (λ m. refl) h
    by k parts.Thread tolds.Wake told h = h
    by k parts.Thread tolds.Handled told h = alike (x.line.0 == r.line.0) (may_answer k parts.Thread tolds.Handled) true (λ m. refl) h
    by k parts.Thread tolds.Nothing told h = alike (x.line.0 == r.line.0) (may_answer k parts.Thread tolds.Nothing) true (λ m. refl) h
    by k parts.Thread tolds.Claims told h = alike (x.line.0 == r.line.0) (may_answer k parts.Thread tolds.Claims) true (λ m. refl) h

fits_on : (dev : DevNo) (line : LineNo) (xs : List DeviceDef) → is_told_one (find_device xs dev) ≡ true → (call : Call)
    → fits_line xs line call ≡ true → fits_line (with_thread dev xs) line call ≡ true
fits_on dev line xs told (calls.Ask d) h = thread_stays dev (is_on_line line) (λ x t p. p) xs told d h
fits_on dev line xs told (calls.Request d flags) h = thread_stays dev (is_on_line line) (λ x t p. p) xs told d h
fits_on dev line xs told (calls.Free d) h = thread_stays dev (is_on_line line) (λ x t p. p) xs told d h
fits_on dev line xs told (calls.Wake d) h = thread_stays dev (is_on_line line) (λ x t p. p) xs told d h
fits_on dev line xs told (calls.Quiet d) h = thread_stays dev (is_on_line line) (λ x t p. p) xs told d h
fits_on dev line xs told (calls.Arm d) h = thread_stays dev (is_on_line line) (λ x t p. p) xs told d h
fits_on dev line xs told (calls.Serve d) h = thread_stays dev (is_on_line line) (λ x t p. p) xs told d h
fits_on dev line xs told calls.Disable h = refl
fits_on dev line xs told calls.DisableNosync h = refl
fits_on dev line xs told calls.Enable h = refl
fits_on dev line xs told calls.Sync h = refl
fits_on dev line xs told (calls.Affinity mask) h = refl
fits_on dev line xs told (calls.Moment at) h = refl
fits_on dev line xs told calls.SyncHard h = refl
fits_on dev line xs told calls.DisableHard h = refl

-- ---- the answers of one device

-- each row is of the device
abbrev AreOf : DevNo → List ToldRow → Type 0
AreOf dev rows = All (λ (r : ToldRow). r.dev ≡ dev) rows

none_of_others : (dev d : DevNo) (rows : List ToldRow) → same_dev d dev ≡ false → AreOf dev rows → list_any (answers_wake d) rows ≡ false
none_of_others dev d [] other of = refl
none_of_others dev d (r ∷ rows) other of =
    let own : r.dev ≡ dev = All-head (λ (r : ToldRow). r.dev ≡ dev) r rows of in
    let apart : same_dev d r.dev ≡ false = ap (same_dev d) own ∙ other in
    ap (λ b. ((b && same_part parts.Primary r.part) && is_wake_word r.answer) || list_any (answers_wake d) rows) apart
    ∙ none_of_others dev d rows other (All-tail (λ (r : ToldRow). r.dev ≡ dev) r rows of)

count_both : {A : Type 0} (test : A → Bool) (xs ys : List A) → count_of test (xs ++ ys) ≡ count_of test xs + count_of test ys
count_both test [] ys = omega arith
count_both test (x ∷ xs) ys = by (test x) (count_both test xs ys)
  where
    by : (b : Bool) → count_of test (xs ++ ys) ≡ count_of test xs + count_of test ys
        → cond b (count_of test (xs ++ ys) + 1) (count_of test (xs ++ ys)) ≡ cond b (count_of test xs + 1) (count_of test xs) + count_of test ys
    by true rest = omega (arith, rest)
    by false rest = rest

-- a device has at most as many of them as there are, and another has none
count_within : (dev d : DevNo) (rows : List ToldRow) → AreOf dev rows
    → count_of (λ (r : ToldRow). same_dev d r.dev) rows ≤ cond (same_dev d dev) (length rows) 0
count_within dev d [] of = by (same_dev d dev)
  where
    by : (b : Bool) → 0 ≤ cond b 0 0
    by true = omega arith
    by false = omega arith
count_within dev d (r ∷ rows) of =
    let own : r.dev ≡ dev = All-head (λ (r : ToldRow). r.dev ≡ dev) r rows of in
    let same : same_dev d r.dev ≡ same_dev d dev = ap (same_dev d) own in
    by (same_dev d r.dev) (same_dev d dev) same (count_within dev d rows (All-tail (λ (r : ToldRow). r.dev ≡ dev) r rows of))
  where
    by : (a b : Bool) → a ≡ b → count_of (λ (r : ToldRow). same_dev d r.dev) rows ≤ cond b (length rows) 0
        → cond a (count_of (λ (r : ToldRow). same_dev d r.dev) rows + 1) (count_of (λ (r : ToldRow). same_dev d r.dev) rows) ≤ cond b (suc (length rows)) 0
    by true true same rest = omega (arith, rest)
    by false false same rest = rest
    by true false same rest = absurd cc
    by false true same rest = absurd cc

few_of : (dev : DevNo) (told rows : List ToldRow) → AreOf dev rows → count_of (λ (r : ToldRow). same_dev dev r.dev) told + length rows ≤ 4096
    → ((d : DevNo) → count_of (λ (r : ToldRow). same_dev d r.dev) told ≤ 4096) → (d : DevNo)
    → count_of (λ (r : ToldRow). same_dev d r.dev) (told ++ rows) ≤ 4096
few_of dev told rows of room short d = by (same_dev d dev) refl
  where
    by : (b : Bool) → same_dev d dev ≡ b → count_of (λ (r : ToldRow). same_dev d r.dev) (told ++ rows) ≤ 4096
    by true own =
        let here = subst (λ (e : DevNo). count_of (λ (r : ToldRow). same_dev e r.dev) told + length rows ≤ 4096) (sym (same_device d dev own)) room in
        let within = subst (λ b. count_of (λ (r : ToldRow). same_dev d r.dev) rows ≤ cond b (length rows) 0) own (count_within dev d rows of) in
        omega (arith, count_both (λ (r : ToldRow). same_dev d r.dev) told rows, here, within)
    by false other =
        let within = subst (λ b. count_of (λ (r : ToldRow). same_dev d r.dev) rows ≤ cond b (length rows) 0) other (count_within dev d rows of) in
        omega (arith, count_both (λ (r : ToldRow). same_dev d r.dev) told rows, short d, within)

-- ---- the board

module _ (b : BoardSeen) (h : IsBoard b) (dev : DevNo) (rows : List ToldRow) (of : AreOf dev rows)
    (told : is_told_one (find_device b.devices dev) ≡ true) where
  abbrev wakes : Bool
  wakes = list_any (answers_wake dev) rows

  abbrev devices_by : Bool → List DeviceDef
  devices_by w = cond w (with_thread dev b.devices) b.devices

  -- what is told of the device of a number
  stays : (test : Option DeviceDef → Bool) → ((x : DeviceDef) → is_told x.kind ≡ true → test (Some x) ≡ true → test (Some (threaded x)) ≡ true)
      → (w : Bool) (d : DevNo) → test (find_device b.devices d) ≡ true → test (find_device (devices_by w) d) ≡ true
  stays test more true d p = thread_stays dev test more b.devices told d p
  stays test more false d p = p

  fits_stay : (w : Bool) (line : LineNo) (call : Call) → fits_line b.devices line call ≡ true → fits_line (devices_by w) line call ≡ true
  fits_stay true line call p = fits_on dev line b.devices told call p
  fits_stay false line call p = p

  abbrev after : Bool → BoardSeen
  after w = record b { told = b.told ++ rows; devices = devices_by w }

  -- a device's thread goes by the answers
  or_false : (b : Bool) → (b || false) ≡ b
  or_false true = refl
  or_false false = refl

  or_right : (a b : Bool) → b ≡ true → (a || b) ≡ true
  or_right true b e = refl
  or_right false b e = e

  turned : (d e : DevNo) → same_dev d e ≡ false → same_dev e d ≡ false
  turned d e p = grind (arith, nat_tests)

  thread_of_other : (x : DeviceDef) → list_any (answers_wake x.dev) rows ≡ false → fits_wakes (list_any (answers_wake x.dev) b.told) x.kind ≡ true
      → fits_wakes (list_any (answers_wake x.dev) (b.told ++ rows)) x.kind ≡ true
  thread_of_other x none fits =
      ap (λ w. fits_wakes w x.kind) (list_any-append (answers_wake x.dev) b.told rows
      ∙ (ap (λ w. list_any (answers_wake x.dev) b.told || w) none ∙ or_false (list_any (answers_wake x.dev) b.told))) ∙ fits

  thread_of : (w : Bool) → wakes ≡ w → (x : DeviceDef) → fits_wakes (list_any (answers_wake x.dev) b.told) x.kind ≡ true
      → (s : Bool) → same_dev dev x.dev ≡ s
      → fits_wakes (list_any (answers_wake x.dev) (b.told ++ rows)) (cond (w && s) (threaded x) x).kind ≡ true
  thread_of true some x fits true own =
      ap (λ (d : DevNo). list_any (answers_wake d) (b.told ++ rows)) (sym (same_device dev x.dev own))
      ∙ (list_any-append (answers_wake dev) b.told rows ∙ or_right (list_any (answers_wake dev) b.told) wakes some)
  thread_of false none x fits true own =
      thread_of_other x (ap (λ (d : DevNo). list_any (answers_wake d) rows) (sym (same_device dev x.dev own)) ∙ none) fits
  thread_of true some x fits false other = thread_of_other x (none_of_others dev x.dev rows (turned dev x.dev other) of) fits
  thread_of false none x fits false other = thread_of_other x (none_of_others dev x.dev rows (turned dev x.dev other) of) fits

  abbrev change : Bool → DeviceDef → DeviceDef
  change w x = cond (w && same_dev dev x.dev) (threaded x) x

  changed : (w : Bool) → devices_by w ≡ map (change w) b.devices
  changed true = refl
  changed false = unchanged b.devices
    where
      unchanged : (xs : List DeviceDef) → xs ≡ map (change false) xs
      unchanged [] = refl
      unchanged (x ∷ xs) = ap (λ ys. x ∷ ys) (unchanged xs)

  same_dev_of : (w : Bool) (x : DeviceDef) → (change w x).dev ≡ x.dev
  same_dev_of w x = by (w && same_dev dev x.dev)
    where
      by : (t : Bool) → (cond t (threaded x) x).dev ≡ x.dev
      by true = refl
      by false = refl

  same_line_of : (w : Bool) (x : DeviceDef) → (change w x).line ≡ x.line
  same_line_of w x = by (w && same_dev dev x.dev)
    where
      by : (t : Bool) → (cond t (threaded x) x).line ≡ x.line
      by true = refl
      by false = refl

  all_changed : (w : Bool) (n : ℕ) (xs : List DeviceDef) → All (λ (e : DeviceDef). e.dev.0 < n) xs → All (λ (e : DeviceDef). e.dev.0 < n) (map (change w) xs)
  all_changed w n [] all k d p = absurd (omega (arith, p))
  all_changed w n (x ∷ xs) all zero d p =
      subst (λ (e : DevNo). e.0 < n) (sym (same_dev_of w x)) (All-head (λ (e : DeviceDef). e.dev.0 < n) x xs all)
  all_changed w n (x ∷ xs) all (suc k) d p = all_changed w n xs (All-tail (λ (e : DeviceDef). e.dev.0 < n) x xs all) k d (omega (arith, p))

  device_changed : (w : Bool) → wakes ≡ w → (i : ℕ) (y : DeviceDef) → slice_get (map (change w) b.devices) i ≡ Some y
      → IsDeviceAfter (after w) (take i (map (change w) b.devices)) y
  device_changed w is i y at = by (slice_get b.devices i) refl (sym (slice_get-map (change w) b.devices i) ∙ at)
    where
      by : (r : Option DeviceDef) → slice_get b.devices i ≡ r → option_map (change w) r ≡ Some y → IsDeviceAfter (after w) (take i (map (change w) b.devices)) y
      by None there e = absurd cc
      by (Some x) there e =
          let old = h.devices i x there in
          let same : change w x ≡ y = cc in
          subst (λ (z : DeviceDef). IsDeviceAfter (after w) (take i (map (change w) b.devices)) z) same
          (record {
            number = subst (λ (d : DevNo). (1 ≤ d.0) × (d.0 ≤ 65535)) (sym (same_dev_of w x)) old.number;
            rises = subst (All (λ (e : DeviceDef). e.dev.0 < (change w x).dev.0)) (sym (take-map (change w) i b.devices))
                (all_changed w (change w x).dev.0 (take i b.devices) (subst (λ (d : DevNo). All (λ (e : DeviceDef). e.dev.0 < d.0) (take i b.devices))
                (sym (same_dev_of w x)) old.rises));
            line = ap (λ (l : LineNo). list_any (λ (row : LineRow). row.line.0 == l.0) b.lines) (same_line_of w x) ∙ old.line;
            thread = ap (λ (d : DevNo). fits_wakes (list_any (answers_wake d) (b.told ++ rows)) (change w x).kind) (same_dev_of w x)
                ∙ thread_of w is x old.thread (same_dev dev x.dev) refl;
          })

  line_kept : (w : Bool) (earlier : List LineRow) (x : LineRow) → IsLineAfter b earlier x → IsLineAfter (after w) earlier x
  line_kept w earlier x l = record { number = l.number; rises = l.rises; domain = l.domain; unlazy = l.unlazy; mask = l.mask }

  call_kept : (w : Bool) (earlier : List ScriptCall) (x : ScriptCall) → IsCallAfter b earlier x → IsCallAfter (after w) earlier x
  call_kept w earlier x k = record {
    driver = k.driver;
    in_order = k.in_order;
    line = k.line;
    device = fits_stay w x.line x.call k.device;
    owner = k.owner;
  }

  actor_kept : (w : Bool) (a : Actor) → IsActorOf b a → IsActorOf (after w) a
  actor_kept w (actors.Thread d) p = stays is_threaded (λ x t q. refl) w d p
  actor_kept w (actors.Cpu cpu) p = p
  actor_kept w (actors.Driver r) p = p

  runs_kept : (w : Bool) → AreRuns (devices_by w) b.runs
  runs_kept w = record {
    few = h.runs.few;
    short = h.runs.short;
    allowed = all_from (λ (r : RunCall). is_allowed_run b.runs r (find_device b.devices r.dev) ≡ true)
        (λ (r : RunCall). is_allowed_run b.runs r (find_device (devices_by w) r.dev) ≡ true)
        (λ r. stays (is_allowed_run b.runs r) (run_on b.runs r) w r.dev) b.runs h.runs.allowed;
    fit = all_from (λ (r : RunCall). fits_line b.devices r.line r.call ≡ true) (λ (r : RunCall). fits_line (devices_by w) r.line r.call ≡ true)
        (λ r. fits_stay w r.line r.call) b.runs h.runs.fit;
  }

  answers_kept : (w : Bool) → length b.told + length rows ≤ 65536 → count_of (λ (r : ToldRow). same_dev dev r.dev) b.told + length rows ≤ 4096
      → All (λ (r : ToldRow). is_allowed_answer r (find_device b.devices r.dev) ≡ true) rows → AreAnswers (devices_by w) (b.told ++ rows)
  answers_kept w few room allowed =
      let Allowed : ToldRow → Type 0 = λ r. is_allowed_answer r (find_device b.devices r.dev) ≡ true in
      record {
        few = omega (arith, few, length-append b.told rows);
        short = few_of dev b.told rows of room h.told.short;
        allowed = all_from Allowed (λ (r : ToldRow). is_allowed_answer r (find_device (devices_by w) r.dev) ≡ true)
            (λ r. stays (is_allowed_answer r) (answer_on r) w r.dev) (b.told ++ rows) (All-append Allowed b.told rows h.told.allowed allowed);
      }

  grows_by : (w : Bool) → wakes ≡ w → length b.told + length rows ≤ 65536 → count_of (λ (r : ToldRow). same_dev dev r.dev) b.told + length rows ≤ 4096
      → All (λ (r : ToldRow). is_allowed_answer r (find_device b.devices r.dev) ≡ true) rows → IsBoard (after w)
  grows_by w is few room allowed = record {
    some_cpu = h.some_cpu;
    few_cpus = h.few_cpus;
    small_window = h.small_window;
    limit = h.limit;
    some_log = h.some_log;
    small_log = h.small_log;
    few_domains = h.few_domains;
    few_lines = h.few_lines;
    few_devices = subst (λ (xs : List DeviceDef). length xs ≤ 256) (sym (changed w))
        (subst (λ n. n ≤ 256) (sym (length-map b.devices (change w))) h.few_devices);
    few_drivers = h.few_drivers;
    few_calls = h.few_calls;
    few_picks = h.few_picks;
    entries = h.entries;
    domains = h.domains;
    lines = each_from (IsLineAfter b) (IsLineAfter (after w)) (line_kept w) b.lines h.lines;
    devices = subst (EachAfter (IsDeviceAfter (after w))) (sym (changed w)) (device_changed w is);
    told = answers_kept w few room allowed;
    runs = runs_kept w;
    drivers = h.drivers;
    calls = each_from (IsCallAfter b) (IsCallAfter (after w)) (call_kept w) b.calls h.calls;
    picks = all_from (IsActorOf b) (IsActorOf (after w)) (actor_kept w) b.picks h.picks;
  }

-- the board keeps its rules, if there is room for the answers and the device may give each
pub grows_answers : (b : BoardSeen) (dev : DevNo) (rows : List ToldRow) → IsBoard b → All (λ (r : ToldRow). r.dev ≡ dev) rows
    → is_told_one (find_device b.devices dev) ≡ true
    → length b.told + length rows ≤ 65536 → count_of (λ (r : ToldRow). same_dev dev r.dev) b.told + length rows ≤ 4096
    → All (λ (r : ToldRow). is_allowed_answer r (find_device b.devices r.dev) ≡ true) rows → IsBoard (with_answers dev rows b)
grows_answers b dev rows h of told few room allowed = grows_by b h dev rows of told (list_any (answers_wake dev) rows) refl few room allowed
