-- What a board says of runs and answers are valid scripts and answers of each of its lines.
use Rattle.std.proofs.Common.{◌≡◌, ℕ, zero, suc, ◌+◌, ◌≤◌, ◌==◌, Bool, true, false, cond, ◌&&◌, ◌||◌, not, Option, Some, None}
use Rattle.std.proofs.Common.{List, [], ◌∷◌, length, filter, map, All, refl, sym, ap, subst, ◌∙◌, arith}
use Rattle.std.specs.List.{slice_get, list_any}
use Rattle.std.proofs.Math.ListN.{length-map}
use Rattle.std.proofs.lemmas.Bool.Decides.{nat_tests}
use Rattle.std.proofs.lemmas.List.Elements.{All-head, All-tail, All-nil, All-cons}
use Rattle.irq_base.specs.declared.calls.Call.{Call}
use Rattle.irq_base.specs.declared.calls.Call.TheVariants as calls
use Rattle.irq_base.specs.declared.devices.DeviceDef.{DeviceDef}
use Rattle.irq_base.specs.declared.devices.Kind.{Kind}
use Rattle.irq_base.specs.declared.devices.Kind.TheVariants as kinds
use Rattle.irq_base.specs.declared.devices.Part.{Part}
use Rattle.irq_base.specs.declared.devices.Part.TheVariants as parts
use Rattle.irq_base.specs.declared.devices.ToldAnswer.{ToldAnswer}
use Rattle.irq_base.specs.declared.lines.LineDef.{LineDef}
use Rattle.irq_base.specs.declared.numbers.DevNo.{DevNo}
use Rattle.irq_base.specs.declared.numbers.DriverNo.{DriverNo}
use Rattle.irq_base.specs.declared.numbers.LineNo.{LineNo}
use Rattle.irq_model.specs.Kinds.{same_dev}
use Rattle.irq_model.specs.Lines.{has_device, kind_in, kind_of, same_part, script_in, told_in}
use Rattle.irq_model.specs.Places.{count_of}
use Rattle.irq_model.specs.RunBounds.{arms_this, is_wake_word, wakes_by_handler}
use Rattle.irq_model.specs.ValidRuns.{HasValidRuns, WakesWhatItHas, names_own_device, has_script, is_told, may_stand, may_answer}
use Rattle.board_def.specs.LineOf.{line_of_row, with_driver}
use Rattle.board_def.specs.Rules.{IsBoard, find_device, is_on_line, fits_line}
use Rattle.board_def.specs.Runs.{of_run, of_told, is_call_of, may_call, wakes_by_call}
use Rattle.board_def.specs.Runs.{is_allowed_run, is_allowed_answer, answers_wake, fits_wakes}
use Rattle.board_def.specs.Seen.{BoardSeen}
use Rattle.board_def.specs.declared.rows.LineRow.{LineRow}
use Rattle.board_def.specs.declared.rows.RunCall.{RunCall}
use Rattle.board_def.specs.declared.rows.ScriptCall.{ScriptCall}
use Rattle.board_def.specs.declared.rows.ToldRow.{ToldRow}
use Rattle.board_def.proofs.Kept.{all_kept, kept_fewer}
use Rattle.board_def.proofs.Rising.{Rises, device_at}
use Rattle.board_def.proofs.Threads.{same_device}
use Rattle.board_def.proofs.Validity.{among, same_line}

-- ---- counts

step : (t : Bool) (n m : ℕ) → n ≤ m → cond t (n + 1) n ≤ cond t (m + 1) m
step true n m h = omega (arith, h)
step false n m h = h

skipped : (t : Bool) (n m : ℕ) → n ≤ m → n ≤ cond t (m + 1) m
skipped true n m h = omega (arith, h)
skipped false n m h = h

count_kept : {A : Type 0} (test keep : A → Bool) (xs : List A) → count_of test (filter keep xs) ≤ count_of test xs
count_kept test keep [] = omega arith
count_kept test keep (x ∷ xs) = by (keep x) (count_kept test keep xs)
  where
    by : (k : Bool) → count_of test (filter keep xs) ≤ count_of test xs
        → count_of test (cond k (x ∷ filter keep xs) (filter keep xs)) ≤ cond (test x) (count_of test xs + 1) (count_of test xs)
    by true rest = step (test x) (count_of test (filter keep xs)) (count_of test xs) rest
    by false rest = skipped (test x) (count_of test (filter keep xs)) (count_of test xs) rest

-- a script is as long as its calls are many
script_count : (d : DevNo) (part : Part) (runs : List RunCall) → length (script_in (map of_run runs) d part) ≡ count_of (is_call_of d part) runs
script_count d part [] = refl
script_count d part (r ∷ rs) = by (is_call_of d part r) (script_count d part rs)
  where
    by : (t : Bool) → length (script_in (map of_run rs) d part) ≡ count_of (is_call_of d part) rs
        → length (cond t (r.call ∷ script_in (map of_run rs) d part) (script_in (map of_run rs) d part))
        ≡ cond t (count_of (is_call_of d part) rs + 1) (count_of (is_call_of d part) rs)
    by true rest = omega (arith, rest)
    by false rest = rest

-- and the answers of both parts are those of the device
answers_count : (d : DevNo) (told : List ToldRow)
    → length (told_in (map of_told told) d parts.Primary) + length (told_in (map of_told told) d parts.Thread)
    ≡ count_of (λ (r : ToldRow). same_dev d r.dev) told
answers_count d [] = refl
answers_count d (r ∷ rs) = by (same_dev d r.dev) r.part (answers_count d rs)
  where
    one : Part → List ToldAnswer
    one part = told_in (map of_told rs) d part

    by : (t : Bool) (p : Part) → length (one parts.Primary) + length (one parts.Thread) ≡ count_of (λ (r : ToldRow). same_dev d r.dev) rs
        → length (cond (t && same_part parts.Primary p) (r.answer ∷ one parts.Primary) (one parts.Primary))
        + length (cond (t && same_part parts.Thread p) (r.answer ∷ one parts.Thread) (one parts.Thread))
        ≡ cond t (count_of (λ (r : ToldRow). same_dev d r.dev) rs + 1) (count_of (λ (r : ToldRow). same_dev d r.dev) rs)
    by true parts.Primary rest = omega (arith, rest)
    by true parts.Thread rest = omega (arith, rest)
    by false p rest = rest

-- ---- the device of a line

-- what is allowed of the device that is found, taken apart
on_its_line : (l m : Bool) → (l && m) ≡ true → (l ≡ true) × (m ≡ true)
on_its_line true true h = (refl, refl)
on_its_line true false h = absurd cc
on_its_line false m h = absurd cc

-- the kind of a device on the line, by the line's devices
kind_found : (line : LineNo) (d : DevNo) (xs : List DeviceDef) (x : DeviceDef) → find_device xs d ≡ Some x → (x.line.0 == line.0) ≡ true
    → kind_in (filter (λ y. y.line.0 == line.0) xs) d ≡ x.kind
kind_found line d [] x found own = absurd cc
kind_found line d (y ∷ ys) x found own = by (same_dev d y.dev) refl (y.line.0 == line.0) refl found (λ f. kind_found line d ys x f own)
  where
    kept : List DeviceDef
    kept = filter (λ z. z.line.0 == line.0) ys

    by : (b : Bool) → same_dev d y.dev ≡ b → (k : Bool) → (y.line.0 == line.0) ≡ k → cond b (Some y) (find_device ys d) ≡ Some x
        → (find_device ys d ≡ Some x → kind_in kept d ≡ x.kind) → kind_in (cond k (y ∷ kept) kept) d ≡ x.kind
    by true is true on found rest =
        let same : y ≡ x = cc in
        ap (λ b. cond b y.kind (kind_in kept d)) is ∙ ap (λ (z : DeviceDef). z.kind) same
    by true is false off found rest =
        let same : y ≡ x = cc in
        absurd (let no : false ≡ true = sym off ∙ (ap (λ (z : DeviceDef). z.line.0 == line.0) same ∙ own) in cc)
    by false is true on found rest = ap (λ b. cond b y.kind (kind_in kept d)) is ∙ rest found
    by false is false off found rest = rest found

-- a told device of the line is one of the board
record ToldAt (line : LineNo) (d : DevNo) (xs : List DeviceDef) (threaded : Bool) : Type 0 where
  place : ℕ
  x : DeviceDef
  at : slice_get xs place ≡ Some x
  own : same_dev d x.dev ≡ true
  on : (x.line.0 == line.0) ≡ true
  kind : x.kind ≡ kinds.Told threaded

told_at : (line : LineNo) (d : DevNo) (xs : List DeviceDef) (t : Bool) → kind_in (filter (λ y. y.line.0 == line.0) xs) d ≡ kinds.Told t → ToldAt line d xs t
told_at line d [] t h = absurd cc
told_at line d (y ∷ ys) t h = by (y.line.0 == line.0) refl h (told_at line d ys t)
  where
    kept : List DeviceDef
    kept = filter (λ z. z.line.0 == line.0) ys

    later : ToldAt line d ys t → ToldAt line d (y ∷ ys) t
    later f = record { place = suc f.place; x = f.x; at = f.at; own = f.own; on = f.on; kind = f.kind }

    here : (b : Bool) → same_dev d y.dev ≡ b → (y.line.0 == line.0) ≡ true → cond b y.kind (kind_in kept d) ≡ kinds.Told t
        → (kind_in kept d ≡ kinds.Told t → ToldAt line d ys t) → ToldAt line d (y ∷ ys) t
    here true own on is rest = record { place = zero; x = y; at = refl; own = own; on = on; kind = is }
    here false other on is rest = later (rest is)

    by : (k : Bool) → (y.line.0 == line.0) ≡ k → kind_in (cond k (y ∷ kept) kept) d ≡ kinds.Told t
        → (kind_in kept d ≡ kinds.Told t → ToldAt line d ys t) → ToldAt line d (y ∷ ys) t
    by true on is rest = here (same_dev d y.dev) refl on is rest
    by false off is rest = later (rest is)

-- ---- rows

-- what a call of a run is in a line's definition
record IsOfRun (def : LineDef) (c : DevNo × Part × Call) : Type 0 where
  device : has_device def c.0 ≡ true
  script : has_script (kind_of def c.0) c.1 ≡ true
  stands : may_stand (kind_of def c.0) c.1 c.0 c.2 ≡ true

module _ (b : BoardSeen) (h : IsBoard b) (row : LineRow) where
  abbrev def : LineDef
  def = line_of_row b row

  abbrev keep_run : RunCall → Bool
  keep_run r = r.line.0 == row.line.0

  abbrev keep_told : ToldRow → Bool
  keep_told r = r.line.0 == row.line.0

  on_line : (l m : LineNo) → (l.0 == m.0) ≡ true → (m.0 == row.line.0) ≡ true → (l.0 == row.line.0) ≡ true
  on_line l m e f = grind (arith, nat_tests)

  run_of : (r : RunCall) (o : Option DeviceDef) → find_device b.devices r.dev ≡ o → is_allowed_run b.runs r o ≡ true
      → keep_run r ≡ true → IsOfRun def (of_run r)
  run_of r None found allowed kept = absurd cc
  run_of r (Some x) found allowed kept =
      let first = on_its_line (x.line.0 == r.line.0) _ allowed in
      let second = on_its_line (may_call x.kind r.part r.dev r.call) _ first.1 in
      let third = on_its_line (has_script x.kind r.part) _ second.0 in
      let own : (x.line.0 == row.line.0) ≡ true = on_line x.line r.line first.0 kept in
      let kind : kind_of def r.dev ≡ x.kind = kind_found row.line r.dev b.devices x found own in
      record {
        device = among row.line r.dev b.devices (ap (is_on_line row.line) found ∙ own);
        script = ap (λ k. has_script k r.part) kind ∙ third.0;
        stands = ap (λ k. may_stand k r.part r.dev r.call) kind ∙ third.1;
      }

  answer_of : (r : ToldRow) (o : Option DeviceDef) → find_device b.devices r.dev ≡ o → is_allowed_answer r o ≡ true → keep_told r ≡ true
      → may_answer (kind_of def r.dev) r.part r.answer ≡ true
  answer_of r None found allowed kept = absurd cc
  answer_of r (Some x) found allowed kept =
      let first = on_its_line (x.line.0 == r.line.0) _ allowed in
      let own : (x.line.0 == row.line.0) ≡ true = on_line x.line r.line first.0 kept in
      ap (λ k. may_answer k r.part r.answer) (kind_found row.line r.dev b.devices x found own) ∙ first.1

  named_on : (call : Call) → fits_line b.devices row.line call ≡ true → names_own_device def call ≡ true
  named_on (calls.Wake d) fits = among row.line d b.devices fits
  named_on (calls.Quiet d) fits = among row.line d b.devices fits
  named_on (calls.Arm d) fits = among row.line d b.devices fits
  named_on (calls.Serve d) fits = among row.line d b.devices fits
  named_on (calls.Free d) fits = among row.line d b.devices fits
  named_on (calls.Ask d) fits = refl
  named_on (calls.Request d flags) fits = refl
  named_on calls.Disable fits = refl
  named_on calls.DisableNosync fits = refl
  named_on calls.Enable fits = refl
  named_on calls.Sync fits = refl
  named_on (calls.Affinity mask) fits = refl
  named_on (calls.Moment at) fits = refl
  named_on calls.SyncHard fits = refl
  named_on calls.DisableHard fits = refl

  moved : (line : LineNo) (call : Call) → (line.0 == row.line.0) ≡ true → fits_line b.devices line call ≡ true → names_own_device def call ≡ true
  moved line call kept fits = named_on call (subst (λ (l : LineNo). fits_line b.devices l call ≡ true) (same_line line row.line kept) fits)

  each_item : {A : Type 0} (P : A → Type 0) (xs : List A) → All P xs → (i : ℕ) (x : A) → slice_get xs i ≡ Some x → P x
  each_item P [] all i x at = absurd cc
  each_item P (y ∷ ys) all zero x at = let same : y ≡ x = cc in subst P same (All-head P y ys all)
  each_item P (y ∷ ys) all (suc i) x at = each_item P ys (All-tail P y ys all) i x at

  all_runs : All (IsOfRun def) def.runs
  all_runs = all_kept keep_run of_run (λ (r : RunCall). is_allowed_run b.runs r (find_device b.devices r.dev) ≡ true) (IsOfRun def)
      (λ r allowed kept. run_of r (find_device b.devices r.dev) refl allowed kept) b.runs
      (each_item (λ (r : RunCall). is_allowed_run b.runs r (find_device b.devices r.dev) ≡ true) b.runs h.runs.allowed)

  -- ---- a told device that a handler wakes by a call doesn't arm

  any_kept : {A B : Type 0} (test : B → Bool) (f : A → B) (keep : A → Bool) (xs : List A) → list_any test (map f (filter keep xs)) ≡ true
      → list_any (λ x. test (f x)) xs ≡ true
  any_kept test f keep [] is = absurd cc
  any_kept {A} {B} test f keep (x ∷ xs) is = by (keep x) (test (f x)) refl is (any_kept test f keep xs)
    where
      by : (k t : Bool) → test (f x) ≡ t → list_any test (map f (cond k (x ∷ filter keep xs) (filter keep xs))) ≡ true
          → (list_any test (map f (filter keep xs)) ≡ true → list_any (λ x. test (f x)) xs ≡ true)
          → (t || list_any (λ x. test (f x)) xs) ≡ true
      by k true e is rest = refl
      by true false e is rest = rest (sym (ap (λ t. t || list_any test (map f (filter keep xs))) e) ∙ is)
      by false false e is rest = rest is

  -- a call of the thread of such a device
  no_arm : (d : DevNo) (r : RunCall) (o : Option DeviceDef) → find_device b.devices r.dev ≡ o → is_allowed_run b.runs r o ≡ true → keep_run r ≡ true
      → is_told (kind_of def d) ≡ true → list_any (wakes_by_call d) b.runs ≡ true → is_call_of d parts.Thread r ≡ true → arms_this d r.call ≡ false
  no_arm d r None found allowed kept told woken own = absurd cc
  no_arm d r (Some x) found allowed kept told woken own =
      let same : d ≡ r.dev = same_device d r.dev (on_its_line (same_dev d r.dev) (same_part parts.Thread r.part) own).0 in
      let first = on_its_line (x.line.0 == r.line.0) _ allowed in
      let second = on_its_line (may_call x.kind r.part r.dev r.call) _ first.1 in
      let on : (x.line.0 == row.line.0) ≡ true = on_line x.line r.line first.0 kept in
      let kind : is_told x.kind ≡ true = sym (ap is_told (kind_found row.line r.dev b.devices x found on))
      ∙ (ap (λ (e : DevNo). is_told (kind_of def e)) (sym same) ∙ told) in
      let woken_so : list_any (wakes_by_call r.dev) b.runs ≡ true = ap (λ (e : DevNo). list_any (wakes_by_call e) b.runs) (sym same) ∙ woken in
      let own_so : is_call_of r.dev parts.Thread r ≡ true = ap (λ (e : DevNo). is_call_of e parts.Thread r) (sym same) ∙ own in
      ap (λ (e : DevNo). arms_this e r.call) same
      ∙ taken (is_told x.kind) (is_call_of r.dev parts.Thread r) (arms_this r.dev r.call) (list_any (wakes_by_call r.dev) b.runs) kind own_so woken_so second.1
    where
      taken : (t c a w : Bool) → t ≡ true → c ≡ true → w ≡ true → not (t && ((c && a) && w)) ≡ true → a ≡ false
      taken true true true true e f g h = absurd cc
      taken true true false true e f g h = refl
      taken false c a w e f g h = absurd cc
      taken true false a w e f g h = absurd cc
      taken true true a false e f g h = absurd cc

  none_armed : (d : DevNo) → is_told (kind_of def d) ≡ true → list_any (wakes_by_call d) b.runs ≡ true → (rs : List RunCall)
      → All (λ (r : RunCall). is_allowed_run b.runs r (find_device b.devices r.dev) ≡ true) rs
      → list_any (arms_this d) (script_in (map of_run (filter keep_run rs)) d parts.Thread) ≡ false
  none_armed d told woken [] all = refl
  none_armed d told woken (r ∷ rs) all =
      let Allowed : RunCall → Type 0 = λ r. is_allowed_run b.runs r (find_device b.devices r.dev) ≡ true in
      by (keep_run r) refl (is_call_of d parts.Thread r) refl (All-head Allowed r rs all) (none_armed d told woken rs (All-tail Allowed r rs all))
    where
      rest_of : List Call
      rest_of = script_in (map of_run (filter keep_run rs)) d parts.Thread

      by : (k : Bool) → keep_run r ≡ k → (c : Bool) → is_call_of d parts.Thread r ≡ c → is_allowed_run b.runs r (find_device b.devices r.dev) ≡ true
          → list_any (arms_this d) rest_of ≡ false
          → list_any (arms_this d) (script_in (map of_run (cond k (r ∷ filter keep_run rs) (filter keep_run rs))) d parts.Thread) ≡ false
      by false is c own allowed rest = rest
      by true is true own allowed rest =
          ap (λ t. list_any (arms_this d) (cond t (r.call ∷ rest_of) rest_of)) own
          ∙ (ap (λ t. t || list_any (arms_this d) rest_of) (no_arm d r (find_device b.devices r.dev) refl allowed is told woken own) ∙ rest)
      by true is false own allowed rest = ap (λ t. list_any (arms_this d) (cond t (r.call ∷ rest_of) rest_of)) own ∙ rest

  -- ---- threads

  -- the answers that wake, of the line and of the board
  wakes_kept : (d : DevNo) (x : DeviceDef) → find_device b.devices d ≡ Some x → (x.line.0 == row.line.0) ≡ true → (rs : List ToldRow)
      → All (λ (r : ToldRow). is_allowed_answer r (find_device b.devices r.dev) ≡ true) rs
      → list_any is_wake_word (told_in (map of_told (filter keep_told rs)) d parts.Primary) ≡ list_any (answers_wake d) rs
  wakes_kept d x found on [] all = refl
  wakes_kept d x found on (r ∷ rs) all =
      let Allowed : ToldRow → Type 0 = λ r. is_allowed_answer r (find_device b.devices r.dev) ≡ true in
      by (same_dev d r.dev && same_part parts.Primary r.part) refl (keep_told r) refl (All-head Allowed r rs all)
      (wakes_kept d x found on rs (All-tail Allowed r rs all))
    where
      rest_of : List ToldAnswer
      rest_of = told_in (map of_told (filter keep_told rs)) d parts.Primary

      its_line : same_dev d r.dev ≡ true → is_allowed_answer r (find_device b.devices r.dev) ≡ true → keep_told r ≡ true
      its_line own allowed =
          let same : d ≡ r.dev = same_device d r.dev own in
          let there : find_device b.devices r.dev ≡ Some x = ap (find_device b.devices) (sym same) ∙ found in
          let first = on_its_line (x.line.0 == r.line.0) (may_answer x.kind r.part r.answer) (ap (is_allowed_answer r) (sym there) ∙ allowed) in
          ap (λ (l : LineNo). l.0 == row.line.0) (sym (same_line x.line r.line first.0)) ∙ on

      by : (c : Bool) → (same_dev d r.dev && same_part parts.Primary r.part) ≡ c → (k : Bool) → keep_told r ≡ k
          → is_allowed_answer r (find_device b.devices r.dev) ≡ true → list_any is_wake_word rest_of ≡ list_any (answers_wake d) rs
          → list_any is_wake_word (told_in (map of_told (cond k (r ∷ filter keep_told rs) (filter keep_told rs))) d parts.Primary)
          ≡ ((c && is_wake_word r.answer) || list_any (answers_wake d) rs)
      by true own true kept allowed rest =
          ap (λ t. list_any is_wake_word (cond t (r.answer ∷ rest_of) rest_of)) own ∙ ap (λ t. is_wake_word r.answer || t) rest
      by false other true kept allowed rest = ap (λ t. list_any is_wake_word (cond t (r.answer ∷ rest_of) rest_of)) other ∙ rest
      by false other false off allowed rest = rest
      by true own false off allowed rest =
          absurd (let no : false ≡ true = sym off ∙ its_line (on_its_line (same_dev d r.dev) (same_part parts.Primary r.part) own).0 allowed in cc)

  its_thread : (d : DevNo) (k : Kind) → kind_of def d ≡ k → WakesWhatItHas def k d
  its_thread d (kinds.Told t) is =
      let f = told_at row.line d b.devices t is in
      let rises : Rises (λ (x : DeviceDef). x.dev.0) b.devices = λ i x at. (h.devices i x at).rises in
      let same : d ≡ f.x.dev = same_device d f.x.dev f.own in
      let found : find_device b.devices d ≡ Some f.x = ap (find_device b.devices) same ∙ device_at b.devices f.place f.x rises f.at in
      let fits : fits_wakes (list_any (answers_wake d) b.told) (kinds.Told t) ≡ true
      = ap (λ (e : DevNo). fits_wakes (list_any (answers_wake e) b.told) (kinds.Told t)) same
      ∙ (ap (fits_wakes (list_any (answers_wake f.x.dev) b.told)) (sym f.kind) ∙ (h.devices f.place f.x f.at).thread) in
      wakes_kept d f.x found f.on b.told h.told.allowed ∙ threads t (list_any (answers_wake d) b.told) fits
    where
      threads : (t w : Bool) → fits_wakes w (kinds.Told t) ≡ true → w ≡ t
      threads true w e = e
      threads false true e = absurd cc
      threads false false e = refl
  its_thread d kinds.Direct is = tt
  its_thread d kinds.Check is = tt
  its_thread d kinds.Null is = tt
  its_thread d kinds.Stuck is = tt
  its_thread d kinds.Odd is = tt

  pub valid_runs : HasValidRuns def
  valid_runs = record {
    few_calls = omega (arith, length-map (filter keep_run b.runs) of_run, kept_fewer keep_run b.runs, h.runs.few);
    short_scripts = λ d part. omega (
      arith,
      script_count d part (filter keep_run b.runs),
      count_kept (is_call_of d part) keep_run b.runs,
      h.runs.short d part,
    );
    few_answers = omega (arith, length-map (filter keep_told b.told) of_told, kept_fewer keep_told b.told, h.told.few);
    short_answers = λ d. omega (
      arith,
      answers_count d (filter keep_told b.told),
      count_kept (λ (r : ToldRow). same_dev d r.dev) keep_told b.told,
      h.told.short d,
    );
    devices = λ k d within. (all_runs k d within).device;
    scripts = λ k d within. (all_runs k d within).script;
    stand = λ k d within. (all_runs k d within).stands;
    named = all_kept keep_run of_run (λ (r : RunCall). fits_line b.devices r.line r.call ≡ true) (λ (c : DevNo × Part × Call). names_own_device def c.2 ≡ true)
        (λ r fits kept. moved r.line r.call kept fits) b.runs (each_item (λ (r : RunCall). fits_line b.devices r.line r.call ≡ true) b.runs h.runs.fit);
    named_by_drivers = all_kept (λ (c : ScriptCall). c.line.0 == row.line.0) with_driver (λ (c : ScriptCall). fits_line b.devices c.line c.call ≡ true)
        (λ (c : DriverNo × Call). names_own_device def c.1 ≡ true) (λ c fits kept. moved c.line c.call kept fits) b.calls
        (λ i c at. (h.calls i c at).device);
    told_arms = λ d told woken. none_armed d told (any_kept (wakes_by_handler d) of_run keep_run b.runs woken) b.runs h.runs.allowed;
    answers = all_kept keep_told of_told (λ (r : ToldRow). is_allowed_answer r (find_device b.devices r.dev) ≡ true)
        (λ (c : DevNo × Part × ToldAnswer). may_answer (kind_of def c.0) c.1 c.2 ≡ true)
        (λ r allowed kept. answer_of r (find_device b.devices r.dev) refl allowed kept) b.told
        (each_item (λ (r : ToldRow). is_allowed_answer r (find_device b.devices r.dev) ≡ true) b.told h.told.allowed);
    threads = λ d. its_thread d (kind_of def d) refl;
  }

-- each definition of a board's lines
runs_from : (b : BoardSeen) → IsBoard b → (rows : List LineRow) → All HasValidRuns (map (line_of_row b) rows)
runs_from b h [] = All-nil HasValidRuns
runs_from b h (row ∷ rows) = All-cons HasValidRuns (line_of_row b row) (map (line_of_row b) rows) (valid_runs b h row) (runs_from b h rows)

pub all_valid_runs : (b : BoardSeen) (defs : List LineDef) → IsBoard b → defs ≡ map (line_of_row b) b.lines → All HasValidRuns defs
all_valid_runs b defs h are = subst (All HasValidRuns) (sym are) (runs_from b h b.lines)
