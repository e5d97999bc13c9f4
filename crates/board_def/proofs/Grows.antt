-- A board with one more row is a board, if the row meets its rule after the rows before it.
use Rattle.std.proofs.Common.{◌≡◌, ℕ, ◌+◌, ◌*◌, ◌<◌, ◌≤◌, ◌==◌, Bool, true, false, cond, ◌&&◌, ◌||◌, not}
use Rattle.std.proofs.Common.{IfSome, Option, Some, None, List, [], ◌∷◌, ◌++◌, length, take, All, refl, sym, ap, subst, ◌∙◌}
use Rattle.std.proofs.Common.{arith}
use Rattle.std.specs.List.{list_any}
use Rattle.std.proofs.lemmas.Bool.{or_left, and_parts}
use Rattle.std.proofs.lemmas.List.{length_push}
use Rattle.std.proofs.lemmas.List.Elements.{All-nil, All-cons, All-append}
use Rattle.std.proofs.lemmas.List.Folds.{list_any-append}
use Rattle.irq_base.specs.Cell.{is_edge_trigger}
use Rattle.irq_base.specs.declared.calls.Call.{Call}
use Rattle.irq_base.specs.declared.calls.Call.TheVariants as calls
use Rattle.irq_base.specs.declared.devices.DeviceDef.{DeviceDef}
use Rattle.irq_base.specs.declared.devices.Part.{Part}
use Rattle.irq_base.specs.declared.devices.Part.TheVariants as parts
use Rattle.irq_base.specs.declared.entries.Actor.{Actor}
use Rattle.irq_base.specs.declared.entries.Actor.TheVariants as actors
use Rattle.irq_base.specs.declared.numbers.DevNo.{DevNo}
use Rattle.irq_base.specs.declared.numbers.DriverNo.{DriverNo}
use Rattle.irq_base.specs.declared.numbers.LineNo.{LineNo}
use Rattle.irq_model.specs.Kinds.{same_dev}
use Rattle.irq_model.specs.Lines.{same_part}
use Rattle.irq_model.specs.Places.{count_of}
use Rattle.irq_model.specs.ValidRuns.{is_told}
use Rattle.domain_rules.specs.Levels.{root_kind, trigger_of_root, keeps}
use Rattle.domain_rules.specs.Domains.{EachAfter, IsDomainAfter}
use Rattle.board_def.specs.Rules.{IsBoard, IsDomainRowAfter, IsLineAfter, IsDeviceAfter, IsDriverAfter, IsCallAfter}
use Rattle.board_def.specs.Rules.{IsActorOf, has_line, has_driver, find_device, fits_line, is_on_line, is_threaded}
use Rattle.board_def.specs.Rules.{is_bad_unlazy, AreRuns, AreAnswers}
use Rattle.board_def.specs.Runs.{is_call_of, may_call, arms_itself, wakes_by_call, is_allowed_run, is_allowed_answer, is_told_one}
use Rattle.board_def.specs.Seen.{BoardSeen}
use Rattle.board_def.specs.Unnamed.{def_of, defs_of}
use Rattle.domain_rules.proofs.Ways.{kinds_stay}
use Rattle.board_def.proofs.Unnaming.{defs_allowed}
use Rattle.std.proofs.lemmas.List.{map-append, length-map}
use Rattle.board_def.specs.declared.rows.DomainRow.{DomainRow}
use Rattle.board_def.specs.declared.rows.LineRow.{LineRow}
use Rattle.board_def.specs.declared.rows.RunCall.{RunCall}
use Rattle.board_def.specs.declared.rows.ScriptCall.{ScriptCall}
use Rattle.board_def.specs.declared.rows.ToldRow.{ToldRow}
use Rattle.domain_rules.proofs.EachAfters.{each_more}
use Rattle.board_def.proofs.Threads.{same_device}

-- what one condition gives, each item
pub each_from : {A : Type 0} (P Q : List A → A → Type 0) → ((earlier : List A) (x : A) → P earlier x → Q earlier x)
    → (xs : List A) → EachAfter P xs → EachAfter Q xs
each_from P Q from xs each i x at = from (take i xs) x (each i x at)

pub all_from : {A : Type 0} (P Q : A → Type 0) → ((x : A) → P x → Q x) → (xs : List A) → All P xs → All Q xs
all_from P Q from xs all k d h = from _ (all k d h)

pub all_both : {A : Type 0} (P Q R : A → Type 0) → ((x : A) → P x → Q x → R x) → (xs : List A) → All P xs → All Q xs → All R xs
all_both P Q R from xs ps qs k d h = from _ (ps k d h) (qs k d h)

-- ---- what is declared stays so

any_stays : {A : Type 0} (test : A → Bool) (xs : List A) (x : A) → list_any test xs ≡ true → list_any test (xs ++ x ∷ []) ≡ true
any_stays test xs x h = list_any-append test xs (x ∷ []) ∙ or_left (list_any test xs) (list_any test (x ∷ [])) h

-- what is told of the device of a number
test_stays : (test : Option DeviceDef → Bool) → test None ≡ false → (dev : DevNo) (xs : List DeviceDef) (x : DeviceDef)
    → test (find_device xs dev) ≡ true → test (find_device (xs ++ x ∷ []) dev) ≡ true
test_stays test none dev [] x h = absurd cc
test_stays test none dev (y ∷ ys) x h = by (same_dev dev y.dev) h (test_stays test none dev ys x)
  where
    by : (t : Bool) → test (cond t (Some y) (find_device ys dev)) ≡ true
        → (test (find_device ys dev) ≡ true → test (find_device (ys ++ x ∷ []) dev) ≡ true)
        → test (cond t (Some y) (find_device (ys ++ x ∷ []) dev)) ≡ true
    by true h rest = h
    by false h rest = rest h

fits_stays : (line : LineNo) (xs : List DeviceDef) (x : DeviceDef) (call : Call) → fits_line xs line call ≡ true → fits_line (xs ++ x ∷ []) line call ≡ true
fits_stays line xs x (calls.Ask dev) h = test_stays (is_on_line line) refl dev xs x h
fits_stays line xs x (calls.Request dev flags) h = test_stays (is_on_line line) refl dev xs x h
fits_stays line xs x (calls.Free dev) h = test_stays (is_on_line line) refl dev xs x h
fits_stays line xs x (calls.Wake dev) h = test_stays (is_on_line line) refl dev xs x h
fits_stays line xs x (calls.Quiet dev) h = test_stays (is_on_line line) refl dev xs x h
fits_stays line xs x (calls.Arm dev) h = test_stays (is_on_line line) refl dev xs x h
fits_stays line xs x (calls.Serve dev) h = test_stays (is_on_line line) refl dev xs x h
fits_stays line xs x calls.SyncHard h = refl
fits_stays line xs x calls.DisableHard h = refl
fits_stays line xs x (calls.Moment at) h = refl
fits_stays line xs x calls.Disable h = refl
fits_stays line xs x calls.DisableNosync h = refl
fits_stays line xs x calls.Enable h = refl
fits_stays line xs x calls.Sync h = refl
fits_stays line xs x (calls.Affinity mask) h = refl

-- what runs call and what told devices answer stays allowed

runs_stay : (xs : List DeviceDef) (x : DeviceDef) (runs : List RunCall) → AreRuns xs runs → AreRuns (xs ++ x ∷ []) runs
runs_stay xs x runs h = record {
  few = h.few;
  short = h.short;
  allowed = all_from (λ (r : RunCall). is_allowed_run runs r (find_device xs r.dev) ≡ true)
      (λ (r : RunCall). is_allowed_run runs r (find_device (xs ++ x ∷ []) r.dev) ≡ true)
      (λ r. test_stays (is_allowed_run runs r) refl r.dev xs x) runs h.allowed;
  fit = all_from (λ (r : RunCall). fits_line xs r.line r.call ≡ true) (λ (r : RunCall). fits_line (xs ++ x ∷ []) r.line r.call ≡ true)
      (λ r. fits_stays r.line xs x r.call) runs h.fit;
}

answers_stay : (xs : List DeviceDef) (x : DeviceDef) (told : List ToldRow) → AreAnswers xs told → AreAnswers (xs ++ x ∷ []) told
answers_stay xs x told h = record {
  few = h.few;
  short = h.short;
  allowed = all_from (λ (r : ToldRow). is_allowed_answer r (find_device xs r.dev) ≡ true)
      (λ (r : ToldRow). is_allowed_answer r (find_device (xs ++ x ∷ []) r.dev) ≡ true)
      (λ r. test_stays (is_allowed_answer r) refl r.dev xs x) told h.allowed;
}

-- the levels from a declared domain stay

module _ (xs : List DomainRow) (x : DomainRow) where
  defs_more : defs_of (xs ++ x ∷ []) ≡ defs_of xs ++ def_of x ∷ []
  defs_more = map-append def_of xs (x ∷ [])

  unlazy_stays : (place : ℕ) (unlazy : Bool) → EachAfter IsDomainAfter (defs_of xs) → place < length xs
      → is_bad_unlazy (defs_of (xs ++ x ∷ [])) place unlazy ≡ is_bad_unlazy (defs_of xs) place unlazy
  unlazy_stays place unlazy each within =
      let declared : place < length (defs_of xs) = omega (arith, within, length-map xs def_of) in
      ap (λ defs. is_bad_unlazy defs place unlazy) defs_more
      ∙ ap (λ ks. unlazy && (is_edge_trigger (trigger_of_root (root_kind ks)) && not (keeps ks))) (kinds_stay (defs_of xs) (def_of x) place each declared)

-- ---- a list that got one more row, or none

abbrev grown : {A : Type 0} → List A → Option A → List A
grown xs (Some x) = xs ++ x ∷ []
grown xs None = xs

-- what holds of a list, and still does with one more, holds of the list that grew
still : {A : Type 0} (P : List A → Type 0) (xs : List A) (more : Option A) → ((x : A) → P xs → P (xs ++ x ∷ [])) → P xs → P (grown xs more)
still P xs (Some x) one p = one x p
still P xs None one p = p

-- there is room for the row, and it meets its rule after the rows before it
abbrev Fits : {A : Type 0} → ℕ → (List A → A → Type 0) → List A → Option A → Type 0
Fits most P xs more = IfSome more (λ x. (length xs < most) × P xs x)

module _ {A : Type 0} (most : ℕ) (P : List A → A → Type 0) (xs : List A) where
  few_grown : (more : Option A) → length xs ≤ most → Fits most P xs more → length (grown xs more) ≤ most
  few_grown (Some x) few fits = omega (arith, length_push xs x, fits.0)
  few_grown None few fits = few

  each_grown : (Q : List A → A → Type 0) (more : Option A) → ((earlier : List A) (x : A) → P earlier x → Q earlier x)
      → EachAfter P xs → Fits most P xs more → EachAfter Q (grown xs more)
  each_grown Q (Some x) from each fits = each_more Q xs x (each_from P Q from xs each) (from xs x fits.1)
  each_grown Q None from each fits = each_from P Q from xs each

-- ---- a board whose lists grew so, with other runs and other picks

module _ (b : BoardSeen) (h : IsBoard b) (domain : Option DomainRow) (line : Option LineRow) (device : Option DeviceDef)
    (driver : Option DriverNo) (call : Option ScriptCall) (runs : List RunCall) (picks : List Actor) where
  abbrev after : BoardSeen
  after = record b {
    domains = grown b.domains domain;
    lines = grown b.lines line;
    devices = grown b.devices device;
    drivers = grown b.drivers driver;
    calls = grown b.calls call;
    runs = runs;
    picks = picks;
  }

  -- what the rules look at stays declared

  line_declared : (l : LineNo) → has_line b.lines l ≡ true → has_line after.lines l ≡ true
  line_declared l = still (λ rows. has_line rows l ≡ true) b.lines line (any_stays (λ (row : LineRow). row.line.0 == l.0) b.lines)

  driver_declared : (r : DriverNo) → has_driver b.drivers r ≡ true → has_driver after.drivers r ≡ true
  driver_declared r = still (λ rs. has_driver rs r ≡ true) b.drivers driver (any_stays (λ (d : DriverNo). d.0 == r.0) b.drivers)

  -- so the rows before keep theirs

  line_kept : (earlier : List LineRow) (x : LineRow) → IsLineAfter b earlier x → IsLineAfter after earlier x
  line_kept earlier x l = record {
    number = l.number;
    rises = l.rises;
    domain = still (λ rows. x.domain < length rows) b.domains domain (λ row within. omega (arith, within, length_push b.domains row)) l.domain;
    unlazy = still (λ rows. is_bad_unlazy (defs_of rows) x.domain x.unlazy ≡ false) b.domains domain
        (λ row good. unlazy_stays b.domains row x.domain x.unlazy (defs_allowed b.domains h.domains) l.domain ∙ good) l.unlazy;
    mask = l.mask;
  }

  device_kept : (earlier : List DeviceDef) (x : DeviceDef) → IsDeviceAfter b earlier x → IsDeviceAfter after earlier x
  device_kept earlier x d = record { number = d.number; rises = d.rises; line = line_declared x.line d.line; thread = d.thread }

  call_kept : (earlier : List ScriptCall) (x : ScriptCall) → IsCallAfter b earlier x → IsCallAfter after earlier x
  call_kept earlier x k = record {
    driver = driver_declared x.driver k.driver;
    in_order = k.in_order;
    line = line_declared x.line k.line;
    device = still (λ ds. fits_line ds x.line x.call ≡ true) b.devices device (λ d. fits_stays x.line b.devices d x.call) k.device;
    owner = k.owner;
  }

  actor_kept : (a : Actor) → IsActorOf b a → IsActorOf after a
  actor_kept (actors.Thread dev) p =
      still (λ ds. is_threaded (find_device ds dev) ≡ true) b.devices device (test_stays is_threaded refl dev b.devices) p
  actor_kept (actors.Cpu cpu) p = p
  actor_kept (actors.Driver r) p = driver_declared r p

  -- the board keeps its rules, if each new row meets its own
  grows : Fits 32 IsDomainRowAfter b.domains domain → Fits 64 (IsLineAfter b) b.lines line → b.log * length after.lines ≤ 4000000
      → Fits 256 (IsDeviceAfter b) b.devices device → Fits 64 IsDriverAfter b.drivers driver → Fits 16384 (IsCallAfter b) b.calls call
      → AreRuns b.devices runs → length picks ≤ 65536 → All (IsActorOf b) picks → IsBoard after
  grows domain_fits line_fits entries device_fits driver_fits call_fits are_runs few_picks all_picks = record {
    some_cpu = h.some_cpu;
    few_cpus = h.few_cpus;
    small_window = h.small_window;
    limit = h.limit;
    some_log = h.some_log;
    small_log = h.small_log;
    few_domains = few_grown 32 IsDomainRowAfter b.domains domain h.few_domains domain_fits;
    few_lines = few_grown 64 (IsLineAfter b) b.lines line h.few_lines line_fits;
    few_devices = few_grown 256 (IsDeviceAfter b) b.devices device h.few_devices device_fits;
    few_drivers = few_grown 64 IsDriverAfter b.drivers driver h.few_drivers driver_fits;
    few_calls = few_grown 16384 (IsCallAfter b) b.calls call h.few_calls call_fits;
    few_picks = few_picks;
    entries = entries;
    domains = each_grown 32 IsDomainRowAfter b.domains IsDomainRowAfter domain (λ earlier x p. p) h.domains domain_fits;
    lines = each_grown 64 (IsLineAfter b) b.lines (IsLineAfter after) line line_kept h.lines line_fits;
    devices = each_grown 256 (IsDeviceAfter b) b.devices (IsDeviceAfter after) device device_kept h.devices device_fits;
    told = still (λ ds. AreAnswers ds b.told) b.devices device (λ x. answers_stay b.devices x b.told) h.told;
    runs = still (λ ds. AreRuns ds runs) b.devices device (λ x. runs_stay b.devices x runs) are_runs;
    drivers = each_grown 64 IsDriverAfter b.drivers IsDriverAfter driver (λ earlier x p. p) h.drivers driver_fits;
    calls = each_grown 16384 (IsCallAfter b) b.calls (IsCallAfter after) call call_kept h.calls call_fits;
    picks = all_from (IsActorOf b) (IsActorOf after) actor_kept picks all_picks;
  }

-- ---- one more of each kind, and none of the others

pub grows_domain : (b : BoardSeen) (row : DomainRow) → IsBoard b → length b.domains < 32
    → IsDomainRowAfter b.domains row → IsBoard (record b { domains = b.domains ++ row ∷ [] })
grows_domain b row h few here = grows b h (Some row) None None None None b.runs b.picks (few, here) tt h.entries tt tt tt h.runs h.few_picks h.picks

pub grows_line : (b : BoardSeen) (row : LineRow) → IsBoard b → length b.lines < 64
    → b.log * (length b.lines + 1) ≤ 4000000 → IsLineAfter b b.lines row
    → IsBoard (record b { lines = b.lines ++ row ∷ [] })
grows_line b row h few room here =
    let entries = subst (λ n. b.log * n ≤ 4000000) (sym (length_push b.lines row)) room in
    grows b h None (Some row) None None None b.runs b.picks tt (few, here) entries tt tt tt h.runs h.few_picks h.picks

pub grows_device : (b : BoardSeen) (device : DeviceDef) → IsBoard b → length b.devices < 256
    → IsDeviceAfter b b.devices device → IsBoard (record b { devices = b.devices ++ device ∷ [] })
grows_device b device h few here = grows b h None None (Some device) None None b.runs b.picks tt tt h.entries (few, here) tt tt h.runs h.few_picks h.picks

pub grows_driver : (b : BoardSeen) (driver : DriverNo) → IsBoard b → length b.drivers < 64
    → IsDriverAfter b.drivers driver → IsBoard (record b { drivers = b.drivers ++ driver ∷ [] })
grows_driver b driver h few here = grows b h None None None (Some driver) None b.runs b.picks tt tt h.entries tt (few, here) tt h.runs h.few_picks h.picks

pub grows_call : (b : BoardSeen) (call : ScriptCall) → IsBoard b → length b.calls < 16384 → IsCallAfter b b.calls call
    → IsBoard (record b { calls = b.calls ++ call ∷ [] })
grows_call b call h few here = grows b h None None None None (Some call) b.runs b.picks tt tt h.entries tt tt (few, here) h.runs h.few_picks h.picks

-- ---- one call of a run more

count_more : {A : Type 0} (test : A → Bool) (xs : List A) (x : A) → count_of test (xs ++ x ∷ []) ≡ count_of test xs + cond (test x) 1 0
count_more test [] x = by (test x)
  where
    by : (b : Bool) → cond b (0 + 1) 0 ≡ 0 + cond b 1 0
    by true = refl
    by false = refl
count_more test (y ∷ ys) x = by (test y) (test x) (count_more test ys x)
  where
    by : (b c : Bool) → count_of test (ys ++ x ∷ []) ≡ count_of test ys + cond c 1 0
        → cond b (count_of test (ys ++ x ∷ []) + 1) (count_of test (ys ++ x ∷ [])) ≡ cond b (count_of test ys + 1) (count_of test ys) + cond c 1 0
    by true true rest = omega (arith, rest)
    by true false rest = omega (arith, rest)
    by false true rest = omega (arith, rest)
    by false false rest = omega (arith, rest)

one_part : (p q : Part) → same_part p q ≡ true → p ≡ q
one_part parts.Primary parts.Primary h = refl
one_part parts.Primary parts.Thread h = absurd cc
one_part parts.Thread parts.Primary h = absurd cc
one_part parts.Thread parts.Thread h = refl

-- a script is as long as before, or has one call more than fifteen at most
short_more : (runs : List RunCall) (c : RunCall) → ((d : DevNo) (part : Part) → count_of (is_call_of d part) runs ≤ 16)
    → count_of (is_call_of c.dev c.part) runs < 16
    → (d : DevNo) (part : Part) → count_of (is_call_of d part) (runs ++ c ∷ []) ≤ 16
short_more runs c short room d part = by (is_call_of d part c) refl
  where
    by : (b : Bool) → is_call_of d part c ≡ b → count_of (is_call_of d part) (runs ++ c ∷ []) ≤ 16
    by true own =
        let both = and_parts (same_dev d c.dev) (same_part part c.part) own in
        let of_dev : count_of (is_call_of d c.part) runs < 16
        = subst (λ (e : DevNo). count_of (is_call_of e c.part) runs < 16) (sym (same_device d c.dev both.0)) room in
        let here : count_of (is_call_of d part) runs < 16
        = subst (λ (p : Part). count_of (is_call_of d p) runs < 16) (sym (one_part part c.part both.1)) of_dev in
        let more = count_more (is_call_of d part) runs c ∙ ap (λ b. count_of (is_call_of d part) runs + cond b 1 0) own in
        omega (arith, more, here)
    by false other =
        let more = count_more (is_call_of d part) runs c ∙ ap (λ b. count_of (is_call_of d part) runs + cond b 1 0) other in
        omega (arith, more, short d part)

-- the call doesn't wake the row's device, or that isn't told, or the row isn't an arm of its own
abbrev pub IsApart : List DeviceDef → RunCall → RunCall → Type 0
IsApart devices c r = (is_told_one (find_device devices r.dev) && (wakes_by_call r.dev c && arms_itself r.dev r)) ≡ false

-- the calls beside which the rows stand: one of them more
still_allowed : (runs : List RunCall) (c r : RunCall) (o : Option DeviceDef) → (is_told_one o && (wakes_by_call r.dev c && arms_itself r.dev r)) ≡ false
    → is_allowed_run runs r o ≡ true → is_allowed_run (runs ++ c ∷ []) r o ≡ true
still_allowed runs c r None apart h = absurd cc
still_allowed runs c r (Some x) apart h =
    let more : list_any (wakes_by_call r.dev) (runs ++ c ∷ []) ≡ (list_any (wakes_by_call r.dev) runs || (wakes_by_call r.dev c || false))
    = list_any-append (wakes_by_call r.dev) runs (c ∷ []) in
    ap (λ w. (x.line.0 == r.line.0) && (may_call x.kind r.part r.dev r.call && not (is_told x.kind && (arms_itself r.dev r && w)))) more
    ∙ kept (x.line.0 == r.line.0) (may_call x.kind r.part r.dev r.call) (is_told x.kind) (arms_itself r.dev r)
    (list_any (wakes_by_call r.dev) runs) (wakes_by_call r.dev c) apart h
  where
    kept : (l m t a w n : Bool) → (t && (n && a)) ≡ false → (l && (m && not (t && (a && w)))) ≡ true
        → (l && (m && not (t && (a && (w || (n || false)))))) ≡ true
    kept false m t a w n apart h = absurd cc
    kept true false t a w n apart h = absurd cc
    kept true true false a w n apart h = refl
    kept true true true false w n apart h = refl
    kept true true true true true n apart h = absurd cc
    kept true true true true false true apart h = absurd cc
    kept true true true true false false apart h = refl

pub grows_run : (b : BoardSeen) (c : RunCall) → IsBoard b → length b.runs < 256
    → count_of (is_call_of c.dev c.part) b.runs < 16
    → is_allowed_run b.runs c (find_device b.devices c.dev) ≡ true → fits_line b.devices c.line c.call ≡ true
    → All (IsApart b.devices c) (b.runs ++ c ∷ [])
    → IsBoard (record b { runs = b.runs ++ c ∷ [] })
grows_run b c h few short allowed fits apart =
    let Allowed : List RunCall → RunCall → Type 0 = λ runs r. is_allowed_run runs r (find_device b.devices r.dev) ≡ true in
    let Fits : RunCall → Type 0 = λ r. fits_line b.devices r.line r.call ≡ true in
    let before : All (Allowed b.runs) (b.runs ++ c ∷ []) = All-append (Allowed b.runs) b.runs (c ∷ []) h.runs.allowed
    (All-cons (Allowed b.runs) c [] allowed (All-nil (Allowed b.runs))) in
    grows b h None None None None None (b.runs ++ c ∷ []) b.picks tt tt h.entries tt tt tt
    (record {
      few = omega (arith, length_push b.runs c);
      short = short_more b.runs c h.runs.short short;
      allowed = all_both (IsApart b.devices c) (Allowed b.runs) (Allowed (b.runs ++ c ∷ []))
          (λ r free was. still_allowed b.runs c r (find_device b.devices r.dev) free was) (b.runs ++ c ∷ []) apart before;
      fit = All-append Fits b.runs (c ∷ []) h.runs.fit (All-cons Fits c [] fits (All-nil Fits));
    }) h.few_picks h.picks

-- ---- other picks

pub other_picks : (b : BoardSeen) (picks : List Actor) → IsBoard b → length picks ≤ 65536 → All (IsActorOf b) picks → IsBoard (record b { picks = picks })
other_picks b picks h few all = grows b h None None None None None b.runs picks tt tt h.entries tt tt tt h.runs few all

pub grows_pick : (b : BoardSeen) (pick : Actor) → IsBoard b → length b.picks < 65536 → IsActorOf b pick → IsBoard (record b { picks = b.picks ++ pick ∷ [] })
grows_pick b pick h few here =
    other_picks b (b.picks ++ pick ∷ []) h (omega (arith, length_push b.picks pick))
    (All-append (IsActorOf b) b.picks (pick ∷ []) h.picks (All-cons (IsActorOf b) pick [] here (All-nil (IsActorOf b))))
