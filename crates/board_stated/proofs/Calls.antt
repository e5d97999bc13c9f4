-- One more call meets its rule after those before it.
use Rattle.std.proofs.Common.{◌≡◌, ◌≤◌, Bool, true, false, not, ◌&&◌, ◌||◌, cond, IfSome, is_none, nat_le, Option, Some, None}
use Rattle.std.proofs.Common.{List, [], ◌∷◌, ◌++◌, length, refl, sym, ap, ◌∙◌, subst}
use Rattle.std.specs.List.{All, list_any}
use Rattle.std.proofs.lemmas.Bool.{eq-eqb, not-false, leb-false, or_parts}
use Rattle.std.proofs.lemmas.List.Elements.{All-head, All-tail, All-weaker, All-nil, All-cons, All-append}
use Rattle.irq_base.specs.declared.calls.Call.{Call}
use Rattle.irq_base.specs.declared.calls.Call.TheVariants as calls
use Rattle.irq_base.specs.declared.devices.DeviceDef.{DeviceDef}
use Rattle.irq_base.specs.declared.devices.Part.{Part}
use Rattle.irq_base.specs.declared.devices.Part.TheVariants as parts
use Rattle.irq_base.specs.declared.numbers.DevNo.{DevNo}
use Rattle.irq_model.specs.Kinds.{same_dev}
use Rattle.irq_model.specs.Places.{count_of}
use Rattle.irq_model.specs.RunBounds.{arms_this, wakes_by_handler}
use Rattle.domain_rules.specs.Domains.{EachAfter}
use Rattle.board_def.specs.Rules.{has_line, find_device, has_driver, is_on_line, fits_line, IsDeviceAfter, IsCallAfter, IsBoard}
use Rattle.board_def.specs.Runs.{is_call_of, arms_itself, wakes_by_call, is_allowed_run, is_told_one}
use Rattle.board_def.specs.Seen.{BoardSeen}
use Rattle.board_def.proofs.Grows.{IsApart, grows_run}
use Rattle.board_def.proofs.Threads.{same_device}
use Rattle.board_def.specs.declared.rows.LineRow.{LineRow}
use Rattle.board_def.specs.declared.rows.RunCall.{RunCall}
use Rattle.board_words.specs.declared.statements.CallWords.{CallWords}
use Rattle.board_words.specs.declared.statements.CallWords.TheVariants as words
use Rattle.board_words.specs.declared.statements.Statement.TheVariants as statements
use Rattle.board_stated.specs.FaultsAfter.{is_empty, names_nothing, has_bad_owner, wakes_what_arms, may_not_call, has_no_room_to_call}
use Rattle.board_stated.specs.Stated.{driver_writing, line_or_none, line_of_call, call_of_words, script_call, run_call}
use Rattle.board_stated.specs.declared.writers.Writer.TheVariants as writers
use Rattle.board_stated.proofs.Ascending.{each_alone}
use Rattle.board_stated.proofs.Drivers.{last_declared, last_greatest}

-- ---- the device that a call names

found : (P : DeviceDef → Type 0) (t : Bool) (x : DeviceDef) (o : Option DeviceDef) → P x → IfSome o P → IfSome (cond t (Some x) o) P
found P true x o first rest = first
found P false x o first rest = rest

-- what holds of each device holds of the one that is found
pub found_device : (P : DeviceDef → Type 0) (devices : List DeviceDef) (dev : DevNo) → All P devices → IfSome (find_device devices dev) P
found_device P [] dev all = tt
found_device P (x ∷ xs) dev all = found P (same_dev dev x.dev) x (find_device xs dev) (All-head P x xs all) (found_device P xs dev (All-tail P x xs all))

on_line : (lines : List LineRow) (o : Option DeviceDef) → is_none o ≡ false
    → IfSome o (λ x. has_line lines x.line ≡ true) → has_line lines (line_or_none o) ≡ true
on_line lines (Some x) some h = h
on_line lines None some h = absurd cc

is_of_line : (o : Option DeviceDef) → is_none o ≡ false → is_on_line (line_or_none o) o ≡ true
is_of_line (Some x) some = eq-eqb x.line.0 x.line.0 refl
is_of_line None some = absurd cc

-- ---- the parts of a new call's rule

pub devices_on_lines : (b : BoardSeen) → EachAfter (IsDeviceAfter b) b.devices → All (λ x. has_line b.lines x.line ≡ true) b.devices
devices_on_lines b each = each_alone (IsDeviceAfter b) (λ x. has_line b.lines x.line ≡ true) b.devices (λ earlier x p. p.line) each

line_declared : (b : BoardSeen) (c : CallWords) → EachAfter (IsDeviceAfter b) b.devices → names_nothing b c ≡ false
    → has_line b.lines (line_of_call b.devices c) ≡ true
line_declared b (words.Request dev flags twice) each h
    = on_line b.lines (find_device b.devices dev) h (found_device (λ x. has_line b.lines x.line ≡ true) b.devices dev
    (devices_on_lines b each))
line_declared b (words.Free dev) each h = on_line b.lines (find_device b.devices dev) h
    (found_device (λ x. has_line b.lines x.line ≡ true) b.devices dev (devices_on_lines b each))
line_declared b (words.Ask dev) each h = on_line b.lines (find_device b.devices dev) h
    (found_device (λ x. has_line b.lines x.line ≡ true) b.devices dev (devices_on_lines b each))
line_declared b (words.Disable line) each h = not-false (has_line b.lines line) h
line_declared b (words.DisableNosync line) each h = not-false (has_line b.lines line) h
line_declared b (words.Enable line) each h = not-false (has_line b.lines line) h
line_declared b (words.Sync line) each h = not-false (has_line b.lines line) h
line_declared b (words.Affinity line mask) each h = not-false (has_line b.lines line) h
line_declared b (words.Moment line at) each h = not-false (has_line b.lines line) h
line_declared b (words.SyncHard line) each h = not-false (has_line b.lines line) h
line_declared b (words.DisableHard line) each h = not-false (has_line b.lines line) h
line_declared b (words.Wake dev) each h = on_line b.lines (find_device b.devices dev) h
    (found_device (λ x. has_line b.lines x.line ≡ true) b.devices dev (devices_on_lines b each))
line_declared b (words.Quiet dev) each h = on_line b.lines (find_device b.devices dev) h
    (found_device (λ x. has_line b.lines x.line ≡ true) b.devices dev (devices_on_lines b each))
line_declared b (words.Arm dev) each h = on_line b.lines (find_device b.devices dev) h
    (found_device (λ x. has_line b.lines x.line ≡ true) b.devices dev (devices_on_lines b each))
line_declared b (words.Serve dev) each h = on_line b.lines (find_device b.devices dev) h
    (found_device (λ x. has_line b.lines x.line ≡ true) b.devices dev (devices_on_lines b each))

device_fits : (b : BoardSeen) (c : CallWords) → names_nothing b c ≡ false → fits_line b.devices (line_of_call b.devices c) (call_of_words c) ≡ true
device_fits b (words.Request dev flags twice) h = is_of_line (find_device b.devices dev) h
device_fits b (words.Free dev) h = is_of_line (find_device b.devices dev) h
device_fits b (words.Ask dev) h = is_of_line (find_device b.devices dev) h
device_fits b (words.Disable line) h = refl
device_fits b (words.DisableNosync line) h = refl
device_fits b (words.Enable line) h = refl
device_fits b (words.Sync line) h = refl
device_fits b (words.Affinity line mask) h = refl
device_fits b (words.Moment line at) h = refl
device_fits b (words.SyncHard line) h = refl
device_fits b (words.DisableHard line) h = refl
device_fits b (words.Wake dev) h = is_of_line (find_device b.devices dev) h
device_fits b (words.Quiet dev) h = is_of_line (find_device b.devices dev) h
device_fits b (words.Arm dev) h = is_of_line (find_device b.devices dev) h
device_fits b (words.Serve dev) h = is_of_line (find_device b.devices dev) h

-- the calls before are of drivers declared before
scripts_in_order : (b : BoardSeen) → IsBoard b → All (λ e. e.driver.0 ≤ (driver_writing b.drivers).0) b.calls
scripts_in_order b board =
    All-weaker (λ e. has_driver b.drivers e.driver ≡ true) (λ e. e.driver.0 ≤ (driver_writing b.drivers).0)
    (λ e is. last_greatest b.drivers e.driver board.drivers is) b.calls
    (each_alone (IsCallAfter b) (λ e. has_driver b.drivers e.driver ≡ true) b.calls (λ earlier e p. p.driver) board.calls)

-- ---- one more

pub call_after : (b : BoardSeen) (c : CallWords) → IsBoard b → is_empty b.drivers ≡ false → names_nothing b c ≡ false
    → has_bad_owner writers.Driver b (statements.Call c) ≡ false → IsCallAfter b b.calls (script_call b c)
call_after b c board some there owner = record {
  driver = last_declared b.drivers some;
  in_order = scripts_in_order b board;
  line = line_declared b c board.devices there;
  device = device_fits b c there;
  owner = owner;
}

-- ---- one more of the runs

is_wake_of : (dev : DevNo) (part : Part) (call : Call) (d : DevNo) → wakes_by_handler d (dev, part, call) ≡ true
    → (woken : DevNo) × (call ≡ calls.Wake woken) × (d ≡ woken)
is_wake_of dev parts.Primary (calls.Wake woken) d h = (woken, refl, same_device d woken h)
is_wake_of dev parts.Primary (calls.Ask x) d h = absurd cc
is_wake_of dev parts.Primary (calls.Request x flags) d h = absurd cc
is_wake_of dev parts.Primary (calls.Free x) d h = absurd cc
is_wake_of dev parts.Primary calls.Disable d h = absurd cc
is_wake_of dev parts.Primary calls.DisableNosync d h = absurd cc
is_wake_of dev parts.Primary calls.Enable d h = absurd cc
is_wake_of dev parts.Primary calls.Sync d h = absurd cc
is_wake_of dev parts.Primary (calls.Affinity mask) d h = absurd cc
is_wake_of dev parts.Primary (calls.Moment at) d h = absurd cc
is_wake_of dev parts.Primary calls.SyncHard d h = absurd cc
is_wake_of dev parts.Primary calls.DisableHard d h = absurd cc
is_wake_of dev parts.Primary (calls.Quiet x) d h = absurd cc
is_wake_of dev parts.Primary (calls.Arm x) d h = absurd cc
is_wake_of dev parts.Primary (calls.Serve x) d h = absurd cc
is_wake_of dev parts.Thread call d h = absurd cc

both_false : (t a b : Bool) → (t && (a || b)) ≡ false → ((t && a) ≡ false) × ((t && b) ≡ false)
both_false false a b h = (refl, refl)
both_false true false b h = (refl, h)
both_false true true b h = absurd cc

-- a row that isn't an arm of the device that the call wakes
apart_row : (devices : List DeviceDef) (c r : RunCall)
    → ((d : DevNo) → c.call ≡ calls.Wake d → (is_told_one (find_device devices d) && arms_itself d r) ≡ false) → IsApart devices c r
apart_row devices c r arms = by (wakes_by_call r.dev c) refl
  where
    turned : (t a : Bool) → (t && a) ≡ false → (t && (true && a)) ≡ false
    turned t a h = h

    never : (t a : Bool) → (t && (false && a)) ≡ false
    never true a = refl
    never false a = refl

    by : (w : Bool) → wakes_by_call r.dev c ≡ w → (is_told_one (find_device devices r.dev) && (w && arms_itself r.dev r)) ≡ false
    by false is = never (is_told_one (find_device devices r.dev)) (arms_itself r.dev r)
    by true is =
        let wake = is_wake_of c.dev c.part c.call r.dev is in
        subst (λ (d : DevNo). (is_told_one (find_device devices d) && (true && arms_itself d r)) ≡ false) (sym wake.2)
        (turned (is_told_one (find_device devices wake.0)) (arms_itself wake.0 r) (arms wake.0 wake.1))

apart_rows : (devices : List DeviceDef) (c : RunCall) (runs : List RunCall)
    → ((d : DevNo) → c.call ≡ calls.Wake d → (is_told_one (find_device devices d) && list_any (arms_itself d) runs) ≡ false)
    → All (IsApart devices c) runs
apart_rows devices c [] none = All-nil (IsApart devices c)
apart_rows devices c (r ∷ rs) none =
    let each : (d : DevNo) → c.call ≡ calls.Wake d → ((is_told_one (find_device devices d) && arms_itself d r) ≡ false)
    × ((is_told_one (find_device devices d) && list_any (arms_itself d) rs) ≡ false)
    = λ d is. both_false (is_told_one (find_device devices d)) (arms_itself d r) (list_any (arms_itself d) rs) (none d is) in
    All-cons (IsApart devices c) r rs (apart_row devices c r (λ d is. (each d is).0)) (apart_rows devices c rs (λ d is. (each d is).1))

-- a wake isn't an arm
apart_itself : (devices : List DeviceDef) (c : RunCall) → IsApart devices c c
apart_itself devices c = apart_row devices c c
    (λ d is. ap (λ call. is_told_one (find_device devices d) && (is_call_of d parts.Thread c && arms_this d call)) is
    ∙ never (is_told_one (find_device devices d)) (is_call_of d parts.Thread c))
  where
    never : (t a : Bool) → (t && (a && false)) ≡ false
    never true true = refl
    never true false = refl
    never false a = refl

none_woken : (b : BoardSeen) (r : RunCall) → wakes_what_arms b r r.call ≡ false → (d : DevNo) → r.call ≡ calls.Wake d
    → (is_told_one (find_device b.devices d) && list_any (arms_itself d) b.runs) ≡ false
none_woken b r h d is = subst (λ call. wakes_what_arms b r call ≡ false) is h

pub run_kept : (b : BoardSeen) (dev : DevNo) (part : Part) (c : CallWords) → IsBoard b → names_nothing b c ≡ false
    → may_not_call b (run_call b dev part c) ≡ false → has_no_room_to_call (writers.Runs dev part) b ≡ false
    → IsBoard (record b { runs = b.runs ++ run_call b dev part c ∷ [] })
run_kept b dev part c board there may room =
    let r : RunCall = run_call b dev part c in
    let allowed = or_parts (not (is_allowed_run b.runs r (find_device b.devices r.dev))) (wakes_what_arms b r r.call) may in
    let few = or_parts (nat_le 256 (length b.runs)) (nat_le 16 (count_of (is_call_of dev part) b.runs)) room in
    grows_run b r board (leb-false 256 (length b.runs) few.0) (leb-false 16 (count_of (is_call_of dev part) b.runs) few.1)
    (not-false (is_allowed_run b.runs r (find_device b.devices r.dev)) allowed.0) (device_fits b c there)
    (All-append (IsApart b.devices r) b.runs (r ∷ []) (apart_rows b.devices r b.runs (none_woken b r allowed.1))
    (All-cons (IsApart b.devices r) r [] (apart_itself b.devices r) (All-nil (IsApart b.devices r))))
