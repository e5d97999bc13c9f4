-- One driver requests and frees a device, and a free stands between two requests: the rule for each
-- call after the calls before it gives the rule for the calls on one line.
use Rattle.std.proofs.Common.{◌≡◌, ℕ, zero, suc, ◌<◌, ◌==◌, Bool, true, false, cond, ◌||◌, Option, Some, None, List, []}
use Rattle.std.proofs.Common.{◌∷◌, ◌++◌, filter, map, reverse, take, refl, sym, ap, subst, ◌∙◌, arith}
use Rattle.std.specs.List.{slice_get}
use Rattle.std.specs.Option.{option_map}
use Rattle.std.proofs.lemmas.Bool.Decides.{nat_tests}
use Rattle.std.proofs.lemmas.List.{reverse-append}
use Rattle.std.proofs.lemmas.Option.{slice_get-map}
use Rattle.irq_base.specs.declared.calls.Call.{Call}
use Rattle.irq_base.specs.declared.calls.Call.TheVariants as calls
use Rattle.irq_base.specs.declared.devices.DeviceDef.{DeviceDef}
use Rattle.irq_base.specs.declared.numbers.DevNo.{DevNo}
use Rattle.irq_base.specs.declared.numbers.DriverNo.{DriverNo}
use Rattle.irq_base.specs.declared.numbers.LineNo.{LineNo}
use Rattle.irq_model.specs.Kinds.{same_dev}
use Rattle.irq_model.specs.Valid.{HasOneOwner, IsFreedBetween, requests_dev, frees_dev}
use Rattle.board_def.specs.LineOf.{with_driver}
use Rattle.domain_rules.specs.Domains.{EachAfter}
use Rattle.board_def.specs.Rules.{IsCallAfter, is_owning, first_owning, is_of_another, is_a_request, is_bad_owner, fits_line, is_on_line, find_device}
use Rattle.board_def.specs.Seen.{BoardSeen}
use Rattle.board_def.specs.declared.rows.ScriptCall.{ScriptCall}
use Rattle.board_def.proofs.Kept.{each_kept}

-- the last request or free of the device
abbrev last_owning : DevNo → List ScriptCall → Option ScriptCall
last_owning dev cs = first_owning dev (reverse cs)

abbrev or_else : Option ScriptCall → Option ScriptCall → Option ScriptCall
or_else (Some x) r = Some x
or_else None r = r

abbrev alone : DevNo → ScriptCall → Option ScriptCall
alone dev c = cond (is_owning dev c) (Some c) None

first_of_two : (dev : DevNo) (xs ys : List ScriptCall) → first_owning dev (xs ++ ys) ≡ or_else (first_owning dev xs) (first_owning dev ys)
first_of_two dev [] ys = refl
first_of_two dev (c ∷ cs) ys = by (is_owning dev c) (first_of_two dev cs ys)
  where
    by : (b : Bool) → first_owning dev (cs ++ ys) ≡ or_else (first_owning dev cs) (first_owning dev ys)
        → cond b (Some c) (first_owning dev (cs ++ ys)) ≡ or_else (cond b (Some c) (first_owning dev cs)) (first_owning dev ys)
    by true rest = refl
    by false rest = rest

last_after : (dev : DevNo) (c : ScriptCall) (cs : List ScriptCall) → last_owning dev (c ∷ cs) ≡ or_else (last_owning dev cs) (alone dev c)
last_after dev c cs = ap (first_owning dev) (reverse-append (c ∷ []) cs) ∙ first_of_two dev (reverse cs) (c ∷ [])

-- what a call of a line meets after the calls of the line before it

pub record IsOwnedAfter (earlier : List ScriptCall) (c : ScriptCall) : Type 0 where
  pub one : (d : DevNo) → is_owning d c ≡ true → is_of_another c.driver (first_owning d earlier) ≡ false
  pub freed : (d : DevNo) → requests_dev d c.call ≡ true → is_a_request d (last_owning d earlier) ≡ false

same_device : (d e : DevNo) → same_dev d e ≡ true → d ≡ e
same_device d e h =
    let named : ℕ → DevNo = λ n. record { 0 = n } in
    let is : d.0 ≡ e.0 = grind (arith, nat_tests) in
    ap named is

first_false : (a b : Bool) → (a || b) ≡ false → a ≡ false
first_false a b h = grind arith

second_false : (a b : Bool) → (a || b) ≡ false → b ≡ false
second_false a b h = grind arith

owned_call : (earlier : List ScriptCall) (driver : DriverNo) (call : Call) (d : DevNo)
    → is_bad_owner earlier driver call ≡ false → (requests_dev d call || frees_dev d call) ≡ true
    → is_of_another driver (first_owning d earlier) ≡ false
owned_call earlier driver (calls.Request dev flags) d h is =
    let own : same_dev d dev ≡ true = grind arith in
    subst (λ e. is_of_another driver (first_owning e earlier) ≡ false) (sym (same_device d dev own))
    (first_false (is_of_another driver (first_owning dev earlier)) (is_a_request dev (last_owning dev earlier)) h)
owned_call earlier driver (calls.Free dev) d h is = subst (λ e. is_of_another driver (first_owning e earlier) ≡ false) (sym (same_device d dev is)) h
owned_call earlier driver (calls.Ask dev) d h is = absurd cc
owned_call earlier driver calls.Disable d h is = absurd cc
owned_call earlier driver calls.DisableNosync d h is = absurd cc
owned_call earlier driver calls.Enable d h is = absurd cc
owned_call earlier driver calls.Sync d h is = absurd cc
owned_call earlier driver (calls.Affinity mask) d h is = absurd cc
owned_call earlier driver (calls.Moment at) d h is = absurd cc
owned_call earlier driver calls.SyncHard d h is = absurd cc
owned_call earlier driver calls.DisableHard d h is = absurd cc
owned_call earlier driver (calls.Wake dev) d h is = absurd cc
owned_call earlier driver (calls.Quiet dev) d h is = absurd cc
owned_call earlier driver (calls.Arm dev) d h is = absurd cc
owned_call earlier driver (calls.Serve dev) d h is = absurd cc

freed_call : (earlier : List ScriptCall) (driver : DriverNo) (call : Call) (d : DevNo)
    → is_bad_owner earlier driver call ≡ false → requests_dev d call ≡ true
    → is_a_request d (last_owning d earlier) ≡ false
freed_call earlier driver (calls.Request dev flags) d h is =
    subst (λ e. is_a_request e (last_owning e earlier) ≡ false) (sym (same_device d dev is))
    (second_false (is_of_another driver (first_owning dev earlier)) (is_a_request dev (last_owning dev earlier)) h)
freed_call earlier driver (calls.Ask dev) d h is = absurd cc
freed_call earlier driver (calls.Free dev) d h is = absurd cc
freed_call earlier driver calls.Disable d h is = absurd cc
freed_call earlier driver calls.DisableNosync d h is = absurd cc
freed_call earlier driver calls.Enable d h is = absurd cc
freed_call earlier driver calls.Sync d h is = absurd cc
freed_call earlier driver (calls.Affinity mask) d h is = absurd cc
freed_call earlier driver (calls.Moment at) d h is = absurd cc
freed_call earlier driver calls.SyncHard d h is = absurd cc
freed_call earlier driver calls.DisableHard d h is = absurd cc
freed_call earlier driver (calls.Wake dev) d h is = absurd cc
freed_call earlier driver (calls.Quiet dev) d h is = absurd cc
freed_call earlier driver (calls.Arm dev) d h is = absurd cc
freed_call earlier driver (calls.Serve dev) d h is = absurd cc

-- a request or free of a device is on the device's line
owning_on_line : (devices : List DeviceDef) (line : LineNo) (call : Call) (d : DevNo)
    → fits_line devices line call ≡ true → (requests_dev d call || frees_dev d call) ≡ true
    → is_on_line line (find_device devices d) ≡ true
owning_on_line devices line (calls.Request dev flags) d h is =
    let own : same_dev d dev ≡ true = grind arith in
    subst (λ e. is_on_line line (find_device devices e) ≡ true) (sym (same_device d dev own)) h
owning_on_line devices line (calls.Free dev) d h is = subst (λ e. is_on_line line (find_device devices e) ≡ true) (sym (same_device d dev is)) h
owning_on_line devices line (calls.Ask dev) d h is = absurd cc
owning_on_line devices line calls.Disable d h is = absurd cc
owning_on_line devices line calls.DisableNosync d h is = absurd cc
owning_on_line devices line calls.Enable d h is = absurd cc
owning_on_line devices line calls.Sync d h is = absurd cc
owning_on_line devices line (calls.Affinity mask) d h is = absurd cc
owning_on_line devices line (calls.Moment at) d h is = absurd cc
owning_on_line devices line calls.SyncHard d h is = absurd cc
owning_on_line devices line calls.DisableHard d h is = absurd cc
owning_on_line devices line (calls.Wake dev) d h is = absurd cc
owning_on_line devices line (calls.Quiet dev) d h is = absurd cc
owning_on_line devices line (calls.Arm dev) d h is = absurd cc
owning_on_line devices line (calls.Serve dev) d h is = absurd cc

one_line : (a b n : LineNo) (x : Option DeviceDef) → is_on_line a x ≡ true → is_on_line b x ≡ true → (b.0 == n.0) ≡ true → (a.0 == n.0) ≡ true
one_line a b n None ha hb hn = absurd cc
one_line a b n (Some x) ha hb hn = grind (arith, nat_tests)

-- a test that keeps each request and free of the device keeps the first and the last

abbrev KeepsAll : (ScriptCall → Bool) → DevNo → List ScriptCall → Type 0
KeepsAll keep d cs = (i : ℕ) (c : ScriptCall) → slice_get cs i ≡ Some c → is_owning d c ≡ true → keep c ≡ true

first_kept : (keep : ScriptCall → Bool) (d : DevNo) (cs : List ScriptCall) → KeepsAll keep d cs → first_owning d (filter keep cs) ≡ first_owning d cs
first_kept keep d [] all = refl
first_kept keep d (c ∷ cs) all = by (is_owning d c) refl (keep c) (all zero c refl) (first_kept keep d cs (λ i x at. all (suc i) x at))
  where
    by : (b : Bool) → is_owning d c ≡ b → (k : Bool) → (b ≡ true → k ≡ true) → first_owning d (filter keep cs) ≡ first_owning d cs
        → first_owning d (cond k (c ∷ filter keep cs) (filter keep cs)) ≡ cond b (Some c) (first_owning d cs)
    by true is true kept rest = ap (λ b. cond b (Some c) (first_owning d (filter keep cs))) is
    by true is false kept rest = absurd (let no : false ≡ true = kept refl in cc)
    by false is true kept rest = ap (λ b. cond b (Some c) (first_owning d (filter keep cs))) is ∙ rest
    by false is false kept rest = rest

last_kept : (keep : ScriptCall → Bool) (d : DevNo) (cs : List ScriptCall) → KeepsAll keep d cs → last_owning d (filter keep cs) ≡ last_owning d cs
last_kept keep d [] all = refl
last_kept keep d (c ∷ cs) all = by (is_owning d c) refl (keep c) (all zero c refl) (last_kept keep d cs (λ i x at. all (suc i) x at)) ∙ sym (last_after d c cs)
  where
    or_none : (r : Option ScriptCall) → r ≡ or_else r None
    or_none (Some x) = refl
    or_none None = refl

    by : (b : Bool) → is_owning d c ≡ b → (k : Bool) → (b ≡ true → k ≡ true) → last_owning d (filter keep cs) ≡ last_owning d cs
        → last_owning d (cond k (c ∷ filter keep cs) (filter keep cs)) ≡ or_else (last_owning d cs) (alone d c)
    by b is true kept rest = last_after d c (filter keep cs) ∙ ap (λ r. or_else r (alone d c)) rest
    by true is false kept rest = absurd (let no : false ≡ true = kept refl in cc)
    by false is false kept rest = rest ∙ (or_none (last_owning d cs) ∙ ap (λ b. or_else (last_owning d cs) (cond b (Some c) None)) (sym is))

-- so the calls of a line are owned as all calls are
pub owned_on_line : (b : BoardSeen) (line : LineNo) → EachAfter (IsCallAfter b) b.calls → EachAfter IsOwnedAfter (filter (λ c. c.line.0 == line.0) b.calls)
owned_on_line b line each = each_kept keep (IsCallAfter b) IsOwnedAfter step b.calls each
  where
    keep : ScriptCall → Bool
    keep c = c.line.0 == line.0

    all : (earlier : List ScriptCall) (x : ScriptCall) → EachAfter (IsCallAfter b) earlier → keep x ≡ true
        → IsCallAfter b earlier x → (d : DevNo) → is_owning d x ≡ true → KeepsAll keep d earlier
    all earlier x before kept here d is i c at own =
        one_line c.line x.line line (find_device b.devices d)
        (owning_on_line b.devices c.line c.call d (before i c at).device own)
        (owning_on_line b.devices x.line x.call d here.device is) kept

    step : (earlier : List ScriptCall) (x : ScriptCall) → EachAfter (IsCallAfter b) earlier → keep x ≡ true
        → IsCallAfter b earlier x → IsOwnedAfter (filter keep earlier) x
    step earlier x before kept here =
        record {
          one = λ d is. subst (λ r. is_of_another x.driver r ≡ false)
              (sym (first_kept keep d earlier (all earlier x before kept here d is)))
              (owned_call earlier x.driver x.call d here.owner is);
          freed = λ d is.
              let owns : is_owning d x ≡ true = ap (λ b. b || frees_dev d x.call) is in
              subst (λ r. is_a_request d r ≡ false) (sym
              (last_kept keep d earlier (all earlier x before kept here d owns)))
              (freed_call earlier x.driver x.call d here.owner is);
        }

-- one owner

-- the first request or free of d is the first before place j, or the one at j
first_at : (d : DevNo) (cs : List ScriptCall) (j : ℕ) (c : ScriptCall) → slice_get cs j ≡ Some c → is_owning d c ≡ true
    → first_owning d cs ≡ or_else (first_owning d (take j cs)) (Some c)
first_at d [] j c at own = absurd cc
first_at d (x ∷ cs) zero c at own = let same : x ≡ c = cc in
    subst (λ (y : ScriptCall). cond (is_owning d x) (Some x) (first_owning d cs) ≡ Some y) same
    (ap (λ b. cond b (Some x) (first_owning d cs)) (subst (λ (y : ScriptCall). is_owning d y ≡ true) (sym same) own))
first_at d (x ∷ cs) (suc j) c at own = by (is_owning d x) (first_at d cs j c at own)
  where
    by : (b : Bool) → first_owning d cs ≡ or_else (first_owning d (take j cs)) (Some c)
        → cond b (Some x) (first_owning d cs) ≡ or_else (cond b (Some x) (first_owning d (take j cs))) (Some c)
    by true rest = refl
    by false rest = rest

same_driver_of : (driver : DriverNo) (c : ScriptCall) (r : Option ScriptCall) → c.driver ≡ driver
    → is_of_another driver r ≡ false → option_map (λ (c : ScriptCall). c.driver) (or_else r (Some c)) ≡ Some driver
same_driver_of driver c None is h = ap Some is
same_driver_of driver c (Some f) is h =
    let named : ℕ → DriverNo = λ n. record { 0 = n } in
    let same : f.driver.0 ≡ driver.0 = grind (arith, nat_tests) in
    ap (λ (n : ℕ). Some (named n)) same

owner_at : (d : DevNo) (cs : List ScriptCall) → EachAfter IsOwnedAfter cs → (j : ℕ) (c : ScriptCall)
    → slice_get cs j ≡ Some c → is_owning d c ≡ true → option_map (λ (c : ScriptCall). c.driver) (first_owning d cs)
    ≡ Some c.driver
owner_at d cs each j c at own = ap (option_map (λ (c : ScriptCall). c.driver)) (first_at d cs j c at own)
    ∙ same_driver_of c.driver c (first_owning d (take j cs)) refl ((each j c at).one d own)

from_pair : (cs : List ScriptCall) (i : ℕ) (a : DriverNo × Call) → slice_get (map with_driver cs) i ≡ Some a
    → (c : ScriptCall) × (slice_get cs i ≡ Some c) × (with_driver c ≡ a)
from_pair [] i a at = absurd cc
from_pair (c ∷ cs) zero a at = (c, refl, cc)
from_pair (c ∷ cs) (suc i) a at = from_pair cs i a at

pub one_owner : (d : DevNo) (cs : List ScriptCall) → EachAfter IsOwnedAfter cs → HasOneOwner (map with_driver cs) d
one_owner d cs each i j a b at_a at_b own_a own_b =
    let p = from_pair cs i a at_a in
    let q = from_pair cs j b at_b in
    let owns_a : is_owning d p.0 ≡ true = subst (λ (c : DriverNo × Call). (requests_dev d c.1 || frees_dev d c.1) ≡ true) (sym p.2) own_a in
    let owns_b : is_owning d q.0 ≡ true = subst (λ (c : DriverNo × Call). (requests_dev d c.1 || frees_dev d c.1) ≡ true) (sym q.2) own_b in
    let first = owner_at d cs each i p.0 p.1 owns_a in
    let second = owner_at d cs each j q.0 q.1 owns_b in
    let one : p.0.driver ≡ q.0.driver = cc in
    sym (ap (λ (c : DriverNo × Call). c.0) p.2) ∙ (one ∙ ap (λ (c : DriverNo × Call). c.0) q.2)

-- freed between

abbrev Freed : DevNo → List ScriptCall → ℕ → Type 0
Freed d cs i = (k : ℕ) × (c : ScriptCall) × (i < k) × (slice_get cs k ≡ Some c) × (frees_dev d c.call ≡ true)

not_request : (a b : Bool) → (a || b) ≡ true → a ≡ false → b ≡ true
not_request a b h f = grind arith

first_stands : (d : DevNo) (cs : List ScriptCall) (c : ScriptCall) → first_owning d cs ≡ Some c → (k : ℕ) × (slice_get cs k ≡ Some c) × (is_owning d c ≡ true)
first_stands d [] c h = absurd cc
first_stands d (x ∷ cs) c h = by (is_owning d x) refl h (first_stands d cs c)
  where
    by : (b : Bool) → is_owning d x ≡ b → cond b (Some x) (first_owning d cs) ≡ Some c
        → (first_owning d cs ≡ Some c → (k : ℕ) × (slice_get cs k ≡ Some c) × (is_owning d c ≡ true))
        → (k : ℕ) × (slice_get (x ∷ cs) k ≡ Some c) × (is_owning d c ≡ true)
    by true is h rest = let same : x ≡ c = cc in (zero, ap Some same, subst (λ (y : ScriptCall). is_owning d y ≡ true) same is)
    by false is h rest = let r = rest h in (suc r.0, r.1, r.2)

-- if the last request or free after a request is no request, a free stands after it
last_stands : (d : DevNo) (cs : List ScriptCall) (c : ScriptCall) → last_owning d cs ≡ Some c → (k : ℕ) × (slice_get cs k ≡ Some c) × (is_owning d c ≡ true)
last_stands d [] c h = absurd cc
last_stands d (x ∷ cs) c h = by (last_owning d cs) refl (sym (last_after d x cs) ∙ h) (last_stands d cs c)
  where
    here : (b : Bool) → is_owning d x ≡ b → cond b (Some x) None ≡ Some c → (k : ℕ) × (slice_get (x ∷ cs) k ≡ Some c) × (is_owning d c ≡ true)
    here true is h = let same : x ≡ c = cc in (zero, ap Some same, subst (λ (y : ScriptCall). is_owning d y ≡ true) same is)
    here false is h = absurd cc

    by : (r : Option ScriptCall) → last_owning d cs ≡ r → or_else r (alone d x) ≡ Some c
        → (last_owning d cs ≡ Some c → (k : ℕ) × (slice_get cs k ≡ Some c) × (is_owning d c ≡ true))
        → (k : ℕ) × (slice_get (x ∷ cs) k ≡ Some c) × (is_owning d c ≡ true)
    by (Some y) is h rest = let r = rest (is ∙ h) in (suc r.0, r.1, r.2)
    by None is h rest = here (is_owning d x) refl h

freed_after : (d : DevNo) (cs : List ScriptCall) (i : ℕ) (c : ScriptCall) → slice_get cs i ≡ Some c
    → requests_dev d c.call ≡ true → is_a_request d (last_owning d cs) ≡ false → Freed d cs i
freed_after d [] i c at is last = absurd cc
freed_after d (x ∷ cs) zero c at is last =
    by (last_owning d cs) refl (subst (λ r. is_a_request d r ≡ false) (last_after d x cs) last)
  where
    own : requests_dev d x.call ≡ true
    own = let same : x ≡ c = cc in subst (λ (y : ScriptCall). requests_dev d y.call ≡ true) (sym same) is

    by : (r : Option ScriptCall) → last_owning d cs ≡ r → is_a_request d (or_else r (alone d x)) ≡ false → Freed d (x ∷ cs) zero
    by (Some y) there h =
        let s = last_stands d cs y there in
        (suc s.0, y, omega arith, s.1, not_request (requests_dev d y.call) (frees_dev d y.call) s.2 h)
    by None there h =
        let owns : is_owning d x ≡ true = ap (λ b. b || frees_dev d x.call) own in
        let itself : is_a_request d (alone d x) ≡ requests_dev d x.call = ap (λ b. is_a_request d (cond b (Some x) None)) owns in
        absurd (let no : true ≡ false = sym own ∙ (sym itself ∙ h) in cc)
freed_after d (x ∷ cs) (suc i) c at is last =
    shifted (freed_after d cs i c at is (by (last_owning d cs) refl (subst (λ r. is_a_request d r ≡ false) (last_after d x cs) last)))
  where
    shifted : Freed d cs i → Freed d (x ∷ cs) (suc i)
    shifted f = (suc f.0, f.1, omega (arith, f.2), f.3, f.4)

    by : (r : Option ScriptCall) → last_owning d cs ≡ r → is_a_request d (or_else r (alone d x)) ≡ false → is_a_request d (last_owning d cs) ≡ false
    by (Some y) there h = subst (λ r. is_a_request d r ≡ false) (sym there) h
    by None there h = ap (is_a_request d) there

in_front : {A : Type 0} (xs : List A) (i j : ℕ) (x : A) → i < j → slice_get xs i ≡ Some x → slice_get (take j xs) i ≡ Some x
in_front xs i zero x less at = absurd (omega arith)
in_front [] i (suc j) x less at = absurd cc
in_front (y ∷ ys) zero (suc j) x less at = at
in_front (y ∷ ys) (suc i) (suc j) x less at = in_front ys i j x (omega arith) at

from_front : {A : Type 0} (xs : List A) (k j : ℕ) (x : A) → slice_get (take j xs) k ≡ Some x → (k < j) × (slice_get xs k ≡ Some x)
from_front xs k zero x at = absurd cc
from_front [] k (suc j) x at = absurd cc
from_front (y ∷ ys) zero (suc j) x at = (omega arith, at)
from_front (y ∷ ys) (suc k) (suc j) x at = let r = from_front ys k j x at in (omega (arith, r.0), r.1)

to_pair : (cs : List ScriptCall) (k : ℕ) (c : ScriptCall) → slice_get cs k ≡ Some c → slice_get (map with_driver cs) k ≡ Some (with_driver c)
to_pair cs k c at = slice_get-map with_driver cs k ∙ ap (option_map with_driver) at

pub freed_between : (d : DevNo) (cs : List ScriptCall) → EachAfter IsOwnedAfter cs → IsFreedBetween (map with_driver cs) d
freed_between d cs each i j a b less at_a at_b is_a is_b =
    let p = from_pair cs i a at_a in
    let q = from_pair cs j b at_b in
    let asks_a : requests_dev d p.0.call ≡ true = subst (λ (c : DriverNo × Call). requests_dev d c.1 ≡ true) (sym p.2) is_a in
    let asks_b : requests_dev d q.0.call ≡ true = subst (λ (c : DriverNo × Call). requests_dev d c.1 ≡ true) (sym q.2) is_b in
    let f = freed_after d (take j cs) i p.0 (in_front cs i j p.0 less p.1) asks_a ((each j q.0 q.1).freed d asks_b) in
    let r = from_front cs f.0 j f.1 f.3 in
    (f.0, with_driver f.1, f.2, r.0, to_pair cs f.0 f.1 r.1, f.4)
