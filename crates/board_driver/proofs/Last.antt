-- The greatest number goes behind all drivers, and its calls behind all calls.
use Rattle.std.proofs.Common.{◌≡◌, ℕ, suc, ◌<◌, ◌≤◌, ◌==◌, Bool, true, false, ◌||◌, Some, List, [], ◌∷◌, ◌++◌, length, All, refl, ap, arith}
use Rattle.std.specs.List.{slice_get}
use Rattle.std.proofs.lemmas.Bool.Decides.{nat_tests}
use Rattle.irq_base.specs.declared.calls.Call.{Call}
use Rattle.irq_base.specs.declared.calls.Call.TheVariants as calls
use Rattle.irq_base.specs.declared.devices.DeviceDef.{DeviceDef}
use Rattle.irq_base.specs.declared.numbers.DriverNo.{DriverNo}
use Rattle.irq_base.specs.declared.numbers.LineNo.{LineNo}
use Rattle.board_def.specs.Rules.{IsBoard, has_driver, fits_line, is_bad_owner}
use Rattle.board_def.specs.Seen.{BoardSeen}
use Rattle.board_def.specs.declared.rows.ScriptCall.{ScriptCall}
use Rattle.board_def.proofs.Grows.{grows_driver, grows_call}
use Rattle.board_def.proofs.Rising.{head_of, tail_of, all_of, equals_itself}
use Rattle.board_driver.specs.Longer.{last_driver, by_last, is_of_device, IsOfALine}
use Rattle.board_driver.specs.declared.adding.LineCall.{LineCall}

-- what holds at each place holds of all
each_all : {A : Type 0} (P : A → Type 0) (xs : List A) → ((i : ℕ) (x : A) → slice_get xs i ≡ Some x → P x) → All P xs
each_all P [] each = λ k d h. absurd (omega arith)
each_all P (x ∷ xs) each = all_of P x xs (each 0 x refl) (each_all P xs (λ i y at. each (suc i) y at))

both_no : (a b : Bool) → (a || b) ≡ false → (a ≡ false) × (b ≡ false)
both_no true b h = absurd cc
both_no false b h = (refl, h)

less : (n : ℕ) → n ≤ 65535 → (n == 65535) ≡ false → n < 65535
less n most other = grind (arith, nat_tests)

same : (m n : ℕ) → (m == n) ≡ true → m ≡ n
same m n h = grind (arith, nat_tests)

numbers : (b : BoardSeen) → IsBoard b → All (λ (d : DriverNo). d.0 ≤ 65535) b.drivers
numbers b is = each_all (λ (d : DriverNo). d.0 ≤ 65535) b.drivers (λ i d at. (is.drivers i d at).number.1)

below : (ds : List DriverNo) → All (λ (d : DriverNo). d.0 ≤ 65535) ds → has_driver ds last_driver ≡ false → All (λ (d : DriverNo). d.0 < 65535) ds
below [] most none = λ k d h. absurd (omega arith)
below (x ∷ xs) most none =
    let apart = both_no (x.0 == 65535) (has_driver xs last_driver) none in
    all_of (λ (d : DriverNo). d.0 < 65535) x xs (less x.0 (head_of (λ (d : DriverNo). d.0 ≤ 65535) x xs most) apart.0)
    (below xs (tail_of (λ (d : DriverNo). d.0 ≤ 65535) x xs most) apart.1)

pub last_goes_behind : (b : BoardSeen) → IsBoard b → has_driver b.drivers last_driver ≡ false → length b.drivers < 64
    → IsBoard (record b { drivers = b.drivers ++ last_driver ∷ [] })
last_goes_behind b is none few =
    grows_driver b last_driver is few (record { number = (omega arith, omega arith); rises = below b.drivers (numbers b is) none })

-- a declared driver has at most that number
at_most : (ds : List DriverNo) (r : DriverNo) → All (λ (d : DriverNo). d.0 ≤ 65535) ds → has_driver ds r ≡ true → r.0 ≤ 65535
at_most [] r most has = absurd cc
at_most (x ∷ xs) r most has =
    by (x.0 == r.0) refl has (λ h. at_most xs r (tail_of (λ (d : DriverNo). d.0 ≤ 65535) x xs most) h)
  where
    by : (t : Bool) → (x.0 == r.0) ≡ t → (t || has_driver xs r) ≡ true → (has_driver xs r ≡ true → r.0 ≤ 65535) → r.0 ≤ 65535
    by true is h rest = let m : x.0 ≤ 65535 = head_of (λ (d : DriverNo). d.0 ≤ 65535) x xs most in omega (arith, same x.0 r.0 is, m)
    by false is h rest = rest h

fits : (devices : List DeviceDef) (line : LineNo) (call : Call) → is_of_device call ≡ false → fits_line devices line call ≡ true
fits devices line (calls.Ask dev) none = absurd cc
fits devices line (calls.Request dev flags) none = absurd cc
fits devices line (calls.Free dev) none = absurd cc
fits devices line (calls.Wake dev) none = absurd cc
fits devices line (calls.Quiet dev) none = absurd cc
fits devices line (calls.Arm dev) none = absurd cc
fits devices line (calls.Serve dev) none = absurd cc
fits devices line calls.Disable none = refl
fits devices line calls.DisableNosync none = refl
fits devices line calls.Enable none = refl
fits devices line calls.Sync none = refl
fits devices line (calls.Affinity mask) none = refl
fits devices line (calls.Moment at) none = refl
fits devices line calls.SyncHard none = refl
fits devices line calls.DisableHard none = refl

owns_none : (earlier : List ScriptCall) (r : DriverNo) (call : Call) → is_of_device call ≡ false → is_bad_owner earlier r call ≡ false
owns_none earlier r (calls.Ask dev) none = absurd cc
owns_none earlier r (calls.Request dev flags) none = absurd cc
owns_none earlier r (calls.Free dev) none = absurd cc
owns_none earlier r (calls.Wake dev) none = absurd cc
owns_none earlier r (calls.Quiet dev) none = absurd cc
owns_none earlier r (calls.Arm dev) none = absurd cc
owns_none earlier r (calls.Serve dev) none = absurd cc
owns_none earlier r calls.Disable none = refl
owns_none earlier r calls.DisableNosync none = refl
owns_none earlier r calls.Enable none = refl
owns_none earlier r calls.Sync none = refl
owns_none earlier r (calls.Affinity mask) none = refl
owns_none earlier r (calls.Moment at) none = refl
owns_none earlier r calls.SyncHard none = refl
owns_none earlier r calls.DisableHard none = refl

pub call_goes_behind : (b : BoardSeen) (c : LineCall) → IsBoard b → has_driver b.drivers last_driver ≡ true → length b.calls < 16384 → IsOfALine b c
    → IsBoard (record b { calls = b.calls ++ by_last c ∷ [] })
call_goes_behind b c is has few fit =
    grows_call b (by_last c) is few (record {
      driver = has;
      in_order = each_all (λ (e : ScriptCall). e.driver.0 ≤ 65535) b.calls (λ i e at. at_most b.drivers e.driver (numbers b is) (is.calls i e at).driver);
      line = fit.line;
      device = fits b.devices c.line c.call fit.no_device;
      owner = owns_none b.calls last_driver c.call fit.no_device;
    })

-- the last driver is there once it was added
pub has_last : (ds : List DriverNo) → has_driver (ds ++ last_driver ∷ []) last_driver ≡ true
has_last [] = equals_or 65535 false
  where
    equals_or : (n : ℕ) (b : Bool) → ((n == n) || b) ≡ true
    equals_or n b = ap (λ t. t || b) (equals_itself n)
has_last (d ∷ ds) = by (d.0 == 65535) (has_last ds)
  where
    by : (t : Bool) → has_driver (ds ++ last_driver ∷ []) last_driver ≡ true → (t || has_driver (ds ++ last_driver ∷ []) last_driver) ≡ true
    by true h = refl
    by false h = h
