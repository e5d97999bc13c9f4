-- A valid definition exists for each kind of line: the definitions of the worked histories are
-- valid.
use Rattle.std.proofs.Common.{◌≡◌, ℕ, zero, suc, ◌<◌, Bool, true, false, not, ◌&&◌, ◌||◌, nat_lt, IsSome, Some, List}
use Rattle.std.proofs.Common.{[], ◌∷◌, length, All, refl, sym, ap, ◌∙◌, eqb-true, arith}
use Rattle.std.specs.List.{slice_get, list_all, list_any}
use Rattle.std.proofs.lemmas.Bool.{ltb-true, not-true}
use Rattle.std.proofs.lemmas.List.Elements.{All-nil, All-cons}
use Rattle.irq_base.specs.declared.calls.Call.{Call}
use Rattle.irq_base.specs.declared.calls.Call.TheVariants as calls
use Rattle.irq_base.specs.declared.devices.DeviceDef.{DeviceDef}
use Rattle.irq_base.specs.declared.lines.LineDef.{LineDef}
use Rattle.irq_base.specs.declared.numbers.LineNo.{LineNo}
use Rattle.irq_base.specs.declared.numbers.DevNo.{DevNo}
use Rattle.irq_base.specs.declared.numbers.DriverNo.{DriverNo}
use Rattle.irq_model.specs.Kinds.{same_driver, same_line}
use Rattle.irq_model.specs.Lines.{is_edge_line, is_level_line, is_edge_flow, is_level_flow, is_eoi_flow, is_device}
use Rattle.irq_model.specs.Signal.{lowest_in}
use Rattle.irq_model.specs.Valid.{IsValid, HasDistinctDevices, requests_dev, names_one_of}
use Rattle.irq_model.proofs.RowWords.{driver}
use Rattle.irq_model.proofs.DriverRows.{first_line}
use Rattle.irq_model.proofs.EdgeRows.{busy_plain_line, busy_lpi_line, later_line, msi_line}
use Rattle.irq_model.proofs.LevelRows.{storm_line}
use Rattle.irq_model.proofs.ThreadRows.{two_threads_line, eoi_thread_line}

-- ---- conditions that compute, for lines on which driver 1 makes all calls, none requesting twice

abbrev has_distinct_devices : List DeviceDef → Bool
has_distinct_devices [] = true
has_distinct_devices (x ∷ xs) = not (list_any (is_device x.dev) xs) && has_distinct_devices xs

abbrev requests_as : Call → DriverNo × Call → Bool
requests_as (calls.Request dev flags) c = requests_dev dev c.1
requests_as _ c = false

abbrev requests_once : List (DriverNo × Call) → Bool
requests_once [] = true
requests_once (c ∷ cs) = not (list_any (requests_as c.1) cs) && requests_once cs

abbrev FitsNumbers : LineDef → Type 0
FitsNumbers def =
    (nat_lt 0 def.cpus ≡ true) × (nat_lt def.cpus 33 ≡ true) × (nat_lt 0 def.window ≡ true)
    × (nat_lt def.window 1000001 ≡ true) × (nat_lt def.limit def.window ≡ true)
    × (nat_lt 0 def.log ≡ true) × (nat_lt def.log 100000001 ≡ true) × (nat_lt (length def.devices) 257 ≡ true) × (nat_lt (length def.calls) 16385 ≡ true)

abbrev FitsFlow : LineDef → Type 0
FitsFlow def =
    ((not (is_edge_flow def.flow) || is_edge_line def) ≡ true) × ((not (is_level_flow def.flow) || is_level_line def) ≡ true)
    × ((not (is_edge_line def) || (not def.unlazy || def.keeps)) ≡ true)
    × ((not (is_edge_line def) || (not (is_eoi_flow def.flow) || def.keeps)) ≡ true)
    × ((not (is_edge_line def) || (not (is_eoi_flow def.flow) || def.retriggers)) ≡ true)

abbrev FitsLists : LineDef → Type 0
FitsLists def =
    (list_all (λ x. same_line x.line def.line) def.devices ≡ true) × (has_distinct_devices def.devices ≡ true)
    × (list_all (λ c. names_one_of def.devices c.1) def.calls ≡ true)
    × (list_all (λ c. same_driver c.0 (driver 1)) def.calls ≡ true) × (requests_once def.calls ≡ true)

-- ---- what they say

both : (a b : Bool) → (a && b) ≡ true → (a ≡ true) × (b ≡ true)
both true b h = (refl, h)
both false b h = (cc, cc)

implied : (a b : Bool) → (not a || b) ≡ true → a ≡ true → b ≡ true
implied true b h is = h
implied false b h is = cc

each : {A : Type 0} (p : A → Bool) (P : A → Type 0) → ((x : A) → p x ≡ true → P x) → (xs : List A) → list_all p xs ≡ true → All P xs
each p P f [] h = All-nil P
each p P f (x ∷ xs) h = let b = both (p x) (list_all p xs) h in All-cons P x xs (f x b.0) (each p P f xs b.1)

at_place : {A : Type 0} (p : A → Bool) (xs : List A) (i : ℕ) (x : A) → list_all p xs ≡ true → slice_get xs i ≡ Some x → p x ≡ true
at_place p [] i x h is = cc
at_place p (y ∷ xs) zero x h is = let same : y ≡ x = cc in ap p (sym same) ∙ (both (p y) (list_all p xs) h).0
at_place p (y ∷ xs) (suc i) x h is = at_place p xs i x (both (p y) (list_all p xs) h).1 is

none_at : {A : Type 0} (p : A → Bool) (xs : List A) (i : ℕ) (x : A) → list_any p xs ≡ false → slice_get xs i ≡ Some x → p x ≡ false
none_at p [] i x h is = cc
none_at p (y ∷ xs) zero x h is = let same : y ≡ x = cc in ap p (sym same) ∙ first (p y) (list_any p xs) h
  where
    first : (a b : Bool) → (a || b) ≡ false → a ≡ false
    first true b h = h
    first false b h = refl
none_at p (y ∷ xs) (suc i) x h is = none_at p xs i x (rest (p y) (list_any p xs) h) is
  where
    rest : (a b : Bool) → (a || b) ≡ false → b ≡ false
    rest true b h = cc
    rest false b h = h

distinct : (xs : List DeviceDef) → has_distinct_devices xs ≡ true → HasDistinctDevices xs
distinct [] h = tt
distinct (x ∷ xs) h =
    let b = both (not (list_any (is_device x.dev) xs)) (has_distinct_devices xs) h in (not-true _ b.0, distinct xs b.1)

same_request : (d : DevNo) (a : Call) (b : DriverNo × Call) → requests_dev d a ≡ true → requests_dev d b.1 ≡ true → requests_as a b ≡ true
same_request d (calls.Request dev flags) b is also =
    let named : ℕ → DevNo = λ n. record { 0 = n } in
    let same : d ≡ dev = ap named (eqb-true d.0 dev.0 is) in ap (λ x. requests_dev x b.1) (sym same) ∙ also
same_request d _ b is also = cc

no_second : (d : DevNo) (cs : List (DriverNo × Call)) (i j : ℕ) (a b : DriverNo × Call) → requests_once cs ≡ true
    → i < j → slice_get cs i ≡ Some a → slice_get cs j ≡ Some b
    → requests_dev d a.1 ≡ true → requests_dev d b.1 ≡ true → ⊥
no_second d [] i j a b h lt at also is it = cc
no_second d (c ∷ cs) i zero a b h lt at also is it = absurd (omega arith)
no_second d (c ∷ cs) zero (suc j) a b h lt at also is it =
    let same : c ≡ a = cc in
    let parts = both (not (list_any (requests_as c.1) cs)) (requests_once cs) h in
    let none = none_at (requests_as c.1) cs j b (not-true _ parts.0) also in
    let some = same_request d c.1 b (ap (λ (x : DriverNo × Call). requests_dev d x.1) same ∙ is) it in cc (none, some)
no_second d (c ∷ cs) (suc i) (suc j) a b h lt at also is it =
    no_second d cs i j a b (both (not (list_any (requests_as c.1) cs)) (requests_once cs) h).1 (omega arith) at also is it

one_driver : (a b : DriverNo) → same_driver a (driver 1) ≡ true → same_driver b (driver 1) ≡ true → a ≡ b
one_driver a b is also =
    let named : ℕ → DriverNo = λ n. record { 0 = n } in ap named (eqb-true a.0 1 is ∙ sym (eqb-true b.0 1 also))

one_line : (a b : LineNo) → same_line a b ≡ true → a ≡ b
one_line a b h = let named : ℕ → LineNo = λ n. record { 0 = n } in ap named (eqb-true a.0 b.0 h)

fits : (def : LineDef) → FitsNumbers def → FitsFlow def → FitsLists def → IsSome (lowest_in def.cpus def.mask) → IsValid def
fits def n f l mask =
    let edge = is_edge_line def in
    let eoi = is_eoi_flow def.flow in
    record {
      some_cpu = omega (arith, ltb-true 0 def.cpus n.0);
      few_cpus = omega (arith, ltb-true def.cpus 33 n.1);
      some_window = omega (arith, ltb-true 0 def.window n.2);
      small_window = omega (arith, ltb-true def.window 1000001 n.3);
      limit = ltb-true def.limit def.window n.4;
      some_log = omega (arith, ltb-true 0 def.log n.5);
      small_log = omega (arith, ltb-true def.log 100000001 n.6);
      few_devices = omega (arith, ltb-true (length def.devices) 257 n.7);
      few_calls = omega (arith, ltb-true (length def.calls) 16385 n.8);
      mask = mask;
      edge_flow = implied (is_edge_flow def.flow) edge f.0;
      level_flow = implied (is_level_flow def.flow) (is_level_line def) f.1;
      unlazy = λ e u. implied def.unlazy def.keeps (implied edge (not def.unlazy || def.keeps) f.2 e) u;
      eoi_keeps = λ e u. implied eoi def.keeps (implied edge (not eoi || def.keeps) f.3 e) u;
      eoi_retriggers = λ e u. implied eoi def.retriggers (implied edge (not eoi || def.retriggers) f.4 e) u;
      devices = each (λ x. same_line x.line def.line) (λ x. x.line ≡ def.line) (λ x. one_line x.line def.line) def.devices l.0;
      distinct = distinct def.devices l.1;
      calls = each (λ c. names_one_of def.devices c.1) (λ c. names_one_of def.devices c.1 ≡ true) (λ c h. h) def.calls l.2;
      owners = λ d i j a b at also is it. one_driver a.0 b.0
          (at_place (λ c. same_driver c.0 (driver 1)) def.calls i a l.3 at)
          (at_place (λ c. same_driver c.0 (driver 1)) def.calls j b l.3 also);
      freed = λ d i j a b lt at also is it. absurd (no_second d def.calls i j a b l.4 lt at also is it);
    }

-- ---- the lines

-- a latch edge line, and one whose masked chip drops edges
pub latch_is_valid : IsValid first_line
latch_is_valid = fits first_line (refl, refl, refl, refl, refl, refl, refl, refl, refl) (refl, refl, refl, refl, refl) (refl, refl, refl, refl, refl) refl

pub plain_is_valid : IsValid busy_plain_line
plain_is_valid = fits busy_plain_line (refl, refl, refl, refl, refl, refl, refl, refl, refl) (refl, refl, refl, refl, refl) (refl, refl, refl, refl, refl) refl

-- an edge line whose affinity takes effect at the next interrupt
pub later_is_valid : IsValid later_line
later_is_valid = fits later_line (refl, refl, refl, refl, refl, refl, refl, refl, refl) (refl, refl, refl, refl, refl) (refl, refl, refl, refl, refl) refl

-- a message line
pub msi_is_valid : IsValid msi_line
msi_is_valid = fits msi_line (refl, refl, refl, refl, refl, refl, refl, refl, refl) (refl, refl, refl, refl, refl) (refl, refl, refl, refl, refl) refl

-- an edge line with the fast-EOI flow
pub lpi_is_valid : IsValid busy_lpi_line
lpi_is_valid = fits busy_lpi_line (refl, refl, refl, refl, refl, refl, refl, refl, refl) (refl, refl, refl, refl, refl) (refl, refl, refl, refl, refl) refl

-- a level line
pub level_is_valid : IsValid storm_line
level_is_valid = fits storm_line (refl, refl, refl, refl, refl, refl, refl, refl, refl) (refl, refl, refl, refl, refl) (refl, refl, refl, refl, refl) refl

-- a one-shot level line of two devices with threads
pub oneshot_is_valid : IsValid two_threads_line
oneshot_is_valid = fits two_threads_line (refl, refl, refl, refl, refl, refl, refl, refl, refl)
    (refl, refl, refl, refl, refl) (refl, refl, refl, refl, refl) refl

-- a level line with the fast-EOI flow, one-shot
pub eoi_is_valid : IsValid eoi_thread_line
eoi_is_valid = fits eoi_thread_line (refl, refl, refl, refl, refl, refl, refl, refl, refl) (refl, refl, refl, refl, refl) (refl, refl, refl, refl, refl) refl
