-- The definition of a board's line is valid.
use Rattle.std.proofs.Common.{◌≡◌, ℕ, zero, suc, ◌<◌, ◌≤◌, ◌==◌, Bool, true, false, not, cond, ◌&&◌, ◌||◌, Some, List}
use Rattle.std.proofs.Common.{[], ◌∷◌, length, filter, take, All, refl, ap, subst, ◌∙◌, arith}
use Rattle.std.proofs.Math.ListN.{length-map}
use Rattle.std.specs.List.{slice_get, list_any}
use Rattle.std.proofs.lemmas.Bool.Decides.{nat_tests}
use Rattle.std.proofs.lemmas.List.{map-id}
use Rattle.irq_base.specs.Cell.{is_edge_trigger}
use Rattle.irq_base.specs.declared.calls.Call.{Call}
use Rattle.irq_base.specs.declared.calls.Call.TheVariants as calls
use Rattle.irq_base.specs.declared.devices.DeviceDef.{DeviceDef}
use Rattle.irq_base.specs.declared.domains.ControllerKind.{ControllerKind}
use Rattle.irq_base.specs.declared.domains.ControllerKind.TheVariants as levels
use Rattle.irq_base.specs.declared.numbers.DevNo.{DevNo}
use Rattle.irq_base.specs.declared.numbers.DriverNo.{DriverNo}
use Rattle.irq_base.specs.declared.numbers.LineNo.{LineNo}
use Rattle.irq_model.specs.Kinds.{same_dev}
use Rattle.irq_model.specs.Lines.{is_device, is_edge_flow, is_level_flow, is_eoi_flow}
use Rattle.irq_model.specs.Valid.{IsValid, HasDistinctDevices, names_one_of}
use Rattle.domain_rules.specs.Paths.{kinds_from}
use Rattle.domain_rules.specs.Levels.{root_kind, keeps, retriggers_kind, trigger_of_root, flow_of_root}
use Rattle.board_def.specs.LineOf.{line_of_row, with_driver}
use Rattle.board_def.specs.Rules.{IsBoard, fits_line, is_on_line, find_device}
use Rattle.board_def.specs.Seen.{BoardSeen}
use Rattle.board_def.specs.declared.rows.LineRow.{LineRow}
use Rattle.board_def.specs.declared.rows.ScriptCall.{ScriptCall}
use Rattle.board_def.specs.Unnamed.{defs_of}
use Rattle.domain_rules.proofs.Ways.{keeps_under_lpi}
use Rattle.board_def.proofs.Unnaming.{defs_allowed}
use Rattle.board_def.proofs.Kept.{all_kept, kept_fewer}
use Rattle.board_def.proofs.Owners.{owned_on_line, one_owner, freed_between}
use Rattle.board_def.proofs.Rising.{Rises, rises_on, head_of, differ}

-- kinds of roots

edge_root : (k : ControllerKind) → is_edge_flow (flow_of_root k) ≡ true → is_edge_trigger (trigger_of_root k) ≡ true
edge_root levels.Latch h = refl
edge_root levels.Plain h = refl
edge_root levels.Level h = absurd cc
edge_root levels.Eoi h = absurd cc
edge_root levels.Msi h = refl
edge_root levels.Remap h = refl
edge_root levels.Vector h = refl
edge_root levels.Lpi h = absurd cc
edge_root levels.Pin h = refl

level_root : (k : ControllerKind) → is_level_flow (flow_of_root k) ≡ true → not (is_edge_trigger (trigger_of_root k)) ≡ true
level_root levels.Latch h = absurd cc
level_root levels.Plain h = absurd cc
level_root levels.Level h = refl
level_root levels.Eoi h = absurd cc
level_root levels.Msi h = absurd cc
level_root levels.Remap h = absurd cc
level_root levels.Vector h = absurd cc
level_root levels.Lpi h = absurd cc
level_root levels.Pin h = absurd cc

-- the one root that is handled by the fast-EOI flow on edges
lpi_root : (k : ControllerKind) → is_edge_trigger (trigger_of_root k) ≡ true → is_eoi_flow (flow_of_root k) ≡ true → k ≡ levels.Lpi
lpi_root levels.Latch e f = absurd cc
lpi_root levels.Plain e f = absurd cc
lpi_root levels.Level e f = absurd cc
lpi_root levels.Eoi e f = absurd cc
lpi_root levels.Msi e f = absurd cc
lpi_root levels.Remap e f = absurd cc
lpi_root levels.Vector e f = absurd cc
lpi_root levels.Lpi e f = refl
lpi_root levels.Pin e f = absurd cc

-- devices

named : ℕ → LineNo
named n = record { 0 = n }

same_from_test : (m n : ℕ) → (m == n) ≡ true → m ≡ n
same_from_test m n h = grind (arith, nat_tests)

pub same_line : (a b : LineNo) → (a.0 == b.0) ≡ true → a ≡ b
unfolding named
same_line a b h = ap named (same_from_test a.0 b.0 h)

none_named : (keep : DeviceDef → Bool) (dev : DevNo) (xs : List DeviceDef)
    → ((i : ℕ) (x : DeviceDef) → slice_get xs i ≡ Some x → dev.0 < x.dev.0)
    → list_any (is_device dev) (filter keep xs) ≡ false
none_named keep dev [] above = refl
none_named keep dev (x ∷ xs) above = by (keep x) (none_named keep dev xs (λ i y at. above (suc i) y at))
  where
    by : (b : Bool) → list_any (is_device dev) (filter keep xs) ≡ false → list_any (is_device dev) (cond b (x ∷ filter keep xs) (filter keep xs)) ≡ false
    by true rest = ap (λ b. b || list_any (is_device dev) (filter keep xs)) (differ dev.0 x.dev.0 (above zero x refl)) ∙ rest
    by false rest = rest

distinct : (keep : DeviceDef → Bool) (xs : List DeviceDef) → Rises (λ (x : DeviceDef). x.dev.0) xs → HasDistinctDevices (filter keep xs)
distinct keep [] rises = tt
distinct keep (x ∷ xs) rises =
    let above : (i : ℕ) (y : DeviceDef) → slice_get xs i ≡ Some y
    → x.dev.0 < y.dev.0 = λ i y at. head_of (λ (e : DeviceDef). e.dev.0 < y.dev.0) x (take i xs)
    (rises (suc i) y at) in
    by (keep x) (none_named keep x.dev xs above) (distinct keep xs (rises_on (λ (x : DeviceDef). x.dev.0) x xs rises))
  where
    by : (b : Bool) → list_any (is_device x.dev) (filter keep xs) ≡ false → HasDistinctDevices (filter keep xs)
        → HasDistinctDevices (cond b (x ∷ filter keep xs) (filter keep xs))
    by true none rest = (none, rest)
    by false none rest = rest

-- a device whose line this is stands among the devices of the line's definition
pub among : (line : LineNo) (dev : DevNo) (xs : List DeviceDef) → is_on_line line (find_device xs dev) ≡ true
    → list_any (is_device dev) (filter (λ x. x.line.0 == line.0) xs) ≡ true
among line dev [] h = absurd cc
among line dev (x ∷ xs) h = by (same_dev dev x.dev) refl (x.line.0 == line.0) refl h (among line dev xs)
  where
    by : (b : Bool) → same_dev dev x.dev ≡ b → (k : Bool) → (x.line.0 == line.0) ≡ k → is_on_line line (cond b (Some x) (find_device xs dev)) ≡ true
        → (is_on_line line (find_device xs dev) ≡ true → list_any (is_device dev) (filter (λ x. x.line.0 == line.0) xs) ≡ true)
        → list_any (is_device dev) (cond k (x ∷ filter (λ x. x.line.0 == line.0) xs) (filter (λ x. x.line.0 == line.0) xs)) ≡ true
    by true is true on h rest = ap (λ b. b || list_any (is_device dev) (filter (λ x. x.line.0 == line.0) xs)) is
    by true is false on h rest = absurd cc
    by false is true on h rest = ap (λ b. b || list_any (is_device dev) (filter (λ x. x.line.0 == line.0) xs)) is ∙ rest h
    by false is false on h rest = rest h

named_on_line : (line : LineNo) (devices : List DeviceDef) (call : Call) → fits_line devices line call ≡ true
    → names_one_of (filter (λ x. x.line.0 == line.0) devices) call ≡ true
named_on_line line devices (calls.Ask dev) h = among line dev devices h
named_on_line line devices (calls.Request dev flags) h = among line dev devices h
named_on_line line devices (calls.Free dev) h = among line dev devices h
named_on_line line devices calls.Disable h = refl
named_on_line line devices calls.DisableNosync h = refl
named_on_line line devices calls.Enable h = refl
named_on_line line devices calls.Sync h = refl
named_on_line line devices (calls.Affinity mask) h = refl
named_on_line line devices (calls.Moment at) h = refl
named_on_line line devices calls.SyncHard h = refl
named_on_line line devices calls.DisableHard h = refl
named_on_line line devices (calls.Wake dev) h = refl
named_on_line line devices (calls.Quiet dev) h = refl
named_on_line line devices (calls.Arm dev) h = refl
named_on_line line devices (calls.Serve dev) h = refl

-- all together

unlazy_keeps : (u e k : Bool) → (u && (e && not k)) ≡ false → e ≡ true → u ≡ true → k ≡ true
unlazy_keeps true true true h he hu = refl
unlazy_keeps true true false h he hu = absurd cc
unlazy_keeps true false k h he hu = absurd cc
unlazy_keeps false e k h he hu = absurd cc

pub valid_row : (b : BoardSeen) (i : ℕ) (row : LineRow) → IsBoard b → slice_get b.lines i ≡ Some row → IsValid (line_of_row b row)
valid_row b i row board at =
    let here = board.lines i row at in
    let ks : List ControllerKind = kinds_from (defs_of b.domains) (Some row.domain) in
    let on_line : DeviceDef → Bool = λ x. x.line.0 == row.line.0 in
    let call_on_line : ScriptCall → Bool = λ c. c.line.0 == row.line.0 in
    let owned = owned_on_line b row.line board.calls in
    let above : b.limit < b.window = board.limit in
    let short : b.log ≤ 1000000 = board.small_log in
    let devices_few : length b.devices ≤ 256 = board.few_devices in
    let calls_few : length b.calls ≤ 16384 = board.few_calls in
    let calls_long = length-map (filter call_on_line b.calls) with_driver in
    let lpi : is_edge_trigger (trigger_of_root (root_kind ks)) ≡ true → is_eoi_flow (flow_of_root (root_kind ks)) ≡ true
    → root_kind ks ≡ levels.Lpi = lpi_root (root_kind ks) in
    record {
      some_cpu = board.some_cpu;
      few_cpus = board.few_cpus;
      some_window = omega (arith, above);
      small_window = board.small_window;
      limit = board.limit;
      some_log = board.some_log;
      small_log = omega (arith, short);
      few_devices = omega (arith, kept_fewer on_line b.devices, devices_few);
      few_calls = omega (arith, calls_long, kept_fewer call_on_line b.calls, calls_few);
      mask = here.mask;
      edge_flow = edge_root (root_kind ks);
      level_flow = level_root (root_kind ks);
      unlazy = unlazy_keeps row.unlazy (is_edge_trigger (trigger_of_root (root_kind ks))) (keeps ks) here.unlazy;
      eoi_keeps = λ edge eoi. keeps_under_lpi (defs_of b.domains) (defs_allowed b.domains board.domains) row.domain (lpi edge eoi);
      eoi_retriggers = λ edge eoi. ap retriggers_kind (lpi edge eoi);
      devices = subst (All (λ (x : DeviceDef). x.line ≡ row.line)) (map-id (filter on_line b.devices))
          (all_kept on_line (λ (x : DeviceDef). x) (λ (x : DeviceDef). Unit {0}) (λ (x : DeviceDef). x.line ≡ row.line)
          (λ x p k. same_line x.line row.line k) b.devices (λ i x at. tt));
      distinct = distinct on_line b.devices (λ i x at. (board.devices i x at).rises);
      calls = all_kept call_on_line with_driver (λ (c : ScriptCall). fits_line b.devices c.line c.call ≡ true)
          (λ (c : DriverNo × Call). names_one_of (filter on_line b.devices) c.1 ≡ true)
          (λ c fits k. named_on_line row.line b.devices c.call
          (subst (λ line. fits_line b.devices line c.call ≡ true) (same_line c.line row.line k) fits)) b.calls
          (λ i c at. (board.calls i c at).device);
      owners = λ d. one_owner d (filter call_on_line b.calls) owned;
      freed = λ d. freed_between d (filter call_on_line b.calls) owned;
    }
