-- The definitions of lines that a board can have. Each call that takes a definition asks for this.
use Rattle.std.specs.Prelude.{◌≡◌, ℕ, ◌<◌, ◌≤◌, Bool, true, false, ◌||◌, IsSome, Some, List, []}
use Rattle.std.specs.Prelude.{◌∷◌, length, slice_get, All}
use Rattle.std.specs.List.{list_any}
use Rattle.irq_base.specs.declared.numbers.DevNo.{DevNo}
use Rattle.irq_base.specs.declared.numbers.DriverNo.{DriverNo}
use Rattle.irq_base.specs.declared.calls.Call.{Call}
use Rattle.irq_base.specs.declared.calls.Call.TheVariants as calls
use Rattle.irq_base.specs.declared.devices.DeviceDef.{DeviceDef}
use Rattle.irq_base.specs.declared.lines.LineDef.{LineDef}
use Rattle.irq_model.specs.Kinds.{same_dev}
use Rattle.irq_model.specs.Lines.{is_edge_line, is_level_line, is_edge_flow, is_level_flow}
use Rattle.irq_model.specs.Lines.{is_eoi_flow, is_device}
use Rattle.irq_model.specs.Signal.{lowest_in}

abbrev pub requests_dev : DevNo → Call → Bool
requests_dev d (calls.Request dev flags) = same_dev d dev
requests_dev d _ = false

abbrev pub frees_dev : DevNo → Call → Bool
frees_dev d (calls.Free dev) = same_dev d dev
frees_dev d _ = false

-- if the call names a device, it is one of these
abbrev pub names_one_of : List DeviceDef → Call → Bool
names_one_of devices (calls.Ask dev) = list_any (is_device dev) devices
names_one_of devices (calls.Request dev flags) = list_any (is_device dev) devices
names_one_of devices (calls.Free dev) = list_any (is_device dev) devices
names_one_of devices _ = true

-- no two devices have the same number
abbrev pub HasDistinctDevices : List DeviceDef → Type 0
HasDistinctDevices [] = Unit {0}
HasDistinctDevices (x ∷ xs) = (list_any (is_device x.dev) xs ≡ false) × HasDistinctDevices xs

-- one driver alone requests and frees d
abbrev pub HasOneOwner : List (DriverNo × Call) → DevNo → Type 0
HasOneOwner cs d =
    (i j : ℕ) (a b : DriverNo × Call) → slice_get cs i ≡ Some a → slice_get cs j ≡ Some b
    → (requests_dev d a.1 || frees_dev d a.1) ≡ true
    → (requests_dev d b.1 || frees_dev d b.1) ≡ true → a.0 ≡ b.0

-- between two requests of d stands a free of it
abbrev pub IsFreedBetween : List (DriverNo × Call) → DevNo → Type 0
IsFreedBetween cs d =
    (i j : ℕ) (a b : DriverNo × Call) → i < j → slice_get cs i ≡ Some a → slice_get cs j ≡ Some b
    → requests_dev d a.1 ≡ true → requests_dev d b.1 ≡ true
    → (k : ℕ) × (c : DriverNo × Call) × (i < k) × (k < j) × (slice_get cs k ≡ Some c)
    × (frees_dev d c.1 ≡ true)

pub record IsValid (def : LineDef) : Type 0 where
  pub some_cpu : 1 ≤ def.cpus
  pub few_cpus : def.cpus ≤ 32
  pub some_window : 1 ≤ def.window
  pub small_window : def.window ≤ 1000000
  pub limit : def.limit < def.window
  pub some_log : 1 ≤ def.log
  pub small_log : def.log ≤ 100000000
  pub few_devices : length def.devices ≤ 256
  pub few_calls : length def.calls ≤ 16384
  -- the mask has a processor of the machine
  pub mask : IsSome (lowest_in def.cpus def.mask)
  -- the edge flow is for edges, the level flow for levels
  pub edge_flow : is_edge_flow def.flow ≡ true → is_edge_line def ≡ true
  pub level_flow : is_level_flow def.flow ≡ true → is_level_line def ≡ true
  -- an edge line that is masked as soon as it is disabled keeps what comes then
  pub unlazy : is_edge_line def ≡ true → def.unlazy ≡ true → def.keeps ≡ true
  -- the fast-EOI flow on an edge line rests on a chip that keeps and sends again
  pub eoi_keeps : is_edge_line def ≡ true → is_eoi_flow def.flow ≡ true → def.keeps ≡ true
  pub eoi_retriggers : is_edge_line def ≡ true → is_eoi_flow def.flow ≡ true → def.retriggers ≡ true
  pub devices : All (λ x. x.line ≡ def.line) def.devices
  pub distinct : HasDistinctDevices def.devices
  pub calls : All (λ c. names_one_of def.devices c.1 ≡ true) def.calls
  pub owners : (d : DevNo) → HasOneOwner def.calls d
  pub freed : (d : DevNo) → IsFreedBetween def.calls d
