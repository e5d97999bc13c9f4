-- What a board keeps while it is generated, so that more may be added.
use Rattle.std.specs.Prelude.{◌≡◌, ℕ, ◌+◌, ◌*◌, ◌<◌, ◌≤◌, true, false, None, length, All}
use Rattle.irq_base.specs.declared.numbers.DevNo.{DevNo}
use Rattle.board_def.specs.Rules.{has_line, has_driver, find_device, is_on_line, first_owning}
use Rattle.board_def.specs.Rules.{is_of_another}
use Rattle.board_def.specs.Seen.{BoardSeen}
use Rattle.board_gen.specs.declared.scripts.Script.{Script}
use Rattle.board_gen.specs.Generated.{four_domains}

-- no request and no free names a device from this number on
abbrev pub NamesNone : ℕ → BoardSeen → Type 0
NamesNone from b = (d : DevNo) → from ≤ d.0 → first_owning d b.calls ≡ None

-- the board has the lines below `number` and the devices below `first`
pub record IsUpTo (number first : ℕ) (b : BoardSeen) : Type 0 where
  pub cpus : b.cpus ≡ 2
  pub log : b.log ≡ 65536
  pub domains : b.domains ≡ four_domains
  pub line_count : length b.lines + 1 ≡ number
  pub driver_count : length b.drivers + 1 ≡ number
  pub device_count : length b.devices + 1 ≡ first
  pub few_devices : first + 1 ≤ 2 * number
  pub few_calls : length b.calls + 255 ≤ 255 * number
  pub lines : All (λ e. e.line.0 < number) b.lines
  pub devices : All (λ e. e.dev.0 < first) b.devices
  pub drivers : All (λ e. e.0 < number) b.drivers
  pub callers : All (λ c. c.driver.0 < number) b.calls
  pub unnamed : NamesNone first b

-- the calls of the script may be added
pub record IsScripted (s : Script) (b : BoardSeen) : Type 0 where
  pub driver : has_driver b.drivers (record { 0 = s.number }) ≡ true
  pub line : has_line b.lines (record { 0 = s.number }) ≡ true
  pub devices : (d : DevNo) → s.first ≤ d.0 → d.0 < s.first + s.devices
      → is_on_line (record { 0 = s.number }) (find_device b.devices d) ≡ true
  pub callers : All (λ c. c.driver.0 ≤ s.number) b.calls
  -- this driver alone requests and frees these devices, and nobody the later ones
  pub own : (d : DevNo) → s.first ≤ d.0
      → is_of_another (record { 0 = s.number }) (first_owning d b.calls) ≡ false
  pub unnamed : NamesNone (s.first + s.devices) b
