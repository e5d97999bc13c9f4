-- Which texts are rows of a log.
use Rattle.std.specs.Prelude.{◌≡◌, ℕ, ◌<◌, ◌^◌, List}
use Rattle.irq_base.specs.declared.entries.CpuEntry.{CpuEntry}
use Rattle.irq_base.specs.declared.entries.CpuEntry.TheVariants as cpus
use Rattle.irq_base.specs.declared.entries.ThreadEntry.{ThreadEntry}
use Rattle.irq_base.specs.declared.entries.ThreadEntry.TheVariants as threads
use Rattle.irq_base.specs.declared.entries.DriverEntry.{DriverEntry}
use Rattle.irq_base.specs.declared.entries.DriverEntry.TheVariants as drivers
use Rattle.irq_base.specs.declared.entries.CallEntry.{CallEntry}
use Rattle.irq_base.specs.declared.entries.CallEntry.TheVariants as called
use Rattle.irq_base.specs.declared.entries.Entry.{Entry}
use Rattle.irq_base.specs.declared.entries.Entry.TheVariants as by
use Rattle.irq_base.specs.declared.numbers.LineNo.{LineNo}
use Rattle.log_text.specs.EntryWords.{IsPrintable}
use Rattle.log_text.specs.Rows.{entry_text}

-- a number of a row takes 32 bits
abbrev pub IsSmall : ℕ → Type 0
IsSmall n = n < 2 ^ 32

abbrev pub HasSmallCpu : CpuEntry → Type 0
HasSmallCpu (cpus.Begin dev) = IsSmall dev.0
HasSmallCpu (cpus.Return answer dev served) = IsSmall dev.0 × IsSmall served
HasSmallCpu _ = Unit {0}

abbrev pub HasSmallThread : ThreadEntry → Type 0
HasSmallThread (threads.Return handled served) = IsSmall served
HasSmallThread _ = Unit {0}

abbrev pub HasSmallDriver : DriverEntry → Type 0
HasSmallDriver (drivers.Ask edge dev) = IsSmall dev.0
HasSmallDriver (drivers.Request flags answer opened dev) = IsSmall dev.0
HasSmallDriver (drivers.Affinity answer mask) = IsSmall mask
HasSmallDriver (drivers.Moment at) = IsSmall at

abbrev pub HasSmallCall : CallEntry → Type 0
HasSmallCall (called.Unlink answer dev) = IsSmall dev.0
HasSmallCall (called.Freed dev) = IsSmall dev.0
HasSmallCall (called.Wake woken dev) = IsSmall dev.0
HasSmallCall (called.Quiet dev) = IsSmall dev.0
HasSmallCall (called.Arm edge dev) = IsSmall dev.0
HasSmallCall (called.Serve dev served) = IsSmall dev.0 × IsSmall served
HasSmallCall _ = Unit {0}

-- each number of the entry is small
abbrev pub HasSmallNumbers : Entry → Type 0
HasSmallNumbers (by.Cpu cpu e) = IsSmall cpu.0 × HasSmallCpu e
HasSmallNumbers (by.Thread dev e) = IsSmall dev.0 × HasSmallThread e
HasSmallNumbers (by.Driver driver e) = IsSmall driver.0 × HasSmallDriver e
HasSmallNumbers (by.CpuCall cpu call) = IsSmall cpu.0 × HasSmallCall call
HasSmallNumbers (by.ThreadCall dev call) = IsSmall dev.0 × HasSmallCall call
HasSmallNumbers (by.DriverCall driver call) = IsSmall driver.0 × HasSmallCall call

-- the entry has a row
pub record IsWritable (e : Entry) : Type 0 where
  pub printable : IsPrintable e
  pub small : HasSmallNumbers e

-- the bytes are the row of this entry of this line
pub record IsRowOf (row : List ℕ) (line : LineNo) (e : Entry) : Type 0 where
  pub text : row ≡ entry_text line e
  pub number : IsSmall line.0
  pub writable : IsWritable e

-- the bytes are the row of some entry of some line
abbrev pub IsFormed : List ℕ → Type 0
IsFormed row = (line : LineNo) × (e : Entry) × IsRowOf row line e
