-- How an entry stands in one word (ours). From its low end a word has two bits that say who made
-- the entry (0 a processor, 1 a thread, 2 a driver), four of its kind, a code of 8, a first number
-- of 16 and a second of 32. The first number is that of its maker, the code holds its small
-- answers. The kinds below 4 are the maker's own, those from 4 on calls.
use Rattle.std.specs.Prelude.{ℕ, ◌/◌, ◌%◌, ◌<◌, ◌==◌, nat_lt, ◌≡◌, Bool, true, ◌&&◌}
use Rattle.std.specs.Prelude.{if◌then◌else◌, List, get_or}
use Rattle.irq_base.specs.declared.numbers.CpuNo.{CpuNo}
use Rattle.irq_base.specs.declared.numbers.DevNo.{DevNo}
use Rattle.irq_base.specs.declared.numbers.DriverNo.{DriverNo}
use Rattle.irq_base.specs.declared.calls.Flags.{Flags}
use Rattle.irq_base.specs.declared.entries.CpuEntry.{CpuEntry}
use Rattle.irq_base.specs.declared.entries.CpuEntry.TheVariants as cpus
use Rattle.irq_base.specs.declared.entries.ThreadEntry.{ThreadEntry}
use Rattle.irq_base.specs.declared.entries.ThreadEntry.TheVariants as threads
use Rattle.irq_base.specs.declared.entries.DriverEntry.{DriverEntry}
use Rattle.irq_base.specs.declared.entries.DriverEntry.TheVariants as drivers
use Rattle.irq_base.specs.declared.entries.CallEntry.{CallEntry}
use Rattle.irq_base.specs.declared.entries.CallEntry.TheVariants as called
use Rattle.irq_base.specs.declared.entries.Entry.{Entry}
use Rattle.irq_base.specs.declared.entries.Entry.TheVariants as by
use Rattle.irq_base.specs.declared.parts.Content.{Content}
use Rattle.irq_base.specs.declared.parts.Parts.{Parts}
use Rattle.irq_base.specs.declared.packed.Packed.{Packed}
use Rattle.irq_base.specs.Codes.{way_at, take_at, answer_at, note_at, enable_at, opened_at}
use Rattle.irq_base.specs.Codes.{link_at, unlink_at, affinity_at, flag_at}

abbrev pub cpu_no : ℕ → CpuNo
cpu_no n = record { 0 = n }

abbrev pub dev_no : ℕ → DevNo
dev_no n = record { 0 = n }

abbrev pub driver_no : ℕ → DriverNo
driver_no n = record { 0 = n }

-- a device and how many of its asks were served share the second number
abbrev pub dev_part : ℕ → DevNo
dev_part second = dev_no (second % 65536)

abbrev pub served_part : ℕ → ℕ
served_part second = second / 65536

unfoldable pub cpu_entry : Content → CpuEntry
cpu_entry p =
    if p.kind == 0 then cpus.Take (way_at (p.code % 2)) (take_at (p.code / 2))
    else (if p.kind == 1 then cpus.Begin (dev_no p.second)
    else (if p.kind == 2
    then cpus.Return (answer_at p.code) (dev_part p.second) (served_part p.second)
    else cpus.End (flag_at (p.code % 2)) (flag_at (p.code / 2 % 2)) (note_at (p.code / 4))))

unfoldable pub thread_entry : Content → ThreadEntry
thread_entry p =
    if p.kind == 0 then threads.Begin
    else (if p.kind == 1 then threads.Return (flag_at p.code) p.second
    else (if p.kind == 2 then threads.Finish (flag_at (p.code % 2)) (flag_at (p.code / 2))
    else threads.Done))

unfoldable pub flags_at : ℕ → Flags
flags_at n =
    record { shared = flag_at (n % 2); oneshot = flag_at (n / 2 % 2); noauto = flag_at (n / 4) }

unfoldable pub driver_entry : Content → DriverEntry
driver_entry p =
    if p.kind == 0 then drivers.Ask (flag_at p.code) (dev_no p.second)
    else (if p.kind == 1
    then drivers.Request (flags_at (p.code % 8)) (link_at (p.code / 8 % 4))
    (opened_at (p.code / 32)) (dev_no p.second)
    else (if p.kind == 2 then drivers.Affinity (affinity_at p.code) p.second
    else drivers.Moment p.second))

unfoldable pub call_entry : Content → CallEntry
call_entry p =
    if p.kind == 4 then called.Disable
    else (if p.kind == 5 then called.HardClear
    else (if p.kind == 6 then called.Synced
    else (if p.kind == 7 then called.Enable (enable_at p.code)
    else (if p.kind == 8 then called.Unlink (unlink_at p.code) (dev_no p.second)
    else (if p.kind == 9 then called.Freed (dev_no p.second)
    else (if p.kind == 10 then called.Wake (flag_at p.code) (dev_no p.second)
    else (if p.kind == 11 then called.Quiet (dev_no p.second)
    else (if p.kind == 12 then called.Arm (flag_at p.code) (dev_no p.second)
    else called.Serve (dev_part p.second) (served_part p.second)))))))))

-- whether the kind is a call's
abbrev pub is_call_kind : Content → Bool
is_call_kind p = nat_lt 3 p.kind

-- the entry that the parts of a word stand for
unfoldable pub entry_of : Parts → Entry
entry_of p =
    if p.who == 0
    then (if is_call_kind p.content then by.CpuCall (cpu_no p.first) (call_entry p.content)
    else by.Cpu (cpu_no p.first) (cpu_entry p.content))
    else (if p.who == 1
    then (if is_call_kind p.content then by.ThreadCall (dev_no p.first) (call_entry p.content)
    else by.Thread (dev_no p.first) (thread_entry p.content))
    else (if is_call_kind p.content then by.DriverCall (driver_no p.first) (call_entry p.content)
    else by.Driver (driver_no p.first) (driver_entry p.content)))

-- the parts of a word
abbrev pub parts_of : Packed → Parts
parts_of w = record {
  who = w.0 % 4;
  first = w.0 / 4 / 16 / 256 % 65536;
  content = record {
    kind = w.0 / 4 % 16;
    code = w.0 / 4 / 16 % 256;
    second = w.0 / 4 / 16 / 256 / 65536 % 4294967296;
  };
}

-- an entry whose numbers don't fit stands in the list of wide entries; its word has 3 where others
-- say who made them, and above that the place in that list
abbrev pub is_wide : Packed → Bool
is_wide w = w.0 % 4 == 3

abbrev pub place_of : Packed → ℕ
place_of w = w.0 / 4

-- what is read if the list has no entry at the place
abbrev pub nothing : Entry
nothing = by.Thread (dev_no 0) threads.Done

-- the entry of a word
unfoldable pub unpack : List Entry → Packed → Entry
unpack wide w = if is_wide w then get_or wide (place_of w) nothing else entry_of (parts_of w)

-- whether a number fits into 16 bits
abbrev pub is_narrow_number : ℕ → Bool
is_narrow_number n = nat_lt n 65536

abbrev pub is_narrow_cpu : CpuEntry → Bool
is_narrow_cpu (cpus.Begin dev) = is_narrow_number dev.0
is_narrow_cpu (cpus.Return answer dev served) = is_narrow_number dev.0 && is_narrow_number served
is_narrow_cpu _ = true

abbrev pub is_narrow_driver : DriverEntry → Bool
is_narrow_driver (drivers.Ask edge dev) = is_narrow_number dev.0
is_narrow_driver (drivers.Request flags answer opened dev) = is_narrow_number dev.0
is_narrow_driver _ = true

abbrev pub is_narrow_call : CallEntry → Bool
is_narrow_call (called.Unlink answer dev) = is_narrow_number dev.0
is_narrow_call (called.Freed dev) = is_narrow_number dev.0
is_narrow_call (called.Wake woken dev) = is_narrow_number dev.0
is_narrow_call (called.Quiet dev) = is_narrow_number dev.0
is_narrow_call (called.Arm edge dev) = is_narrow_number dev.0
is_narrow_call (called.Serve dev served) = is_narrow_number dev.0 && is_narrow_number served
is_narrow_call _ = true

-- whether the numbers of an entry fit into a word
abbrev pub is_narrow : Entry → Bool
is_narrow (by.Cpu cpu e) = is_narrow_number cpu.0 && is_narrow_cpu e
is_narrow (by.Thread dev e) = is_narrow_number dev.0
is_narrow (by.Driver driver e) = is_narrow_number driver.0 && is_narrow_driver e
is_narrow (by.CpuCall cpu call) = is_narrow_number cpu.0 && is_narrow_call call
is_narrow (by.ThreadCall dev call) = is_narrow_number dev.0 && is_narrow_call call
is_narrow (by.DriverCall driver call) = is_narrow_number driver.0 && is_narrow_call call

-- each wide word's place is in the list
abbrev pub IsPlaced : ℕ → Packed → Type 0
IsPlaced n w = is_wide w ≡ true → place_of w < n
