-- Entries that `==` calls equal are the same.
use Rattle.std.proofs.Common.{rules, ◌≡◌, ◌↔◌, IsTrue, Bool, true, nat_eq, ◌&&◌, Option, Some, None}
use Rattle.std.proofs.lemmas.Bool.{and_parts}
use Rattle.std.specs.Option.{option_eq}
use Rattle.irq_base.specs.declared.calls.Flags.{Flags}
use Rattle.irq_base.specs.declared.entries.LinkAnswer.{LinkAnswer}
use Rattle.irq_base.specs.declared.entries.Opened.{Opened}
use Rattle.irq_base.specs.declared.entries.Entry.{Entry}
use Rattle.irq_base.specs.declared.entries.Entry.TheVariants as by
use Rattle.irq_base.specs.declared.entries.CpuEntry.{CpuEntry}
use Rattle.irq_base.specs.declared.entries.CpuEntry.TheVariants as cpus
use Rattle.irq_base.specs.declared.entries.ThreadEntry.{ThreadEntry}
use Rattle.irq_base.specs.declared.entries.DriverEntry.{DriverEntry}
use Rattle.irq_base.specs.declared.entries.DriverEntry.TheVariants as drivers
use Rattle.irq_base.specs.declared.entries.CallEntry.{CallEntry}
use Rattle.irq_base.specs.declared.entries.CallEntry.TheVariants as called
use Rattle.irq_base.specs.contracts.calls.FlagsPartialEq.TheImpl as flags_eq
use Rattle.irq_base.specs.contracts.entries.LinkAnswerPartialEq.TheImpl as link_eq
use Rattle.irq_base.specs.contracts.entries.OpenedPartialEq.TheImpl as opened_eq
use Rattle.irq_base.specs.contracts.entries.CpuEntryPartialEq.TheImpl as cpu_eq
use Rattle.irq_base.specs.contracts.entries.ThreadEntryPartialEq.TheImpl as thread_eq
use Rattle.irq_base.specs.contracts.entries.DriverEntryPartialEq.TheImpl as driver_eq
use Rattle.irq_base.specs.contracts.entries.CallEntryPartialEq.TheImpl as call_eq
use Rattle.irq_base.specs.contracts.entries.EntryPartialEq.TheImpl as entry_eq
use Rattle.irq_base.specs.contracts.entries.EntryEq.TheImpl.Laws as entry_laws

same_flags : (p q : Flags) → (flags_eq.eq-value).it p q ≡ true → p ≡ q
same_flags p q h = search rules

same_link : (p q : LinkAnswer) → (link_eq.eq-value).it p q ≡ true → p ≡ q
same_link p q h = search rules

same_opened : (p q : Opened) → (opened_eq.eq-value).it p q ≡ true → p ≡ q
same_opened p q h = search rules

same_cpu_entry : (p q : CpuEntry) → (cpu_eq.eq-value).it p q ≡ true → p ≡ q
same_cpu_entry (cpus.Take a b) (cpus.Take v w) h = search rules
same_cpu_entry (cpus.Take a b) q h = cc
same_cpu_entry (cpus.Begin a) (cpus.Begin v) h = search rules
same_cpu_entry (cpus.Begin a) q h = cc
same_cpu_entry (cpus.Return a b c) (cpus.Return v w x) h = search rules
same_cpu_entry (cpus.Return a b c) q h = cc
same_cpu_entry (cpus.End a b c) (cpus.End v w x) h = search rules
same_cpu_entry (cpus.End a b c) q h = cc

same_thread_entry : (p q : ThreadEntry) → (thread_eq.eq-value).it p q ≡ true → p ≡ q
same_thread_entry p q h = search rules

same_driver_entry : (p q : DriverEntry) → (driver_eq.eq-value).it p q ≡ true → p ≡ q
same_driver_entry (drivers.Ask a b) (drivers.Ask v w) h = search rules
same_driver_entry (drivers.Ask a b) q h = cc
same_driver_entry (drivers.Request a b c d) (drivers.Request v w x y) h =
    let flags = (flags_eq.eq-value).it a v in
    let links = (link_eq.eq-value).it b w in
    let opens = (opened_eq.eq-value).it c x in
    let dev = nat_eq d.0 y.0 in
    let all = and_parts flags (links && (opens && dev)) h in
    let but_flags = and_parts links (opens && dev) all.1 in
    let answers = and_parts opens dev but_flags.1 in
    let same_a = same_flags a v all.0 in
    let same_b = same_link b w but_flags.0 in
    let same_c = same_opened c x answers.0 in
    let same_d : d ≡ y = (let n = answers.1 in search rules) in
    cc
same_driver_entry (drivers.Request a b c d) q h = cc
same_driver_entry (drivers.Affinity a b) (drivers.Affinity v w) h = search rules
same_driver_entry (drivers.Affinity a b) q h = cc
same_driver_entry (drivers.Moment a) (drivers.Moment v) h = search rules
same_driver_entry (drivers.Moment a) q h = cc

same_call : (p q : CallEntry) → (call_eq.eq-value).it p q ≡ true → p ≡ q
same_call called.Disable q h = search rules
same_call called.HardClear q h = search rules
same_call called.Synced q h = search rules
same_call (called.Enable a) (called.Enable v) h = search rules
same_call (called.Enable a) q h = cc
same_call (called.Unlink a b) (called.Unlink v w) h = search rules
same_call (called.Unlink a b) q h = cc
same_call (called.Freed a) (called.Freed v) h = search rules
same_call (called.Freed a) q h = cc
same_call (called.Wake a b) (called.Wake v w) h = search rules
same_call (called.Wake a b) q h = cc
same_call (called.Quiet a) (called.Quiet v) h = search rules
same_call (called.Quiet a) q h = cc
same_call (called.Arm a b) (called.Arm v w) h = search rules
same_call (called.Arm a b) q h = cc
same_call (called.Serve a b) (called.Serve v w) h = search rules
same_call (called.Serve a b) q h = cc

-- two entries that are equal are one
pub same_entries : (p q : Entry) → (entry_eq.eq-value).it p q ≡ true → p ≡ q
same_entries (by.Cpu a b) (by.Cpu v w) h = search (rules, same_cpu_entry b w)
same_entries (by.Cpu a b) q h = cc
same_entries (by.Thread a b) (by.Thread v w) h = search (rules, same_thread_entry b w)
same_entries (by.Thread a b) q h = cc
same_entries (by.Driver a b) (by.Driver v w) h = search (rules, same_driver_entry b w)
same_entries (by.Driver a b) q h = cc
same_entries (by.CpuCall a b) (by.CpuCall v w) h = search (rules, same_call b w)
same_entries (by.CpuCall a b) q h = cc
same_entries (by.ThreadCall a b) (by.ThreadCall v w) h = search (rules, same_call b w)
same_entries (by.ThreadCall a b) q h = cc
same_entries (by.DriverCall a b) (by.DriverCall v w) h = search (rules, same_call b w)
same_entries (by.DriverCall a b) q h = cc

-- the test whether an entry was found, and is that one
pub found_same : (found : Option Entry) (p : Entry) (answer : Bool)
    → answer ≡ option_eq (entry_eq.eq-value).it found (Some p) → IsTrue answer ↔ (found ≡ Some p)
found_same None p answer h = search rules
found_same (Some q) p answer h = let laws = entry_laws.laws-law in search (rules, same_entries q p)
