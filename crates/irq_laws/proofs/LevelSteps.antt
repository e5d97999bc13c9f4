-- What an entry makes of the level: a run that served nothing leaves it as it was.
use Rattle.std.proofs.Common.{◌≡◌, ℕ, min, Bool, true, false, not, ◌&&◌, Option, Some, None, List, ◌∷◌, nat_lt, refl, ap, ap₂}
use Rattle.std.proofs.lemmas.Bool.{and_right}
use Rattle.irq_base.specs.declared.numbers.CpuNo.{CpuNo}
use Rattle.irq_base.specs.declared.numbers.DevNo.{DevNo}
use Rattle.irq_base.specs.declared.devices.Answer.{Answer}
use Rattle.irq_base.specs.declared.devices.DeviceDef.{DeviceDef}
use Rattle.irq_base.specs.declared.devices.Part.{Part}
use Rattle.irq_base.specs.declared.devices.Part.TheVariants as parts
use Rattle.irq_base.specs.declared.lines.LineDef.{LineDef}
use Rattle.irq_base.specs.declared.entries.Entry.{Entry}
use Rattle.irq_base.specs.declared.entries.Entry.TheVariants as by
use Rattle.irq_base.specs.declared.entries.CpuEntry.TheVariants as cpus
use Rattle.irq_base.specs.declared.entries.ThreadEntry.TheVariants as threads
use Rattle.irq_base.specs.declared.entries.DriverEntry.TheVariants as drivers
use Rattle.irq_base.specs.declared.entries.CallEntry.{CallEntry}
use Rattle.irq_base.specs.declared.entries.CallEntry.TheVariants as called
use Rattle.irq_model.specs.Places.{since, count_of}
use Rattle.irq_model.specs.Kinds.{same_dev, is_call, is_ask, is_serve}
use Rattle.irq_model.specs.Lines.{is_level_line}
use Rattle.irq_model.specs.Asks.{left_by_runs, serving, unserved_asks, is_quiet, is_high}
use Rattle.irq_laws.proofs.Lists.{any_ext}

-- the entries at which the level can change
abbrev pub moves_by_call : CallEntry → Bool
moves_by_call (called.Quiet dev) = true
moves_by_call (called.Arm edge dev) = true
moves_by_call (called.Serve dev served) = true
moves_by_call _ = false

abbrev pub moves_level : Entry → Bool
moves_level (by.Driver driver (drivers.Ask makes dev)) = true
moves_level (by.Cpu cpu (cpus.Return answer dev served)) = true
moves_level (by.Thread dev (threads.Return handled served)) = true
moves_level e = is_call moves_by_call e

-- the level stays if no device's unserved asks change, and none is turned off or on
high_by : (def : LineDef) (e : Entry) (past : List Entry)
    → ((d : DevNo) → unserved_asks def d (e ∷ past) ≡ unserved_asks def d past)
    → ((d : DevNo) → is_quiet (e ∷ past) d ≡ is_quiet past d)
    → is_high def (e ∷ past) ≡ is_high def past
high_by def e past h q =
    ap (λ (b : Bool). is_level_line def && b)
    (any_ext (λ (x : DeviceDef). not (is_quiet (e ∷ past) x.dev) && nat_lt 0 (unserved_asks def x.dev (e ∷ past)))
    (λ (x : DeviceDef). not (is_quiet past x.dev) && nat_lt 0 (unserved_asks def x.dev past)) def.devices
    (λ x. ap₂ (λ (b : Bool) (n : ℕ). not b && nat_lt 0 n) (q x.dev) (h x.dev)))

unserved_by : (def : LineDef) (d : DevNo) (e : Entry) (past : List Entry)
    → count_of (is_ask d) (since (is_serve d) (e ∷ past)) ≡ count_of (is_ask d) (since (is_serve d) past)
    → left_by_runs (serving def d) d (e ∷ past) ≡ left_by_runs (serving def d) d past
    → unserved_asks def d (e ∷ past) ≡ unserved_asks def d past
unserved_by def d e past h i = ap₂ (λ (n m : ℕ). min n m) h i

left_quiet : (part : Option Part) (d : DevNo) (e : Entry) (past : List Entry) → moves_level e ≡ false
    → left_by_runs part d (e ∷ past) ≡ left_by_runs part d past
left_quiet part d (by.Driver driver (drivers.Ask makes dev)) past h = cc
left_quiet part d (by.Cpu cpu (cpus.Return answer dev served)) past h = cc
left_quiet part d (by.Thread dev (threads.Return handled served)) past h = cc
left_quiet None d e past h = refl
left_quiet (Some parts.Primary) d e past h = refl
left_quiet (Some parts.Thread) d e past h = refl

serve_quiet : (d : DevNo) (e : Entry) (past : List Entry) → moves_level e ≡ false
    → count_of (is_ask d) (since (is_serve d) (e ∷ past)) ≡ count_of (is_ask d) (since (is_serve d) past)
serve_quiet d (by.Driver driver (drivers.Ask makes dev)) past h = cc
serve_quiet d (by.CpuCall cpu (called.Serve dev served)) past h = cc
serve_quiet d (by.ThreadCall x (called.Serve dev served)) past h = cc
serve_quiet d (by.DriverCall driver (called.Serve dev served)) past h = cc
serve_quiet d e past h = refl

turned_quiet : (d : DevNo) (e : Entry) (past : List Entry) → moves_level e ≡ false → is_quiet (e ∷ past) d ≡ is_quiet past d
turned_quiet d (by.CpuCall cpu (called.Quiet dev)) past h = cc
turned_quiet d (by.CpuCall cpu (called.Arm edge dev)) past h = cc
turned_quiet d (by.ThreadCall x (called.Quiet dev)) past h = cc
turned_quiet d (by.ThreadCall x (called.Arm edge dev)) past h = cc
turned_quiet d (by.DriverCall driver (called.Quiet dev)) past h = cc
turned_quiet d (by.DriverCall driver (called.Arm edge dev)) past h = cc
turned_quiet d e past h = refl

pub high_quiet : (def : LineDef) (e : Entry) (past : List Entry) → moves_level e ≡ false → is_high def (e ∷ past) ≡ is_high def past
high_quiet def e past h =
    high_by def e past (λ d. unserved_by def d e past (serve_quiet d e past h) (left_quiet (serving def d) d e past h)) (λ d. turned_quiet d e past h)

-- a return that served nothing

idle_return : (part : Option Part) (c : CpuNo) (x d : DevNo) (answer : Answer) (count : ℕ) (past : List Entry) → nat_lt 0 count ≡ false
    → left_by_runs part x (by.Cpu c (cpus.Return answer d count) ∷ past) ≡ left_by_runs part x past
idle_return None c x d answer count past none = refl
idle_return (Some parts.Thread) c x d answer count past none = refl
idle_return (Some parts.Primary) c x d answer count past none = let n = and_right (same_dev x d) (nat_lt 0 count) none in rw n refl

pub high_return : (def : LineDef) (c : CpuNo) (d : DevNo) (answer : Answer) (count : ℕ) (past : List Entry) → nat_lt 0 count ≡ false
    → is_high def (by.Cpu c (cpus.Return answer d count) ∷ past) ≡ is_high def past
high_return def c d answer count past none =
    high_by def (by.Cpu c (cpus.Return answer d count)) past
    (λ x. unserved_by def x (by.Cpu c (cpus.Return answer d count)) past refl (idle_return (serving def x) c x d answer count past none)) (λ x. refl)

idle_thread : (part : Option Part) (x d : DevNo) (handled : Bool) (count : ℕ) (past : List Entry) → nat_lt 0 count ≡ false
    → left_by_runs part x (by.Thread d (threads.Return handled count) ∷ past) ≡ left_by_runs part x past
idle_thread None x d handled count past none = refl
idle_thread (Some parts.Primary) x d handled count past none = refl
idle_thread (Some parts.Thread) x d handled count past none = let n = and_right (same_dev x d) (nat_lt 0 count) none in rw n refl

pub high_thread_return : (def : LineDef) (d : DevNo) (handled : Bool) (count : ℕ) (past : List Entry) → nat_lt 0 count ≡ false
    → is_high def (by.Thread d (threads.Return handled count) ∷ past) ≡ is_high def past
high_thread_return def d handled count past none =
    high_by def (by.Thread d (threads.Return handled count)) past
    (λ x. unserved_by def x (by.Thread d (threads.Return handled count)) past refl (idle_thread (serving def x) x d handled count past none)) (λ x. refl)
