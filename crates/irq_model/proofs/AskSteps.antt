-- What one more entry makes of the unserved asks.
use Rattle.std.proofs.Common.{Bool, true, ◌≡◌, ℕ, ◌+◌, min, Option, Some, None, List, ◌∷◌, nat_lt, refl, ap₂, ◌∙◌, arith}
use Rattle.irq_base.specs.declared.devices.Answer.{Answer}
use Rattle.irq_base.specs.declared.devices.Part.{Part}
use Rattle.irq_base.specs.declared.devices.Part.TheVariants as parts
use Rattle.irq_base.specs.declared.entries.Entry.{Entry}
use Rattle.irq_base.specs.declared.entries.Entry.TheVariants as by
use Rattle.irq_base.specs.declared.entries.CpuEntry.TheVariants as cpus
use Rattle.irq_base.specs.declared.entries.ThreadEntry.TheVariants as threads
use Rattle.irq_base.specs.declared.entries.DriverEntry.TheVariants as drivers
use Rattle.irq_base.specs.declared.lines.LineDef.{LineDef}
use Rattle.irq_base.specs.declared.numbers.CpuNo.{CpuNo}
use Rattle.irq_base.specs.declared.numbers.DevNo.{DevNo}
use Rattle.irq_base.specs.declared.numbers.DriverNo.{DriverNo}
use Rattle.irq_model.specs.Asks.{left_by_runs, serving, unserved_asks}
use Rattle.irq_model.specs.Kinds.{is_ask, is_begin, is_thread_begin, is_serve}
use Rattle.irq_model.specs.Places.{since, count_of}
use Rattle.irq_model.specs.Runs.{met_by}
use Rattle.irq_model.proofs.Same.{same_self}

-- the asks since the handler was last called, since the thread's last run began, and since the device
-- was last served by a call
abbrev pub fresh_asks : DevNo → List Entry → ℕ
fresh_asks d past = count_of (is_ask d) (since (is_begin d) past)

abbrev pub fresh_thread_asks : DevNo → List Entry → ℕ
fresh_thread_asks d past = count_of (is_ask d) (since (is_thread_begin d) past)

abbrev pub asks_since_serve : DevNo → List Entry → ℕ
asks_since_serve d past = count_of (is_ask d) (since (is_serve d) past)

left_ask : (part : Option Part) (edge : Bool) (r : DriverNo) (d : DevNo) (past : List Entry)
    → left_by_runs part d (by.Driver r (drivers.Ask edge d) ∷ past) ≡ left_by_runs part d past + 1
left_ask None edge r d past = rw (same_self d) refl
left_ask (Some parts.Primary) edge r d past = rw (same_self d) (omega arith)
left_ask (Some parts.Thread) edge r d past = rw (same_self d) (omega arith)

fresh_serve_ask : (edge : Bool) (r : DriverNo) (d : DevNo) (past : List Entry)
    → asks_since_serve d (by.Driver r (drivers.Ask edge d) ∷ past) ≡ asks_since_serve d past + 1
fresh_serve_ask edge r d past = rw (same_self d) refl

both_more : (a b : ℕ) → min (a + 1) (b + 1) ≡ min a b + 1
both_more a b = omega arith

pub unserved_ask : (def : LineDef) (edge : Bool) (r : DriverNo) (d : DevNo) (past : List Entry)
    → unserved_asks def d (by.Driver r (drivers.Ask edge d) ∷ past) ≡ unserved_asks def d past + 1
unserved_ask def edge r d past =
    ap₂ (λ (a b : ℕ). min a b) (fresh_serve_ask edge r d past) (left_ask (serving def d) edge r d past)
    ∙ both_more (asks_since_serve d past) (left_by_runs (serving def d) d past)

pub fresh_ask : (edge : Bool) (r : DriverNo) (d : DevNo) (past : List Entry)
    → fresh_asks d (by.Driver r (drivers.Ask edge d) ∷ past) ≡ fresh_asks d past + 1
fresh_ask edge r d past = rw (same_self d) refl

pub fresh_thread_ask : (edge : Bool) (r : DriverNo) (d : DevNo) (past : List Entry)
    → fresh_thread_asks d (by.Driver r (drivers.Ask edge d) ∷ past) ≡ fresh_thread_asks d past + 1
fresh_thread_ask edge r d past = rw (same_self d) refl

-- a run that begins meets what is unserved
pub met_begin : (def : LineDef) (cpu : CpuNo) (d : DevNo) (past : List Entry)
    → met_by def parts.Primary d (by.Cpu cpu (cpus.Begin d) ∷ past) ≡ unserved_asks def d past
met_begin def cpu d past = rw (same_self d) refl

pub met_thread_begin : (def : LineDef) (d : DevNo) (past : List Entry)
    → met_by def parts.Thread d (by.Thread d threads.Begin ∷ past) ≡ unserved_asks def d past
met_thread_begin def d past = rw (same_self d) refl

pub fresh_begin : (cpu : CpuNo) (d : DevNo) (past : List Entry) → fresh_asks d (by.Cpu cpu (cpus.Begin d) ∷ past) ≡ 0
fresh_begin cpu d past = rw (same_self d) refl

pub fresh_thread_begin : (d : DevNo) (past : List Entry) → fresh_thread_asks d (by.Thread d threads.Begin ∷ past) ≡ 0
fresh_thread_begin d past = rw (same_self d) refl

-- a run that returns, and has served, leaves what came since it began
pub left_return : (cpu : CpuNo) (d : DevNo) (a : Answer) (n : ℕ) (past : List Entry) → nat_lt 0 n ≡ true
    → left_by_runs (Some parts.Primary) d (by.Cpu cpu (cpus.Return a d n) ∷ past) ≡ fresh_asks d past
left_return cpu d a n past some = rw (same_self d, some) (omega arith)

pub left_thread_return : (handled : Bool) (d : DevNo) (n : ℕ) (past : List Entry) → nat_lt 0 n ≡ true
    → left_by_runs (Some parts.Thread) d (by.Thread d (threads.Return handled n) ∷ past) ≡ fresh_thread_asks d past
left_thread_return handled d n past some = rw (same_self d, some) (omega arith)
