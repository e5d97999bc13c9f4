-- What was looked up in the history is what the queries of a line ask for.
use Rattle.std.specs.Prelude.{◌≡◌, ◌≤◌, ◌↔◌, Bool, true, false, IsTrue, is_some, if◌then◌else◌}
use Rattle.std.specs.Prelude.{nat_le, Option, Some, None, List}
use Rattle.irq_base.specs.declared.numbers.CpuNo.{CpuNo}
use Rattle.irq_base.specs.declared.numbers.DevNo.{DevNo}
use Rattle.irq_base.specs.declared.entries.Actor.TheVariants as actors
use Rattle.irq_base.specs.declared.entries.Entry.{Entry}
use Rattle.irq_base.specs.declared.lines.LineDef.{LineDef}
use Rattle.irq_model.specs.Next.{next_past}
use Rattle.irq_model.specs.Rounds.{flow}
use Rattle.irq_model.specs.Waits.{IsLowestHungPast}
use Rattle.irq_line.specs.Queries.{is_some_take, blocks_at, spins_at}
use Rattle.plain_line.specs.declared.looking.Looked.{Looked}

-- takes are due of this processor, and of no other
abbrev pub IsTakerAt : LineDef → List Entry → Option CpuNo → Type 0
IsTakerAt def past taker =
    (cpu : CpuNo) → (taker ≡ Some cpu) ↔ IsTrue (is_some_take (next_past def past (actors.Cpu cpu)))

-- an entry is due of the device's thread
abbrev pub is_thread_due : LineDef → List Entry → DevNo → Bool
is_thread_due def past dev = is_some (next_past def past (actors.Thread dev))

abbrev pub IsThreadDueAt : LineDef → List Entry → DevNo → Type 0
IsThreadDueAt def past dev = IsTrue (is_thread_due def past dev)

-- the lowest device by number whose thread has an entry due; none if no thread has one
abbrev pub IsLowestAt : LineDef → List Entry → Option DevNo → Type 0
IsLowestAt def past None = (dev : DevNo) → IsThreadDueAt def past dev → ⊥
IsLowestAt def past (Some lowest) =
    IsThreadDueAt def past lowest × ((dev : DevNo) → IsThreadDueAt def past dev → lowest.0 ≤ dev.0)

-- the lower of the two devices if the second counts, else the first
abbrev pub lower_of : Option DevNo → DevNo → Bool → Option DevNo
lower_of so_far dev false = so_far
lower_of None dev true = Some dev
lower_of (Some lowest) dev true = if nat_le lowest.0 dev.0 then Some lowest else Some dev

pub record IsLooked (def : LineDef) (past : List Entry) (l : Looked) : Type 0 where
  pub spins : l.spins ≡ spins_at def past (flow def past)
  pub flow : l.flow ≡ flow def past
  pub taker : IsTakerAt def past l.taker
  pub lowest : IsLowestAt def past l.lowest
  pub blocks : l.blocks ≡ blocks_at def past
  pub hung : IsLowestHungPast def past l.hung
