use Rattle.std.specs.Prelude.{ℕ, List}
use Rattle.irq_base.specs.declared.entries.Entry.{Entry}

-- What is seen of a history: its entries, the oldest first, and how many more fit without memory.
pub record HistorySeen : Type 0 where
  pub entries : List Entry
  pub spare : ℕ
