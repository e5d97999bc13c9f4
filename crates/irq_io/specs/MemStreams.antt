-- What is seen of the source and the sink in memory.
use Rattle.std.specs.Prelude.{ℕ, List}

-- What is left of the content, the most bytes a read gives, the numbers of the reads that fail, and
-- how many reads and faults there were.
pub record MemSourceSeen : Type 0 where
  pub left : List ℕ
  pub piece : ℕ
  pub fails : List ℕ
  pub reads : ℕ
  pub faults : ℕ

-- What was written, how many more bytes it takes, the numbers of the writes and of the flushes that
-- fail, and how many writes, flushes and faults there were.
pub record MemSinkSeen : Type 0 where
  pub content : List ℕ
  pub room : ℕ
  pub fails : List ℕ
  pub flush_fails : List ℕ
  pub writes : ℕ
  pub flushes : ℕ
  pub faults : ℕ
