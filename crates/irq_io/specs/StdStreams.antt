-- What is seen of the source and the sink over std: the reader, or the buffered writer, and the
-- count of faults.
use Rattle.std.specs.Prelude.{ℕ}

pub record StdSourceSeen (R : Type 0) : Type 0 where
  pub reader : R
  pub faults : ℕ

pub record StdSinkSeen (B : Type 0) : Type 0 where
  pub writer : B
  pub faults : ℕ
