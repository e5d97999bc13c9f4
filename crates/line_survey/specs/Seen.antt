-- What is seen of a search through the states of a line.
use Rattle.std.specs.Prelude.{ℕ, List, [], length, get_or}
use Rattle.irq_base.specs.declared.entries.Entry.{Entry}
use Rattle.irq_base.specs.declared.lines.LineDef.{LineDef}
use Rattle.state_search.specs.Seen.{SearchSeen}

-- the definition of the line, and what was found: a path is a past, the newest entry first
pub record LineSearchSeen : Type 0 where
  pub def : LineDef
  pub searched : SearchSeen Entry

-- the length of the past at the place
abbrev pub depth_at : List (List Entry) → ℕ → ℕ
depth_at paths k = length (get_or paths k [])
