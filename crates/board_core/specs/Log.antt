-- The log of a system, kept as the order of its lines alone: an entry stands once, in its line's
-- history. The newest move comes first here.
use Rattle.std.specs.Prelude.{◌≡◌, ◌==◌, ◌+◌, ◌<◌, ◌≤◌, ℕ, Option, Some, None, List, [], ◌∷◌, All}
use Rattle.std.specs.Prelude.{length, if◌then◌else◌, reverse, slice_get, slice_index, slice_set}
use Rattle.irq_base.specs.declared.entries.Entry.{Entry}
use Rattle.irq_base.specs.declared.numbers.LineNo.{LineNo}
use Rattle.irq_line.specs.Seen.{LineSeen}
use Rattle.board_core.specs.Seen.{board_lines}
use Rattle.board_play.specs.Lines.{BoardLine, Move}

abbrev pub older : List Entry → List Entry
older [] = []
older (e ∷ past) = past

-- the line at place k without its newest entry
abbrev pub without_newest : Option BoardLine → ℕ → List BoardLine → List BoardLine
without_newest None k lines = lines
without_newest (Some x) k lines = slice_set lines k (record { def = x.def; past = older x.past })

abbrev pub newest_of : LineNo → List Entry → List Move → List Move
newest_of line [] g = g
newest_of line (e ∷ past) g = (line, e) ∷ g

-- the moves, with the newest entry of the line before them
abbrev pub with_newest : Option BoardLine → List Move → List Move
with_newest None g = g
with_newest (Some x) g = newest_of x.def.line x.past g

-- each place stands for the newest entry of its line that isn't taken yet
abbrev pub merged : List ℕ → List BoardLine → List Move
merged [] lines = []
merged (k ∷ ks) lines =
    with_newest (slice_get lines k) (merged ks (without_newest (slice_get lines k) k lines))

-- the moves that the order tells, the oldest first; the order has the oldest first too
abbrev pub moves_of : List ℕ → List LineSeen → List Move
moves_of order lines = reverse (merged (reverse order) (board_lines lines))

-- how often place k stands in the order
abbrev pub times : ℕ → List ℕ → ℕ
times k [] = 0
times k (j ∷ order) = (if j == k then 1 else 0) + times k order

-- the order tells of each line the entries from its cursor on, and of nothing else
pub record IsWalk (cursors order : List ℕ) (lines : List LineSeen) : Type 0 where
  pub few : length lines ≤ 64
  pub all : length cursors ≡ 64
  pub places : All (λ k. k < length lines) order
  pub from : (k : ℕ) (x : LineSeen) → slice_get lines k ≡ Some x
      → slice_index cursors k + times k order ≡ length x.entries

-- the move is of this line, and its entry stands at this place of these entries, counted from 0
abbrev pub StandsAt : LineNo → List Entry → ℕ → Option Move → Type 0
StandsAt line entries n m = (e : Entry) × (slice_get entries n ≡ Some e) × (m ≡ Some (line, e))
