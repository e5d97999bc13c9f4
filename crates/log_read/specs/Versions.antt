-- Which rows a log may have, by the version of its board.
use Rattle.std.specs.Prelude.{nat_lt, ℕ, Bool, true, false, not, ◌||◌, List, [], ◌∷◌}
use Rattle.irq_base.specs.declared.entries.CallEntry.{CallEntry}
use Rattle.irq_base.specs.declared.entries.CallEntry.TheVariants as called
use Rattle.irq_base.specs.declared.entries.DriverEntry.TheVariants as drivers
use Rattle.irq_base.specs.declared.entries.Entry.{Entry}
use Rattle.irq_base.specs.declared.entries.Entry.TheVariants as by
use Rattle.irq_base.specs.declared.entries.ThreadEntry.TheVariants as threads
use Rattle.board_words.specs.Versions.{has_runs}
use Rattle.log_text.specs.Words.{edge_words, handled_words}

-- a call that only version 3 has
abbrev pub is_new_call : CallEntry → Bool
is_new_call (called.Wake woken dev) = true
is_new_call (called.Quiet dev) = true
is_new_call (called.Arm edge dev) = true
is_new_call (called.Serve dev served) = true
is_new_call _ = false

abbrev pub has_some : List (List ℕ) → Bool
has_some [] = false
has_some (word ∷ words) = true

-- The entry's row is one of version 3 alone: a call of a handler or a thread, a new call, or a row
-- with a last word that others lack, of an ask or of a thread's return.
abbrev pub needs_runs : Entry → Bool
needs_runs (by.CpuCall cpu call) = true
needs_runs (by.ThreadCall dev call) = true
needs_runs (by.DriverCall driver call) = is_new_call call
needs_runs (by.Driver driver (drivers.Ask edge dev)) = has_some (edge_words edge)
needs_runs (by.Thread dev (threads.Return handled served)) =
    has_some (handled_words handled (nat_lt 0 served))
needs_runs _ = false

-- the log of a board of this version may have the entry's row
abbrev pub may_have : ℕ → Entry → Bool
may_have version e = has_runs version || not (needs_runs e)
