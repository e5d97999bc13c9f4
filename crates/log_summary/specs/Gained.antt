-- The counts of a history under way.
use Rattle.std.specs.Prelude.{◌≡◌, ℕ, ◌+◌, Bool, if◌then◌else◌, List, [], ◌∷◌, count_by, sum_by}
use Rattle.std.specs.Prelude.{codes, decimal}
use Rattle.irq_base.specs.declared.entries.Entry.{Entry}
use Rattle.irq_base.specs.declared.kinds.EntryKind.{EntryKind}
use Rattle.irq_base.specs.declared.kinds.EntryKind.TheVariants as kinds
use Rattle.irq_model.specs.Kinds.{is_any_ask, is_take}
use Rattle.log_summary.specs.Counted.{is_run, is_thread_run, served_by}
use Rattle.log_summary.specs.declared.counts.Counts.{Counts}

-- the counts are what these entries come to
pub record AreCountsOf (h : List Entry) (c : Counts) : Type 0 where
  pub asks : c.asks ≡ count_by is_any_ask h
  pub takes : c.takes ≡ count_by is_take h
  pub runs : c.runs ≡ count_by is_run h
  pub threads : c.threads ≡ count_by is_thread_run h
  pub served : c.served ≡ sum_by served_by h

abbrev pub one_if : Bool → ℕ
one_if b = if b then 1 else 0

-- what an entry adds to each count, by its kind
abbrev pub asks_of : EntryKind → ℕ
asks_of kinds.Ask = 1
asks_of _ = 0

abbrev pub takes_of : EntryKind → ℕ
takes_of kinds.Take = 1
takes_of _ = 0

abbrev pub runs_of : EntryKind → ℕ
runs_of kinds.Begin = 1
runs_of _ = 0

abbrev pub thread_runs_of : EntryKind → ℕ
thread_runs_of kinds.ThreadBegin = 1
thread_runs_of _ = 0

abbrev pub served_of : EntryKind → ℕ
served_of (kinds.Return served) = served
served_of (kinds.ThreadReturn served) = served
served_of (kinds.Serve served) = served
served_of _ = 0

-- the counts with one entry more, of this kind
abbrev pub counts_with : Counts → EntryKind → Counts
counts_with c k =
    record {
      asks = c.asks + asks_of k;
      takes = c.takes + takes_of k;
      runs = c.runs + runs_of k;
      threads = c.threads + thread_runs_of k;
      served = c.served + served_of k;
    }

-- the counts as words of a row, each behind its name
abbrev pub count_words : Counts → List (List ℕ)
count_words c =
    codes "asks" ∷ decimal c.asks ∷ codes "takes" ∷ decimal c.takes ∷ codes "runs" ∷ decimal c.runs
    ∷ codes "threads" ∷ decimal c.threads ∷ codes "served" ∷ decimal c.served ∷ []
