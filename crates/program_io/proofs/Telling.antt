-- A row that was taken is handed on, or not.
use Rattle.std.proofs.Common.{◌≡◌, ℕ, false, true, Option, Some, None, Ok, Err, List, [], subst, sym}
use Rattle.std.proofs.lemmas.List.{append-nil}
use Rattle.irq_io.specs.Faults.{Counts}
use Rattle.irq_io.specs.Told.{Stays}
use Rattle.irq_io.specs.Whole.{WritesAll}
use Rattle.irq_io.specs.Writes.{LeavesNone, flush_failed}
use Rattle.irq_io.specs.declared.sinks.FlushAnswer.{FlushAnswer}
use Rattle.irq_io.specs.declared.sinks.FlushAnswer.TheVariants as flushes
use Rattle.irq_io.specs.declared.whole.WriteFailed.{WriteFailed}
use Rattle.program_io.specs.ErrorRows.{Tells}

kept_on : (a b c : Option (List ℕ)) (row : List ℕ) → WritesAll a b row (Ok tt) → Stays b c → WritesAll a c row (Ok tt)
kept_on None b c row taken stays = tt
kept_on (Some old) b c row taken stays = subst (λ (o : Option (List ℕ)). Stays o c) taken stays

failed_on : (a b : Option (List ℕ)) (row : List ℕ) (failed : WriteFailed) → WritesAll a b row (Ok tt) → WritesAll a b row (Err failed)
failed_on None b row failed taken = tt
failed_on (Some old) b row failed taken = (row, ([], sym (append-nil row)), taken)

module _ (row : List ℕ) (a b c : Option (List ℕ)) (kept : List ℕ) (none one all : ℕ) (taken : WritesAll a b row (Ok tt)) (same : one ≡ none)
    (stays : Stays b c) where
  pub told : (flush : FlushAnswer) → LeavesNone kept flush → Counts one all (flush_failed flush) → Tells row a c kept none all
  told flushes.Done empty counts = record {
    end = Ok tt;
    content = kept_on a b c row taken stays;
    emptied = empty;
    cause = subst (λ (n : ℕ). Counts n all false) same counts;
  }
  told flushes.Failed empty counts = record {
    end = Err (record {});
    content = failed_on a c row (record {}) (kept_on a b c row taken stays);
    emptied = tt;
    cause = subst (λ (n : ℕ). Counts n all true) same counts;
  }
