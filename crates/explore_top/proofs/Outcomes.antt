-- What is done with a board that was read.
use Rattle.std.proofs.Common.{◌≡◌, ◌⊎◌, inl, inr, ℕ, true, false, Option, Some, None, Result, Ok, Err, List, [], refl, sym, ap, subst, ◌∙◌}
use Rattle.board_def.specs.Rules.{IsBoard}
use Rattle.board_def.specs.Seen.{BoardSeen}
use Rattle.board_stated.proofs.OldTexts.{text_is_of_its_version}
use Rattle.explore_picks.specs.declared.failing.ExploreFailed.{ExploreFailed}
use Rattle.explore_picks.specs.declared.failing.ExploreFailed.TheVariants as fails
use Rattle.explore_words.specs.Words.{may_ask}
use Rattle.explore_words.specs.declared.Asked.{Asked}
use Rattle.explore_words.specs.declared.What.{What}
use Rattle.explore_words.specs.declared.What.TheVariants as whats
use Rattle.irq_base.specs.declared.devices.Run.{Run}
use Rattle.irq_explore.specs.declared.exploring.Explored.{Explored}
use Rattle.irq_explore.specs.declared.exploring.Explored.TheVariants as finds
use Rattle.irq_explore.specs.Explored.{is_printed as is_whole, is_printing as is_saying, is_write_fault}
use Rattle.irq_io.specs.Faults.{Counts}
use Rattle.program_io.specs.Reading.{IsStated, ReadsBoard}
use Rattle.program_io.specs.Streams.{KeepsOutput}
use Rattle.explore_top.specs.Does.{Does, ExploresAs, ExploresInput, ExploresOwn, ExploresWhat, HeardBefore, IsReadToEnd}
use Rattle.explore_top.specs.Ending.{end_seen, ending_of, is_read_fault_end}
use Rattle.explore_top.specs.declared.ending.Ending.{Ending}
use Rattle.explore_top.specs.declared.ending.Ending.TheVariants as endings

read_to_end : (told left : Option (List ℕ)) (b : BoardSeen) → ReadsBoard told left (Ok b) → IsReadToEnd told left
read_to_end None left b read = tt
read_to_end (Some bytes) left b read = read.1

module _ (asked : Asked) (heard : List Run → Type 0) (told left before now : Option (List ℕ)) (b : BoardSeen)
    (read : ReadsBoard told left (Ok b)) (stated : IsStated told b) (keeps : IsBoard b) where
  input : may_ask b.version asked.what ≡ true → (end : Result Explored ExploreFailed) → ExploresWhat asked.states asked.what heard b before now end
      → ExploresInput asked heard told left before now (ending_of asked.states end)
  input own end done = record {
    board = b;
    stated = stated;
    read = read_to_end told left b read;
    keeps_rules = keeps;
    of_version = text_is_of_its_version stated.text b stated.states;
    own = own;
    done = (end, refl, done);
  }

  -- what was heard of the board where memory was refused
  some_heard : (what : What) → ExploresWhat asked.states what heard b before now (Err fails.NoMemory) → HeardBefore heard told
  some_heard whats.Survey done = inl done.1
  some_heard (whats.Line line) done = inl done.1
  some_heard (whats.Row line wanted) done = inl done.1
  some_heard (whats.Play line wanted) done = inr (b, stated, done)

  by_end : may_ask b.version asked.what ≡ true → (end : Result Explored ExploreFailed) → ExploresWhat asked.states asked.what heard b before now end
      → Does asked heard told left before now (ending_of asked.states end)
  by_end own (Ok finds.Done) done = input own (Ok finds.Done) done
  by_end own (Ok finds.Never) done = input own (Ok finds.Never) done
  by_end own (Ok (finds.Cut line)) done = input own (Ok (finds.Cut line)) done
  by_end own (Ok finds.NoPlay) done = input own (Ok finds.NoPlay) done
  by_end own (Err fails.NotThere) done = input own (Err fails.NotThere) done
  by_end own (Err fails.NoMemory) done = some_heard asked.what done
  by_end own (Err (fails.Write failed)) done = input own (Err (fails.Write failed)) done

  pub explored : (ending : Ending) → ExploresOwn asked heard b before now ending → Does asked heard told left before now ending
  explored ending (inl (own, (end, is, done))) = subst (λ (e : Ending). Does asked heard told left before now e) (sym is) (by_end own end done)
  explored ending (inr (another, is, unheard)) =
      subst (λ (e : Ending). Does asked heard told left before now e) (sym is)
      (record { board = b; stated = stated; read = read_to_end told left b read; another = another }, unheard)

no_read_fault : (states : ℕ) (end : Result Explored ExploreFailed) → is_read_fault_end (ending_of states end) ≡ false
no_read_fault states (Ok finds.Done) = refl
no_read_fault states (Ok finds.Never) = refl
no_read_fault states (Ok (finds.Cut line)) = refl
no_read_fault states (Ok finds.NoPlay) = refl
no_read_fault states (Err fails.NotThere) = refl
no_read_fault states (Err fails.NoMemory) = refl
no_read_fault states (Err (fails.Write failed)) = refl

-- it came without a read fault
pub explored_unread : (asked : Asked) (heard : List Run → Type 0) (b : BoardSeen) (before now : Option (List ℕ)) (ending : Ending)
    → ExploresOwn asked heard b before now ending → is_read_fault_end ending ≡ false
explored_unread asked heard b before now ending (inl (own, (end, is, done))) = ap is_read_fault_end is ∙ no_read_fault asked.states end
explored_unread asked heard b before now ending (inr (another, is, unheard)) = ap is_read_fault_end is

-- ---- what is left of the output

module _ {same : Type 0} {kept : List ℕ} {before now : ℕ} (states : ℕ) where
  by_exploring : (end : Result Explored ExploreFailed) → (is_whole end ≡ true → kept ≡ []) → Counts before now (is_write_fault end)
      → (is_saying end ≡ false → same) → KeepsOutput (end_seen (ending_of states end)) same kept before now
  by_exploring (Ok finds.Done) emptied counts silent = record { emptied = emptied; write_fault = counts; silent = silent }
  by_exploring (Ok finds.Never) emptied counts silent = record { emptied = emptied; write_fault = counts; silent = silent }
  by_exploring (Ok (finds.Cut line)) emptied counts silent = record { emptied = emptied; write_fault = counts; silent = silent }
  by_exploring (Ok finds.NoPlay) emptied counts silent = record { emptied = emptied; write_fault = counts; silent = silent }
  by_exploring (Err fails.NotThere) emptied counts silent = record { emptied = emptied; write_fault = counts; silent = silent }
  by_exploring (Err fails.NoMemory) emptied counts silent = record { emptied = emptied; write_fault = counts; silent = silent }
  by_exploring (Err (fails.Write failed)) emptied counts silent = record { emptied = emptied; write_fault = counts; silent = silent }

  pub keeps_as_explored : (end : Result Explored ExploreFailed) (ending : Ending) → ending ≡ ending_of states end
      → (is_whole end ≡ true → kept ≡ []) → Counts before now (is_write_fault end) → (is_saying end ≡ false → same)
      → KeepsOutput (end_seen ending) same kept before now
  keeps_as_explored end ending is emptied counts silent =
      subst (λ (e : Ending). KeepsOutput (end_seen e) same kept before now) (sym is) (by_exploring end emptied counts silent)
