-- What a command does that takes a board.
use Rattle.std.proofs.Common.{◌≡◌, ℕ, false, inr, OnOk, Option, Some, None, Result, Ok, Err, List, [], refl, sym, ap, subst}
use Rattle.irq_base.specs.declared.reporting.LineReport.{LineReport}
use Rattle.board_words.specs.declared.faults.BoardFault.{BoardFault}
use Rattle.board_words.specs.declared.faults.FaultKind.{FaultKind}
use Rattle.irq_check.specs.Ends as checked
use Rattle.irq_check.specs.declared.answers.Judgement.{Judgement}
use Rattle.irq_check.specs.declared.failing.CheckFailed.{CheckFailed}
use Rattle.irq_check.specs.declared.failing.CheckFailed.TheVariants as checks
use Rattle.irq_io.specs.Faults.{Counts}
use Rattle.log_check.specs.declared.verdict.Verdict.{Verdict}
use Rattle.log_check.specs.declared.verdict.Verdict.TheVariants as verdicts
use Rattle.play_report.specs.declared.failing.PlayFailed.{PlayFailed}
use Rattle.play_report.specs.declared.failing.PlayFailed.TheVariants as plays
use Rattle.board_core.specs.declared.ends.PlayEnd.{PlayEnd}
use Rattle.board_core.specs.declared.ends.PlayEnd.TheVariants as ends
use Rattle.board_def.specs.Rules.{IsBoard}
use Rattle.board_def.specs.Seen.{BoardSeen}
use Rattle.irq_top.specs.declared.ending.Ending.{Ending}
use Rattle.irq_top.specs.declared.ending.Ending.TheVariants as endings
use Rattle.irq_top.specs.Commands.{EndsAs, EndsIfFit, IsReadToEnd, TakesBoard, TakesInput}
use Rattle.irq_top.specs.Commands.{TellsPlay, TellsTaken}
use Rattle.irq_top.specs.Ending.{end_seen, ending_of_check, ending_of_play, ending_of_refusal, ending_of_verdict, is_read_fault_end}
use Rattle.play_report.specs.Failing.{is_write_fault, is_printing as play_is_printing}
use Rattle.program_io.proofs.Streams.{output_early}
use Rattle.program_io.specs.Reading.{IsStated, ReadsBoard}
use Rattle.program_io.specs.Streams.{KeepsOutput}
use Rattle.program_io.specs.declared.inputs.InputRefused.{InputRefused}
use Rattle.program_io.specs.declared.inputs.InputRefused.TheVariants as refusals

read_to_end : (told left : Option (List ℕ)) (b : BoardSeen) → ReadsBoard told left (Ok b) → IsReadToEnd told left
read_to_end None left b read = tt
read_to_end (Some bytes) left b read = read.1

module _ (nobody : Type 0) (OnBoard : BoardSeen → List LineReport → Option (List ℕ) → Option (List ℕ) → Ending → Type 0)
    (told left before now : Option (List ℕ)) (reports : List LineReport) where
  -- what was done with the board that was read
  taken : (ending : Ending) (b : BoardSeen) → ReadsBoard told left (Ok b) → IsStated told b → IsBoard b
      → OnBoard b reports before now ending → TakesInput nobody OnBoard told left reports before now ending
  taken ending b read stated keeps done =
      record { board = b; stated = stated; read = read_to_end told left b read; keeps_rules = keeps; done = done }

  pub takes_board : (ending : Ending) → is_read_fault_end ending ≡ false → (b : BoardSeen) → ReadsBoard told left (Ok b) → IsStated told b → IsBoard b
      → OnBoard b reports before now ending → TakesBoard nobody OnBoard told left reports before now ending
  takes_board endings.ReadFault unread b read stated keeps done = cc
  takes_board endings.NoMemory unread b read stated keeps done = inr (taken endings.NoMemory b read stated keeps done)
  takes_board (endings.Board fault) unread b read stated keeps done = inr (taken (endings.Board fault) b read stated keeps done)
  takes_board endings.Done unread b read stated keeps done = taken endings.Done b read stated keeps done
  takes_board (endings.Unlawful line entry) unread b read stated keeps done = taken (endings.Unlawful line entry) b read stated keeps done
  takes_board (endings.Malformed row) unread b read stated keeps done = taken (endings.Malformed row) b read stated keeps done
  takes_board (endings.Hung line actor) unread b read stated keeps done = taken (endings.Hung line actor) b read stated keeps done
  takes_board endings.Usage unread b read stated keeps done = taken endings.Usage b read stated keeps done
  takes_board endings.WriteFault unread b read stated keeps done = taken endings.WriteFault b read stated keeps done
  takes_board (endings.Step refused) unread b read stated keeps done = taken (endings.Step refused) b read stated keeps done

pub plays_read_nothing : (end : Result PlayEnd PlayFailed) → is_read_fault_end (ending_of_play end) ≡ false
plays_read_nothing (Ok ends.Settled) = refl
plays_read_nothing (Ok (ends.Hung line actor)) = refl
plays_read_nothing (Err plays.NoMemory) = refl
plays_read_nothing (Err (plays.Step refused)) = refl
plays_read_nothing (Err (plays.Write failed)) = refl

-- the call ends as the play did
module _ (IsntFor : BoardSeen → Type 0) (nobody : Type 0) (kind : FaultKind)
    (Plays : BoardSeen → List LineReport → Option (List ℕ) → Option (List ℕ) → Result PlayEnd PlayFailed → Type 0) (b : BoardSeen)
    (before now : Option (List ℕ)) where
  by_end : (reports : List LineReport) (end : Result PlayEnd PlayFailed) → Plays b reports before now end
      → EndsIfFit IsntFor nobody kind Plays b reports before now (ending_of_play end)
  by_end reports (Ok ends.Settled) played = (Ok ends.Settled, refl, played)
  by_end reports (Ok (ends.Hung line actor)) played = (Ok (ends.Hung line actor), refl, played)
  by_end reports (Err plays.NoMemory) played = (Err plays.NoMemory, refl, played)
  by_end reports (Err (plays.Step refused)) played = (Err (plays.Step refused), refl, played)
  by_end reports (Err (plays.Write failed)) played = (Err (plays.Write failed), refl, played)

  pub ends_as_played : (reports told : List LineReport) (end : Result PlayEnd PlayFailed) (ending : Ending) → ending ≡ ending_of_play end
      → told ≡ reports → Plays b reports before now end → EndsIfFit IsntFor nobody kind Plays b told before now ending
  ends_as_played reports told end ending is handed played =
      subst (λ (e : Ending). EndsIfFit IsntFor nobody kind Plays b told before now e) (sym is)
      (subst (λ (rs : List LineReport). EndsIfFit IsntFor nobody kind Plays b rs before now (ending_of_play end)) (sym handed)
      (by_end reports end played))

-- the same of a play that every board is for, and of a run
pub ends_as_any_play : (Plays : BoardSeen → List LineReport → Option (List ℕ) → Option (List ℕ) → Result PlayEnd PlayFailed → Type 0)
    (b : BoardSeen) (before now : Option (List ℕ)) (reports told : List LineReport) (end : Result PlayEnd PlayFailed) (ending : Ending)
    → ending ≡ ending_of_play end → told ≡ reports → Plays b reports before now end → EndsAs Plays b told before now ending
ends_as_any_play Plays b before now reports told end ending is handed played =
    (end, is, subst (λ (rs : List LineReport). Plays b rs before now end) (sym handed) played)

-- ---- what is left of the output

module _ {same : Type 0} {kept : List ℕ} {before now : ℕ} where
  by_play : (end : Result PlayEnd PlayFailed) → OnOk end (kept ≡ []) → Counts before now (is_write_fault end)
      → (play_is_printing end ≡ false → same) → KeepsOutput (end_seen (ending_of_play end)) same kept before now
  by_play (Ok ends.Settled) emptied counts silent = record { emptied = λ printed. emptied; write_fault = counts; silent = silent }
  by_play (Ok (ends.Hung line actor)) emptied counts silent =
      record { emptied = λ printed. emptied; write_fault = counts; silent = silent }
  by_play (Err plays.NoMemory) emptied counts silent = record { emptied = λ printed. cc; write_fault = counts; silent = silent }
  by_play (Err (plays.Step refused)) emptied counts silent = record { emptied = λ printed. cc; write_fault = counts; silent = silent }
  by_play (Err (plays.Write failed)) emptied counts silent = record { emptied = λ printed. cc; write_fault = counts; silent = silent }

  -- by a play, or a run
  pub keeps_as_played : (end : Result PlayEnd PlayFailed) (ending : Ending) → ending ≡ ending_of_play end → OnOk end (kept ≡ [])
      → Counts before now (is_write_fault end) → (play_is_printing end ≡ false → same) → KeepsOutput (end_seen ending) same kept before now
  keeps_as_played end ending is emptied counts silent =
      subst (λ (e : Ending). KeepsOutput (end_seen e) same kept before now) (sym is) (by_play end emptied counts silent)

  by_verdict : (verdict : Verdict) → kept ≡ [] → now ≡ before → KeepsOutput (end_seen (ending_of_verdict verdict)) same kept before now
  by_verdict verdicts.Lawful emptied counts = record { emptied = λ printed. emptied; write_fault = counts; silent = λ unprinted. cc }
  by_verdict (verdicts.Unlawful line entry) emptied counts =
      record { emptied = λ printed. emptied; write_fault = counts; silent = λ unprinted. cc }
  by_verdict (verdicts.Malformed row) emptied counts = record { emptied = λ printed. emptied; write_fault = counts; silent = λ unprinted. cc }

  by_check : (end : Result Judgement CheckFailed) → OnOk end (kept ≡ []) → Counts before now (checked.is_write_fault end)
      → (checked.is_printing end ≡ false → same) → KeepsOutput (end_seen (ending_of_check end)) same kept before now
  by_check (Ok answer) emptied counts silent = by_verdict answer.verdict emptied counts
  by_check (Err (checks.Input (refusals.Fault fault))) emptied counts silent =
      record { emptied = λ printed. cc; write_fault = counts; silent = silent }
  by_check (Err (checks.Input refusals.ReadFault)) emptied counts silent =
      record { emptied = λ printed. cc; write_fault = counts; silent = silent }
  by_check (Err (checks.Input refusals.NoMemory)) emptied counts silent =
      record { emptied = λ printed. cc; write_fault = counts; silent = silent }
  by_check (Err (checks.Write failed)) emptied counts silent = record { emptied = λ printed. cc; write_fault = counts; silent = silent }

  -- by a check
  pub keeps_as_checked : (end : Result Judgement CheckFailed) (ending : Ending) → ending ≡ ending_of_check end → OnOk end (kept ≡ [])
      → Counts before now (checked.is_write_fault end) → (checked.is_printing end ≡ false → same)
      → KeepsOutput (end_seen ending) same kept before now
  keeps_as_checked end ending is emptied counts silent =
      subst (λ (e : Ending). KeepsOutput (end_seen e) same kept before now) (sym is) (by_check end emptied counts silent)

-- nothing was printed: the board isn't for what is asked, or the source gave none, or memory was refused
module _ {O : Type 0} (kept : O → List ℕ) (writes : O → ℕ) (out : O) where
  pub keeps_unfit : (now : O) (fault : BoardFault) (ending : Ending) → ending ≡ endings.Board fault → now ≡ out
      → KeepsOutput (end_seen ending) (now ≡ out) (kept now) (writes out) (writes now)
  keeps_unfit now fault ending is same =
      subst (λ (e : Ending). KeepsOutput (end_seen e) (now ≡ out) (kept now) (writes out) (writes now)) (sym is)
      (record { emptied = λ printed. cc; write_fault = ap writes same; silent = λ silent. same })

  by_input : (refused : InputRefused) → KeepsOutput (end_seen (ending_of_refusal refused)) (out ≡ out) (kept out) (writes out) (writes out)
  by_input (refusals.Fault fault) = output_early _ out (kept out) (writes out) refl refl
  by_input refusals.ReadFault = output_early _ out (kept out) (writes out) refl refl
  by_input refusals.NoMemory = output_early _ out (kept out) (writes out) refl refl

  pub keeps_refused : (refused : InputRefused) (ending : Ending) → ending ≡ ending_of_refusal refused
      → KeepsOutput (end_seen ending) (out ≡ out) (kept out) (writes out) (writes out)
  keeps_refused refused ending is =
      subst (λ (e : Ending). KeepsOutput (end_seen e) (out ≡ out) (kept out) (writes out) (writes out)) (sym is) (by_input refused)

  pub keeps_without_memory : (ending : Ending) → ending ≡ endings.NoMemory
      → KeepsOutput (end_seen ending) (out ≡ out) (kept out) (writes out) (writes out)
  keeps_without_memory ending is =
      subst (λ (e : Ending). KeepsOutput (end_seen e) (out ≡ out) (kept out) (writes out) (writes out)) (sym is)
      (output_early _ out (kept out) (writes out) refl refl)

-- ---- what is told of a step that was refused memory

module _ (Tells : BoardSeen → List LineReport → Result PlayEnd PlayFailed → Type 0) (told : Option (List ℕ)) (reports : List LineReport) where
  pub taken_tells : (ending : Ending) (b : BoardSeen) → IsStated told b → TellsPlay Tells b reports ending → TellsTaken Tells told reports ending
  taken_tells (endings.Step refused) b stated tells = (b, stated, tells)
  taken_tells endings.NoMemory b stated tells = tt
  taken_tells endings.Done b stated tells = tt
  taken_tells (endings.Unlawful line entry) b stated tells = tt
  taken_tells (endings.Malformed row) b stated tells = tt
  taken_tells (endings.Hung line actor) b stated tells = tt
  taken_tells endings.Usage b stated tells = tt
  taken_tells (endings.Board fault) b stated tells = tt
  taken_tells endings.ReadFault b stated tells = tt
  taken_tells endings.WriteFault b stated tells = tt

  by_refusal : (refused : InputRefused) → TellsTaken Tells told reports (ending_of_refusal refused)
  by_refusal (refusals.Fault fault) = tt
  by_refusal refusals.ReadFault = tt
  by_refusal refusals.NoMemory = tt

  pub refused_tells : (refused : InputRefused) (ending : Ending) → ending ≡ ending_of_refusal refused → TellsTaken Tells told reports ending
  refused_tells refused ending is = subst (λ (e : Ending). TellsTaken Tells told reports e) (sym is) (by_refusal refused)

module _ (Tells : BoardSeen → List LineReport → Result PlayEnd PlayFailed → Type 0) (b : BoardSeen) (reports : List LineReport) where
  by_step : (end : Result PlayEnd PlayFailed) → Tells b reports end → TellsPlay Tells b reports (ending_of_play end)
  by_step (Ok ends.Settled) tells = tt
  by_step (Ok (ends.Hung line actor)) tells = tt
  by_step (Err plays.NoMemory) tells = tt
  by_step (Err (plays.Step refused)) tells = tells
  by_step (Err (plays.Write failed)) tells = tt

  pub tells_as_played : (told : List LineReport) (end : Result PlayEnd PlayFailed) (ending : Ending) → ending ≡ ending_of_play end
      → told ≡ reports → Tells b reports end → TellsPlay Tells b told ending
  tells_as_played told end ending is handed tells =
      subst (λ (e : Ending). TellsPlay Tells b told e) (sym is)
      (subst (λ (rs : List LineReport). TellsPlay Tells b rs (ending_of_play end)) (sym handed) (by_step end tells))
