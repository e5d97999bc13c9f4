-- A demultiplexer whose play has ended, and what its reports hand out.
use Rattle.std.proofs.Common.{◌≡◌, ℕ, ◌≤◌, true, All, Option, Some, None, List, [], ◌∷◌, length, reverse, slice_get}
use Rattle.std.proofs.Common.{refl, sym, ap, ◌∙◌, subst, inl, inr, Result, Ok, Err}
use Rattle.irq_base.specs.declared.devices.Run.{Run}
use Rattle.irq_base.specs.declared.entries.Actor.{Actor}
use Rattle.irq_base.specs.declared.entries.Entry.{Entry}
use Rattle.irq_base.specs.declared.numbers.LineNo.{LineNo}
use Rattle.irq_base.specs.declared.reporting.LineReport.{LineReport}
use Rattle.irq_line.specs.Seen.{LineSeen}
use Rattle.irq_line.specs.declared.answers.StepRefused.{StepRefused}
use Rattle.irq_line.specs.declared.answers.StepRefused.TheVariants as refusals
use Rattle.play_laws.specs.Actors.{IsOneOf}
use Rattle.board_core.specs.Hung.{IsEndOf, SaysEnd, stop_of}
use Rattle.board_core.specs.Seen.{board_lines}
use Rattle.board_core.specs.Wanted.{HasSpare}
use Rattle.board_core.specs.declared.ends.PlayEnd.{PlayEnd}
use Rattle.board_def.specs.Rules.{IsBoard}
use Rattle.board_def.specs.Seen.{BoardSeen}
use Rattle.board_play.specs.Kept.{AreKept}
use Rattle.board_play.specs.Lines.{BoardLine, Move, lines_of, part}
use Rattle.board_play.specs.Order.{actors_of}
use Rattle.board_play.specs.Play.{Done}
use Rattle.board_report.specs.Moving.{AreAtRest}
use Rattle.board_report.specs.Reporting.{IsHandedRoom, KeepRoom}
use Rattle.board_play.specs.Orders.{IsPlayed}
use Rattle.play_report.specs.Answers.{Answers}
use Rattle.play_report.specs.declared.failing.PlayFailed.{PlayFailed}
use Rattle.play_report.proofs.Answered as answered
use Rattle.play_report.proofs.Answered.{answers_as, of_some, with_step, without_step}
use Rattle.play_report.specs.Ordered.{lines_after}
use Rattle.play_report.proofs.Handed.{Reported, handed_out}
use Rattle.play_report.proofs.Scenario.{IsEnd, IsScenario, log_has_rows}
use Rattle.play_report.specs.Printing.{StepHasRow}
use Rattle.irq_chained.specs.Chain.{IsChainLegal, chain_next, chain_order, choice_by, first_step, lines_in, or_choice, or_step, told, with_left}
use Rattle.irq_chained.specs.Fits.{is_for_chain}
use Rattle.irq_chained.specs.Seen.{DemuxSeen}
use Rattle.irq_chained.specs.Turned.{IsPlay}
use Rattle.irq_chained.specs.Wanted.{PlayWants, WantsFor}
use Rattle.irq_chained.specs.declared.chain.ChainEntry.{ChainEntry}
use Rattle.irq_chained.specs.declared.chain.ChainEntry.TheVariants as steps
use Rattle.irq_chained.proofs.Chained.{keeps_signals, same_children}
use Rattle.irq_chained.proofs.Resting.{rests}
use Rattle.chained_play.specs.Headline.{ChainCut, ChainHandsOut, KeepsChain, RefusedStep}
use Rattle.chained_play.specs.Played.{ChainsBoard, HandsOutChain, TellsStep, runs_of_steps}
use Rattle.chained_play.specs.Rows.{chain_text}
use Rattle.chained_play.proofs.ChildSteps.{moves_due}

-- ---- nothing is next

module _ (can : Actor → Option ChainEntry) where
  none_first : (a b : Option ChainEntry) → or_step a b ≡ None → (a ≡ None) × (b ≡ None)
  none_first None b h = (refl, h)
  none_first (Some e) b h = cc

  none_steps : (all : List Actor) → first_step can all ≡ None → (a : Actor) → IsOneOf a all → can a ≡ None
  none_steps [] none a at = absurd at
  none_steps (x ∷ xs) none a at =
      let both = none_first (can x) (first_step can xs) none in
      elim at [ inl here ↦ ap can here ∙ both.0 | inr there ↦ none_steps xs both.1 a there ]

  none_lowest : (o : Option ChainEntry) → with_left [] o ≡ None → o ≡ None
  none_lowest None h = refl
  none_lowest (Some e) h = cc

  none_left : (all left : List Actor) → choice_by can all left ≡ None → first_step can all ≡ None
  none_left all [] none = none_lowest (first_step can all) none
  none_left all (pick ∷ picks) none = by_pick (can pick) none (λ h. none_left all picks h)
    where
      by_pick : (o : Option ChainEntry) → or_choice (with_left picks o) (choice_by can all picks) ≡ None
          → (choice_by can all picks ≡ None → first_step can all ≡ None) → first_step can all ≡ None
      by_pick None none deeper = deeper none
      by_pick (Some e) none deeper = cc

-- ---- as the demultiplexer stands

-- each step of a play that came to its end has a row
pub rows_done : (d : DemuxSeen) → IsPlay d d.board.picks (Ok tt) → All (StepHasRow told) d.log
rows_done d p = log_has_rows d.board (chain_order d.board) (moves_due d.board) d.board.picks d.log p.0 p.1

-- what a demultiplexer always keeps
module _ (d : DemuxSeen) (board : IsBoard d.board) (fits : is_for_chain d.board ≡ true) (legal : IsChainLegal d.board (reverse d.log))
    (lines_are : board_lines d.lines ≡ lines_in d.board (reverse d.log)) (kept : AreKept d.board (board_lines d.lines)) where
  abbrev now : List BoardLine
  now = lines_after d.board (chain_order d.board) d.log

  same_lines : lines_in d.board (reverse d.log) ≡ now
  same_lines = ap (λ (ms : List Move). lines_of d.board ms) (same_children d.board (reverse d.log))

  at_rest : IsPlayed (chain_order d.board) d.board.picks (reverse d.log) Done → AreAtRest d.board now
  at_rest played = subst (AreAtRest d.board) same_lines (λ a at.
      let none = none_steps (chain_next d.board (reverse d.log)) (actors_of d.board)
      (none_left (chain_next d.board (reverse d.log)) (actors_of d.board) played.0 played.2) a at in
      rests d.board board fits (reverse d.log) legal (subst (AreKept d.board) lines_are kept) a none)

  scenario : IsScenario d.board (chain_order d.board) d.board.picks (KeepsChain d.board) d.log
  scenario = record {
    board = board;
    limit = refl;
    moves = moves_due d.board;
    kept = λ at made. subst (AreKept d.board) (lines_are ∙ same_lines) kept;
    keeps = λ at made. record { fits = fits; signals = keeps_signals d.board d.log legal };
    rests = at_rest;
  }

  -- the reports of the lines that were taken out of it
  pub hands_out : (end : Result PlayEnd StepRefused) → IsPlay d d.board.picks (stop_of end) → SaysEnd (board_lines d.lines) end
      → (lines : List LineSeen) → lines ≡ d.lines → (reports : List LineReport)
      → Reported d.board (board_lines lines) reports → ChainHandsOut d.board d.log end reports
  hands_out end play says lines out reports told =
      handed_out d.board (chain_order d.board) d.board.picks (KeepsChain d.board) d.log scenario
      (board_lines lines) (ap board_lines out ∙ (lines_are ∙ same_lines)) reports told end (as_end end play says)
    where
      as_end : (end : Result PlayEnd StepRefused) → IsPlay d d.board.picks (stop_of end) → SaysEnd (board_lines d.lines) end
          → IsEnd d.board (chain_order d.board) d.board.picks d.log end
      as_end (Ok e) p says = (p, subst (λ (ls : List BoardLine). IsEndOf ls e) (lines_are ∙ same_lines) says)
      as_end (Err (refusals.Full line len)) p says = (p.0, ap (λ (ms : List Move). length (part line ms)) (sym (same_children d.board (reverse d.log))) ∙ p.1)
      as_end (Err refusals.NoMemory) p says = p

-- ---- which step was refused memory

for_more : (o : Option ChainEntry) {C D : Type 0} → (C → D) → WantsFor o C → WantsFor o D
for_more None f wants = f wants
for_more (Some (steps.Enter cpu status)) f wants = tt
for_more (Some (steps.Child line e)) f wants = f wants
for_more (Some (steps.Exit cpu)) f wants = tt

module _ (may_want : Option Entry → Type 0) where
  step_done : (d : DemuxSeen) (lines : List LineSeen) → lines ≡ d.lines → (reports : List LineReport) → KeepRoom lines reports
      → PlayWants may_want d d.board.picks (Err refusals.NoMemory) → RefusedStep may_want d.board d.log reports
  step_done d lines out reports keep w = record {
    left = w.left;
    so_far = w.so_far;
    some = w.some;
    actor = w.actor;
    next = w.next;
    step = record {
      can = w.step.can;
      step = for_more (chain_next d.board (reverse d.log) w.actor)
          (λ step. record { line = step.line; is = step.is; wanted = λ room fits. step.wanted (spare step.line.def.line room) fits }) w.step.step;
    };
  }
    where
      spare : (number : LineNo) → IsHandedRoom reports number → HasSpare d.lines number
      spare number (i, report, at, its, room) k x at_x same =
          subst (λ (n : ℕ). 1 ≤ n) (keep k i x report (subst (λ (ls : List LineSeen). slice_get ls k ≡ Some x) (sym out) at_x) at (its ∙ sym same)) room

  -- the reports, and the step
  pub hands_out_step : (d : DemuxSeen) (end : Result PlayEnd StepRefused) → PlayWants may_want d d.board.picks (stop_of end)
      → (lines : List LineSeen) → lines ≡ d.lines
      → (reports : List LineReport) → KeepRoom lines reports → ChainHandsOut d.board d.log end reports → HandsOutChain may_want d end reports
  hands_out_step d end wants lines out reports keep h =
      with_step (ChainHandsOut d.board d.log) (RefusedStep may_want d.board d.log) end reports h
      (λ is. step_done d lines out reports keep (subst (λ (e : Result PlayEnd StepRefused). PlayWants may_want d d.board.picks (stop_of e)) is wants))

  module _ (b : BoardSeen) (d : DemuxSeen) (of : d.board ≡ b) (reports : List LineReport) (before now : Option (List ℕ)) (end : Result PlayEnd PlayFailed) where
    pub chains_board : (heard : List Run → Type 0) → Answers (chain_text b d.log) (HandsOutChain may_want d) reports before now end
        → heard (runs_of_steps b d.log) → ChainsBoard b heard reports before now end
    chains_board heard told called =
        of_some (chain_text b) (ChainHandsOut b) (runs_of_steps b) heard d.log reports before now end
        (answers_as (chain_text b d.log) (chain_text b d.log) (HandsOutChain may_want d) (ChainHandsOut b d.log) refl
        (λ ended rs h. subst (λ (c : BoardSeen). ChainHandsOut c d.log ended rs) of
        (without_step (ChainHandsOut d.board d.log) (RefusedStep may_want d.board d.log) ended rs h)) reports before now end told)
        called

    pub tells_step : (text : List ℕ) → Answers text (HandsOutChain may_want d) reports before now end → TellsStep may_want b reports end
    tells_step text told =
        subst (λ (c : BoardSeen). TellsStep may_want c reports end) of
        (answered.tells_step (ChainCut d.board) (RefusedStep may_want d.board) text (HandsOutChain may_want d) d.log (λ rs h. h) reports before now end told)
