-- A planned board that was played, told of the board that it comes of.
use Rattle.std.proofs.Common.{◌≡◌, ℕ, ◌++◌, Option, Result, Ok, Err, List, reverse, ap, sym, ◌∙◌, subst, append_assoc}
use Rattle.irq_base.specs.declared.devices.Run.{Run}
use Rattle.irq_base.specs.declared.entries.Actor.{Actor}
use Rattle.irq_base.specs.declared.entries.Entry.{Entry}
use Rattle.irq_base.specs.declared.numbers.LineNo.{LineNo}
use Rattle.irq_base.specs.declared.reporting.LineReport.{LineReport}
use Rattle.irq_line.specs.declared.answers.StepRefused.{StepRefused}
use Rattle.irq_line.specs.declared.answers.StepRefused.TheVariants as refusals
use Rattle.board_core.specs.Seen.{SystemSeen}
use Rattle.board_core.specs.declared.ends.PlayEnd.{PlayEnd}
use Rattle.board_core.specs.declared.ends.PlayEnd.TheVariants as ends
use Rattle.board_def.specs.LineOf.{line_of_row}
use Rattle.board_def.specs.Seen.{BoardSeen}
use Rattle.board_play.specs.Lines.{Move, part}
use Rattle.board_play.proofs.OfBoard.{def_of_row}
use Rattle.board_report.specs.Hung.{IsCaughtElsewhere, MayBeDue}
use Rattle.log_text.specs.LayoutRows.{layout_rows}
use Rattle.irq_play.specs.Headline.{CutShort, FullLog, HandsOut, Headline, HungPlay, RefusedStep}
use Rattle.irq_play.specs.Played.{HandsOutSystem, TellsStep, runs_of_moves}
use Rattle.irq_play.proofs.Told as stated
use Rattle.irq_hotplug.specs.Fleet.{FleetSeen, fleet_after}
use Rattle.irq_hotplug.specs.declared.events.Event.{Event}
use Rattle.hotplug_plan.specs.Planned.{planned}
use Rattle.hotplug_play.specs.Aims.{AimEach}
use Rattle.hotplug_play.proofs.Aims.{moves_aim, moves_aim_beside, never_caught_by_last, takes_part}
use Rattle.hotplug_play.proofs.Moments.{keep_places}
use Rattle.play_report.specs.Answers.{Answers}
use Rattle.play_report.specs.Report.{moves_text}
use Rattle.play_report.specs.declared.failing.PlayFailed.{PlayFailed}
use Rattle.play_report.proofs.Answered.{answers_as, of_some, without_step}
use Rattle.hotplug_play.specs.Played.{HotplugCut, HotplugFull, HotplugHandsOut, HotplugHeadline, HotplugHung, IsPlanOf, PlaysPlan, planned_after}
use Rattle.hotplug_play.specs.Texts.{fleet_text, hotplug_text}

module _ (b : BoardSeen) (vectors : ℕ) (es : List Event) (f : FleetSeen) (longer : BoardSeen) (plan : IsPlanOf b vectors es f longer)
    (moves : List Move) (reports : List LineReport) where
  same_board : longer ≡ planned_after b vectors es
  same_board = plan.longer_is ∙ ap (planned b) plan.fleet

  aim_each : Headline (planned_after b vectors es) moves reports → AimEach b (fleet_after b vectors es) (λ line. part line moves)
  aim_each headline i row place at is =
      let m = takes_part b plan.board vectors es i row place at is in
      let line = headline.mapped m.0 row m.1 m.2 m.3 m.4 in
      moves_aim b vectors es i row place (part row.line moves) plan.board plan.fits at is line.laws.legal line.settled

  done : Headline longer moves reports → HotplugHeadline b vectors es moves reports
  done headline =
      let of_planned : Headline (planned_after b vectors es) moves reports = subst (λ l. Headline l moves reports) same_board headline in
      record { fits = plan.fits; headline = of_planned; places = keep_places b vectors es; aims = aim_each of_planned }

  -- driver 65535 is never hung or held up, on any line, so its moves are made beside those who are
  aim_hung : (line : LineNo) (actor : Actor) → HungPlay (planned_after b vectors es) moves reports line actor
      → AimEach b (fleet_after b vectors es) (λ line. part line moves)
  aim_hung line actor hung i row place at is =
      let m = takes_part b plan.board vectors es i row place at is in
      let beside = hung.mapped m.0 row m.1 m.2 m.3 m.4 in
      moves_aim_beside b vectors es i row place (part row.line moves) plan.board plan.fits at is beside.laws.legal
      (MayBeDue (line_of_row (planned_after b vectors es) row) (part row.line moves)
      (IsCaughtElsewhere (planned_after b vectors es) (λ l. part l moves) row.line)) beside.due
      (λ e caught. let o = def_of_row (planned_after b vectors es) caught.place caught.def caught.at in
      never_caught_by_last b vectors es o.place o.row plan.board plan.fits o.at caught.def o.is (reverse (part caught.def.line moves)) caught.caught)

  hung : (line : LineNo) (actor : Actor) → HungPlay longer moves reports line actor → HotplugHung b vectors es moves reports line actor
  hung line actor is =
      let of_planned : HungPlay (planned_after b vectors es) moves reports line actor
      = subst (λ l. HungPlay l moves reports line actor) same_board is in
      record { fits = plan.fits; hung = of_planned; places = keep_places b vectors es; aims = aim_hung line actor of_planned }

  full : (line : LineNo) (len : ℕ) → FullLog longer moves reports line len → HotplugFull b vectors es moves reports line len
  full line len is = record { fits = plan.fits; full = subst (λ l. FullLog l moves reports line len) same_board is }

  cut : CutShort longer moves reports → HotplugCut b vectors es moves reports
  cut is = record { fits = plan.fits; cut = subst (λ l. CutShort l moves reports) same_board is }

  hands_out : (ended : Result PlayEnd StepRefused) → HandsOut longer moves ended reports → HotplugHandsOut b vectors es moves ended reports
  hands_out (Ok ends.Settled) h = done h
  hands_out (Ok (ends.Hung line actor)) h = hung line actor h
  hands_out (Err (refusals.Full line len)) h = full line len h
  hands_out (Err refusals.NoMemory) h = cut h

  same_text : layout_rows longer ++ (fleet_text f.said ++ moves_text moves) ≡ hotplug_text b (fleet_after b vectors es).said moves
  same_text =
      sym (append_assoc (layout_rows longer) (fleet_text f.said) (moves_text moves))
      ∙ (ap (λ l. hotplug_text l f.said moves) same_board ∙ ap (λ (g : FleetSeen). hotplug_text b g.said moves) plan.fleet)

-- what is answered of the planned board in its system
module _ (b : BoardSeen) (vectors : ℕ) (es : List Event) (f : FleetSeen) (longer : BoardSeen) (plan : IsPlanOf b vectors es f longer)
    (may_want : Option Entry → Type 0) (s : SystemSeen) (of : s.board ≡ longer) (reports : List LineReport) (before now : Option (List ℕ))
    (end : Result PlayEnd PlayFailed) (told : Answers (layout_rows longer ++ (fleet_text f.said ++ moves_text s.log)) (HandsOutSystem may_want s) reports
    before now end) where
  pub plays_plan : (heard : List Run → Type 0) → heard (runs_of_moves longer s.log) → PlaysPlan b vectors es heard reports before now end
  plays_plan heard called =
      of_some (hotplug_text b (fleet_after b vectors es).said) (HotplugHandsOut b vectors es) (runs_of_moves (planned_after b vectors es)) heard
      s.log reports before now end
      (answers_as (layout_rows longer ++ (fleet_text f.said ++ moves_text s.log)) (hotplug_text b (fleet_after b vectors es).said s.log)
      (HandsOutSystem may_want s) (HotplugHandsOut b vectors es s.log) (same_text b vectors es f longer plan s.log reports)
      (λ ended rs h. hands_out b vectors es f longer plan s.log rs ended
      (subst (λ (l : BoardSeen). HandsOut l s.log ended rs) of
      (without_step (HandsOut s.board s.log) (RefusedStep may_want s.board s.log) ended rs h))) reports before now end told)
      (subst (λ (l : BoardSeen). heard (runs_of_moves l s.log)) (same_board b vectors es f longer plan s.log reports) called)

  pub tells_step : TellsStep may_want (planned_after b vectors es) reports end
  tells_step =
      stated.tells_step may_want (planned_after b vectors es) s (of ∙ same_board b vectors es f longer plan s.log reports) reports before now end
      (layout_rows longer ++ (fleet_text f.said ++ moves_text s.log)) told
