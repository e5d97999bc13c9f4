-- The handlers were called for the runs of the moves of a sleep.
use Rattle.std.proofs.Common.{◌≡◌, Bool, Option, Result, List, sym, ap, subst}
use Rattle.irq_base.specs.declared.devices.Run.{Run}
use Rattle.irq_base.specs.declared.entries.Actor.{Actor}
use Rattle.irq_base.specs.declared.numbers.LineNo.{LineNo}
use Rattle.irq_line.specs.declared.answers.StepRefused.{StepRefused}
use Rattle.callbacks.specs.Heard.{Heard}
use Rattle.board_play.specs.Lines.{Move}
use Rattle.board_core.specs.Runs.{runs_by_turn, runs_in}
use Rattle.board_core.specs.Seen.{SystemSeen}
use Rattle.board_core.specs.Turned.{StepsBy as SystemSteps}
use Rattle.board_core.specs.declared.turns.Turn.{Turn}
use Rattle.board_core.specs.declared.turns.Turn.TheVariants as turns
use Rattle.board_core.proofs.Hearing.{heard_fresh, heard_turned}
use Rattle.irq_sleeper.specs.Hearing.{HearsOn}
use Rattle.irq_sleeper.specs.Seen.{SleeperSeen}
use Rattle.irq_sleeper.specs.Steps.{Heeds, IsAsleep, IsFresh, IsTold, IsWoken}
use Rattle.irq_sleeper.proofs.Underway.{fresh}

-- what is noted of a turn leaves the system as the turn left it
pub heeded_system : (old : SleeperSeen) (turn : Turn) (made : Bool) (new : SleeperSeen) → Heeds old turn made new → new.system ≡ old.system
heeded_system old (turns.Moved line e) made new h = h.1.system
heeded_system old turns.NotYet made new h = ap (λ (s : SleeperSeen). s.system) h.1

module _ {H : Type 0} (hears : H → Run → H → Type 0) where
  pub step_hears : (old : SleeperSeen) (system : SystemSeen) (new : SleeperSeen) (due : Option Move) (turn : Result Turn StepRefused)
      → SystemSteps old.system due turn system → new.system ≡ system → (h k : H)
      → Heard hears (runs_by_turn old.system turn) h k → HearsOn hears old h new k
  step_hears old system new due turn steps same h k heard = λ told first before.
      subst (λ (s : SystemSeen). Heard hears (runs_in s) first k) (sym same)
      (heard_turned hears old.system system due turn steps told.lines first h k before heard)

  -- nothing happened
  pub hears_none : (s : SleeperSeen) (h : H) → HearsOn hears s h s h
  hears_none s h = λ told first before. before

  -- one part after another
  pub hears_then : (a b c : SleeperSeen) (h k m : H) → HearsOn hears a h b k → IsTold b → HearsOn hears b k c m → HearsOn hears a h c m
  hears_then a b c h k m one told two = λ told_a first before. two told first (one told_a first before)

  -- a mark
  pub hears_asleep : (a b c : SleeperSeen) (h k : H) → HearsOn hears a h b k → IsAsleep b c → HearsOn hears a h c k
  hears_asleep a b c h k one is = λ told first before.
      subst (λ (s : SleeperSeen). Heard hears (runs_in s.system) first k) (sym is) (one told first before)

  pub hears_woken : (a b c : SleeperSeen) (line : Option LineNo) (h k : H) → HearsOn hears a h b k → IsWoken b line c → HearsOn hears a h c k
  hears_woken a b c line h k one is = λ told first before.
      subst (λ (s : SleeperSeen). Heard hears (runs_in s.system) first k) (sym is) (one told first before)

  -- a whole sleep
  pub hears_all : (old new : SleeperSeen) (picks : List Actor) (h k : H) → IsFresh old → HearsOn hears old h new k → Heard hears (runs_in new.system) h k
  hears_all old new picks h k f one = one (fresh old picks f).told h (heard_fresh hears old.system f.system h)
