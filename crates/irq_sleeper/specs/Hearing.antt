-- The calls of handlers over a part of a sleep.
use Rattle.irq_base.specs.declared.devices.Run.{Run}
use Rattle.callbacks.specs.Heard.{Heard}
use Rattle.board_core.specs.Runs.{runs_in}
use Rattle.irq_sleeper.specs.Seen.{SleeperSeen}
use Rattle.irq_sleeper.specs.Steps.{IsTold}

-- The handlers were called for the runs of the moves that are new: if they had come to be what they
-- were by the calls for the old moves, they came to be what they are by the calls for all.
abbrev pub HearsOn : {H : Type 0} → (H → Run → H → Type 0) → SleeperSeen → H → SleeperSeen → H
    → Type 0
HearsOn {H} hears old before new after =
    IsTold old → (first : H) → Heard hears (runs_in old.system) first before
    → Heard hears (runs_in new.system) first after
