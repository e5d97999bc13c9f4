-- What was done is what every command does that the words ask for.
use Rattle.std.proofs.Common.{ℕ, Option, List, subst}
use Rattle.irq_base.specs.declared.devices.Answer.{Answer}
use Rattle.irq_base.specs.declared.devices.Run.{Run}
use Rattle.irq_base.specs.declared.entries.Entry.{Entry}
use Rattle.irq_base.specs.declared.reporting.LineReport.{LineReport}
use Rattle.irq_words.specs.Words.{Asks}
use Rattle.irq_words.specs.declared.Command.{Command}
use Rattle.irq_words.proofs.OneCommand.{one_command}
use Rattle.notifiers.specs.Told.{Notice}
use Rattle.irq_top.specs.declared.ending.Ending.{Ending}
use Rattle.irq_top.specs.Commands.{Does, TellsWanted}

module _ (heard : List Run → Type 0) (gave : Run → Answer → Type 0) (placed : List Notice → Type 0)
    (told left : Option (List ℕ)) (reports : List LineReport) (before now : Option (List ℕ)) where
  abbrev Did : Command → Ending → Type 0
  Did done ending = Does heard gave placed done told left reports before now ending

  pub of_asked : (ending : Ending) (words : List (List ℕ)) (done : Command) → Asks words done
      → Did done ending → (asked : Command) → Asks words asked
      → Did asked ending
  of_asked ending words done is does asked also = subst
      (λ (command : Command). Did command ending) (one_command words done asked is also)
      does

-- the same of what is told of a step that was refused memory
pub wanted_of_asked : (may_want : Option Entry → Type 0) (told : Option (List ℕ)) (reports : List LineReport) (ending : Ending)
    (words : List (List ℕ)) (done : Command) → Asks words done → TellsWanted may_want done told reports ending
    → (asked : Command) → Asks words asked → TellsWanted may_want asked told reports ending
wanted_of_asked may_want told reports ending words done is tells asked also =
    subst (λ (command : Command). TellsWanted may_want command told reports ending) (one_command words done asked is also) tells
