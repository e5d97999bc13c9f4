-- What was done is all that the words ask for.
use Rattle.std.proofs.Common.{ℕ, Option, List, subst}
use Rattle.irq_base.specs.declared.devices.Run.{Run}
use Rattle.explore_words.proofs.One.{one_asked}
use Rattle.explore_words.specs.Words.{Asks}
use Rattle.explore_words.specs.declared.Asked.{Asked}
use Rattle.explore_top.specs.Does.{Does}
use Rattle.explore_top.specs.declared.ending.Ending.{Ending}

module _ (heard : List Run → Type 0) (told left before now : Option (List ℕ)) (ending : Ending) where
  pub of_asked : (words : List (List ℕ)) (done : Asked) → Asks words done → Does done heard told left before now ending
      → (asked : Asked) → Asks words asked → Does asked heard told left before now ending
  of_asked words done is does asked also =
      subst (λ (it : Asked). Does it heard told left before now ending) (one_asked words done asked is also) does
