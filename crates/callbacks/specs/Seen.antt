-- What contracts see of an answer.
use Rattle.std.specs.Prelude.{◌≡◌, Option, Some, None}
use Rattle.irq_base.specs.Handlers.{answer_of_run}
use Rattle.irq_base.specs.declared.devices.Answer.{Answer}
use Rattle.irq_base.specs.declared.devices.Run.{Run}

-- An answer, with the run that it answers.
pub record SaidSeen : Type 0 where
  pub run : Run
  pub answer : Answer

-- what the handler of this run answers
abbrev pub answer_to : Run → Answer
answer_to run = answer_of_run run

-- what was said is the answer of that run
abbrev pub IsSaidFor : Option SaidSeen → Run → Type 0
IsSaidFor None run = ⊥
IsSaidFor (Some said) run = said.run ≡ run
