-- Which states are wanted.
use Rattle.std.specs.Prelude.{ℕ, Option, None, Some, List, ◌∷◌}
use Rattle.irq_base.specs.declared.entries.Entry.{Entry}
use Rattle.irq_base.specs.declared.lines.LineDef.{LineDef}
use Rattle.irq_model.specs.Valid.{IsValid}
use Rattle.irq_model.specs.ValidRuns.{HasValidRuns}
use Rattle.line_wanted.specs.declared.wanted.Wanted.{Wanted}
use Rattle.line_wanted.specs.declared.wanted.Wanted.TheVariants as wants
use Rattle.line_survey.specs.Answers.{known_within}
use Rattle.line_survey.specs.Kept.{IsReader}
use Rattle.line_survey.specs.declared.answer.Answer.{Answer}
use Rattle.line_survey.specs.declared.answer.Answer.TheVariants as answers
use Rattle.line_survey.specs.declared.wanting.WantedSpace.TheInside.{Inside}

pub record WantedSeen : Type 0 where
  pub def : LineDef
  pub wanted : Wanted

-- the history as wanted that comes of the past by which it is met
abbrev pub whole_past : Wanted → List Entry → List Entry
whole_past (wants.Row e) past = e ∷ past
whole_past (wants.Rest left) past = past

-- what is answered if it isn't met, by where the search was cut
abbrev pub unmet_answer : Wanted → Option ℕ → Answer
unmet_answer wanted None = answers.Never
unmet_answer wanted (Some cut) = answers.NotWithin (known_within wanted cut)

pub record IsWantedSpace (s : Inside) : Type 0 where
  pub valid : IsValid s.space
  pub valid_runs : HasValidRuns s.space
  pub reader : IsReader s.space s.reader
