-- Which lines are surveyed, line by line.
use Rattle.std.specs.Prelude.{◌≡◌, ℕ, Bool, true, false, ◌&&◌, Option, Some, None, List, [], ◌∷◌}
use Rattle.std.specs.Prelude.{◌++◌}
use Rattle.domain_rules.specs.Layout.{is_mapped}
use Rattle.domain_rules.specs.declared.layouts.Placement.{Placement}
use Rattle.irq_base.specs.declared.lines.LineDef.{LineDef}
use Rattle.irq_base.specs.declared.numbers.LineNo.{LineNo}
use Rattle.irq_explore.specs.Surveyed.{HasRows, IsSurveyOf, is_asked}
use Rattle.irq_explore.specs.declared.surveying.LineSurvey.{LineSurvey}

-- the line takes part with this placement, and is asked for
abbrev pub is_surveyed : Option LineNo → LineDef → Option Placement → Bool
is_surveyed asked def None = false
is_surveyed asked def (Some placement) = is_mapped placement && is_asked asked def

-- the line's survey is added, if it is surveyed
abbrev pub AddsSurvey : ℕ → LineDef → Bool → List LineSurvey → List LineSurvey → Type 0
AddsSurvey most def false old new = new ≡ old
AddsSurvey most def true old new =
    (s : LineSurvey) × (new ≡ old ++ s ∷ []) × IsSurveyOf most def s × HasRows s
