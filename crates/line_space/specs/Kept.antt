-- What a space of a line keeps.
use Rattle.std.specs.Prelude.{◌≡◌}
use Rattle.irq_model.specs.Valid.{IsValid}
use Rattle.irq_model.specs.ValidRuns.{HasValidRuns}
use Rattle.line_words.specs.Node.{drivers_in}
use Rattle.line_words.specs.Words.{has_more}
use Rattle.line_space.specs.Reading.{IsKept}
use Rattle.line_space.specs.declared.space.LineSpace.TheInside.{Inside}

-- the definition and its runs are valid; the drivers are those of its calls, and states of the line
-- can be read
pub record IsSpace (s : Inside) : Type 0 where
  pub valid : IsValid s.def
  pub valid_runs : HasValidRuns s.def
  pub more : s.more ≡ has_more s.def
  pub drivers : s.drivers.items ≡ drivers_in s.def.calls
  pub scratch : IsKept s.def s.scratch
