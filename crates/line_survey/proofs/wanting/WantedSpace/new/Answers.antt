use Rattle.std.proofs.Common.{sym, subst}
use Rattle.irq_base.specs.declared.lines.LineDef.{LineDef}
use Rattle.irq_model.specs.Valid.{IsValid}
use Rattle.irq_model.specs.ValidRuns.{HasValidRuns}
use Rattle.line_survey.specs.Kept.{IsReader}
use Rattle.line_survey.proofs.wanting.WantedSpace.new.Goals as goal

pub invariant_of-result : goal.invariant_of-result
invariant_of-result c = record {
  valid = subst IsValid (sym c.in_ok-new.ensures) c.requires.valid;
  valid_runs = subst HasValidRuns (sym c.in_ok-new.ensures) c.requires.runs;
  reader = subst (λ (d : LineDef). IsReader d c.in_ok-new-2.field-0) (sym c.in_ok-new.ensures) c.in_ok-new-2.ensures;
}
