-- Each row of a survey can be printed.
use Rattle.std.proofs.Common.{All, subst}
use Rattle.std.proofs.lemmas.List.Elements.{All-head, All-weaker}
use Rattle.irq_base.specs.declared.lines.LineDef.{LineDef}
use Rattle.line_survey.specs.Seen.{LineSearchSeen}
use Rattle.line_survey.specs.Surveyed.{IsLeast, IsSurvey}
use Rattle.line_survey.specs.declared.survey.EntryRow.{EntryRow}
use Rattle.line_survey.specs.declared.survey.Survey.{Survey}
use Rattle.line_wanted.specs.declared.wanted.Wanted.TheVariants as wants
use Rattle.log_text.specs.EntryWords.{IsPrintable}
use Rattle.irq_explore.specs.SurveyTexts.{HasRow}
use Rattle.irq_explore.proofs.Lawful.{legal_of, legal_printable}

has_row : (def : LineDef) (r : EntryRow) → IsLeast def (wants.Row r.entry) r.len → HasRow r
has_row def r (p, shortest, long) =
    let newest = shortest.meets.1 in
    All-head IsPrintable r.entry newest.0
    (subst (All IsPrintable) newest.1 (legal_printable def p (legal_of def (wants.Row r.entry) p shortest.meets)))

pub have_rows : (s : LineSearchSeen) (v : Survey) → IsSurvey s v → All HasRow v.rows.items
have_rows s v is = All-weaker (λ (r : EntryRow). IsLeast s.def (wants.Row r.entry) r.len) HasRow (has_row s.def) v.rows.items is.rows.each
