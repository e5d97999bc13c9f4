use Rattle.std.proofs.Common.{List, Some, slice_get, sym, ap, ◌∙◌, arith}
use Rattle.domain_rules.specs.declared.layouts.Placement.{Placement}
use Rattle.irq_base.specs.declared.lines.LineDef.{LineDef}
use Rattle.irq_explore.proofs.ByIndex.{at_index}
use Rattle.irq_explore.proofs.Taken.{all_taken, next, rows_next}
use Rattle.irq_explore.specs.Surveying.{is_surveyed}
use Rattle.irq_explore.proofs.surveying.survey_lines.Goals as goal

pub loop-i-preserved : goal.loop-i-preserved
loop-i-preserved c =
    let b = c.args.board.now in
    let i = c.loop-i.i in
    let def = c.index.result.now in
    let at = ap (λ (l : List LineDef). slice_get l i) (sym c.in_ok-defs.ensures.defs)
    ∙ (at_index c.in_ok-defs.defs.items i def (omega (arith, c.len-i-end.ensures, c.loop-i-test.true)) ∙ ap (λ (d : LineDef). Some d) (sym c.index.ensures)) in
    let placed = c.get.ensures ∙ ap (λ (l : List Placement). slice_get l i) c.requires.layout in
    record {
      surveys =
          next b c.args.asked i c.args.states c.loop-i.surveys.items c.survey_next.new.surveys.items def c.get.result at placed
          c.in_ok-survey_next.ensures c.loop-i.invariant.surveys;
      rows =
          rows_next (is_surveyed c.args.asked def c.get.result) c.args.states c.loop-i.surveys.items c.survey_next.new.surveys.items def
          c.in_ok-survey_next.ensures c.loop-i.invariant.rows;
    }

pub returns-clause-surveys : goal.returns-clause-surveys
returns-clause-surveys c =
    all_taken c.args.board.now c.args.asked c.args.states c.loop-i.i c.in_ok-defs.defs.items c.loop-i.surveys.items c.in_ok-defs.ensures.defs
    (λ less. omega (arith, c.len-i-end.ensures, c.loop-i-test.false, less)) c.loop-i.invariant.surveys
