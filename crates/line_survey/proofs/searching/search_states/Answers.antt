use Rattle.std.proofs.Common.{subst, arith}
use Rattle.irq_base.specs.declared.lines.LineDef.{LineDef}
use Rattle.irq_model.specs.Legal.{IsDue}
use Rattle.line_survey.proofs.OfLine.{never_met}
use Rattle.line_survey.specs.Kept.{IsOfLine}
use Rattle.line_survey.proofs.searching.search_states.Goals as goal

pub returns-clause-line : goal.returns-clause-line
returns-clause-line c =
    let s = c.in_ok-sought.sought in
    let e = c.in_ok-sought.ensures in
    let unmet = never_met (IsDue c.in_ok-space.space) s.found.paths s.found.looked s.is_met e.met in
    let of : IsOfLine c.in_ok-space.space s.found = record {
      searches = e.paths;
      states = e.states;
      firsts = e.firsts;
      counted = e.counted;
      counts = e.counts;
      left_out = e.left_out unmet;
      few = omega (arith, c.requires.most, e.within);
    } in
    subst (λ (d : LineDef). IsOfLine d s.found) c.in_ok-space.ensures of

pub returns-clause-cut : goal.returns-clause-cut
returns-clause-cut c =
    let s = c.in_ok-sought.sought in
    let e = c.in_ok-sought.ensures in
    e.cut (never_met (IsDue c.in_ok-space.space) s.found.paths s.found.looked s.is_met e.met)
