use Rattle.std.proofs.Common.{List, length, ap, sym, subst, ◌∙◌}
use Rattle.state_search.specs.Seen.{cut_of}
use Rattle.line_survey.proofs.Surveys.{entries_are}
use Rattle.line_survey.specs.Kept.{IsOfLine, IsValidLine}
use Rattle.line_survey.specs.Seen.{LineSearchSeen}
use Rattle.line_survey.specs.Surveyed.{AreEntries}
use Rattle.line_survey.specs.declared.survey.EntryRow.{EntryRow}
use Rattle.line_survey.proofs.searching.LineSearch.survey.Goals as goal

pub returns : goal.returns
returns c =
    let v : LineSearchSeen = c.args.self.now in
    let asked : IsValidLine v.def = subst (λ (x : LineSearchSeen). IsValidLine x.def) c.self.view_is
    (record { valid = c.self.invariant.valid; runs = c.self.invariant.valid_runs }) in
    let line : IsOfLine v.def v.searched = subst (λ (x : LineSearchSeen). IsOfLine x.def x.searched) c.self.view_is c.self.invariant.line in
    record {
      states = c.len.ensures ∙ ap (λ (x : LineSearchSeen). length x.searched.paths) c.self.view_is;
      moves = (v.searched.counts, line.counts, line.counted, c.moves.ensures);
      rest = c.at_rest.ensures;
      cut = c.cut.ensures;
      rests = c.in_ok-rests.ensures;
      rows = subst
          (λ (rows : List EntryRow). AreEntries v.def (cut_of v.searched) rows)
          (sym c.in_ok-entry_rows.ensures)
          (entries_are v.def asked v.searched line);
    }
