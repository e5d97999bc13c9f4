use Rattle.std.proofs.Common.{◌≡◌, take}
use Rattle.line_survey.specs.Surveyed.{rows_of}
use Rattle.line_survey.proofs.searching.LineSearch.entry_rows.Given as goal

abbrev pub invariant-loop-first : goal.invariant-loop-first
invariant-loop-first l = l.rows.items ≡ rows_of l.self.searched.paths (take l.first-index l.first-items)
