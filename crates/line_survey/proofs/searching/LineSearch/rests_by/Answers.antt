use Rattle.std.proofs.Common.{◌≡◌, ◌<◌, ◌+◌, ℕ, Vec, Global, length, ap, sym, subst, arith}
use Rattle.line_survey.proofs.Growing.{row_small, rows_stay, rows_count}
use Rattle.line_survey.proofs.Surveys.{rests_are}
use Rattle.line_survey.specs.Growing.{AreRestsTo}
use Rattle.line_survey.specs.Kept.{IsOfLine, IsReader, IsValidLine}
use Rattle.line_survey.specs.Seen.{LineSearchSeen}
use Rattle.line_survey.specs.declared.reader.Reader.{Reader}
use Rattle.line_survey.specs.declared.survey.RestRow.{RestRow}
use Rattle.line_survey.proofs.searching.LineSearch.rests_by.Goals as goal
use Rattle.line_survey.proofs.searching.LineSearch.rests_by.Goals.{then-is_at_rest+in_ok-left+in_ok-note, else-is_at_rest}

pub note-requires : goal.note-requires
note-requires c = record {
  few = λ k r is.
      let v : LineSearchSeen = c.args.self.now in
      let line : IsOfLine v.def v.searched = subst (λ (x : LineSearchSeen). IsOfLine x.def x.searched) c.self.view_is c.self.invariant.line in
      let looked = ap (λ (x : LineSearchSeen). x.searched.looked) c.self.view_is in
      let within : c.loop-place.place < length v.searched.paths =
      omega (arith, c.loop-place-test.true, c.looked-place-end.ensures, looked, line.searches.within) in
      let small = row_small v.def v.searched.paths c.loop-place.place within c.loop-place.rests.items c.loop-place.invariant.rows k r is in
      omega (arith, small, within, line.few);
}

pub loop-place-preserved : goal.loop-place-preserved
loop-place-preserved c =
    let v : LineSearchSeen = c.args.self.now in
    let paths = v.searched.paths in
    let line : IsOfLine v.def v.searched = subst (λ (x : LineSearchSeen). IsOfLine x.def x.searched) c.self.view_is c.self.invariant.line in
    let looked = ap (λ (x : LineSearchSeen). x.searched.looked) c.self.view_is in
    let within : c.loop-place.place < length paths =
    omega (arith, c.loop-place-test.true, c.looked-place-end.ensures, looked, line.searches.within) in
    let So : Vec RestRow Global → Type 0 = λ rows. AreRestsTo v.def paths (c.loop-place.place + 1) rows.items in
    elim c.if-is_at_rest.branch [
      | then-is_at_rest+in_ok-left+in_ok-note w ↦
          record {
            rows = subst So (sym w.rests-is)
                (rows_count v.def paths c.loop-place.place within line.searches.rising c.loop-place.rests.items w.note.new.rests.items
                w.in_ok-left.left w.depth.result (c.is_at_rest.ensures.rests w.if-is_at_rest.true) w.in_ok-left.ensures.left w.depth.ensures.depth
                c.loop-place.invariant.rows w.in_ok-note.ensures);
            reader = subst (λ (r : Reader). IsReader v.def r) (sym w.reader-is) w.left_at.ensures.reader;
          }
      | else-is_at_rest w ↦
          record {
            rows = subst So (sym w.rests-is)
                (rows_stay v.def paths c.loop-place.place within c.loop-place.rests.items
                (c.is_at_rest.ensures.moves w.if-is_at_rest.false) c.loop-place.invariant.rows);
            reader = subst (λ (r : Reader). IsReader v.def r) (sym w.reader-is) c.loop-place.invariant.reader;
          }
    ]

pub returns : goal.returns
returns c =
    let v : LineSearchSeen = c.args.self.now in
    let asked : IsValidLine v.def = subst (λ (x : LineSearchSeen). IsValidLine x.def) c.self.view_is
    (record { valid = c.self.invariant.valid; runs = c.self.invariant.valid_runs }) in
    let line : IsOfLine v.def v.searched = subst (λ (x : LineSearchSeen). IsOfLine x.def x.searched) c.self.view_is c.self.invariant.line in
    let looked = ap (λ (x : LineSearchSeen). x.searched.looked) c.self.view_is in
    let end : c.loop-place.place ≡ v.searched.looked =
    omega (arith, c.loop-place-test.false, c.loop-place.auto.place-end, c.looked-place-end.ensures, looked) in
    rests_are v.def asked v.searched line c.loop-place.rests.items
    (subst (λ (n : ℕ). AreRestsTo v.def v.searched.paths n c.loop-place.rests.items) end c.loop-place.invariant.rows)
