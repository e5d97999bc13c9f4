use Rattle.std.proofs.Common.{◌<◌, ◌+◌, ℕ, length, take, ap, sym, subst, arith}
use Rattle.line_survey.proofs.Growing.{rest_next, move_next}
use Rattle.line_survey.specs.Rests.{IsStill}
use Rattle.line_survey.specs.Seen.{LineSearchSeen}
use Rattle.line_survey.specs.Surveyed.{AreSoMany}
use Rattle.line_survey.proofs.searching.LineSearch.at_rest.Goals as goal
use Rattle.line_survey.proofs.searching.LineSearch.at_rest.Goals.{then-is_at_rest, else-is_at_rest}

pub loop-place-preserved : goal.loop-place-preserved
loop-place-preserved c =
    let v : LineSearchSeen = c.args.self.now in
    let paths = v.searched.paths in
    let looked = ap (λ (x : LineSearchSeen). x.searched.looked) c.self.view_is in
    let long = ap (λ (x : LineSearchSeen). length x.searched.paths) c.self.view_is in
    let within : c.loop-place.place < length paths =
    omega (arith, c.loop-place-test.true, c.looked-place-end.ensures, looked, long, c.self.invariant.line.searches.within) in
    let So : ℕ → Type 0 = λ n. AreSoMany (IsStill v.def) (take (c.loop-place.place + 1) paths) n in
    elim c.if-is_at_rest.branch [
      | then-is_at_rest w ↦
          record {
            many = subst So (sym w.rest-is)
                (rest_next v.def paths c.loop-place.place within c.loop-place.rest
                (c.is_at_rest.ensures.rests w.if-is_at_rest.true) c.loop-place.invariant.many);
            few = omega (arith, w.rest-is, c.loop-place.invariant.few);
          }
      | else-is_at_rest w ↦
          record {
            many = subst So (sym w.rest-is)
                (move_next v.def paths c.loop-place.place within c.loop-place.rest
                (c.is_at_rest.ensures.moves w.if-is_at_rest.false) c.loop-place.invariant.many);
            few = omega (arith, w.rest-is, c.loop-place.invariant.few);
          }
    ]
