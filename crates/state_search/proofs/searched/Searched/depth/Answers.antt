use Rattle.std.proofs.Common.{◌≡◌, ◌<◌, suc, Some, length, slice_get, ap, sym, subst, ◌∙◌, arith}
use Rattle.std.specs.Option.{option_map}
use Rattle.state_search.specs.Paths.{paths_of}
use Rattle.state_search.proofs.Walking.{paths_len, path_to, path_there, path_back, path_first}
use Rattle.state_search.proofs.searched.Searched.depth.Goals as goal

pub loop-came-init : goal.loop-came-init
loop-came-init g c =
    let es = c.self.inside.states in
    let lt : c.args.place < length (paths_of es) = subst (λ s. c.args.place < length s.paths) (sym c.self.view_is) c.requires in
    record { within = omega (arith, lt, paths_len es); low = omega arith; steps = omega arith }

pub overflow_add-steps : goal.overflow_add-steps
overflow_add-steps g c =
    let low : c.in-Some.came.from < c.loop-came.at = c.in-Some.ensures.earlier in
    omega (arith, low, c.loop-came.invariant.low, c.ranges.place.fits)

pub loop-came-preserved : goal.loop-came-preserved
loop-came-preserved g c =
    let es = c.self.inside.states in
    let came = c.in-Some.came in
    let low : came.from < c.loop-came.at = c.in-Some.ensures.earlier in
    let one : length (path_to es c.loop-came.at) ≡ suc (length (path_to es came.from)) = ap length (path_back es c.loop-came.at came c.in-Some.ensures.path) in
    record {
      within = omega (arith, low, c.loop-came.invariant.within);
      low = omega (arith, low, c.loop-came.invariant.low);
      steps = omega (arith, one, c.loop-came.invariant.steps);
    }

pub returns : goal.returns
returns g c =
    let es = c.self.inside.states in
    let k = c.args.place in
    let lt : k < length (paths_of es) = subst (λ s. k < length s.paths) (sym c.self.view_is) c.requires in
    let none : length (path_to es c.loop-came.at) ≡ 0 = ap length (path_first es c.loop-came.at c.in_default.ensures.path) in
    let all : c.loop-came.steps ≡ length (path_to es k) = omega (arith, none, c.loop-came.invariant.steps) in
    ap Some all ∙ sym (ap (option_map length) (ap (λ s. slice_get s.paths k) (sym c.self.view_is) ∙ path_there es k lt))
