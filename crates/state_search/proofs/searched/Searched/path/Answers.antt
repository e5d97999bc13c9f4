use Rattle.std.proofs.Common.{◌≡◌, ◌<◌, [], ◌∷◌, ◌++◌, Some, length, reverse, slice_get, ap, sym, subst, ◌∙◌, arith, append_assoc}
use Rattle.std.proofs.lemmas.List.{append-nil, reverse-reverse}
use Rattle.state_search.specs.Paths.{paths_of}
use Rattle.state_search.proofs.Walking.{paths_len, path_to, path_there, path_back, path_first}
use Rattle.state_search.proofs.searched.Searched.path.Goals as goal

pub loop-came-init : goal.loop-came-init
loop-came-init g c =
    let es = c.self.inside.states in
    let lt : c.args.place < length (paths_of es) = subst (λ s. c.args.place < length s.paths) (sym c.self.view_is) c.requires in
    record { within = omega (arith, lt, paths_len es); path = sym (ap (λ t. t ++ path_to es c.args.place) c.new-path.ensures.items) }

pub loop-came-preserved : goal.loop-came-preserved
loop-came-preserved g c =
    let es = c.self.inside.states in
    let came = c.in-Some.came in
    let rest = path_to es came.from in
    let old = c.loop-came.path.items in
    let low : came.from < c.loop-came.at = c.in-Some.ensures.earlier in
    record {
      within = omega (arith, low, c.loop-came.invariant.within);
      path = c.loop-came.invariant.path
          ∙ (ap (λ t. old ++ t) (path_back es c.loop-came.at came c.in-Some.ensures.path)
          ∙ (sym (append_assoc old (came.label ∷ []) rest) ∙ ap (λ t. t ++ rest) (sym c.in_ok-push.ensures.items)));
    }

pub returns : goal.returns
returns g c =
    let es = c.self.inside.states in
    let k = c.args.place in
    let old = c.loop-came.path.items in
    let lt : k < length (paths_of es) = subst (λ s. k < length s.paths) (sym c.self.view_is) c.requires in
    let all : path_to es k ≡ old = c.loop-came.invariant.path
    ∙ (ap (λ t. old ++ t) (path_first es c.loop-came.at c.in_default.ensures.path) ∙ append-nil old) in
    ap (λ s. slice_get s.paths k) (sym c.self.view_is)
    ∙ (path_there es k lt ∙ ap Some (all ∙ (sym (reverse-reverse old) ∙ ap reverse (sym c.reverse.ensures.items))))
