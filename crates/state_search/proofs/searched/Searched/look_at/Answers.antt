use Rattle.std.proofs.Common.{◌≡◌, ◌<◌, ◌≤◌, List, [], ◌∷◌, ◌++◌, length, ap, sym, subst, ◌∙◌, arith}
use Rattle.state_search.specs.Paths.{IsReached, IsPath, AreSteps, paths_of}
use Rattle.state_search.specs.Seen.{search_seen}
use Rattle.state_search.specs.Steps.{IsUnder, NonePassed}
use Rattle.state_search.proofs.Looking.{next_reached, looks_cut, looks_whole, leaves_out}
use Rattle.state_search.proofs.Passing.{none_grown, none_more, next_is, here}
use Rattle.state_search.proofs.Walking.{paths_len}
use Rattle.state_search.proofs.searched.Searched.look_at.Goals as goal

pub steps-requires-clause-reached : goal.steps-requires-clause-reached
steps-requires-clause-reached g c =
    let cs = c.self.inside.counts.items in
    let es = c.self.inside.states in
    let few : length c.args.self.now.paths ≤ 100000000 = omega (arith, c.requires.few, c.requires.most) in
    next_reached g.L.PartialEq.eq (g.S.Space.can c.args.space.now) (g.S.Space.node c.args.space.now) cs es es
    c.self.inside.firsts.items c.self.inside.firsts.items c.clear.new.self c.args.self.now
    c.self.view_is c.requires.under c.requires.open c.args.words.now c.looked-place.result
    (c.looked-place.ensures ∙ sym (ap (λ s. s.looked) c.self.view_is))
    (here (c.self.inside.states) c.self.inside.firsts.items c.self.inside.counts.items c.args.self.now
    c.self.view_is c.looked-place.result c.args.words.now c.looked-place.ensures c.requires.words) 100000000 few

pub is_wanted-requires-clause-reached : goal.is_wanted-requires-clause-reached
is_wanted-requires-clause-reached g c =
    let cs = c.self.inside.counts.items in
    let es = c.self.inside.states in
    let few : length c.args.self.now.paths ≤ 100000000 = omega (arith, c.requires.few, c.requires.most) in
    subst (λ t. IsReached (g.S.Space.can t) (g.S.Space.node t) 100000000 c.args.words.now) (sym c.in_ok-steps.ensures.same)
    (next_reached g.L.PartialEq.eq (g.S.Space.can c.args.space.now) (g.S.Space.node c.args.space.now) cs es es
    c.self.inside.firsts.items c.self.inside.firsts.items c.clear.new.self c.args.self.now
    c.self.view_is c.requires.under c.requires.open c.args.words.now c.looked-place.result
    (c.looked-place.ensures ∙ sym (ap (λ s. s.looked) c.self.view_is))
    (here (c.self.inside.states) c.self.inside.firsts.items c.self.inside.counts.items c.args.self.now
    c.self.view_is c.looked-place.result c.args.words.now c.looked-place.ensures c.requires.words) 100000000 few)

pub is_wanted-requires-clause-steps : goal.is_wanted-requires-clause-steps
is_wanted-requires-clause-steps g c =
    subst (λ t. (h : List g.row.L.Denot) → IsPath (g.S.Space.can t) h → g.S.Space.node t h ≡ c.args.words.now
    → AreSteps (g.S.Space.can t) (g.S.Space.node t) h c.steps.new.found) (sym c.in_ok-steps.ensures.same) c.in_ok-steps.ensures.steps

pub returns-then-branch-clause-wanted : goal.returns-then-branch-clause-wanted
returns-then-branch-clause-wanted g c = λ stops h path next.
    let ws = c.args.words.now in
    let same = next_is (g.S.Space.can c.args.space.now) (g.S.Space.node c.args.space.now) (g.S.Space.wanted c.args.space.now)
    c.self.inside.counts.items c.self.inside.states c.self.inside.firsts.items c.args.self.now c.self.view_is
    c.looked-place.result ws c.looked-place.ensures (here (c.self.inside.states) c.self.inside.firsts.items
    c.self.inside.counts.items c.args.self.now c.self.view_is c.looked-place.result c.args.words.now
    c.looked-place.ensures c.requires.words) h next in
    subst (λ t. (h : List g.row.L.Denot) → IsPath (g.S.Space.can t) h → g.S.Space.node t h ≡ ws → g.S.Space.wanted t h)
    c.in_ok-steps.ensures.same (c.in_ok-is_wanted.ensures.wanted c.if-branch.true) h path same

pub put_all-requires-clause-earlier : goal.put_all-requires-clause-earlier
put_all-requires-clause-earlier g c =
    let es = c.self.inside.states in
    let lt : c.args.self.now.looked < length (paths_of es) = subst (λ t. c.args.self.now.looked < length t.paths) (sym c.self.view_is) c.requires.open in
    omega (arith, c.looked-place.ensures, lt, paths_len es)

pub put_all-requires-clause-few : goal.put_all-requires-clause-few
put_all-requires-clause-few g c =
    let es = c.self.inside.states in
    let le : length (paths_of es) ≤ c.args.most = subst (λ t. length t.paths ≤ c.args.most) (sym c.self.view_is) c.requires.few in
    omega (arith, le, paths_len es)

pub returns-then-not-branch-clause-few : goal.returns-then-not-branch-clause-few
returns-then-not-branch-clause-few g c = omega (arith, paths_len c.put_all.new.self, c.in_ok-put_all.ensures.few)

pub returns-then-not-branch-clause-under : goal.returns-then-not-branch-clause-under
returns-then-not-branch-clause-under g c =
    let put = c.in_ok-put_all.ensures.put in
    looks_cut g.L.PartialEq.eq (g.S.Space.can c.args.space.now) (g.S.Space.node c.args.space.now) c.self.inside.counts.items
    c.self.inside.states c.put_all.new.self c.self.inside.firsts.items
    c.note.new.firsts.items c.steps.new.found c.args.self.now c.self.view_is c.requires.under c.requires.open
    c.args.words.now c.looked-place.result (c.looked-place.ensures ∙ sym (ap (λ s. s.looked) c.self.view_is))
    (here (c.self.inside.states) c.self.inside.firsts.items c.self.inside.counts.items c.args.self.now c.self.view_is
    c.looked-place.result c.args.words.now c.looked-place.ensures c.requires.words) c.in_ok-steps.ensures.steps
    c.in_ok-note.ensures
    put.0 put.1

pub returns-then-not-branch-clause-cut : goal.returns-then-not-branch-clause-cut
returns-then-not-branch-clause-cut g c = λ h. paths_len c.put_all.new.self ∙ c.in_ok-put_all.ensures.full c.if-not-branch.true

pub returns-then-not-branch-clause-left_out : goal.returns-then-not-branch-clause-left_out
returns-then-not-branch-clause-left_out g c = λ h.
    let put = c.in_ok-put_all.ensures.put in
    leaves_out g.L.PartialEq.eq (g.S.Space.can c.args.space.now) (g.S.Space.node c.args.space.now) c.self.inside.counts.items
    c.self.inside.states c.put_all.new.self c.self.inside.firsts.items
    c.note.new.firsts.items c.steps.new.found c.args.self.now c.self.view_is c.requires.under c.requires.open
    c.args.words.now c.looked-place.result (c.looked-place.ensures ∙ sym (ap (λ s. s.looked) c.self.view_is))
    (here (c.self.inside.states) c.self.inside.firsts.items c.self.inside.counts.items c.args.self.now c.self.view_is
    c.looked-place.result c.args.words.now c.looked-place.ensures c.requires.words) c.in_ok-steps.ensures.steps
    c.in_ok-note.ensures
    put.0 put.1 (c.in_ok-put_all.ensures.left c.if-not-branch.true)

pub returns-clause-few : goal.returns-clause-few
returns-clause-few g c = omega (arith, paths_len c.put_all.new.self, c.in_ok-put_all.ensures.few)

pub returns-clause-under : goal.returns-clause-under
returns-clause-under g c =
    let count : c.in-Ok.count ≡ length c.steps.new.found = c.in-Ok.ensures.1 ∙ c.len.ensures in
    let pushed : c.push.new.self.items ≡ c.self.inside.counts.items ++ length c.steps.new.found ∷ []
    = c.in_ok-push.ensures.items ∙ ap (λ n. c.self.inside.counts.items ++ n ∷ []) count in
    let put = c.in_ok-put_all.ensures.put in
    subst (λ cs. IsUnder g.L.PartialEq.eq (g.S.Space.can c.args.space.now) (g.S.Space.node c.args.space.now)
    (search_seen c.put_all.new.self c.note.new.firsts.items cs)) (sym pushed)
    (looks_whole g.L.PartialEq.eq (g.S.Space.can c.args.space.now) (g.S.Space.node c.args.space.now) c.self.inside.counts.items
    c.self.inside.states c.put_all.new.self c.self.inside.firsts.items
    c.note.new.firsts.items c.steps.new.found c.args.self.now c.self.view_is c.requires.under c.requires.open
    c.args.words.now c.looked-place.result (c.looked-place.ensures ∙ sym (ap (λ s. s.looked) c.self.view_is))
    (here (c.self.inside.states) c.self.inside.firsts.items c.self.inside.counts.items c.args.self.now c.self.view_is
    c.looked-place.result c.args.words.now c.looked-place.ensures c.requires.words) c.in_ok-steps.ensures.steps
    c.in_ok-note.ensures
    put.0 put.1 (put.2 c.if-not-branch.false))

pub returns-then-not-branch-clause-none : goal.returns-then-not-branch-clause-none
returns-then-not-branch-clause-none g c =
    let put = c.in_ok-put_all.ensures.put in
    none_grown (g.S.Space.can c.args.space.now) (g.S.Space.node c.args.space.now) (g.S.Space.wanted c.args.space.now) g.L.PartialEq.eq
    c.self.inside.counts.items c.self.inside.states c.put_all.new.self c.self.inside.firsts.items c.note.new.firsts.items c.args.self.now
    c.self.view_is c.requires.under c.requires.none c.looked-place.result c.steps.new.found put.0 put.1

pub returns-clause-none : goal.returns-clause-none
returns-clause-none g c =
    let ws = c.args.words.now in
    let count : c.in-Ok.count ≡ length c.steps.new.found = c.in-Ok.ensures.1 ∙ c.len.ensures in
    let pushed : c.push.new.self.items ≡ c.self.inside.counts.items ++ length c.steps.new.found ∷ []
    = c.in_ok-push.ensures.items ∙ ap (λ n. c.self.inside.counts.items ++ n ∷ []) count in
    let put = c.in_ok-put_all.ensures.put in
    let unwanted = subst
    (λ t. (h : List g.row.L.Denot) → IsPath (g.S.Space.can t) h → g.S.Space.node t h ≡ ws → g.S.Space.wanted t h → ⊥)
    c.in_ok-steps.ensures.same (c.in_ok-is_wanted.ensures.unwanted c.if-branch.false) in
    subst (λ cs. NonePassed (g.S.Space.can c.args.space.now) (g.S.Space.node c.args.space.now) (g.S.Space.wanted c.args.space.now)
    (search_seen c.put_all.new.self c.note.new.firsts.items cs)) (sym pushed)
    (none_more (g.S.Space.can c.args.space.now) (g.S.Space.node c.args.space.now) (g.S.Space.wanted c.args.space.now) g.L.PartialEq.eq
    c.self.inside.counts.items c.self.inside.states c.put_all.new.self c.self.inside.firsts.items c.note.new.firsts.items c.args.self.now
    c.self.view_is c.requires.under c.requires.none c.looked-place.result c.steps.new.found put.0 put.1
    ws (c.looked-place.ensures ∙ sym (ap (λ s. s.looked) c.self.view_is))
    (here (c.self.inside.states) c.self.inside.firsts.items c.self.inside.counts.items c.args.self.now
    c.self.view_is c.looked-place.result c.args.words.now c.looked-place.ensures c.requires.words) unwanted
    (length c.steps.new.found))
