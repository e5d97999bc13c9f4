use Rattle.std.proofs.Common.{◌≡◌, ◌<◌, true≢false, IfSome, List, length, ap, sym, subst, ◌∙◌, arith}
use Rattle.state_search.specs.Paths.{IsPath, LeavesOut, AreCounted}
use Rattle.state_search.specs.Steps.{IsUnder, IsNext, NonePassed}
use Rattle.state_search.specs.Seen.{cut_of}
use Rattle.state_search.proofs.Ending.{searches, firsts}
use Rattle.state_search.proofs.Looking.{starts}
use Rattle.state_search.proofs.Passing.{none_yet, none_there, nearest_there}
use Rattle.state_search.proofs.Rooted.{if_some_from}
use Rattle.state_search.proofs.Walking.{cut_none, leaves_none}
use Rattle.state_search.proofs.searching.search.Goals as goal

pub loop-alloc-init : goal.loop-alloc-init
loop-alloc-init g c =
    let s = c.in_ok-searched.searched in
    record {
      same = c.in_ok-searched.ensures.same;
      few = omega (arith, ap length c.in_ok-searched.ensures.start.paths, c.requires.some);
      under = starts g.L.PartialEq.eq (g.S.Space.can c.args.space.now) (g.S.Space.node c.args.space.now) s c.in_ok-searched.ensures.start;
      none = none_yet (g.S.Space.can c.args.space.now) (g.S.Space.node c.args.space.now) (g.S.Space.wanted c.args.space.now) s
          c.in_ok-searched.ensures.start.looked;
    }

pub look-requires-clause-none : goal.look-requires-clause-none
look-requires-clause-none g c =
    subst (λ t. NonePassed (g.S.Space.can t) (g.S.Space.node t) (g.S.Space.wanted t) c.loop-alloc.searched) (sym c.loop-alloc.invariant.same)
    c.loop-alloc.invariant.none

pub loop-alloc-preserved : goal.loop-alloc-preserved
loop-alloc-preserved g c =
    let s = c.look.new.self in
    let same = c.loop-alloc.invariant.same in
    record {
      same = c.in_ok-look.ensures.same ∙ same;
      few = c.in_ok-look.ensures.few;
      under = subst (λ t. IsUnder g.L.PartialEq.eq (g.S.Space.can t) (g.S.Space.node t) s) same c.in_ok-look.ensures.under;
      none = subst (λ t. NonePassed (g.S.Space.can t) (g.S.Space.node t) (g.S.Space.wanted t) s) same c.in_ok-look.ensures.none;
    }

pub returns-in-Cut-clause-paths : goal.returns-in-Cut-clause-paths
returns-in-Cut-clause-paths g c =
    let s = c.look.new.self in
    let u = subst (λ t. IsUnder g.L.PartialEq.eq (g.S.Space.can t) (g.S.Space.node t) s) c.loop-alloc.invariant.same c.in_ok-look.ensures.under in
    searches (g.S.Space.can c.args.space.now) (g.S.Space.node c.args.space.now) s.looked s.paths u.paths

pub returns-in-Cut-clause-firsts : goal.returns-in-Cut-clause-firsts
returns-in-Cut-clause-firsts g c =
    let s = c.look.new.self in
    let u = subst (λ t. IsUnder g.L.PartialEq.eq (g.S.Space.can t) (g.S.Space.node t) s) c.loop-alloc.invariant.same c.in_ok-look.ensures.under in
    firsts (g.S.Space.can c.args.space.now) (g.S.Space.node c.args.space.now) s.looked s.paths u.paths g.L.PartialEq.eq g.met.L.Eq.laws s.firsts u.firsts

pub returns-in-Cut-clause-none : goal.returns-in-Cut-clause-none
returns-in-Cut-clause-none g c =
    let s = c.look.new.self in
    let u = subst (λ t. IsUnder g.L.PartialEq.eq (g.S.Space.can t) (g.S.Space.node t) s) c.loop-alloc.invariant.same c.in_ok-look.ensures.under in
    let none = subst (λ t. NonePassed (g.S.Space.can t) (g.S.Space.node t) (g.S.Space.wanted t) s) c.loop-alloc.invariant.same c.in_ok-look.ensures.none in
    none_there g.L.PartialEq.eq (g.S.Space.can c.args.space.now) (g.S.Space.node c.args.space.now) (g.S.Space.wanted c.args.space.now) s u none

pub returns-in-Cut-clause-counts : goal.returns-in-Cut-clause-counts
returns-in-Cut-clause-counts g c =
    let s = c.look.new.self in
    subst (λ t. AreCounted (g.S.Space.can t) s.paths s.counts) c.loop-alloc.invariant.same c.in_ok-look.ensures.under.counts

pub returns-in-Cut-clause-left_out : goal.returns-in-Cut-clause-left_out
returns-in-Cut-clause-left_out g c = λ unmet.
    let s = c.look.new.self in
    subst (λ t. LeavesOut (g.S.Space.can t) (g.S.Space.node t) s.paths s.looked) c.loop-alloc.invariant.same
    (c.in_ok-look.ensures.left_out c.in-Cut.is)

pub returns-in-Cut-clause-cut : goal.returns-in-Cut-clause-cut
returns-in-Cut-clause-cut g c = λ unmet.
    let s = c.look.new.self in
    if_some_from (λ d. length s.paths ≡ c.args.most) (cut_of s) (λ d is. c.in_ok-look.ensures.cut c.in-Cut.is)

pub returns-in-Wanted-clause-paths : goal.returns-in-Wanted-clause-paths
returns-in-Wanted-clause-paths g c =
    let s = c.look.new.self in
    let u = subst (λ t. IsUnder g.L.PartialEq.eq (g.S.Space.can t) (g.S.Space.node t) s) c.loop-alloc.invariant.same c.in_ok-look.ensures.under in
    searches (g.S.Space.can c.args.space.now) (g.S.Space.node c.args.space.now) s.looked s.paths u.paths

pub returns-in-Wanted-clause-firsts : goal.returns-in-Wanted-clause-firsts
returns-in-Wanted-clause-firsts g c =
    let s = c.look.new.self in
    let u = subst (λ t. IsUnder g.L.PartialEq.eq (g.S.Space.can t) (g.S.Space.node t) s) c.loop-alloc.invariant.same c.in_ok-look.ensures.under in
    firsts (g.S.Space.can c.args.space.now) (g.S.Space.node c.args.space.now) s.looked s.paths u.paths g.L.PartialEq.eq g.met.L.Eq.laws s.firsts u.firsts

pub returns-in-Wanted-clause-none : goal.returns-in-Wanted-clause-none
returns-in-Wanted-clause-none g c =
    let s = c.look.new.self in
    let u = subst (λ t. IsUnder g.L.PartialEq.eq (g.S.Space.can t) (g.S.Space.node t) s) c.loop-alloc.invariant.same c.in_ok-look.ensures.under in
    let none = subst (λ t. NonePassed (g.S.Space.can t) (g.S.Space.node t) (g.S.Space.wanted t) s) c.loop-alloc.invariant.same c.in_ok-look.ensures.none in
    none_there g.L.PartialEq.eq (g.S.Space.can c.args.space.now) (g.S.Space.node c.args.space.now) (g.S.Space.wanted c.args.space.now) s u none

pub returns-in-Wanted-clause-met : goal.returns-in-Wanted-clause-met
returns-in-Wanted-clause-met g c = λ met.
    let s = c.look.new.self in
    let u = subst (λ t. IsUnder g.L.PartialEq.eq (g.S.Space.can t) (g.S.Space.node t) s) c.loop-alloc.invariant.same c.in_ok-look.ensures.under in
    let none = subst (λ t. NonePassed (g.S.Space.can t) (g.S.Space.node t) (g.S.Space.wanted t) s) c.loop-alloc.invariant.same c.in_ok-look.ensures.none in
    let wanted = subst (λ t. (h : List g.row.L.Denot) → IsPath (g.S.Space.can t) h → IsNext (g.S.Space.node t) s h → g.S.Space.wanted t h)
    c.loop-alloc.invariant.same (c.in_ok-look.ensures.wanted c.in-Wanted.is) in
    let open' : s.looked < length s.paths =
    subst (λ t. t.looked < length t.paths) (sym (c.in_ok-look.ensures.stays c.in-Wanted.is)) (c.is_open.ensures.0 c.loop-alloc-test.true) in
    nearest_there g.L.PartialEq.eq (g.S.Space.can c.args.space.now) (g.S.Space.node c.args.space.now) (g.S.Space.wanted c.args.space.now) s u none open' wanted

pub returns-clause-counted : goal.returns-clause-counted
returns-clause-counted g c = c.loop-alloc.invariant.under.counted

pub returns-clause-counts : goal.returns-clause-counts
returns-clause-counts g c = c.loop-alloc.invariant.under.counts

pub returns-clause-left_out : goal.returns-clause-left_out
returns-clause-left_out g c = λ unmet.
    leaves_none (g.S.Space.can c.args.space.now) (g.S.Space.node c.args.space.now) c.loop-alloc.searched
    (λ lt. true≢false (sym (c.is_open.ensures.1 lt) ∙ c.loop-alloc-test.false))

pub returns-clause-paths : goal.returns-clause-paths
returns-clause-paths g c =
    let s = c.loop-alloc.searched in
    searches (g.S.Space.can c.args.space.now) (g.S.Space.node c.args.space.now) s.looked s.paths c.loop-alloc.invariant.under.paths

pub returns-clause-firsts : goal.returns-clause-firsts
returns-clause-firsts g c =
    let s = c.loop-alloc.searched in
    firsts (g.S.Space.can c.args.space.now) (g.S.Space.node c.args.space.now) s.looked s.paths
    c.loop-alloc.invariant.under.paths g.L.PartialEq.eq g.met.L.Eq.laws s.firsts
    c.loop-alloc.invariant.under.firsts

pub returns-clause-none : goal.returns-clause-none
returns-clause-none g c =
    none_there g.L.PartialEq.eq (g.S.Space.can c.args.space.now) (g.S.Space.node c.args.space.now) (g.S.Space.wanted c.args.space.now)
    c.loop-alloc.searched c.loop-alloc.invariant.under c.loop-alloc.invariant.none

pub returns-clause-cut : goal.returns-clause-cut
returns-clause-cut g c = λ unmet.
    let s = c.loop-alloc.searched in
    let closed : s.looked < length s.paths → ⊥ = λ lt. true≢false (sym (c.is_open.ensures.1 lt) ∙ c.loop-alloc-test.false) in
    subst (λ o. IfSome o (λ d. length s.paths ≡ c.args.most)) (sym (cut_none s closed)) tt
