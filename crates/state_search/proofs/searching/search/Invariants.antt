use Rattle.std.proofs.Common.{◌≡◌, ◌≤◌, ◌-◌, length}
use Rattle.state_search.specs.Steps.{IsUnder, NonePassed}
use Rattle.state_search.proofs.searching.search.Given as goal

abbrev pub invariant-loop-alloc : goal.invariant-loop-alloc
invariant-loop-alloc g l = record {
  same : l.space ≡ l.fn.space;
  few : length l.searched.paths ≤ l.most;
  under : IsUnder g.L.PartialEq.eq (g.S.Space.can l.fn.space) (g.S.Space.node l.fn.space) l.searched;
  none : NonePassed (g.S.Space.can l.fn.space) (g.S.Space.node l.fn.space) (g.S.Space.wanted l.fn.space) l.searched;
}

abbrev pub decreases-loop-alloc : goal.decreases-loop-alloc
decreases-loop-alloc g l = l.most - l.searched.looked
