use Rattle.std.proofs.Common.{◌≡◌, true, subst, arith}
use Rattle.state_search.specs.declared.states.Came.{Came}
use Rattle.state_search.specs.Growing.{IsPut}
use Rattle.state_search.proofs.Putting.{put_none, put_next, put_long, put_refused}
use Rattle.state_search.proofs.states.States.put_all.Goals as goal

pub loop-i-preserved : goal.loop-i-preserved
loop-i-preserved g c =
    let l = c.get-label.result.0 in
    let ws = c.get-label.result.1.now in
    let came : Came g.row.L.Denot = record { from = c.args.from; label = l } in
    let mid = c.loop-i.self in
    let new = c.put.new.self in
    let fits : c.in_ok-put.field-0 ≡ true = c.if-not-branch.false in
    let put : IsPut came ws c.args.most mid new true = subst (IsPut came ws c.args.most mid new) fits c.in_ok-put.ensures in
    let long = put_long came ws c.args.most mid new put c.loop-i.invariant.few in
    record {
      put = put_next c.args.from c.args.found.now c.loop-i.i c.args.self.now mid c.loop-i.invariant.put l ws c.get-label.ensures c.args.most new put;
      grows = omega (arith, c.loop-i.invariant.grows, long.0);
      few = long.1;
    }

pub loop-i-init : goal.loop-i-init
loop-i-init g c = record {
  put = put_none c.args.from c.args.found.now c.args.self.now;
  grows = omega arith;
  few = c.requires.few;
}

pub returns-then-not-branch-clause-left : goal.returns-then-not-branch-clause-left
returns-then-not-branch-clause-left g c = λ same.
    let l = c.get-label.result.0 in
    let ws = c.get-label.result.1.now in
    let came : Came g.row.L.Denot = record { from = c.args.from; label = l } in (
      c.loop-i.i,
      l,
      ws,
      c.get-label.ensures,
      put_refused came ws c.args.most c.loop-i.self c.put.new.self
          (subst (IsPut came ws c.args.most c.loop-i.self c.put.new.self) c.if-not-branch.true c.in_ok-put.ensures),
    )
