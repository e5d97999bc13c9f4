use Rattle.std.proofs.Common.{◌+◌, ◌++◌, [], ◌∷◌, Option, List, cond, count_by, drop, subst, ap, ◌∙◌, sym, append_assoc, arith, refl, zero-add, add-zero}
use Rattle.std.proofs.lemmas.List.{drop_all}
use Rattle.vector_matrix.specs.Vectors.{count_of}
use Rattle.vector_matrix.specs.declared.view.Vector.{Vector}
use Rattle.irq_hotplug.specs.Berths.{all_settled, is_at, stands_at}
use Rattle.irq_hotplug.specs.Kept.{HasQueue}
use Rattle.irq_hotplug.specs.Rows.{all_rows, rows_for}
use Rattle.irq_hotplug.specs.declared.berths.Berth.{Berth}
use Rattle.irq_hotplug.specs.declared.rows.FleetRow.{FleetRow}
use Rattle.irq_hotplug.proofs.Counting.{count_more, count_put, settle_tie, there_now}
use Rattle.irq_hotplug.proofs.Telling.{none_told, tells_on}
use Rattle.irq_hotplug.proofs.placing.settle_all.Goals as goal

pub say-requires-clause-room : goal.say-requires-clause-room
say-requires-clause-room g c = omega (arith, c.loop-i.invariant.said_spare, c.loop-i-test.true)

pub say-requires-clause-queues : goal.say-requires-clause-queues
say-requires-clause-queues g c = subst HasQueue c.at-berth.ensures.item (c.requires.queues c.loop-i.i c.at-berth.result c.loop-i-test.true)

pub leave-settled-requires : goal.leave-settled-requires
leave-settled-requires g c =
    there_now c.loop-i.held.held c.at-berth.result (drop (c.loop-i.i + 1) c.args.berths.now)
    (λ v. count_by (stands_at v) c.loop-i.next.items) (λ v. count_by (is_at v) (drop c.loop-i.i c.args.found.now))
    (λ v. c.loop-i.invariant.tie v
    ∙ ap (λ (xs : List Berth). count_by (stands_at v) c.loop-i.next.items + (count_by (stands_at v) xs + count_by (is_at v)
    (drop c.loop-i.i c.args.found.now))) c.at-berth.ensures.left)

pub put-requires : goal.put-requires
put-requires g c = omega (arith, c.loop-i.invariant.next_spare, c.loop-i-test.true)

pub loop-i-preserved : goal.loop-i-preserved
loop-i-preserved g c =
    let m = c.args.moving in
    let b = c.at-berth.result in
    let p = c.at-vector.result in
    let bs = drop (c.loop-i.i + 1) c.args.berths.now in
    let ps = drop (c.loop-i.i + 1) c.args.found.now in
    let all_bs = drop c.loop-i.i c.args.berths.now in
    let all_ps = drop c.loop-i.i c.args.found.now in
    let next = c.loop-i.next.items in
    let said = c.loop-i.said.items in
    record {
      cpus = c.leave-settled.ensures.sized.0 ∙ c.loop-i.invariant.cpus;
      vectors = c.leave-settled.ensures.sized.1 ∙ c.loop-i.invariant.vectors;
      next_spare = omega (arith, c.put.ensures.spare, c.loop-i.invariant.next_spare);
      said_spare = omega (arith, c.say.ensures.spare, c.loop-i.invariant.said_spare);
      settled =
          ap (λ (xs : List Berth). xs ++ all_settled bs ps) c.put.ensures.items
          ∙ append_assoc next (c.leave-settled.result ∷ []) (all_settled bs ps)
          ∙ ap (λ (x : Berth). next ++ (x ∷ all_settled bs ps)) c.leave-settled.ensures.berth
          ∙ sym (ap (λ (xs : List Berth). next ++ all_settled xs all_ps) c.at-berth.ensures.left
          ∙ ap (λ (ys : List (Option Vector)). next ++ all_settled (b ∷ bs) ys) c.at-vector.ensures.left)
          ∙ c.loop-i.invariant.settled;
      rows =
          ap (λ (xs : List FleetRow). xs ++ all_rows m bs ps) c.say.ensures.said
          ∙ append_assoc said (rows_for m b p) (all_rows m bs ps)
          ∙ sym (ap (λ (xs : List Berth). said ++ all_rows m xs all_ps) c.at-berth.ensures.left
          ∙ ap (λ (ys : List (Option Vector)). said ++ all_rows m (b ∷ bs) ys) c.at-vector.ensures.left)
          ∙ c.loop-i.invariant.rows;
      told = tells_on g.N.Notifier.tells c.args.said.now.items said c.say.new.said.items c.args.notify.now c.loop-i.notify c.say.new.notify
          c.loop-i.invariant.told c.say.ensures.told;
      tie = λ v.
          settle_tie (count_of v c.loop-i.held.held) (count_of v c.leave-settled.new.held.held) (count_by (stands_at v) next)
          (count_by (stands_at v) c.put.new.self.items)
          (cond (is_at v b.place) 1 0) (cond (is_at v p) 1 0) (cond (is_at v c.leave-settled.result.place) 1 0)
          (count_by (stands_at v) all_bs) (count_by (stands_at v) bs) (count_by (is_at v) all_ps) (count_by (is_at v) ps)
          (c.leave-settled.ensures.held v) (c.loop-i.invariant.tie v)
          (ap (count_by (stands_at v)) c.at-berth.ensures.left ∙ count_more (stands_at v) b bs)
          (ap (count_by (is_at v)) c.at-vector.ensures.left ∙ count_more (is_at v) p ps)
          (ap (count_by (stands_at v)) c.put.ensures.items ∙ count_put (stands_at v) next c.leave-settled.result);
    }

pub loop-i-init : goal.loop-i-init
loop-i-init g c =
    let bs = c.args.berths.now in
    let ps = c.args.found.now in
    record {
      cpus = refl;
      vectors = refl;
      next_spare = omega (arith, c.requires.room.0);
      said_spare = omega (arith, c.requires.room.1);
      settled = ap (λ (xs : List Berth). xs ++ all_settled bs ps) c.requires.empty;
      rows = refl;
      told = none_told g.N.Notifier.tells c.args.said.now.items c.args.said.now.items c.args.notify.now refl;
      tie = λ v.
          c.requires.held v
          ∙ sym (ap (λ (xs : List Berth). count_by (stands_at v) xs + (count_by (stands_at v) bs + count_by (is_at v) ps)) c.requires.empty
          ∙ zero-add (count_by (stands_at v) bs + count_by (is_at v) ps));
    }

pub returns-clause-held : goal.returns-clause-held
returns-clause-held g c v =
    let next = count_by (stands_at v) c.loop-i.next.items in
    let past = c.loop-i-test.false in
    c.loop-i.invariant.tie v
    ∙ ap (λ (xs : List Berth). next + (count_by (stands_at v) xs + count_by (is_at v) (drop c.loop-i.i c.args.found.now)))
    (drop_all c.loop-i.i c.args.berths.now past)
    ∙ ap (λ (ys : List (Option Vector)). next + (0 + count_by (is_at v) ys)) (drop_all c.loop-i.i c.args.found.now (omega (arith, past, c.requires.same)))
    ∙ add-zero next
