use Rattle.std.proofs.Common.{◌≡◌, ◌+◌, ◌++◌, [], ◌∷◌, Option, List, false, true, None, length, count_by, ap, ◌∙◌, sym, arith}
use Rattle.std.specs.Prelude.{slice_set}
use Rattle.vector_matrix.specs.declared.view.Vector.{Vector}
use Rattle.irq_hotplug.specs.Berths.{all_settled, is_at, left_out, stands_at}
use Rattle.irq_hotplug.specs.Fleet.{FleetSeen, after_off, found_off, off_refusal}
use Rattle.irq_hotplug.specs.Rows.{all_rows}
use Rattle.irq_hotplug.specs.declared.berths.Berth.{Berth}
use Rattle.irq_hotplug.specs.declared.berths.Moving.TheVariants as moving
use Rattle.irq_hotplug.specs.declared.rows.FleetRow.{FleetRow}
use Rattle.irq_hotplug.specs.declared.rows.FleetRow.TheVariants as rows
use Rattle.irq_hotplug.specs.declared.rows.OffAnswer.TheVariants as offs
use Rattle.irq_hotplug.proofs.Leaving.{after_refused, as_many_found, back_online, found_is, fleet_emptied, fleet_stays, said_both, was_online}
use Rattle.irq_hotplug.proofs.fleet.Fleet.leave.Goals as goal

pub find_all-requires-clause-held : goal.find_all-requires-clause-held
find_all-requires-clause-held g c v = c.self.invariant.tie v ∙ ap (count_by (stands_at v)) (sym c.as_slice.ensures)

pub left_out-requires : goal.left_out-requires
left_out-requires g c =
    ap length (c.as_slice-4.ensures ∙ c.find_all.ensures.found)
    ∙ as_many_found (moving.From c.args.cpu) c.self.inside.held.vectors c.as_slice-2.result.now c.as_slice.result.now
    ∙ ap length (c.as_slice.ensures ∙ sym c.as_slice-3.ensures)

pub give_all-requires : goal.give_all-requires
give_all-requires g c v = omega (arith, ap (count_by (is_at v)) c.as_slice-in-Some.ensures, c.find_all.ensures.held v)

pub invariant_of-self-in-Some : goal.invariant_of-self-in-Some
invariant_of-self-in-Some g c =
    let online = c.self.inside.online.items in
    let cpu = c.args.cpu in
    let may : off_refusal online cpu ≡ None = ap (λ (f : FleetSeen). off_refusal f.online cpu) c.self.view_is ∙ c.requires in
    fleet_stays c.self.inside.held c.give_all.new.held c.self.inside.vectors online (slice_set (slice_set online cpu.0 false) cpu.0 true)
    c.self.inside.berths.items c.self.inside.said.items
    cpu (offs.NoVector c.in-Some.line) c.put.new.self.items c.self.invariant (back_online online cpu.0 (was_online online cpu may))
    (c.give_all.ensures.sized.0 ∙ c.find_all.ensures.sized.0) (c.give_all.ensures.sized.1 ∙ c.find_all.ensures.sized.1)
    (λ v. omega (
      arith,
      c.give_all.ensures.held v,
      c.find_all.ensures.held v,
      ap (count_by (is_at v)) c.as_slice-in-Some.ensures,
      ap
          (count_by (stands_at v)) c.as_slice.ensures,
    ))
    (c.put.ensures.items ∙ ap (λ (xs : List FleetRow). xs ++ rows.Off cpu (offs.NoVector c.in-Some.line) ∷ []) c.in_ok-reserve.ensures.same)

pub returns-in-Some-clause-after : goal.returns-in-Some-clause-after
returns-in-Some-clause-after g c =
    let cpu = c.args.cpu in
    let online = c.self.inside.online.items in
    let f : FleetSeen = record { vectors = c.self.inside.vectors; online = online; berths = c.self.inside.berths.items; said = c.self.inside.said.items } in
    let may : off_refusal online cpu ≡ None = ap (λ (x : FleetSeen). off_refusal x.online cpu) c.self.view_is ∙ c.requires in
    after_refused f cpu c.in-Some.line c.as_slice-3.result.now c.as_slice-4.result.now c.left_out.result
    (slice_set (slice_set online cpu.0 false) cpu.0 true) c.put.new.self.items
    may
    (c.as_slice-4.ensures ∙ found_is f cpu c.self.inside.held.vectors c.as_slice-2.result.now c.as_slice.result.now c.find_all.new.found.items
    c.self.invariant.number c.as_slice-2.ensures.value c.as_slice.ensures c.find_all.ensures.found)
    c.as_slice-3.ensures c.left_out.ensures c.in-Some.is
    (back_online online cpu.0 (was_online online cpu may))
    (c.put.ensures.items ∙ ap (λ (xs : List FleetRow). xs ++ rows.Off cpu (offs.NoVector c.in-Some.line) ∷ []) c.in_ok-reserve.ensures.same)
    ∙ ap (λ (x : FleetSeen). after_off x cpu) c.self.view_is

pub settle_all-requires-clause-same : goal.settle_all-requires-clause-same
settle_all-requires-clause-same g c =
    ap length (c.as_slice-in-None-2.ensures ∙ c.find_all.ensures.found)
    ∙ as_many_found (moving.From c.args.cpu) c.self.inside.held.vectors c.as_slice-2.result.now c.as_slice.result.now
    ∙ ap length (c.as_slice.ensures ∙ sym c.as_slice-in-None.ensures)

pub settle_all-requires-clause-held : goal.settle_all-requires-clause-held
settle_all-requires-clause-held g c v =
    c.find_all.ensures.held v
    ∙ ap (λ (bs : List Berth). count_by (stands_at v) bs + count_by (is_at v) c.find_all.new.found.items) (c.as_slice.ensures ∙ sym c.as_slice-in-None.ensures)
    ∙ ap (λ (ps : List (Option Vector)). count_by (stands_at v) c.as_slice-in-None.result.now + count_by (is_at v) ps) (sym c.as_slice-in-None-2.ensures)

pub invariant_of-self-in-None : goal.invariant_of-self-in-None
invariant_of-self-in-None g c =
    let cpu = c.args.cpu in
    let m = moving.From cpu in
    let online = c.self.inside.online.items in
    let berths = c.self.inside.berths.items in
    let f : FleetSeen = record { vectors = c.self.inside.vectors; online = online; berths = berths; said = c.self.inside.said.items } in
    let found : c.find_all.new.found.items ≡ found_off f cpu =
    found_is f cpu c.self.inside.held.vectors c.as_slice-2.result.now c.as_slice.result.now c.find_all.new.found.items c.self.invariant.number
    c.as_slice-2.ensures.value c.as_slice.ensures c.find_all.ensures.found in
    let found_now = c.as_slice-in-None-2.ensures ∙ found in
    fleet_emptied c.self.inside.held c.settle_all.new.held c.self.inside.vectors online cpu berths c.settle_all.new.next.items c.self.inside.said.items
    c.settle_all.new.said.items offs.Ok
    c.self.invariant (c.settle_all.ensures.sized.0 ∙ c.find_all.ensures.sized.0) (c.settle_all.ensures.sized.1 ∙ c.find_all.ensures.sized.1)
    c.settle_all.ensures.held
    (c.settle_all.ensures.next ∙ ap (λ (bs : List Berth). all_settled bs c.as_slice-in-None-2.result.now) c.as_slice-in-None.ensures
    ∙ ap (all_settled berths) found_now)
    (said_both c.self.inside.said.items c.put-in-None.new.self.items c.settle_all.new.said.items (rows.Off cpu offs.Ok) (all_rows m berths (found_off f cpu))
    (c.put-in-None.ensures.items ∙ ap (λ (xs : List FleetRow). xs ++ rows.Off cpu offs.Ok ∷ []) c.in_ok-reserve.ensures.same)
    (c.settle_all.ensures.said
    ∙ ap (λ (bs : List Berth). c.put-in-None.new.self.items ++ all_rows m bs c.as_slice-in-None-2.result.now) c.as_slice-in-None.ensures
    ∙ ap (λ (ps : List (Option Vector)). c.put-in-None.new.self.items ++ all_rows m berths ps) found_now))
    (sym (c.left_out.ensures ∙ ap (λ (bs : List Berth). left_out m bs c.as_slice-4.result.now) c.as_slice-3.ensures
    ∙ ap (left_out m berths) (c.as_slice-4.ensures ∙ found)) ∙ c.in-None.is)
