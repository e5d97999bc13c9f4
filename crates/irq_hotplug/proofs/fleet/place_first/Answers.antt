use Rattle.std.proofs.Common.{◌≡◌, ◌+◌, ◌++◌, [], Option, List, Bool, ℕ, length, count_by, ap, ◌∙◌, sym}
use Rattle.vector_matrix.specs.Vectors.{count_of}
use Rattle.vector_matrix.specs.declared.view.Vector.{Vector}
use Rattle.irq_hotplug.specs.Berths.{all_found, all_settled, is_at, stands_at}
use Rattle.irq_hotplug.specs.Rows.{all_rows}
use Rattle.irq_hotplug.specs.declared.berths.Moving.TheVariants as moving
use Rattle.irq_hotplug.specs.declared.rows.FleetRow.{FleetRow}
use Rattle.irq_hotplug.proofs.Leaving.{as_many_found, fleet_first}
use Rattle.irq_hotplug.proofs.Settling.{bare_counts}
use Rattle.irq_hotplug.proofs.fleet.place_first.Goals as goal

pub find_all-requires-clause-held : goal.find_all-requires-clause-held
find_all-requires-clause-held g c v = ap (count_of v) c.requires.none ∙ sym (bare_counts c.args.bare.now v c.requires.bare)

pub settle_all-requires-clause-same : goal.settle_all-requires-clause-same
settle_all-requires-clause-same g c =
    ap length (c.as_slice-2.ensures ∙ c.find_all.ensures.found) ∙ as_many_found moving.All c.args.held.vectors c.as_slice.result.now c.args.bare.now

pub settle_all-requires-clause-held : goal.settle_all-requires-clause-held
settle_all-requires-clause-held g c v =
    c.find_all.ensures.held v
    ∙ ap (λ (ps : List (Option Vector)). count_by (stands_at v) c.args.bare.now + count_by (is_at v) ps) (sym c.as_slice-2.ensures)

pub invariant_of-result : goal.invariant_of-result
invariant_of-result g c =
    let bare = c.args.bare.now in
    let online = c.args.online.items in
    let found : c.as_slice-2.result.now ≡ all_found moving.All c.args.vectors online bare [] bare =
    c.as_slice-2.ensures ∙ c.find_all.ensures.found
    ∙ ap (λ (n : ℕ). all_found moving.All n c.as_slice.result.now bare [] bare) c.requires.number
    ∙ ap (λ (xs : List Bool). all_found moving.All c.args.vectors xs bare [] bare) c.as_slice.ensures.value in
    fleet_first c.settle_all.new.held c.args.vectors online bare c.settle_all.new.next.items c.settle_all.new.said.items
    (record { each = c.requires.sized.each ∙ sym (c.settle_all.ensures.sized.0 ∙ c.find_all.ensures.sized.0); most = c.requires.sized.most })
    (c.settle_all.ensures.sized.1 ∙ c.find_all.ensures.sized.1 ∙ c.requires.number)
    c.settle_all.ensures.held c.requires.few c.requires.bare
    (c.settle_all.ensures.next ∙ ap (all_settled bare) found)
    (c.settle_all.ensures.said ∙ ap (λ (xs : List FleetRow). xs ++ all_rows moving.All bare c.as_slice-2.result.now) c.in_ok-said.ensures.empty
    ∙ ap (all_rows moving.All bare) found)
