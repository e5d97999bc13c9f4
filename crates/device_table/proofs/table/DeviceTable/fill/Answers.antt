use Rattle.std.proofs.Common.{◌≡◌, length, refl, sym, ap, ◌∙◌, arith}
use Rattle.indexmap.specs.IndexMap.{set_value_at}
use Rattle.device_table.proofs.Filling.{filled_to, filled_next, filled_all, length_filled}
use Rattle.device_table.proofs.table.DeviceTable.fill.Goals as goal

pub set_place-requires : goal.set_place-requires
set_place-requires g c =
    let now : length c.loop-place.self ≡ length c.args.self.now = ap length c.loop-place.invariant
    ∙ length_filled c.args.row c.loop-place.place c.args.self.now in
    let all : length c.self.inside.rows.entries ≡ length c.args.self.now = ap length c.self.view_is in
    omega (arith, now, all, c.len-place-end.ensures.len, c.loop-place-test.true)

pub loop-place-preserved : goal.loop-place-preserved
loop-place-preserved g c =
    c.set_place.ensures ∙ (ap (λ t. set_value_at t c.loop-place.place c.args.row) c.loop-place.invariant
    ∙ filled_next c.args.row c.loop-place.place c.args.self.now)

pub returns : goal.returns
returns g c =
    let all : length c.self.inside.rows.entries ≡ length c.args.self.now = ap length c.self.view_is in
    let end : c.loop-place.place ≡ length c.args.self.now
    = omega (arith, all, c.len-place-end.ensures.len, c.loop-place-test.false, c.loop-place.auto.place-end) in
    c.loop-place.invariant ∙ (ap (λ n. filled_to c.args.row n c.args.self.now) end ∙ filled_all c.args.row c.args.self.now)
