use Rattle.std.proofs.Common.{◌≡◌, ◌+◌, ◌<◌, ◌++◌, [], ◌∷◌, Option, length, drop, subst, ap, ◌∙◌, sym, append-nil, length-append, All, arith, rules}
use Rattle.std.specs.Prelude.{option_to_list}
use Rattle.std.proofs.lemmas.List.{drop_more}
use Rattle.std.proofs.lemmas.List.Elements.{All-push}
use Rattle.irq_hotplug.specs.Fleet.{berths_from}
use Rattle.irq_hotplug.specs.Kept.{IsBare}
use Rattle.irq_hotplug.specs.Rooms.{RoomSeen}
use Rattle.irq_hotplug.specs.declared.berths.Berth.{Berth}
use Rattle.irq_hotplug.proofs.Taking.{as_many, is_bare, turn}
use Rattle.irq_hotplug.proofs.lines.berths_of.Goals as goal
use Rattle.irq_hotplug.proofs.lines.berths_of.Goals.{in-Some+in_ok-push, in_default}

pub loop-i-preserved : goal.loop-i-preserved
loop-i-preserved c =
    let defs = c.in_ok-defs.defs.items in
    let layout = c.args.layout.now in
    let i = c.loop-i.i in
    let def = c.index.result.now in
    let before = c.loop-i.berths.items in
    let within : i < length defs = search rules in
    let left : drop i defs ≡ def ∷ drop (i + 1) defs = drop_more defs i def within ∙ ap (λ x. x ∷ drop (i + 1) defs) (sym c.index.ensures) in
    let many = as_many c.args.board.now defs layout c.in_ok-defs.ensures.defs c.requires in
    elim c.match-berth_if.branch [
      | in-Some+in_ok-push w ↦
          let put = ap (λ (l : RoomSeen Berth). l.items) w.berths-is ∙ w.in_ok-push.ensures.ok in
          record {
            all = turn defs layout i def c.get.result c.berth_if.result before c.match-berth_if.berths.items (berths_from defs layout) many within left
                c.get.ensures c.berth_if.ensures
                c.loop-i.invariant.all (put ∙ sym (ap (λ (q : Option Berth). before ++ option_to_list q) w.in-Some.is));
            bare = subst (All IsBare) (sym put) (All-push IsBare before w.in-Some.berth c.loop-i.invariant.bare
                (is_bare def c.get.result c.berth_if.result w.in-Some.berth c.berth_if.ensures w.in-Some.is));
            few = omega (arith, ap length put, length-append before (w.in-Some.berth ∷ []), c.loop-i.invariant.few);
          }
      | in_default w ↦
          let same = ap (λ (l : RoomSeen Berth). l.items) w.berths-is in
          record {
            all = turn defs layout i def c.get.result c.berth_if.result before c.match-berth_if.berths.items (berths_from defs layout) many within left
                c.get.ensures c.berth_if.ensures
                c.loop-i.invariant.all (same ∙ sym (ap (λ (q : Option Berth). before ++ option_to_list q) w.in_default.is ∙ append-nil before));
            bare = subst (All IsBare) (sym same) c.loop-i.invariant.bare;
            few = omega (arith, ap length same, c.loop-i.invariant.few);
          }
    ]
