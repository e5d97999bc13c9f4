use Rattle.std.proofs.Common.{◌≡◌, ◌+◌, suc, cond, Some, None, length, ap, ◌∙◌, sym, add-one, arith}
use Rattle.irq_hotplug.specs.Placing.{lowest_free, first_free, is_asked}
use Rattle.irq_hotplug.specs.Held.{HeldSeen, held_in}
use Rattle.irq_hotplug.proofs.Lowest.{found_stays, none_more, held_still}
use Rattle.irq_hotplug.proofs.vectors.Vectors.take_among.Goals as goal

pub returns-in-Some-clause-found : goal.returns-in-Some-clause-found
returns-in-Some-clause-found c =
    let asked = is_asked c.args.online.now c.args.mask c.args.inside in
    let held = c.loop-i.self in
    let step : first_free (held_in held) held.vectors asked (suc c.loop-i.i) ≡ Some c.in-Some.vector =
    none_more (held_in held) held.vectors asked c.loop-i.i c.loop-i.invariant.none
    ∙ ap (λ t. cond t (lowest_free (held_in held) c.loop-i.i held.vectors) None) (sym c.is_asked-asked.ensures)
    ∙ sym c.take_if.ensures.found
    ∙ c.in-Some.is in
    sym (found_stays (held_in held) held.vectors asked (suc c.loop-i.i) (length c.args.online.now) c.in-Some.vector (omega (arith, c.loop-i-test.true)) step)
    ∙ ap (λ (h : HeldSeen). first_free (held_in h) h.vectors asked (length c.args.online.now)) c.loop-i.invariant.same

pub loop-i-preserved : goal.loop-i-preserved
loop-i-preserved c =
    let asked = is_asked c.args.online.now c.args.mask c.args.inside in
    let held = c.loop-i.self in
    let still : c.take_if.new.self ≡ held = held_still held c.take_if.new.self c.take_if.result c.take_if.ensures.held c.in_default.is in
    let none : first_free (held_in held) held.vectors asked (suc c.loop-i.i) ≡ None =
    none_more (held_in held) held.vectors asked c.loop-i.i c.loop-i.invariant.none
    ∙ ap (λ t. cond t (lowest_free (held_in held) c.loop-i.i held.vectors) None) (sym c.is_asked-asked.ensures)
    ∙ sym c.take_if.ensures.found
    ∙ c.in_default.is in
    record {
      same = still ∙ c.loop-i.invariant.same;
      none = ap (λ (h : HeldSeen). first_free (held_in h) h.vectors asked (c.loop-i.i + 1)) still
          ∙ ap (first_free (held_in held) held.vectors asked) (add-one c.loop-i.i) ∙ none;
    }
