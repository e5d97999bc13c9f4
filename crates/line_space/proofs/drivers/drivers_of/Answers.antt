use Rattle.std.proofs.Common.{◌-◌, List, ap, sym, ◌∙◌, arith}
use Rattle.std.specs.List.{list_any}
use Rattle.irq_base.specs.declared.numbers.DriverNo.{DriverNo}
use Rattle.irq_model.specs.Kinds.{same_driver}
use Rattle.device_table.proofs.Steps.{none_left}
use Rattle.line_space.proofs.Gathering.{known, new}
use Rattle.line_space.proofs.drivers.drivers_of.Goals as goal

pub loop-left-preserved-in-Continue-1 : goal.loop-left-preserved-in-Continue-1
loop-left-preserved-in-Continue-1 c =
    let told = ap (λ (ds : List DriverNo). list_any (same_driver c.in-Some.driver) ds) (sym c.as_slice.ensures.value)
    ∙ (sym c.is_there.ensures ∙ c.if-not-is_there.true) in
    record {
      gathered = new c.args.calls.now c.loop-left.left c.in-Some.driver c.in-Some.field-0-1 c.loop-left-test.true (sym c.get.ensures ∙ c.in-Some.is)
          c.loop-left.drivers.items c.loop-left.invariant.gathered c.push.new.self.items c.in_ok-push.ensures.items told;
      within = omega (arith, c.loop-left.invariant.within);
    }

pub loop-left-preserved-else-not-is_there : goal.loop-left-preserved-else-not-is_there
loop-left-preserved-else-not-is_there c =
    let told = ap (λ (ds : List DriverNo). list_any (same_driver c.in-Some.driver) ds) (sym c.as_slice.ensures.value)
    ∙ (sym c.is_there.ensures ∙ c.if-not-is_there.false) in
    record {
      gathered = known c.args.calls.now c.loop-left.left c.in-Some.driver c.in-Some.field-0-1 c.loop-left-test.true (sym c.get.ensures ∙ c.in-Some.is)
          c.loop-left.drivers.items c.loop-left.invariant.gathered told;
      within = omega (arith, c.loop-left.invariant.within);
    }

pub loop-left-preserved : goal.loop-left-preserved
loop-left-preserved c =
    none_left c.args.calls.now (c.loop-left.left - 1) (omega (arith, c.loop-left-test.true, c.loop-left.invariant.within)) (sym c.in_default.ensures)
