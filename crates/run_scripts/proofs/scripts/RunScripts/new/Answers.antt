use Rattle.std.proofs.Common.{refl, ap, sym, ◌∙◌}
use Rattle.std.specs.List.{list_any}
use Rattle.irq_model.specs.ValidRuns.{may_wait}
use Rattle.device_table.specs.Rows.{at}
use Rattle.run_scripts.proofs.Bare.{first_everywhere}
use Rattle.run_scripts.proofs.scripts.RunScripts.new.Goals as goal

pub invariant_of-result : goal.invariant_of-result
invariant_of-result c = record {
  bare_is = λ h. record {
    uncalled = c.are_bare-bare.ensures.calls h;
    untold = c.are_bare-bare.ensures.answers h;
    idle = refl;
    first = λ d r is. first_everywhere c.args.def.now.devices d r (ap (λ t. at t d) (sym c.in_ok-rows.ensures) ∙ is);
  };
  waits_is = c.may_any_wait-waits.ensures ∙ ap (list_any may_wait) c.items.ensures;
}
