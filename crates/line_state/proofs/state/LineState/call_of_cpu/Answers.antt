use Rattle.std.proofs.Common.{◌+◌, ◌<◌, ◌^◌, sym, subst}
use Rattle.irq_base.specs.declared.devices.Part.TheVariants as parts
use Rattle.run_scripts.specs.Places.{place_at}
use Rattle.line_marks.specs.State.{StateSeen}
use Rattle.line_state.proofs.state.LineState.call_of_cpu.Goals as goal

pub advance-requires-clause-within : goal.advance-requires-clause-within
advance-requires-clause-within g c =
    subst (λ (s : StateSeen). (place_at s.places c.args.dev parts.Primary).within + 1 < 2 ^ 32) (sym c.make_call-call.ensures.state)
    (c.requires.scripted.within c.args.dev parts.Primary)
