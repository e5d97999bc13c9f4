use Rattle.std.proofs.Common.{◌&&◌, ◌||◌, refl, arith}
use Rattle.std.proofs.lemmas.Grind.{common_steps}
use Rattle.irq_model.specs.Reason.{is_being_freed}
use Rattle.irq_model.specs.Threads.{is_woken, is_running}
use Rattle.plain_line.proofs.looking.blocks.Goals as goal

pub returns : goal.returns
returns c =
    let threads = c.any_device.ensures (λ d. is_woken c.args.past.now d || is_running c.args.past.now d) (λ d b h. grind (arith, common_steps)) in
    let freed = c.any_device-2.ensures (λ d. is_being_freed c.args.past.now d &&
    (is_woken c.args.past.now d || is_running c.args.past.now d)) (λ d b h. grind (arith, common_steps)) in
    rw (threads, freed, c.holds_mutex.ensures, c.is_some.ensures, c.flow.ensures) refl
