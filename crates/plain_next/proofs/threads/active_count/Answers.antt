use Rattle.std.proofs.Common.{rules, ap, ◌+◌, ◌∙◌}
use Rattle.irq_model.specs.Threads.{is_woken, is_running}
use Rattle.irq_model.specs.Places.{count_of}
use Rattle.plain_next.proofs.threads.active_count.Goals as goal

pub returns : goal.returns
returns c =
    let woken = c.count_devices.ensures.value (λ d. is_woken c.args.past.now d) (λ d b h. search rules) in
    let running = c.count_devices-2.ensures.value (λ d. is_running c.args.past.now d) (λ d b h. search rules) in
    ap (λ n. n + c.count_devices-2.result) woken ∙ ap (λ n. count_of (λ x. is_woken c.args.past.now x.dev) c.args.def.now.devices + n) running
