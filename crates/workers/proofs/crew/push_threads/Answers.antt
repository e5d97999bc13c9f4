use Rattle.std.proofs.Common.{sym, ap, ◌∙◌}
use Rattle.workers.proofs.Manning.{thread_pushed, thread_passed}
use Rattle.workers.proofs.crew.push_threads.Goals.{then-has_worker+in_ok-push, else-has_worker}
use Rattle.workers.proofs.crew.push_threads.Goals as goal

pub loop-i-preserved : goal.loop-i-preserved
loop-i-preserved g c = elim c.if-has_worker.branch [
  | then-has_worker+in_ok-push w ↦
      thread_pushed c.args.lines.now c.args.crew.now.items c.loop-i.crew.items c.if-has_worker.crew.items
      c.args.board.now.devices c.loop-i.i c.in-Some.device c.loop-i.invariant
      (sym c.device.ensures ∙ c.in-Some.is) (sym c.has_worker.ensures ∙ w.if-has_worker.true) (ap (λ (v : _). v.items) w.crew-is ∙ w.in_ok-push.ensures.items)
  | else-has_worker w ↦
      ap (λ (v : _). v.items) w.crew-is
      ∙ thread_passed c.args.lines.now c.args.crew.now.items c.loop-i.crew.items c.args.board.now.devices c.loop-i.i c.in-Some.device c.loop-i.invariant
      (sym c.device.ensures ∙ c.in-Some.is) (sym c.has_worker.ensures ∙ w.if-has_worker.false)
]
