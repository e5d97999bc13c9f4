use Rattle.irq_pm.proofs.Marked.{slept_once, has_woken}
use Rattle.irq_pm.proofs.promises.sleep_is_marked.Goals as goal

pub returns : goal.returns
returns c = record {
  marks = λ b armed g is long free calm played. slept_once b armed g is long free played calm;
  phase = λ b armed g is long free calm played. has_woken b armed g is long free played calm;
}
