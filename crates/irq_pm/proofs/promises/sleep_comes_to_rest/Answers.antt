use Rattle.irq_pm.proofs.Through.{comes_to_rest}
use Rattle.irq_pm.proofs.promises.sleep_comes_to_rest.Goals as goal

pub returns : goal.returns
returns c = record { law = λ b armed g is long free calm played a at. comes_to_rest b is long free armed calm g played a at }
