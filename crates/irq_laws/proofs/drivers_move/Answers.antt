use Rattle.irq_laws.proofs.DriversMove.{drivers_move}
use Rattle.irq_laws.proofs.drivers_move.Goals as goal

pub returns : goal.returns
returns c = record { law = drivers_move }
