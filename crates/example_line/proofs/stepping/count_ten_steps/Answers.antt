use Rattle.std.proofs.Common.{refl}
use Rattle.example_line.proofs.Counted.{counted}
use Rattle.example_line.proofs.stepping.count_ten_steps.Goals as goal

pub returns : goal.returns
returns g c = counted (g.L.IrqLine.seen c.ten_steps.new.line) _ _ c.is_sound.ensures refl c.ten_steps.ensures
