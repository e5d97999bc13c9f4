use Rattle.std.proofs.Common.{◌≡◌, ◌-◌, not}
use Rattle.irq_model.specs.Lines.{is_in_mask}
use Rattle.board_ready.specs.First.{first_from, first_of}
use Rattle.irq_chained.proofs.fits.leaves_out.Given as goal

abbrev pub invariant-loop-cpu : goal.invariant-loop-cpu
invariant-loop-cpu l = first_of (λ c. not (is_in_mask l.row.mask c)) l.cpus ≡ first_from (λ c. not (is_in_mask l.row.mask c)) l.cpu (l.cpus - l.cpu)
