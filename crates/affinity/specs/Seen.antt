-- What is seen of a line's aim, and what each call makes of it.
use Rattle.std.specs.Prelude.{ℕ, Bool, if◌then◌else◌, is_some, unwrap_or, Option, Some, None}
use Rattle.irq_base.specs.declared.entries.AffinityAnswer.{AffinityAnswer}
use Rattle.irq_base.specs.declared.entries.AffinityAnswer.TheVariants as moves
use Rattle.irq_base.specs.declared.entries.Errno.TheVariants as errors
use Rattle.irq_model.specs.Signal.{lowest_in}

pub record AimSeen : Type 0 where
  -- the number of processors, and whether changes wait for the next interrupt
  pub cpus : ℕ
  pub later : Bool
  -- the mask in force, and one that waits
  pub mask : ℕ
  pub waiting : Option ℕ

-- a mask without a processor of the machine is refused
abbrev pub set_answer : AimSeen → ℕ → AffinityAnswer
set_answer a mask =
    if is_some (lowest_in a.cpus mask) then (if a.later then moves.Later else moves.Now)
    else moves.Refused errors.Inval

-- a mask that has to wait takes the place of one that waits already
abbrev pub after_set : AffinityAnswer → ℕ → AimSeen → AimSeen
after_set moves.Now mask a = record a { mask = mask; waiting = None }
after_set moves.Later mask a = record a { waiting = Some mask }
after_set (moves.Refused error) mask a = a

abbrev pub after_move : AimSeen → AimSeen
after_move a = record a { mask = unwrap_or a.waiting a.mask; waiting = None }
