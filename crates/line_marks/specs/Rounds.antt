-- The round of a line's flow, read off its past, and what an entry makes of it.
use Rattle.std.specs.Prelude.{ℕ, Bool, false, ◌||◌, if◌then◌else◌, max, Option, Some, List}
use Rattle.irq_base.specs.declared.entries.Entry.{Entry}
use Rattle.irq_base.specs.declared.entries.Entry.TheVariants as by
use Rattle.irq_base.specs.declared.entries.DriverEntry.TheVariants as drivers
use Rattle.irq_base.specs.declared.lines.LineDef.{LineDef}
use Rattle.irq_base.specs.declared.numbers.DevNo.{DevNo}
use Rattle.irq_model.specs.Kinds.{is_begin_or_return, returns_wake, returns_handled}
use Rattle.irq_model.specs.Rounds.{begins_round, at_work, dev_of_begin}
use Rattle.irq_model.specs.Spurious.{now, round_wakes, round_handles}

pub record RoundSeen : Type 0 where
  -- the device whose handler is at work
  pub working : Option DevNo
  -- some handler of the round woke its thread, or handled
  pub wakes : Bool
  pub handles : Bool
  -- the greatest moment handed in
  pub moment : ℕ

-- each part by its definition
abbrev pub round_of : LineDef → List Entry → RoundSeen
round_of def past = record {
  working = at_work past;
  wakes = round_wakes def past;
  handles = round_handles def past;
  moment = now past;
}

-- a moment moves on, never back
abbrev pub now_after : Entry → ℕ → ℕ
now_after (by.Driver driver (drivers.Moment at)) n = max at n
now_after _ n = n

-- a round's marks: an entry that begins a round clears them, a return sets what its handler
-- answered
abbrev pub round_after : LineDef → Entry → RoundSeen → RoundSeen
round_after def e r = record {
  working = if is_begin_or_return e then dev_of_begin (Some e) else r.working;
  wakes = if begins_round def e then false else (returns_wake e || r.wakes);
  handles = if begins_round def e then false else (returns_handled e || r.handles);
  moment = now_after e r.moment;
}
