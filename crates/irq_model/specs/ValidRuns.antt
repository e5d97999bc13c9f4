-- What the rules of a board's text make sure of the scripts of runs and of the answers of told
-- devices. It stands beside Valid; the laws of version 3 ask for both.
use Rattle.std.specs.Prelude.{◌≡◌, ◌≤◌, Bool, true, false, ◌&&◌}
use Rattle.std.specs.Prelude.{length, All, ◌+◌}
use Rattle.std.specs.List.{list_any}
use Rattle.irq_base.specs.declared.numbers.DevNo.{DevNo}
use Rattle.irq_base.specs.declared.calls.Call.{Call}
use Rattle.irq_base.specs.declared.calls.Call.TheVariants as calls
use Rattle.irq_base.specs.declared.devices.Kind.{Kind}
use Rattle.irq_base.specs.declared.devices.Kind.TheVariants as kinds
use Rattle.irq_base.specs.declared.devices.Part.{Part}
use Rattle.irq_base.specs.declared.devices.Part.TheVariants as parts
use Rattle.irq_base.specs.declared.devices.ToldAnswer.{ToldAnswer}
use Rattle.irq_base.specs.declared.devices.ToldAnswer.TheVariants as tolds
use Rattle.irq_base.specs.declared.lines.LineDef.{LineDef}
use Rattle.irq_base.specs.Handlers.{has_thread}
use Rattle.irq_model.specs.Kinds.{same_dev}
use Rattle.irq_model.specs.Lines.{has_device, kind_of, run_script, told_answers}
use Rattle.irq_model.specs.RunBounds.{arms_this, wakes_by_handler, is_wake_word}

-- a call that names a device names one of the line
abbrev pub names_own_device : LineDef → Call → Bool
names_own_device def (calls.Wake dev) = has_device def dev
names_own_device def (calls.Quiet dev) = has_device def dev
names_own_device def (calls.Arm dev) = has_device def dev
names_own_device def (calls.Serve dev) = has_device def dev
names_own_device def (calls.Free dev) = has_device def dev
names_own_device def _ = true

abbrev pub is_direct : Kind → Bool
is_direct kinds.Direct = true
is_direct _ = false

abbrev pub is_told : Kind → Bool
is_told (kinds.Told threaded) = true
is_told _ = false

-- the device has a run of that part that a driver wrote: a null device's handler is the kernel's,
-- and those of stuck and odd devices recognise nothing
abbrev pub has_script : Kind → Part → Bool
has_script kind parts.Thread = has_thread kind
has_script kinds.Direct parts.Primary = true
has_script kinds.Check parts.Primary = true
has_script (kinds.Told threaded) parts.Primary = true
has_script _ parts.Primary = false

-- what may stand in a script of d's runs. A thread doesn't wake; a handler doesn't free, since it
-- may not sleep. A run arms its own device alone, and of handlers that of a direct device: two
-- threads that arm one another's devices would never rest.
abbrev pub may_stand : Kind → Part → DevNo → Call → Bool
may_stand kind part d calls.DisableNosync = true
may_stand kind part d calls.Enable = true
may_stand kind part d calls.Disable = true
may_stand kind part d calls.Sync = true
may_stand kind part d (calls.Quiet dev) = true
may_stand kind part d (calls.Serve dev) = true
may_stand kind parts.Primary d (calls.Wake dev) = true
may_stand kind parts.Thread d (calls.Free dev) = true
may_stand kind parts.Thread d (calls.Arm dev) = same_dev d dev
may_stand kind parts.Primary d (calls.Arm dev) = same_dev d dev && is_direct kind
may_stand kind part d _ = false

-- a call that may wait for its own run
abbrev pub may_wait : Call → Bool
may_wait calls.Disable = true
may_wait calls.Sync = true
may_wait (calls.Free dev) = true
may_wait _ = false

-- no run makes such a call: then nobody hangs (play_laws)
abbrev pub NeverWaits : LineDef → Type 0
NeverWaits def = All (λ c. may_wait c.2 ≡ false) def.runs

-- an answer that the part may give: a thread wakes nobody
abbrev pub may_answer : Kind → Part → ToldAnswer → Bool
may_answer kind parts.Thread tolds.Wake = false
may_answer kind parts.Thread answer = is_told kind && has_thread kind
may_answer kind parts.Primary answer = is_told kind

-- a told device has a thread exactly if some answer of its handler wakes it
abbrev pub WakesWhatItHas : LineDef → Kind → DevNo → Type 0
WakesWhatItHas def (kinds.Told threaded) d =
    list_any is_wake_word (told_answers def d parts.Primary) ≡ threaded
WakesWhatItHas def _ d = Unit {0}

pub record HasValidRuns (def : LineDef) : Type 0 where
  pub few_calls : length def.runs ≤ 256
  pub short_scripts : (d : DevNo) (part : Part) → length (run_script def d part) ≤ 16
  pub few_answers : length def.told ≤ 65536
  pub short_answers : (d : DevNo) → length (told_answers def d parts.Primary)
      + length (told_answers def d parts.Thread) ≤ 4096
  pub devices : All (λ c. has_device def c.0 ≡ true) def.runs
  pub scripts : All (λ c. has_script (kind_of def c.0) c.1 ≡ true) def.runs
  pub stand : All (λ c. may_stand (kind_of def c.0) c.1 c.0 c.2 ≡ true) def.runs
  pub named : All (λ c. names_own_device def c.2 ≡ true) def.runs
  pub named_by_drivers : All (λ c. names_own_device def c.1 ≡ true) def.calls
  -- a told device's thread that a handler wakes by a call doesn't arm
  pub told_arms : (d : DevNo) → is_told (kind_of def d) ≡ true
      → list_any (wakes_by_handler d) def.runs ≡ true
      → list_any (arms_this d) (run_script def d parts.Thread) ≡ false
  pub answers : All (λ c. may_answer (kind_of def c.0) c.1 c.2 ≡ true) def.told
  pub threads : (d : DevNo) → WakesWhatItHas def (kind_of def d) d
