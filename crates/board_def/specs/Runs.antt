-- The rules of what runs of handlers and threads call, and of what told devices answer.
use Rattle.std.specs.Prelude.{◌==◌, Bool, true, false, not, ◌&&◌, if◌then◌else◌, Option, Some, None}
use Rattle.std.specs.Prelude.{List, map}
use Rattle.std.specs.List.{list_any}
use Rattle.irq_base.specs.declared.calls.Call.{Call}
use Rattle.irq_base.specs.declared.devices.DeviceDef.{DeviceDef}
use Rattle.irq_base.specs.declared.devices.Kind.{Kind}
use Rattle.irq_base.specs.declared.devices.Kind.TheVariants as kinds
use Rattle.irq_base.specs.declared.devices.Part.{Part}
use Rattle.irq_base.specs.declared.devices.Part.TheVariants as parts
use Rattle.irq_base.specs.declared.devices.ToldAnswer.{ToldAnswer}
use Rattle.irq_base.specs.declared.numbers.DevNo.{DevNo}
use Rattle.irq_model.specs.Kinds.{same_dev}
use Rattle.irq_model.specs.Lines.{same_part}
use Rattle.irq_model.specs.RunBounds.{arms_this, is_wake_word, wakes_by_handler}
use Rattle.irq_model.specs.ValidRuns.{has_script, is_told, may_stand, may_answer}
use Rattle.board_def.specs.declared.rows.RunCall.{RunCall}
use Rattle.board_def.specs.declared.rows.ToldRow.{ToldRow}

abbrev pub of_run : RunCall → DevNo × Part × Call
of_run r = (r.dev, r.part, r.call)

abbrev pub of_told : ToldRow → DevNo × Part × ToldAnswer
of_told r = (r.dev, r.part, r.answer)

-- calls

-- the row is a call of that part of d
abbrev pub is_call_of : DevNo → Part → RunCall → Bool
is_call_of d part r = same_dev d r.dev && same_part part r.part

-- what may stand in a script of d's runs, those that a driver wrote
abbrev pub may_call : Kind → Part → DevNo → Call → Bool
may_call kind part d call = has_script kind part && may_stand kind part d call

-- the thread of d arms d
abbrev pub arms_itself : DevNo → RunCall → Bool
arms_itself d r = is_call_of d parts.Thread r && arms_this d r.call

-- a handler wakes d by a call
abbrev pub wakes_by_call : DevNo → RunCall → Bool
wakes_by_call d r = wakes_by_handler d (of_run r)

-- a told device's thread arms it, though a handler wakes it by a call
abbrev pub arms_though_woken : List RunCall → RunCall → Kind → Bool
arms_though_woken runs r kind =
    is_told kind && (arms_itself r.dev r && list_any (wakes_by_call r.dev) runs)

-- the row's device, if it is there, may make this call on its line, beside these calls
abbrev pub is_allowed_run : List RunCall → RunCall → Option DeviceDef → Bool
is_allowed_run runs r (Some x) = (x.line.0 == r.line.0)
    && (may_call x.kind r.part r.dev r.call && not (arms_though_woken runs r x.kind))
is_allowed_run runs r None = false

-- answers

-- the device is there, and told
abbrev pub is_told_one : Option DeviceDef → Bool
is_told_one (Some x) = is_told x.kind
is_told_one None = false

-- a handler's answer that wakes d's thread
abbrev pub answers_wake : DevNo → ToldRow → Bool
answers_wake d r = (same_dev d r.dev && same_part parts.Primary r.part) && is_wake_word r.answer

-- the row's device, if it is there, may answer so
abbrev pub is_allowed_answer : ToldRow → Option DeviceDef → Bool
is_allowed_answer r (Some x) = (x.line.0 == r.line.0) && may_answer x.kind r.part r.answer
is_allowed_answer r None = false

-- a told device has a thread exactly if some answer of its handler wakes it
abbrev pub fits_wakes : Bool → Kind → Bool
fits_wakes wakes (kinds.Told threaded) = if threaded then wakes else not wakes
fits_wakes wakes _ = true

-- a told device that has a thread
abbrev pub threaded : DeviceDef → DeviceDef
threaded x = record x { kind = kinds.Told true }

-- these devices, and the one of that number has a thread
abbrev pub with_thread : DevNo → List DeviceDef → List DeviceDef
with_thread dev devices = map (λ x. if same_dev dev x.dev then threaded x else x) devices
