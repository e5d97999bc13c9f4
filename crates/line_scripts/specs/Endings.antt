-- Which entry of a call is its last.
use Rattle.std.specs.Prelude.{Bool, true, false}
use Rattle.irq_base.specs.declared.calls.Call.{Call}
use Rattle.irq_base.specs.declared.calls.Call.TheVariants as calls
use Rattle.irq_base.specs.declared.entries.Entry.{Entry}
use Rattle.irq_base.specs.declared.entries.CallEntry.{CallEntry}
use Rattle.irq_base.specs.declared.entries.CallEntry.TheVariants as called
use Rattle.irq_base.specs.declared.entries.UnlinkAnswer.TheVariants as unlinks
use Rattle.irq_model.specs.Kinds.{is_call, is_hard_clear, is_synced}

-- a free ends with its last step, or at once if there was nothing to free
abbrev pub finishes_free : CallEntry → Bool
finishes_free (called.Freed dev) = true
finishes_free (called.Unlink unlinks.NotThere dev) = true
finishes_free _ = false

abbrev pub ends_free : Entry → Bool
ends_free e = is_call finishes_free e

-- this entry, one of the call's, completes the call
abbrev pub completes : Call → Entry → Bool
completes calls.Disable e = is_synced e
completes calls.Sync e = is_synced e
completes calls.DisableHard e = is_hard_clear e
completes (calls.Free dev) e = ends_free e
completes _ e = true
