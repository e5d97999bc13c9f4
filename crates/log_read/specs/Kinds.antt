-- The words for the kinds of entries, and the first words of answers, which tell what follows.
use Rattle.std.specs.Prelude.{ℕ, List, codes}
use Rattle.log_read.specs.declared.cpus.CpuVerb.{CpuVerb}
use Rattle.log_read.specs.declared.cpus.CpuVerb.TheVariants as cpu_verbs
use Rattle.log_read.specs.declared.threads.ThreadVerb.{ThreadVerb}
use Rattle.log_read.specs.declared.threads.ThreadVerb.TheVariants as thread_verbs
use Rattle.log_read.specs.declared.drivers.DriverVerb.{DriverVerb}
use Rattle.log_read.specs.declared.drivers.DriverVerb.TheVariants as driver_verbs
use Rattle.log_read.specs.declared.calls.CallVerb.{CallVerb}
use Rattle.log_read.specs.declared.calls.CallVerb.TheVariants as call_verbs
use Rattle.log_read.specs.declared.kinds.Opening.{Opening}
use Rattle.log_read.specs.declared.kinds.Opening.TheVariants as openings
use Rattle.log_read.specs.declared.kinds.Linking.{Linking}
use Rattle.log_read.specs.declared.kinds.Linking.TheVariants as linkings
use Rattle.log_read.specs.declared.kinds.Moving.{Moving}
use Rattle.log_read.specs.declared.kinds.Moving.TheVariants as movings

abbrev pub cpu_verb_word : CpuVerb → List ℕ
cpu_verb_word cpu_verbs.Take = codes "take"
cpu_verb_word cpu_verbs.Begin = codes "begin"
cpu_verb_word cpu_verbs.Return = codes "return"
cpu_verb_word cpu_verbs.End = codes "end"

abbrev pub thread_verb_word : ThreadVerb → List ℕ
thread_verb_word thread_verbs.Begin = codes "begin"
thread_verb_word thread_verbs.Return = codes "return"
thread_verb_word thread_verbs.Finish = codes "finish"
thread_verb_word thread_verbs.Done = codes "done"

abbrev pub driver_verb_word : DriverVerb → List ℕ
driver_verb_word driver_verbs.Ask = codes "ask"
driver_verb_word driver_verbs.Request = codes "request"
driver_verb_word driver_verbs.Affinity = codes "affinity"
driver_verb_word driver_verbs.Moment = codes "moment"

abbrev pub call_verb_word : CallVerb → List ℕ
call_verb_word call_verbs.Disable = codes "disable"
call_verb_word call_verbs.HardClear = codes "hardclear"
call_verb_word call_verbs.Synced = codes "synced"
call_verb_word call_verbs.Enable = codes "enable"
call_verb_word call_verbs.Unlink = codes "unlink"
call_verb_word call_verbs.Freed = codes "freed"
call_verb_word call_verbs.Wake = codes "wake"
call_verb_word call_verbs.Quiet = codes "quiet"
call_verb_word call_verbs.Arm = codes "arm"
call_verb_word call_verbs.Serve = codes "serve"

abbrev pub opening_word : Opening → List ℕ
opening_word openings.No = codes "no"
opening_word openings.Unbalanced = codes "unbalanced"
opening_word openings.Lowered = codes "lowered"
opening_word openings.Started = codes "started"

abbrev pub linking_word : Linking → List ℕ
linking_word linkings.Linked = codes "linked"
linking_word linkings.Refused = codes "refused"

abbrev pub moving_word : Moving → List ℕ
moving_word movings.Now = codes "now"
moving_word movings.Later = codes "later"
moving_word movings.Refused = codes "refused"
