-- The small answers of an entry as numbers (ours): for each type from 0 on, in the order of the
-- source. A number too large for its type is read as the type's last answer.
use Rattle.std.specs.Prelude.{ℕ, ◌-◌, ◌==◌, Bool, if◌then◌else◌}
use Rattle.irq_base.specs.declared.devices.Answer.{Answer}
use Rattle.irq_base.specs.declared.devices.Answer.TheVariants as answers
use Rattle.irq_base.specs.declared.entries.Errno.{Errno}
use Rattle.irq_base.specs.declared.entries.Errno.TheVariants as errors
use Rattle.irq_base.specs.declared.entries.Way.{Way}
use Rattle.irq_base.specs.declared.entries.Way.TheVariants as ways
use Rattle.irq_base.specs.declared.entries.TakeAnswer.{TakeAnswer}
use Rattle.irq_base.specs.declared.entries.TakeAnswer.TheVariants as takes
use Rattle.irq_base.specs.declared.entries.Note.{Note}
use Rattle.irq_base.specs.declared.entries.Note.TheVariants as notes
use Rattle.irq_base.specs.declared.entries.Resend.{Resend}
use Rattle.irq_base.specs.declared.entries.Resend.TheVariants as resends
use Rattle.irq_base.specs.declared.entries.EnableAnswer.{EnableAnswer}
use Rattle.irq_base.specs.declared.entries.EnableAnswer.TheVariants as enables
use Rattle.irq_base.specs.declared.entries.Opened.{Opened}
use Rattle.irq_base.specs.declared.entries.Opened.TheVariants as opens
use Rattle.irq_base.specs.declared.entries.LinkAnswer.{LinkAnswer}
use Rattle.irq_base.specs.declared.entries.LinkAnswer.TheVariants as links
use Rattle.irq_base.specs.declared.entries.UnlinkAnswer.{UnlinkAnswer}
use Rattle.irq_base.specs.declared.entries.UnlinkAnswer.TheVariants as unlinks
use Rattle.irq_base.specs.declared.entries.AffinityAnswer.{AffinityAnswer}
use Rattle.irq_base.specs.declared.entries.AffinityAnswer.TheVariants as moves

unfoldable pub way_at : ℕ → Way
way_at n = if n == 0 then ways.Line else ways.Resend

unfoldable pub take_at : ℕ → TakeAnswer
take_at n = if n == 0 then takes.Handle else (if n == 1 then takes.Busy else takes.Off)

unfoldable pub answer_at : ℕ → Answer
answer_at n = if n == 0 then answers.Nothing else (if n == 1 then answers.Handled else answers.Wake)

unfoldable pub note_at : ℕ → Note
note_at n = if n == 0 then notes.Quiet else (if n == 1 then notes.Counted else notes.Killed)

unfoldable pub resend_at : ℕ → Resend
resend_at n = if n == 0 then resends.No else (if n == 1 then resends.Chip else resends.Soft)

unfoldable pub error_at : ℕ → Errno
error_at n = if n == 0 then errors.Inval else errors.Busy

unfoldable pub enable_at : ℕ → EnableAnswer
enable_at n =
    if n == 0 then enables.Unbalanced
    else (if n == 1 then enables.Lowered else enables.Started (resend_at (n - 2)))

unfoldable pub opened_at : ℕ → Opened
opened_at n =
    if n == 0 then opens.No
    else (if n == 1 then opens.Unbalanced
    else (if n == 2 then opens.Lowered else opens.Started (resend_at (n - 3))))

unfoldable pub link_at : ℕ → LinkAnswer
link_at n = if n == 0 then links.Linked else links.Refused (error_at (n - 1))

unfoldable pub unlink_at : ℕ → UnlinkAnswer
unlink_at n = if n == 0 then unlinks.NotThere else unlinks.Unlinked (n == 2)

unfoldable pub affinity_at : ℕ → AffinityAnswer
affinity_at n =
    if n == 0 then moves.Now else (if n == 1 then moves.Later else moves.Refused (error_at (n - 2)))

unfoldable pub flag_at : ℕ → Bool
flag_at n = n == 1
