-- What a step of a shared line does to the pass that makes it.
use Rattle.std.specs.Prelude.{◌≡◌, Option, Some, Result, Ok, Err, List, [], ◌∷◌, ◌++◌, length}
use Rattle.irq_base.specs.declared.devices.Run.{Run}
use Rattle.irq_base.specs.declared.entries.Actor.{Actor}
use Rattle.irq_base.specs.declared.entries.Entry.{Entry}
use Rattle.irq_base.specs.declared.lines.LineDef.{LineDef}
use Rattle.callbacks.specs.Heard.{Heard}
use Rattle.irq_line.specs.Answers.{Answers}
use Rattle.irq_line.specs.Hearing.{Lacks, runs_by}
use Rattle.irq_line.specs.Memory.{WantsMemory}
use Rattle.irq_line.specs.Seen.{LineSeen, IsSound}
use Rattle.irq_line.specs.declared.answers.StepRefused.{StepRefused}
use Rattle.irq_line.specs.declared.answers.Stepped.{Stepped}
use Rattle.irq_line.specs.declared.answers.Stepped.TheVariants as stepped
use Rattle.line_lock.specs.Knows.{BeginsWith, looked}
use Rattle.line_lock.specs.Placed.{placed_of}
use Rattle.line_lock.specs.declared.view.Known.{Known}

-- If an entry was added, it stands at the end of what is seen, and is one of the pass's own
-- entries. After any other answer the pass has seen the history as it was, and has no more entries
-- of its own.
abbrev pub Gains : {L : Type 0} → Known → List Entry → Result (Stepped L) StepRefused → Known
    → Type 0
Gains old history (Ok (stepped.Added e)) new = (new.seen ≡ history ++ e ∷ [])
    × (new.mine ≡ old.mine ++ record { place = length history; entry = e } ∷ [])
Gains old history (Ok (stepped.Lacks lack)) new = (new.seen ≡ history) × (new.mine ≡ old.mine)
Gains old history (Ok stepped.NotYet) new = (new.seen ≡ history) × (new.mine ≡ old.mine)
Gains old history (Err refused) new = (new.seen ≡ history) × (new.mine ≡ old.mine)

-- One hold of the line by the pass, whose actor is `who`. What contracts see of a line is
-- `seen_of`, and `may_want` says for which entries it may want memory though its history has room.
-- `ears` have the answers, by `hears` and `lacks`; after the hold they are `after_ears`.
pub record Steps {T E L : Type 0} (seen_of : T → LineSeen) (may_want : Option Entry → Type 0)
    (hears : E → Run → E → Type 0) (lacks : E → Run → L → Type 0) (whole : LineDef) (who : Actor)
    (old : Known) (ears : E) (result : Result (Stepped L) StepRefused) (new : Known)
    (after_ears : E) : Type 0 where
  -- the line as it was at this hold, what was seen of it, and what is seen of it afterwards
  pub held : T
  pub line : LineSeen
  pub after : LineSeen
  pub is : seen_of held ≡ line
  pub def : line.def ≡ whole
  pub sound : IsSound line
  -- what the pass had seen is a beginning of the line's history, and its own entries are exactly
  -- the entries of its actor there
  pub begins : BeginsWith line.entries old.seen
  pub mine : old.mine ≡ placed_of (Some who) line.entries
  -- the answer is the line's own; if memory was refused, that line may have wanted it
  pub answer : Answers line who result after
  -- the answer of the run that ended was had, and that of no other; or it isn't at hand
  pub heard : Heard hears (runs_by line result) ears after_ears
  pub lacking : Lacks lacks line who ears result
  pub memory : WantsMemory may_want line who result
  -- and the pass has seen the history as it is now
  pub def_after : after.def ≡ whole
  pub sound_after : IsSound after
  pub seen : new ≡ looked old after.entries
  pub gains : Gains old line.entries result new
  pub own : new.mine ≡ placed_of (Some who) after.entries
