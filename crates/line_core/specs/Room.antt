-- Room for one more entry, and which entries need memory besides.
use Rattle.std.specs.Prelude.{◌≡◌, ◌<◌, ◌≤◌, Bool, false, ℕ, Option, Some, None, Result, Ok, Err}
use Rattle.std.specs.Prelude.{length}
use Rattle.irq_base.specs.declared.entries.Entry.{Entry}
use Rattle.irq_base.specs.declared.numbers.LineNo.{LineNo}
use Rattle.irq_model.specs.Kinds.{is_linked_request}
use Rattle.irq_line.specs.Room.{MakesRoom}
use Rattle.irq_line.specs.Seen.{LineSeen}
use Rattle.irq_line.specs.declared.answers.StepRefused.{StepRefused}
use Rattle.irq_line.specs.declared.answers.StepRefused.TheVariants as refusals

-- the history isn't as long as it may be, and has room for one more entry
pub record HasRoom (line : LineSeen) : Type 0 where
  pub below : length line.entries < line.def.log
  pub spare : 1 ≤ line.spare

-- the history has the greatest length that the definition allows; the line and the length are told
pub record IsAtLimit (line : LineSeen) (number : LineNo) (len : ℕ) : Type 0 where
  pub line_is : number ≡ line.def.line
  pub told : len ≡ length line.entries
  pub log : length line.entries ≡ line.def.log

abbrev pub IsFullOf : LineSeen → StepRefused → Type 0
IsFullOf line (refusals.Full number len) = IsAtLimit line number len
IsFullOf line refusals.NoMemory = ⊥

-- room was made, or why not
abbrev pub RoomFor : {A : Type 0} → LineSeen → Result A StepRefused → LineSeen → Type 0
RoomFor old (Ok made) new = MakesRoom old new
RoomFor old (Err (refusals.Full number len)) new = IsAtLimit old number len × (new ≡ old)
RoomFor old (Err refusals.NoMemory) new = (old.spare ≡ 0) × (new ≡ old)

-- the entry that is due links an action
abbrev pub links_next : Option Entry → Bool
links_next None = false
links_next (Some e) = is_linked_request e
