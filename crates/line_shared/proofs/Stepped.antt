-- One hold of the line by a pass.
use Rattle.std.proofs.Common.{◌≡◌, Option, Some, Result, Ok, Err, List, [], ◌∷◌, ◌++◌, length, refl, sym, ap, ◌∙◌}
use Rattle.irq_base.specs.declared.devices.Run.{Run}
use Rattle.irq_base.specs.declared.entries.Actor.{Actor}
use Rattle.irq_base.specs.declared.entries.Entry.{Entry}
use Rattle.irq_base.specs.declared.lines.LineDef.{LineDef}
use Rattle.callbacks.specs.Heard.{Heard}
use Rattle.irq_line.specs.Answers.{Answers}
use Rattle.irq_line.specs.Hearing.{Lacks, runs_by}
use Rattle.irq_line.specs.Memory.{WantsMemory}
use Rattle.irq_line.specs.Seen.{LineSeen, IsSound}
use Rattle.irq_line.specs.declared.answers.StepRefused.{StepRefused}
use Rattle.irq_line.specs.declared.answers.StepRefused.TheVariants as refusals
use Rattle.irq_line.specs.declared.answers.Stepped.{Stepped}
use Rattle.irq_line.specs.declared.answers.Stepped.TheVariants as stepped
use Rattle.line_lock.specs.Knows.{BeginsWith, looked}
use Rattle.line_lock.specs.Placed.{placed, placed_of}
use Rattle.line_lock.specs.declared.view.Known.{Known}
use Rattle.line_lock.specs.declared.view.Placed.{Placed}
use Rattle.line_lock.proofs.Placing.{placed_own}
use Rattle.line_shared.specs.Stepping.{Gains, Steps}

module _ (who : Actor) (old new : Known) (line after : LineSeen) (actor : old.actor ≡ Some who)
    (mine : old.mine ≡ placed_of (Some who) line.entries) (seen : new ≡ looked old after.entries) where
  mine_is : (h : List Entry) → after.entries ≡ h → new.mine ≡ placed who h
  mine_is h same = ap (λ (k : Known). k.mine) seen ∙ (ap (λ (o : Option Actor). placed_of o after.entries) actor ∙ ap (placed who) same)

  unchanged : after ≡ line → (new.seen ≡ line.entries) × (new.mine ≡ old.mine)
  unchanged same =
      let entries : after.entries ≡ line.entries = ap (λ (l : LineSeen). l.entries) same in
      (ap (λ (k : Known). k.seen) seen ∙ entries, mine_is line.entries entries ∙ sym mine)

  gains : {L : Type 0} (result : Result (Stepped L) StepRefused) → Answers line who result after → Gains old line.entries result new
  gains (Ok (stepped.Added e)) a = (
    ap (λ (k : Known). k.seen) seen ∙ a.entries,
    mine_is (line.entries ++ e ∷ []) a.entries ∙ (placed_own who line.entries e a.actor
        ∙ ap (λ (xs : List Placed). xs ++ record { place = length line.entries; entry = e } ∷ []) (sym mine)),
  )
  gains (Ok (stepped.Lacks lack)) a = (ap (λ (k : Known). k.seen) seen ∙ a.entries, mine_is line.entries a.entries ∙ sym mine)
  gains (Ok stepped.NotYet) a = unchanged a.1
  gains (Err (refusals.Full number len)) a = unchanged a.1
  gains (Err refusals.NoMemory) a = unchanged a

module _ {T E L : Type 0} (seen_of : T → LineSeen) (may_want : Option Entry → Type 0)
    (hears : E → Run → E → Type 0) (lacks : E → Run → L → Type 0) where
  pub steps : (key : LineDef) (who : Actor) (old new : Known) (held : T) (after : LineSeen) (ears after_ears : E)
      (result : Result (Stepped L) StepRefused) → (seen_of held).def ≡ key → old.actor ≡ Some who → IsSound (seen_of held)
      → BeginsWith (seen_of held).entries old.seen
      → old.mine ≡ placed_of old.actor (seen_of held).entries → Answers (seen_of held) who result after
      → Heard hears (runs_by (seen_of held) result) ears after_ears → Lacks lacks (seen_of held) who ears result
      → WantsMemory may_want (seen_of held) who result → after.def ≡ key → IsSound after → new ≡ looked old after.entries
      → Steps seen_of may_want hears lacks key who old ears result new after_ears
  steps key who old new held after ears after_ears result def actor sound begins mine answer heard lacking memory def_after sound_after seen =
      let own = mine ∙ ap (λ (o : Option Actor). placed_of o (seen_of held).entries) actor in
      record {
        held = held;
        line = seen_of held;
        after = after;
        is = refl;
        def = def;
        sound = sound;
        begins = begins;
        mine = own;
        answer = answer;
        heard = heard;
        lacking = lacking;
        memory = memory;
        def_after = def_after;
        sound_after = sound_after;
        seen = seen;
        gains = gains who old new (seen_of held) after actor own seen result answer;
        own = mine_is who old new (seen_of held) after actor own seen after.entries refl;
      }
