-- But for `NoMemory` a step has one answer.
use Rattle.std.proofs.Common.{◌≡◌, ℕ, ◌<◌, Option, Some, None, Result, Ok, Err, length, refl, sym, ap, subst, ◌∙◌, arith, reverse}
use Rattle.std.proofs.lemmas.Bool.{false≢true}
use Rattle.std.specs.Prelude.{IsSome}
use Rattle.std.proofs.lemmas.Option.{none-some, same_Some}
use Rattle.irq_base.specs.declared.devices.Run.{Run}
use Rattle.irq_base.specs.declared.entries.Actor.{Actor}
use Rattle.irq_base.specs.declared.entries.Entry.{Entry}
use Rattle.irq_base.specs.declared.numbers.LineNo.{LineNo}
use Rattle.irq_model.specs.Next.{next}
use Rattle.callbacks.specs.Heard.{Heard, one_run}
use Rattle.irq_line.specs.Runs.{run_ended, run_of_entry}
use Rattle.irq_line.specs.Answers.{Answers, Adds, IsFull, IsDueOf}
use Rattle.irq_line.specs.Hearing.{IsLacking, Lacks, runs_by}
use Rattle.irq_line.specs.Seen.{LineSeen}
use Rattle.irq_line.specs.declared.answers.StepRefused.{StepRefused}
use Rattle.irq_line.specs.declared.answers.StepRefused.TheVariants as refusals
use Rattle.irq_line.specs.declared.answers.Stepped.{Stepped}
use Rattle.irq_line.specs.declared.answers.Stepped.TheVariants as stepped

module _ {E L : Type 0} (hears : E → Run → E → Type 0) (lacks : E → Run → L → Type 0)
    (had_or_lacking : (k j : E) (run : Run) (lack : L) → hears k run j → lacks k run lack → ⊥)
    (lacks_one : (k : E) (run : Run) (lack other : L) → lacks k run lack → lacks k run other → lack ≡ other)
    (old : LineSeen) (who : Actor) (ears : E) where
  none_due : (next old.def old.entries who ≡ None) → IsDueOf old who → ⊥
  none_due none due = false≢true (subst (λ (o : Option Entry). IsSome o) none due)

  none_run : (lack : L) → next old.def old.entries who ≡ None → IsLacking lacks old who ears lack → ⊥
  none_run lack none k = none-some k.run (sym (ap (run_of_entry old.def (reverse old.entries)) none) ∙ k.due)

  added_twice : (e f : Entry) (new other : LineSeen) → Adds old who e new → Adds old who f other → e ≡ f
  added_twice e f new other a b = same_Some e f (sym a.due ∙ b.due)

  ends : (e : Entry) (lack : L) (new : LineSeen) → Adds old who e new → (k : IsLacking lacks old who ears lack)
      → run_ended old.def (reverse old.entries) e ≡ Some k.run
  ends e lack new a k = sym (ap (run_of_entry old.def (reverse old.entries)) a.due) ∙ k.due

  -- the answer of the run that an added entry ends was had
  was_had : (run : Run) (after : E) → Heard hears (one_run (Some run)) ears after → hears ears run after
  was_had run after h = subst (λ (k : E). hears k run after) (sym h.1) h.2

  added_lacks : (e : Entry) (lack : L) (new : LineSeen) (after : E) → Adds old who e new
      → Heard hears (one_run (run_ended old.def (reverse old.entries) e)) ears after
      → IsLacking lacks old who ears lack → ⊥
  added_lacks e lack new after a h k =
      had_or_lacking ears after k.run lack
      (was_had k.run after (subst (λ (o : Option Run). Heard hears (one_run o) ears after) (ends e lack new a k) h)) k.lacks_it

  added_none : (e : Entry) (new : LineSeen) → Adds old who e new → next old.def old.entries who ≡ None → ⊥
  added_none e new a none = none-some e (sym none ∙ a.due)

  below_full : (line : LineNo) (n : ℕ) → length old.entries < old.def.log → IsFull old who line n → ⊥
  below_full line n below full = omega (arith, below, full.log)

  same_lack : (lack other : L) → IsLacking lacks old who ears lack → IsLacking lacks old who ears other → lack ≡ other
  same_lack lack other a b =
      lacks_one ears b.run lack other
      (subst (λ (run : Run). lacks ears run lack) (same_Some a.run b.run (sym a.due ∙ b.due)) a.lacks_it) b.lacks_it

  pub one_answer : (ears_a ears_b : E) (a b : Result (Stepped L) StepRefused) (new other : LineSeen)
      → Answers old who a new → Heard hears (runs_by old a) ears ears_a → Lacks lacks old who ears a
      → Answers old who b other → Heard hears (runs_by old b) ears ears_b → Lacks lacks old who ears b
      → (a ≡ Err refusals.NoMemory → ⊥) → (b ≡ Err refusals.NoMemory → ⊥) → a ≡ b
  one_answer ka kb (Err refusals.NoMemory) b new other x h l y g m p q = absurd (p refl)
  one_answer ka kb (Ok (stepped.Added e)) (Err refusals.NoMemory) new other x h l y g m p q = absurd (q refl)
  one_answer ka kb (Ok (stepped.Lacks lack)) (Err refusals.NoMemory) new other x h l y g m p q = absurd (q refl)
  one_answer ka kb (Ok stepped.NotYet) (Err refusals.NoMemory) new other x h l y g m p q = absurd (q refl)
  one_answer ka kb (Err (refusals.Full line n)) (Err refusals.NoMemory) new other x h l y g m p q = absurd (q refl)
  one_answer ka kb (Ok (stepped.Added e)) (Ok (stepped.Added f)) new other x h l y g m p q =
      ap (λ z. Ok (stepped.Added z)) (added_twice e f new other x y)
  one_answer ka kb (Ok (stepped.Added e)) (Ok (stepped.Lacks lack)) new other x h l y g m p q = absurd (added_lacks e lack new ka x h m)
  one_answer ka kb (Ok (stepped.Added e)) (Ok stepped.NotYet) new other x h l y g m p q = absurd (added_none e new x y.0)
  one_answer ka kb (Ok (stepped.Added e)) (Err (refusals.Full line n)) new other x h l y g m p q = absurd (below_full line n x.below y.0)
  one_answer ka kb (Ok (stepped.Lacks lack)) (Ok (stepped.Added f)) new other x h l y g m p q = absurd (added_lacks f lack other kb y g l)
  one_answer ka kb (Ok (stepped.Lacks lack)) (Ok (stepped.Lacks other_lack)) new other x h l y g m p q =
      ap (λ z. Ok (stepped.Lacks z)) (same_lack lack other_lack l m)
  one_answer ka kb (Ok (stepped.Lacks lack)) (Ok stepped.NotYet) new other x h l y g m p q = absurd (none_run lack y.0 l)
  one_answer ka kb (Ok (stepped.Lacks lack)) (Err (refusals.Full line n)) new other x h l y g m p q = absurd (below_full line n x.below y.0)
  one_answer ka kb (Ok stepped.NotYet) (Ok (stepped.Added f)) new other x h l y g m p q = absurd (added_none f other y x.0)
  one_answer ka kb (Ok stepped.NotYet) (Ok (stepped.Lacks lack)) new other x h l y g m p q = absurd (none_run lack x.0 m)
  one_answer ka kb (Ok stepped.NotYet) (Ok stepped.NotYet) new other x h l y g m p q = refl
  one_answer ka kb (Ok stepped.NotYet) (Err (refusals.Full line n)) new other x h l y g m p q = absurd (none_due x.0 y.0.due)
  one_answer ka kb (Err (refusals.Full line n)) (Ok (stepped.Added f)) new other x h l y g m p q = absurd (below_full line n y.below x.0)
  one_answer ka kb (Err (refusals.Full line n)) (Ok (stepped.Lacks lack)) new other x h l y g m p q = absurd (below_full line n y.below x.0)
  one_answer ka kb (Err (refusals.Full line n)) (Ok stepped.NotYet) new other x h l y g m p q = absurd (none_due y.0 x.0.due)
  one_answer ka kb (Err (refusals.Full line n)) (Err (refusals.Full other_line k)) new other x h l y g m p q =
      ap (λ z. Err (refusals.Full z n)) (x.0.line_is ∙ sym y.0.line_is) ∙ ap (λ z. Err (refusals.Full other_line z)) (x.0.told ∙ sym y.0.told)
