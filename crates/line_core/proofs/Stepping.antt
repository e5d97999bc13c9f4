-- One step of a line.
use Rattle.std.proofs.Common.{◌≡◌, ◌+◌, ◌<◌, ◌≤◌, Bool, false, Result, Err, [], ◌∷◌, ◌++◌, is_some, Option}
use Rattle.std.proofs.Common.{Some, None, option_map, length, true, reverse, refl, sym, ap, ◌∙◌}
use Rattle.std.proofs.lemmas.Bool.{false≢true}
use Rattle.std.specs.Prelude.{ℕ, IsOk, is_ok}
use Rattle.irq_base.specs.Seen.{HistorySeen}
use Rattle.irq_base.specs.declared.calls.Call.{Call}
use Rattle.irq_base.specs.declared.entries.Actor.{Actor}
use Rattle.irq_base.specs.declared.entries.Actor.TheVariants as actors
use Rattle.irq_base.specs.declared.entries.Entry.{Entry}
use Rattle.irq_base.specs.declared.lines.LineDef.{LineDef}
use Rattle.irq_base.specs.declared.numbers.CpuNo.{CpuNo}
use Rattle.irq_base.specs.declared.numbers.DriverNo.{DriverNo}
use Rattle.irq_laws.proofs.OwnLaws.{due_is_own}
use Rattle.irq_laws.proofs.ServedLaws.{has_target}
use Rattle.irq_model.specs.Due.{due_call}
use Rattle.irq_model.specs.Next.{next, next_of_driver}
use Rattle.irq_model.specs.Signal.{target}
use Rattle.irq_line.specs.Answers.{Adds}
use Rattle.irq_line.specs.Runs.{run_of, run_of_entry, run_ended}
use Rattle.irq_line.specs.Seen.{LineSeen}
use Rattle.line_marks.proofs.DueIs.{due_on}
use Rattle.line_marks.specs.Aim.{number_of}
use Rattle.line_marks.specs.DriversDue.{driver_due}
use Rattle.line_marks.specs.Next.{due_by, due_call_in}
use Rattle.line_marks.specs.State.{StateSeen}
use Rattle.line_core.proofs.More.{Beside, due_past, due_call_is}
use Rattle.line_core.proofs.Runs.{run_is}
use Rattle.line_state.specs.Entries.{entry_by, driver_entry}
use Rattle.line_state.specs.Seen.{runs_seen}
use Rattle.line_state.specs.declared.due.DriverStep.{DriverStep}
use Rattle.line_state.specs.declared.due.DueStep.TheVariants as steps
use Rattle.line_state.specs.declared.due.DueStep.{DueStep}
use Rattle.line_core.specs.Entries.{entry_at}
use Rattle.line_core.specs.Running.{run_by}

-- ---- the chips

numbered : (o : Option CpuNo) → is_some o ≡ true → o ≡ Some (record { 0 = number_of o })
numbered None h = absurd (false≢true h)
numbered (Some c) h = refl

-- a line as its parts keep it
abbrev pub line_of : LineDef → HistorySeen → LineSeen
line_of def h = record { def = def; entries = h.entries; spare = h.spare }

pub aimed_at : (line : LineSeen) (b : Beside line.def line.entries) (n : ℕ) → n ≡ b.seen.state.aimed
    → target line.def (reverse line.entries) ≡ Some (record { 0 = n })
aimed_at line b n same =
    let told : n ≡ number_of (target line.def (reverse line.entries)) = same ∙ ap (λ (x : StateSeen). x.aimed) b.is.state in
    let num : ℕ → Option CpuNo = λ k. Some (record { 0 = k }) in
    numbered (target line.def (reverse line.entries)) (has_target line.def (reverse line.entries) b.is.valid b.is.legal) ∙ ap num (sym told)

-- ---- a step

-- the step is due of the actor
abbrev pub IsDueStep : LineSeen → Actor → DueStep → Type 0
IsDueStep line who step = next line.def line.entries who ≡ Some (entry_at line step)

-- what the state has due of an actor is what is due of it
pub kind_told : {S : Type 0} (of : S → DueStep) (line : LineSeen) (b : Beside line.def line.entries) (a : Actor) (o : Option S)
    → option_map (λ (x : S). entry_by line.def b.seen.state (of x)) o ≡ due_by line.def b.seen.state b.scripts a
    → option_map (λ (x : S). entry_at line (of x)) o ≡ next line.def line.entries a
kind_told {S} of line b a o told =
    ap (λ (x : StateSeen). option_map (λ (y : S). entry_by line.def x (of y)) o) (sym b.is.state)
    ∙ (told ∙ sym (due_on line.def line.entries b.seen.state b.scripts (runs_seen b.seen) a b.is))

-- the same for the step of a driver's due call
pub driver_told : (line : LineSeen) (b : Beside line.def line.entries) (r : DriverNo) (call : Call) (n : ℕ) (o : Option DriverStep)
    → due_call line.def r (reverse line.entries) ≡ Some (call, n)
    → option_map (driver_entry line.def b.seen.state r) o ≡ driver_due line.def b.seen.state r (Some (call, n))
    → option_map (λ (x : DriverStep). entry_at line (steps.Driver r x)) o ≡ next line.def line.entries (actors.Driver r)
driver_told line b r call n o due told =
    kind_told (λ (x : DriverStep). steps.Driver r x) line b (actors.Driver r) o
    (told ∙ ap (driver_due line.def b.seen.state r) (sym due ∙ due_call_is line.def line.entries b r))

-- a driver whose calls are complete has none due
pub no_call_told : (line : LineSeen) (b : Beside line.def line.entries) (r : DriverNo) → due_call_in b.scripts r ≡ None
    → next line.def line.entries (actors.Driver r) ≡ None
no_call_told line b r none = ap (next_of_driver line.def r (reverse line.entries)) (due_call_is line.def line.entries b r ∙ none)

-- what is added: the entry of the step, at the history's end
pub record IsAdded (line : LineSeen) (step : DueStep) (e : Entry) (new : LineSeen) : Type 0 where
  pub made : e ≡ entry_at line step
  pub below : length line.entries < line.def.log
  pub def : new.def ≡ line.def
  pub entries : new.entries ≡ line.entries ++ e ∷ []
  pub spare : line.spare ≤ new.spare + 1

module _ (line : LineSeen) (b : Beside line.def line.entries) (who : Actor) (step : DueStep) (due : IsDueStep line who step) where
  -- by the state at hand
  pub due_here : next line.def line.entries who ≡ Some (entry_by line.def b.seen.state step)
  due_here = due ∙ ap (λ (x : StateSeen). Some (entry_by line.def x step)) (sym b.is.state)

  pub made_here : (e : Entry) → e ≡ entry_by line.def b.seen.state step → e ≡ entry_at line step
  made_here e made = made ∙ ap (λ (x : StateSeen). entry_by line.def x step) b.is.state

  -- the run that the due step ends
  pub ends : run_ended line.def (reverse line.entries) (entry_at line step) ≡ run_by line.def b.seen.state step
  ends =
      run_is line.def (reverse line.entries) b.is.valid b.is.legal step
      (due_past line.def line.entries b.seen.state b.scripts b.scripts (runs_seen b.seen) (entry_at line step) b.is who due)
      ∙ ap (λ (x : StateSeen). run_by line.def x step) (sym b.is.state)

  pub run_told : run_of line.def line.entries who ≡ run_by line.def b.seen.state step
  run_told = ap (run_of_entry line.def (reverse line.entries)) due ∙ ends

  pub adds_due : (e : Entry) (new : LineSeen) → IsAdded line step e new → Adds line who e new
  adds_due e new added = record {
    due = due ∙ ap Some (sym added.made);
    actor = due_is_own line.def line.entries who e (due ∙ ap Some (sym added.made));
    below = added.below;
    def = added.def;
    entries = added.entries;
    spare = added.spare;
  }

-- ---- a step that was refused memory

-- what isn't refused without cause has the cause
pub wanted : {A E : Type 0} {e : E} (b : Bool) (r : Result A E) → r ≡ Err e → (b ≡ false → IsOk r) → b ≡ true
wanted true r refused h = refl
wanted false r refused h = absurd (false≢true (sym (ap is_ok refused) ∙ h refl))
