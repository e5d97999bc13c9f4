-- A step of a line, case by case.
use Rattle.std.proofs.Common.{◌≡◌, ◌≤◌, true, is_some, Result, Ok, Err, Option, Some, None, List, reverse}
use Rattle.std.proofs.Common.{refl, sym, ap, subst, ◌∙◌, arith}
use Rattle.std.proofs.lemmas.Option.{none-some}
use Rattle.irq_base.specs.Seen.{HistorySeen}
use Rattle.irq_base.specs.declared.devices.Run.{Run}
use Rattle.irq_base.specs.Who.{actor_of}
use Rattle.irq_base.specs.declared.entries.Actor.{Actor}
use Rattle.irq_base.specs.declared.entries.Actor.TheVariants as actors
use Rattle.irq_base.specs.declared.entries.Entry.{Entry}
use Rattle.irq_base.specs.declared.entries.Entry.TheVariants as by
use Rattle.irq_base.specs.declared.lines.LineDef.{LineDef}
use Rattle.irq_base.specs.declared.numbers.DriverNo.{DriverNo}
use Rattle.irq_model.specs.Next.{next}
use Rattle.callbacks.specs.Heard.{Heard, one_run}
use Rattle.irq_line.proofs.Rooms.{same_run, same_ended, below_mid, added_old, wants_old}
use Rattle.irq_line.specs.Answers.{Adds, IsDueOf}
use Rattle.irq_line.specs.Hearing.{Lacks}
use Rattle.irq_line.specs.Room.{MakesRoom}
use Rattle.irq_line.specs.Runs.{run_ended}
use Rattle.irq_line.specs.Seen.{LineSeen}
use Rattle.irq_line.specs.declared.answers.StepRefused.{StepRefused}
use Rattle.irq_line.specs.declared.answers.StepRefused.TheVariants as refusals
use Rattle.irq_line.specs.declared.answers.Stepped.{Stepped}
use Rattle.irq_line.specs.declared.answers.Stepped.TheVariants as stepped
use Rattle.line_marks.specs.State.{state_of}
use Rattle.line_state.specs.Entries.{entry_by}
use Rattle.line_state.specs.declared.due.DueStep.{DueStep}
use Rattle.line_core.proofs.More.{Beside}
use Rattle.line_core.proofs.Stepping.{line_of, IsDueStep, IsAdded, made_here, ends, run_told, adds_due}
use Rattle.line_core.specs.Room.{HasRoom, IsFullOf, RoomFor, links_next}
use Rattle.line_core.specs.Running.{run_by}
use Rattle.line_core.specs.Steps.{Acts, IsStep, IsStepAlone}

-- ---- room

module _ (old mid : LineSeen) (room : MakesRoom old mid) where
  pub due_mid : (who : Actor) (step : DueStep) → IsDueStep old who step → IsDueStep mid who step
  due_mid who step due =
      subst (λ (d : LineDef). next d mid.entries who ≡ Some (entry_by d (state_of d (reverse mid.entries)) step)) (sym room.def)
      (subst (λ (h : List Entry). next old.def h who ≡ Some (entry_by old.def (state_of old.def (reverse h)) step)) (sym room.entries) due)

  pub has_room : HasRoom mid
  has_room = record { below = below_mid old mid room; spare = room.room }

-- the history is as long as it may be
pub limit_told : (A : Type 0) (line : LineSeen) (r : StepRefused) → IsFullOf line r → RoomFor {A = A} line (Err r) line
limit_told A line (refusals.Full number len) full = (full, refl)
limit_told A line refusals.NoMemory full = absurd full

-- ---- a step

module _ {E L : Type 0} (hears : E → Run → E → Type 0) (lacks : E → Run → L → Type 0) (who : Actor) (ears : E) where
  pub rests : (line : LineSeen) → next line.def line.entries who ≡ None → IsStep hears lacks line who ears (Ok stepped.NotYet) line ears
  rests line none = record { def = refl; answer = (none, refl); heard = refl; lacking = tt; memory = tt }

  pub refused : (A : Type 0) (old new : LineSeen) (r : StepRefused) → IsDueOf old who → RoomFor {A = A} old (Err r) new
      → IsStep hears lacks old who ears (Err r) new ears
  refused A old new (refusals.Full number len) due room = record {
    def = ap (λ (l : LineSeen). l.def) room.1;
    answer = (record { due = due; line_is = room.0.line_is; told = room.0.told; log = room.0.log }, room.1);
    heard = refl;
    lacking = tt;
    memory = tt;
  }
  refused A old new refusals.NoMemory due room = record {
    def = ap (λ (l : LineSeen). l.def) room.1;
    answer = room.1;
    heard = refl;
    lacking = tt;
    memory = λ some. let none = room.0 in absurd (omega (arith, none, some));
  }

  -- what was done once there was room
  module _ (old mid : LineSeen) (room : MakesRoom old mid) where
    pub after_room : (e : Entry) → next mid.def mid.entries who ≡ Some e → (s : Stepped L) (new : LineSeen) (after : E)
        → IsStep hears lacks mid who ears (Ok s) new after → IsStep hears lacks old who ears (Ok s) new after
    after_room _ due (stepped.Added e) new after h = record {
      def = h.def ∙ room.def;
      answer = added_old old mid room who e new h.answer;
      heard = subst (λ (o : Option Run). Heard hears (one_run o) ears after) (same_ended old mid room e) h.heard;
      lacking = tt;
      memory = tt;
    }
    after_room e due stepped.NotYet new after h = absurd (none-some e (sym h.answer.0 ∙ due))
    after_room _ due (stepped.Lacks lack) new after h = record {
      def = h.def ∙ room.def;
      answer = wants_old old mid room who new h.answer;
      heard = h.heard;
      lacking = record { run = h.lacking.run; due = sym (same_run old mid room who) ∙ h.lacking.due; lacks_it = h.lacking.lacks_it };
      memory = tt;
    }

  -- what came of the due step, in a history with room
  module _ (def : LineDef) (history : HistorySeen) (b : Beside def history.entries) (step : DueStep) (due : IsDueStep (line_of def history) who step)
      (room : HasRoom (line_of def history)) where
    abbrev line : LineSeen
    line = line_of def history

    pub acted : (s : Stepped L) (longer : HistorySeen) (after : E)
        → Acts hears lacks (run_by def b.seen.state step) (entry_by def b.seen.state step) history ears s longer after
        → IsStep hears lacks line who ears (Ok s) (line_of def longer) after
    acted (stepped.Added e) longer after p =
        let made = made_here line b who step due e p.made in
        let added : IsAdded line step e (line_of def longer)
        = record { made = made; below = room.below; def = refl; entries = p.entries; spare = p.spare } in
        record {
          def = refl;
          answer = adds_due line b who step due e (line_of def longer) added;
          heard = subst (λ (o : Option Run). Heard hears (one_run o) ears after)
              (sym (ap (run_ended def (reverse history.entries)) made ∙ ends line b who step due)) p.heard;
          lacking = tt;
          memory = tt;
        }
    acted stepped.NotYet longer after p = absurd p
    acted (stepped.Lacks lack) longer after p =
        let told = run_told line b who step due ∙ p.0.1 in
        record {
          def = refl;
          answer = record {
            due = ap is_some told;
            below = room.below;
            def = refl;
            entries = ap (λ (h : HistorySeen). h.entries) p.1;
            spare = subst (λ (h : HistorySeen). history.spare ≤ h.spare) (sym p.1) (omega arith);
            kept = λ _. ap (line_of def) p.1;
          };
          heard = sym p.2;
          lacking = record { run = p.0.0; due = told; lacks_it = p.0.2 };
          memory = tt;
        }

  -- a step that asks nobody is a step, whoever hears
  lacks_nothing : (old : LineSeen) (r : Result (Stepped L) StepRefused) → ((lack : L) → r ≡ Ok (stepped.Lacks lack) → ⊥) → Lacks lacks old who ears r
  lacks_nothing old (Ok (stepped.Added e)) none = tt
  lacks_nothing old (Ok stepped.NotYet) none = tt
  lacks_nothing old (Ok (stepped.Lacks lack)) none = absurd (none lack refl)
  lacks_nothing old (Err refusal) none = tt

  pub alone : (old new : LineSeen) (r : Result (Stepped L) StepRefused) → IsStepAlone old who r new → IsStep hears lacks old who ears r new ears
  alone old new r s = record {
    def = s.def;
    answer = s.answer;
    heard = subst (λ (runs : List Run). Heard hears runs ears ears) (sym s.unheard) refl;
    lacking = lacks_nothing old r s.lacks_none;
    memory = s.memory;
  }

-- ---- a step that asks nobody

module _ {L : Type 0} (who : Actor) where
  pub rests_alone : (line : LineSeen) → next line.def line.entries who ≡ None → IsStepAlone {L = L} line who (Ok stepped.NotYet) line
  rests_alone line none = record { def = refl; answer = (none, refl); unheard = refl; lacks_none = λ lack same. cc; memory = tt }

  pub full_alone : (line : LineSeen) (r : StepRefused) → IsDueOf line who → IsFullOf line r → IsStepAlone {L = L} line who (Err r) line
  full_alone line (refusals.Full number len) due full = record {
    def = refl;
    answer = (record { due = due; line_is = full.line_is; told = full.told; log = full.log }, refl);
    unheard = refl;
    lacks_none = λ lack same. cc;
    memory = tt;
  }
  full_alone line refusals.NoMemory due full = absurd full

  pub no_memory_alone : (old new : LineSeen) → new ≡ old → (1 ≤ old.spare → links_next (next old.def old.entries who) ≡ true)
      → IsStepAlone {L = L} old who (Err refusals.NoMemory) new
  no_memory_alone old new same wants = record {
    def = ap (λ (l : LineSeen). l.def) same;
    answer = same;
    unheard = refl;
    lacks_none = λ lack is. cc;
    memory = wants;
  }

-- an entry of a driver ends no run
ends_none : (def : LineDef) (past : List Entry) (r : DriverNo) (e : Entry) → actor_of e ≡ actors.Driver r → run_ended def past e ≡ None
ends_none def past r (by.Cpu c x) same = cc
ends_none def past r (by.Thread d x) same = cc
ends_none def past r (by.Driver s x) same = refl
ends_none def past r (by.CpuCall c x) same = refl
ends_none def past r (by.ThreadCall d x) same = refl
ends_none def past r (by.DriverCall s x) same = refl

pub adds_alone : {L : Type 0} (line new : LineSeen) (r : DriverNo) (e : Entry) → Adds line (actors.Driver r) e new
    → IsStepAlone {L = L} line (actors.Driver r) (Ok (stepped.Added e)) new
adds_alone line new r e a = record {
  def = a.def;
  answer = a;
  unheard = ap one_run (ends_none line.def (reverse line.entries) r e a.actor);
  lacks_none = λ lack is. cc;
  memory = tt;
}
