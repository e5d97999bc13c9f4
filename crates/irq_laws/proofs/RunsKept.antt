-- Each entry keeps: a handler is at work exactly if it was called and hasn't returned; it was
-- called in the current round of the flow.
use Rattle.std.proofs.Common.{◌≡◌, ◌⊎◌, inl, inr, Bool, true, false, not, ◌||◌, cond, Some, is_some, List, [], ◌∷◌, refl, sym, ap, ◌∙◌, subst}
use Rattle.std.proofs.lemmas.Bool.{and_parts, or_cases, or_left}
use Rattle.irq_base.specs.declared.numbers.DevNo.{DevNo}
use Rattle.irq_base.specs.declared.lines.LineDef.{LineDef}
use Rattle.irq_base.specs.declared.entries.Entry.{Entry}
use Rattle.irq_base.specs.declared.entries.Entry.TheVariants as by
use Rattle.irq_base.specs.declared.entries.CpuEntry.TheVariants as cpus
use Rattle.irq_base.specs.declared.entries.TakeAnswer.TheVariants as takes
use Rattle.irq_model.specs.Kinds.{same_dev}
use Rattle.irq_model.specs.Rounds.{flow, has_flow, has_begun, at_work}
use Rattle.irq_model.specs.Links.{is_disabled, is_none_linked}
use Rattle.irq_model.specs.Next.{take_answer}
use Rattle.irq_model.specs.Reason.{is_called}
use Rattle.irq_model.specs.Legal.{IsDue}
use Rattle.irq_model.proofs.Same.{same_self, dev_from_same}
use Rattle.irq_model.proofs.RoundSteps.{flow_quiet}
use Rattle.irq_laws.specs.Kept.{KeepsRuns}
use Rattle.irq_laws.proofs.Chosen.{the_same}
use Rattle.irq_laws.proofs.Lists.{both_ways, differs_dev}
use Rattle.irq_laws.proofs.ImpliesFlow.{take_due, begin_due, return_due, end_due, has_a_flow}

-- what a take's answer tells
pub not_busy : (f o : Bool) → takes.Handle ≡ cond f takes.Busy (cond o takes.Off takes.Handle) → (f ≡ false) × (o ≡ false)
not_busy true o h = cc
not_busy false true h = cc
not_busy false false h = (refl, refl)

pub handle_idle : (def : LineDef) (past : List Entry) → takes.Handle ≡ take_answer def past
    → (has_flow def past ≡ false) × ((is_disabled past || is_none_linked past) ≡ false)
handle_idle def past h = not_busy (has_flow def past) (is_disabled past || is_none_linked past) h

called_more : (def : LineDef) (e : Entry) (past : List Entry) → IsDue def e past → KeepsRuns def past → (d : DevNo)
    → is_called (e ∷ past) d ≡ true → at_work (e ∷ past) ≡ Some d
called_more def (by.Cpu c (cpus.Begin x)) past due k d h = by_case (or_cases (same_dev d x) (is_called past d) h)
  where
    by_case : (same_dev d x ≡ true) ⊎ (is_called past d ≡ true) → Some x ≡ Some d
    by_case (inl same) = ap Some (sym (dev_from_same d x same))
    by_case (inr was) = let a = k.called d was in let b = (begin_due def c x past due).none_at_work in cc
called_more def (by.Cpu c (cpus.Return answer x served)) past due k d h =
    let parts = and_parts (not (same_dev d x)) (is_called past d) h in
    let a = k.called d parts.1 in
    let b = (return_due def c x answer served past due).is_at_work in
    differs_dev d x (the_same d x (sym a ∙ b)) parts.0
called_more def e past due k d h = k.called d h

stays : (def : LineDef) (e : Entry) (past : List Entry) → flow def (e ∷ past) ≡ flow def past → has_flow def past ≡ true → has_flow def (e ∷ past) ≡ true
stays def e past same h = ap is_some same ∙ h

working_more : (def : LineDef) (e : Entry) (past : List Entry) → IsDue def e past → KeepsRuns def past → (d : DevNo)
    → at_work (e ∷ past) ≡ Some d → (is_called (e ∷ past) d ≡ true) × (has_flow def (e ∷ past) ≡ true)
    × (has_begun def (e ∷ past) d ≡ true)
working_more def (by.Cpu c (cpus.Begin x)) past due k d h =
    let same : same_dev d x ≡ true = subst (λ (y : DevNo). same_dev d y ≡ true) (sym (the_same x d h)) (same_self d) in
    let f = has_a_flow c (flow def past) (begin_due def c x past due).of_flow in (
      or_left (same_dev d x) (is_called past d) same,
      stays def (by.Cpu c (cpus.Begin x)) past
          (flow_quiet def (by.Cpu c (cpus.Begin x)) past refl refl refl) f,
      or_left (same_dev d x) (has_begun def past d) same,
    )
working_more def (by.Cpu c (cpus.Return answer x served)) past due k d h = cc
working_more def (by.Cpu c (cpus.Take way takes.Handle)) past due k d h =
    both_ways (has_flow def past) (k.working d h).1 (handle_idle def past (take_due def c way takes.Handle past due).answer_is).0
working_more def (by.Cpu c (cpus.End again unmask note)) past due k d h = let a = (end_due def c again unmask note past due).none_at_work in cc
working_more def e past due k d h = let w = k.working d h in (w.0, stays def e past (flow_quiet def e past refl refl refl) w.1, w.2)

pub runs_more : (def : LineDef) (e : Entry) (past : List Entry) → IsDue def e past → KeepsRuns def past → KeepsRuns def (e ∷ past)
runs_more def e past due k = record { called = called_more def e past due k; working = working_more def e past due k }

pub no_runs : (def : LineDef) → KeepsRuns def []
no_runs def = record { called = λ d h. cc; working = λ d h. cc }
