-- What is answered of a play that has ended.
use Rattle.std.proofs.Common.{◌≡◌, ℕ, ◌++◌, IsOk, OnOk, Option, List, [], Result, Ok, Err, refl, sym, ◌∙◌, subst}
use Rattle.irq_base.specs.declared.devices.Run.{Run}
use Rattle.irq_base.specs.declared.reporting.LineReport.{LineReport}
use Rattle.irq_io.specs.Faults.{Counts}
use Rattle.irq_line.specs.declared.answers.StepRefused.{StepRefused}
use Rattle.irq_line.specs.declared.answers.StepRefused.TheVariants as refusals
use Rattle.board_core.specs.declared.ends.PlayEnd.{PlayEnd}
use Rattle.board_report.proofs.Writing.{and_then, failed_within}
use Rattle.play_report.specs.Answers.{Answers, AnswersOfSome, HandsOutStep, Prints, TellsOfSome}
use Rattle.play_report.specs.Failing.{is_write_fault}
use Rattle.play_report.specs.declared.failing.PlayFailed.{PlayFailed}
use Rattle.play_report.specs.declared.failing.PlayFailed.TheVariants as fails

-- a play that came to an end
pub came_to : (ended : Result PlayEnd StepRefused) (e : PlayEnd) → Ok e ≡ ended → IsOk ended
came_to ended e is = subst (λ (r : Result PlayEnd StepRefused). IsOk r) is refl

-- ---- one printing after another

-- the text of a play that came to this end, and a further text
pub prints_more : (text more : List ℕ) (ended : Result PlayEnd StepRefused) (a b c : Option (List ℕ)) (e : PlayEnd) (end : Result PlayEnd PlayFailed)
    → Prints text ended a b (Ok e) → Prints more (Ok e) b c end → Prints (text ++ more) ended a c end
prints_more text more ended a b c e (Ok f) p q = (p.0 ∙ q.0, and_then a b c text more (Ok tt) p.1 q.1)
prints_more text more ended a b c e (Err (fails.Write failed)) p q =
    (came_to ended e (sym p.0), and_then a b c text more (Err failed) p.1 q.1)
prints_more text more ended a b c e (Err (fails.Step refused)) p q = cc
prints_more text more ended a b c e (Err fails.NoMemory) p q = absurd q

-- what failed within a part failed within the whole
pub prints_part : (text more : List ℕ) (ended : Result PlayEnd StepRefused) (a b : Option (List ℕ)) (failed : PlayFailed)
    → Prints text ended a b (Err failed) → Prints (text ++ more) ended a b (Err failed)
prints_part text more ended a b (fails.Write failed) p = (p.0, failed_within a b text more failed p.1)
prints_part text more ended a b (fails.Step refused) p = p
prints_part text more ended a b fails.NoMemory p = absurd p

-- ---- what the reports hand out

-- the end that a play came to
pub some_end : (ended : Result PlayEnd StepRefused) → IsOk ended → (e : PlayEnd) × (ended ≡ Ok e)
some_end (Ok e) ok = (e, refl)
some_end (Err refused) ok = absurd cc

module _ (text : List ℕ) (HandsOut : Result PlayEnd StepRefused → List LineReport → Type 0) where
  -- a play that was printed, if it came to its end, and handed out
  pub printed : (ended : Result PlayEnd StepRefused) (reports : List LineReport) (before now : Option (List ℕ)) (end : Result PlayEnd PlayFailed)
      → Prints text ended before now end → HandsOut ended reports → Answers text HandsOut reports before now end
  printed ended reports before now (Ok end) p h =
      record { handed_out = subst (λ (e : Result PlayEnd StepRefused). HandsOut e reports) p.0 h; prints = p.1 }
  printed ended reports before now (Err (fails.Write failed)) p h =
      let e = some_end ended p.0 in
      (e.0, record { handed_out = subst (λ (r : Result PlayEnd StepRefused). HandsOut r reports) e.1 h; prints = p.1 })
  printed ended reports before now (Err (fails.Step refused)) p h = subst (λ (e : Result PlayEnd StepRefused). HandsOut e reports) p h
  printed ended reports before now (Err fails.NoMemory) p h = absurd p

-- the same of another that prints the same, and hands out as much
pub answers_as : (text other : List ℕ) (HandsOut Others : Result PlayEnd StepRefused → List LineReport → Type 0) → text ≡ other
    → ((ended : Result PlayEnd StepRefused) (reports : List LineReport) → HandsOut ended reports → Others ended reports)
    → (reports : List LineReport) (before now : Option (List ℕ)) (end : Result PlayEnd PlayFailed)
    → Answers text HandsOut reports before now end → Answers other Others reports before now end
answers_as text other HandsOut Others same more reports before now end h =
    subst (λ (t : List ℕ). Answers t Others reports before now end) same (by_end end h)
  where
    by_end : (end : Result PlayEnd PlayFailed) → Answers text HandsOut reports before now end → Answers text Others reports before now end
    by_end (Ok e) h = record { handed_out = more (Ok e) reports h.handed_out; prints = h.prints }
    by_end (Err (fails.Write failed)) h = (h.0, record { handed_out = more (Ok h.0) reports h.1.handed_out; prints = h.1.prints })
    by_end (Err (fails.Step refused)) h = more (Err refused) reports h
    by_end (Err fails.NoMemory) h = h

module _ {E : Type 0} (text : List E → List ℕ) (HandsOut : List E → Result PlayEnd StepRefused → List LineReport → Type 0) (runs : List E → List Run)
    (heard : List Run → Type 0) where
  -- a play with this log is one with some log
  pub of_some : (log : List E) (reports : List LineReport) (before now : Option (List ℕ)) (end : Result PlayEnd PlayFailed)
      → Answers (text log) (HandsOut log) reports before now end → heard (runs log) → AnswersOfSome text HandsOut runs heard reports before now end
  of_some log reports before now (Ok e) h called = (log, h, called)
  of_some log reports before now (Err (fails.Write failed)) h called = (log, h, called)
  of_some log reports before now (Err (fails.Step refused)) h called = (log, h, called)
  of_some log reports before now (Err fails.NoMemory) h called = absurd h

  -- there was no play
  pub of_none : (reports : List LineReport) (before now : Option (List ℕ)) (end : Result PlayEnd PlayFailed)
      → end ≡ Err fails.NoMemory → reports ≡ [] → heard [] → AnswersOfSome text HandsOut runs heard reports before now end
  of_none reports before now end is none uncalled =
      subst (λ (e : Result PlayEnd PlayFailed). AnswersOfSome text HandsOut runs heard reports before now e) (sym is) (none, uncalled)

-- ---- which step was refused memory

module _ (HandsOut : Result PlayEnd StepRefused → List LineReport → Type 0) (Step : List LineReport → Type 0) where
  pub with_step : (ended : Result PlayEnd StepRefused) (reports : List LineReport) → HandsOut ended reports
      → (ended ≡ Err refusals.NoMemory → Step reports) → HandsOutStep HandsOut Step ended reports
  with_step (Ok e) reports h step = h
  with_step (Err (refusals.Full line len)) reports h step = h
  with_step (Err refusals.NoMemory) reports h step = (h, step refl)

  pub without_step : (ended : Result PlayEnd StepRefused) (reports : List LineReport) → HandsOutStep HandsOut Step ended reports → HandsOut ended reports
  without_step (Ok e) reports h = h
  without_step (Err (refusals.Full line len)) reports h = h
  without_step (Err refusals.NoMemory) reports h = h.0

module _ {E : Type 0} (Cut Step : List E → List LineReport → Type 0) where
  -- what is handed out tells of the step
  pub tells_step : (text : List ℕ) (HandsOut : Result PlayEnd StepRefused → List LineReport → Type 0) (log : List E)
      → ((reports : List LineReport) → HandsOut (Err refusals.NoMemory) reports → Cut log reports × Step log reports)
      → (reports : List LineReport) (before now : Option (List ℕ)) (end : Result PlayEnd PlayFailed)
      → Answers text HandsOut reports before now end → TellsOfSome Cut Step reports end
  tells_step text HandsOut log tells reports before now (Ok e) h = tt
  tells_step text HandsOut log tells reports before now (Err (fails.Write failed)) h = tt
  tells_step text HandsOut log tells reports before now (Err (fails.Step (refusals.Full line len))) h = tt
  tells_step text HandsOut log tells reports before now (Err (fails.Step refusals.NoMemory)) h =
      let told = tells reports h in
      (log, told.0, told.1)
  tells_step text HandsOut log tells reports before now (Err fails.NoMemory) h = tt

  -- where there was no play, there is nothing to tell
  pub tells_none : (reports : List LineReport) (end : Result PlayEnd PlayFailed) → end ≡ Err fails.NoMemory → TellsOfSome Cut Step reports end
  tells_none reports end is = subst (λ (e : Result PlayEnd PlayFailed). TellsOfSome Cut Step reports e) (sym is) tt

-- ---- a play that was refused memory before its first step

module _ (end : Result PlayEnd PlayFailed) (is : end ≡ Err fails.NoMemory) where
  pub not_done : (P : Type 0) → OnOk end P
  not_done P = subst (λ (e : Result PlayEnd PlayFailed). OnOk e P) (sym is) tt

  pub no_fault : (faults : ℕ) → Counts faults faults (is_write_fault end)
  no_fault faults = subst (λ (e : Result PlayEnd PlayFailed). Counts faults faults (is_write_fault e)) (sym is) refl
