-- The marks of a sleep: one Asleep, and then one Wake.
use Rattle.std.proofs.Common.{◌≡◌, inl, inr, Bool, true, false, cond, Option, Some, None, List, [], ◌∷◌, ◌++◌, refl, sym, ap, ◌∙◌, subst}
use Rattle.irq_base.specs.declared.entries.Actor.{Actor}
use Rattle.irq_base.specs.declared.numbers.LineNo.{LineNo}
use Rattle.board_def.specs.Rules.{IsBoard, has_driver}
use Rattle.board_def.specs.Seen.{BoardSeen}
use Rattle.board_driver.specs.Longer.{last_driver}
use Rattle.board_play.specs.Kept.{AreKept}
use Rattle.board_play.specs.Lines.{BoardLine, Move, lines_of}
use Rattle.board_play.specs.Order.{actors_of}
use Rattle.board_play.specs.Play.{Done, first_move, or_move}
use Rattle.board_play.specs.Orders.{IsMade}
use Rattle.irq_pm.specs.Marked.{AreMoves, HasWoken, SleptOnce}
use Rattle.irq_pm.specs.Phases.{Phase, Picking, Disabling, Asleep, Enabling, Going, ask_move, disabling, due_of, going, inner_move}
use Rattle.irq_pm.specs.Phases.{is_disable_due, last_move, picked, sleep_next, sleep_order, sleeping, step_in}
use Rattle.irq_pm.specs.SleepLog.{moves_of}
use Rattle.irq_pm.specs.Slept.{Sleeps}
use Rattle.irq_pm.specs.SleptBoard.{are_runs_calm, slept}
use Rattle.irq_pm.specs.Waking.{woken_by}
use Rattle.irq_pm.specs.declared.entries.SleepEntry.{SleepEntry}
use Rattle.irq_pm.specs.declared.entries.SleepEntry.TheVariants as sleeps
use Rattle.irq_pm.proofs.Order.{either_next, neither_next, of_mark, of_step, pick_is, step_of}
use Rattle.irq_pm.proofs.Through.{some_next, state, stuck}

-- the machine has fallen asleep once, and not woken
record FellAsleep (g : List SleepEntry) : Type 0 where
  before : List SleepEntry
  since : List SleepEntry
  is : g ≡ since ++ sleeps.Asleep ∷ before
  moves_before : AreMoves before
  moves_since : AreMoves since

-- the marks so far, by the phase
abbrev HasMarks : Phase → List SleepEntry → Type 0
HasMarks (Picking picks) g = AreMoves g
HasMarks Disabling g = AreMoves g
HasMarks Asleep g = FellAsleep g
HasMarks Enabling g = SleptOnce g
HasMarks Going g = SleptOnce g

slept_more : (m : Move) (g : List SleepEntry) → SleptOnce g → SleptOnce (step_of m ∷ g)
slept_more m g s = record {
  before = s.before;
  asleep = s.asleep;
  line = s.line;
  awake = step_of m ∷ s.awake;
  is = ap (λ (h : List SleepEntry). step_of m ∷ h) s.is;
  moves_before = s.moves_before;
  moves_asleep = s.moves_asleep;
  moves_awake = (refl, s.moves_awake);
}

module _ (b : BoardSeen) (armed : List LineNo) (g : List SleepEntry) where
  abbrev lines : List BoardLine
  lines = lines_of b (moves_of g)

  -- a move, in the phase after it
  moves_on : (phase : Phase) (o : Option Move) (e : SleepEntry) (after : Phase) → ((m : Move) → HasMarks phase (step_of m ∷ g))
      → step_in phase o ≡ Some (e, after) → HasMarks after (e ∷ g)
  moves_on phase o e after more next =
      let s = of_step phase o e after next in
      subst (λ (p : Phase). HasMarks p (e ∷ g)) (sym s.goes_to) (subst (λ (x : SleepEntry). HasMarks phase (x ∷ g)) (sym s.step) (more s.move))

  falls : AreMoves g → (e : SleepEntry) (after : Phase) → disabling b lines ≡ Some (e, after) → HasMarks after (e ∷ g)
  falls moves e after next = by_test (is_disable_due (due_of b lines last_driver)) next
    where
      by_test : (t : Bool) → cond t (step_in Disabling (or_move (last_move b lines) (inner_move b lines)))
          (Some (sleeps.Asleep, Asleep)) ≡ Some (e, after) → HasMarks after (e ∷ g)
      by_test true next = moves_on Disabling (or_move (last_move b lines) (inner_move b lines)) e after (λ m. (refl, moves)) next
      by_test false next =
          let m = of_mark sleeps.Asleep Asleep e after next in
          subst (λ (p : Phase). HasMarks p (e ∷ g)) (sym m.1)
          (record { before = g; since = []; is = ap (λ (x : SleepEntry). x ∷ g) m.0; moves_before = moves; moves_since = tt })

  wakes : FellAsleep g → (line : Option LineNo) (e : SleepEntry) (after : Phase) → (e ≡ sleeps.Wake line) × (after ≡ Enabling) → HasMarks after (e ∷ g)
  wakes f line e after m =
      subst (λ (p : Phase). HasMarks p (e ∷ g)) (sym m.1)
      (record {
        before = f.before;
        asleep = f.since;
        line = line;
        awake = [];
        is = ap (λ (x : SleepEntry). x ∷ g) m.0 ∙ ap (λ (h : List SleepEntry). sleeps.Wake line ∷ h) f.is;
        moves_before = f.moves_before;
        moves_asleep = f.moves_since;
        moves_awake = tt;
      })

  sleeps_on : FellAsleep g → (woken : Option LineNo) (e : SleepEntry) (after : Phase) → sleeping woken b lines ≡ Some (e, after) → HasMarks after (e ∷ g)
  sleeps_on f (Some line) e after next = wakes f (Some line) e after (of_mark (sleeps.Wake (Some line)) Enabling e after next)
  sleeps_on f None e after next = elim (either_next (step_in Asleep (or_move (inner_move b lines) (ask_move b lines)))
      (Some (sleeps.Wake None, Enabling)) (e, after) next) [
        | inl step ↦ moves_on Asleep (or_move (inner_move b lines) (ask_move b lines)) e after
            (λ m. record {
              before = f.before;
              since = step_of m ∷ f.since;
              is = ap (λ (h : List SleepEntry). step_of m ∷ h) f.is;
              moves_before = f.moves_before;
              moves_since = (refl, f.moves_since);
            }) step
        | inr mark ↦ wakes f None e after (of_mark (sleeps.Wake None) Enabling e after mark.1)
      ]

  goes : SleptOnce g → (e : SleepEntry) (after : Phase) → going b lines ≡ Some (e, after) → HasMarks after (e ∷ g)
  goes s e after next = moves_on Going (first_move b lines (actors_of b)) e after (λ m. slept_more m g s) next

  marks_more : (at : Phase) (e : SleepEntry) (after : Phase) → HasMarks at g → sleep_next b armed (moves_of g) at ≡ Some (e, after) → HasMarks after (e ∷ g)
  marks_more (Picking picks) e after moves next = elim (either_next (picked b lines picks) (disabling b lines) (e, after) next) [
    | inl pick ↦
        let p = pick_is b lines picks e after pick in
        subst (λ (q : Phase). HasMarks q (e ∷ g)) (sym p.goes_to)
        (subst (λ (x : SleepEntry). AreMoves (x ∷ g)) (sym p.step) (refl, moves))
    | inr rest ↦ falls moves e after rest.1
  ]
  marks_more Disabling e after moves next = falls moves e after next
  marks_more Asleep e after f next = sleeps_on f (woken_by armed (moves_of g)) e after next
  marks_more Enabling e after s next = elim (either_next (step_in Enabling (last_move b lines)) (going b lines) (e, after) next) [
    | inl step ↦ moves_on Enabling (last_move b lines) e after (λ m. slept_more m g s) step
    | inr rest ↦ goes s e after rest.1
  ]
  marks_more Going e after s next = goes s e after next

marks_made : (b : BoardSeen) (armed : List LineNo) (picks : List Actor) (g : List SleepEntry) (at : Phase)
    → IsMade (sleep_order b armed) (Picking picks) g at → HasMarks at g
marks_made b armed picks [] at made = subst (λ (p : Phase). HasMarks p []) (sym made) tt
marks_made b armed picks (e ∷ g) at made = marks_more b armed g made.0 e at (marks_made b armed picks g made.0 made.1) made.2

-- ---- a sleep that is done

module _ (b : BoardSeen) (armed : List LineNo) (g : List SleepEntry) (is : IsBoard b) (long : IsBoard (slept b))
    (free : has_driver b.drivers last_driver ≡ false) (played : Sleeps (slept b) armed b.picks g Done) where
  pub has_woken : are_runs_calm b ≡ true → HasWoken played.0
  has_woken calm = by_phase played.0 (state b is long free armed g played.0 played.1).kept played.2
    where
      now : List BoardLine
      now = lines_of (slept b) (moves_of g)

      by_phase : (at : Phase) → AreKept (slept b) (lines_of (slept b) (moves_of g)) → sleep_next (slept b) armed (moves_of g) at ≡ None → HasWoken at
      by_phase (Picking picks) k none = absurd (stuck b is long free armed calm now k
          (neither_next (picked (slept b) now picks) (disabling (slept b) now) none).1)
      by_phase Disabling k none = absurd (stuck b is long free armed calm now k none)
      by_phase Asleep k none = absurd (some_next b is long free armed (woken_by armed (moves_of g)) now none)
      by_phase Enabling k none = tt
      by_phase Going k none = tt

  pub slept_once : are_runs_calm b ≡ true → SleptOnce g
  slept_once calm = by_phase played.0 (has_woken calm) (marks_made (slept b) armed b.picks g played.0 played.1)
    where
      by_phase : (at : Phase) → HasWoken at → HasMarks at g → SleptOnce g
      by_phase (Picking picks) woken marks = absurd woken
      by_phase Disabling woken marks = absurd woken
      by_phase Asleep woken marks = absurd woken
      by_phase Enabling woken marks = marks
      by_phase Going woken marks = marks
