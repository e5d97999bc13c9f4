-- A step of a sleep is some actor's move, so its entry is due.
use Rattle.std.proofs.Common.{◌≡◌, Bool, true, false, cond, Option, Some, None, List, ◌++◌, refl, sym, ap, ◌∙◌, subst, inl, inr}
use Rattle.irq_base.specs.declared.entries.Actor.{Actor}
use Rattle.irq_base.specs.declared.entries.Actor.TheVariants as actors
use Rattle.irq_base.specs.declared.numbers.LineNo.{LineNo}
use Rattle.board_def.specs.Seen.{BoardSeen}
use Rattle.board_driver.specs.Longer.{last_driver}
use Rattle.board_play.specs.Lines.{BoardLine, Move, lines_of}
use Rattle.board_play.specs.Order.{actors_of, cpus_of, threads_of}
use Rattle.board_play.specs.Play.{first_move, or_move}
use Rattle.board_play.proofs.Moves.{IsActors, moves_on}
use Rattle.play_report.proofs.Scenario.{IsOn, MovesDue}
use Rattle.irq_pm.specs.Phases.{Next, Phase, Picking, Disabling, Asleep, Enabling, Going, ask_move, disabling, due_of as call_due, going}
use Rattle.irq_pm.specs.Phases.{inner_move, is_disable_due, last_move, or_next, picked, sleep_next, sleep_order, sleeping, step_in}
use Rattle.irq_pm.specs.SleepLog.{moves_of, told}
use Rattle.irq_pm.specs.Waking.{woken_by}
use Rattle.irq_pm.specs.declared.entries.SleepEntry.{SleepEntry}
use Rattle.irq_pm.specs.declared.entries.SleepEntry.TheVariants as sleeps
use Rattle.irq_pm.proofs.Order.{ask_is, either_move, either_next, first_is, of_mark, of_step, pick_is}
use Rattle.irq_pm.proofs.Through.{moves_are}

none_is_some : (m : Move) → ◌≡◌ {A = Option Move} None (Some m) → ⊥
none_is_some m is = cc

module _ (b : BoardSeen) (lines : List BoardLine) (m : Move) where
  -- a mark is no move
  of_no_mark : (mark e : SleepEntry) (phase after : Phase) → told mark ≡ None
      → ◌≡◌ {A = Option Next} (Some (mark, phase)) (Some (e, after)) → told e ≡ Some m → IsActors b lines m
  of_no_mark mark e phase after none is tells =
      absurd (none_is_some m (sym (ap (λ (x : SleepEntry). told x) (of_mark mark phase e after is).0 ∙ none) ∙ tells))

  its_move : (o : Option Move) (e : SleepEntry) (phase after : Phase) → step_in phase o ≡ Some (e, after) → told e ≡ Some m → o ≡ Some m
  its_move o e phase after is tells =
      let s = of_step phase o e after is in
      s.is ∙ (sym (ap (λ (x : SleepEntry). told x) s.step) ∙ tells)

  of_first : (all : List Actor) → first_move b lines all ≡ Some m → IsActors b lines m
  of_first all is = let f = first_is b lines all m is in record { actor = f.actor; moves = f.moves }

  of_last : last_move b lines ≡ Some m → IsActors b lines m
  of_last is = record { actor = actors.Driver last_driver; moves = is }

  of_ask : ask_move b lines ≡ Some m → IsActors b lines m
  of_ask is = let a = ask_is b lines b.drivers m is in record { actor = actors.Driver a.driver; moves = a.moves }

  of_disabling : (e : SleepEntry) (after : Phase) → disabling b lines ≡ Some (e, after) → told e ≡ Some m → IsActors b lines m
  of_disabling e after next tells = by_test (is_disable_due (call_due b lines last_driver)) next
    where
      by_test : (t : Bool) → cond t (step_in Disabling (or_move (last_move b lines) (inner_move b lines)))
          (Some (sleeps.Asleep, Asleep)) ≡ Some (e, after) → IsActors b lines m
      by_test true next =
          elim (either_move (last_move b lines) (inner_move b lines) m
          (its_move (or_move (last_move b lines) (inner_move b lines)) e Disabling after next tells)) [
            | inl own ↦ of_last own
            | inr inner ↦ of_first (threads_of b ++ cpus_of b) inner.1
          ]
      by_test false next = of_no_mark sleeps.Asleep e Asleep after refl next tells

  of_sleeping : (woken : Option LineNo) (e : SleepEntry) (after : Phase) → sleeping woken b lines ≡ Some (e, after) → told e ≡ Some m → IsActors b lines m
  of_sleeping (Some line) e after next tells = of_no_mark (sleeps.Wake (Some line)) e Enabling after refl next tells
  of_sleeping None e after next tells =
      elim (either_next (step_in Asleep (or_move (inner_move b lines) (ask_move b lines))) (Some (sleeps.Wake None, Enabling)) (e, after) next) [
        | inl step ↦
            elim (either_move (inner_move b lines) (ask_move b lines) m
            (its_move (or_move (inner_move b lines) (ask_move b lines)) e Asleep after step tells)) [
              | inl inner ↦ of_first (threads_of b ++ cpus_of b) inner
              | inr ask ↦ of_ask ask.1
            ]
        | inr mark ↦ of_no_mark (sleeps.Wake None) e Enabling after refl mark.1 tells
      ]

  of_going : (e : SleepEntry) (after : Phase) → going b lines ≡ Some (e, after) → told e ≡ Some m → IsActors b lines m
  of_going e after next tells = of_first (actors_of b) (its_move (first_move b lines (actors_of b)) e Going after next tells)

  of_picking : (picks : List Actor) (e : SleepEntry) (after : Phase) → or_next (picked b lines picks) (disabling b lines) ≡ Some (e, after)
      → told e ≡ Some m → IsActors b lines m
  of_picking picks e after next tells =
      elim (either_next (picked b lines picks) (disabling b lines) (e, after) next) [
        | inl pick ↦
            let p = pick_is b lines picks e after pick in
            record { actor = p.actor; moves = p.moves ∙ (sym (ap (λ (x : SleepEntry). told x) p.step) ∙ tells) }
        | inr rest ↦ of_disabling e after rest.1 tells
      ]

  of_enabling : (e : SleepEntry) (after : Phase) → or_next (step_in Enabling (last_move b lines)) (going b lines) ≡ Some (e, after)
      → told e ≡ Some m → IsActors b lines m
  of_enabling e after next tells =
      elim (either_next (step_in Enabling (last_move b lines)) (going b lines) (e, after) next) [
        | inl own ↦ of_last (its_move (last_move b lines) e Enabling after own tells)
        | inr rest ↦ of_going e after rest.1 tells
      ]

-- whose move the next step is
pub mover : (b : BoardSeen) (armed : List LineNo) (g : List Move) (phase : Phase) (e : SleepEntry) (after : Phase) (m : Move)
    → sleep_next b armed g phase ≡ Some (e, after) → told e ≡ Some m → IsActors b (lines_of b g) m
mover b armed g (Picking picks) e after m next tells = of_picking b (lines_of b g) m picks e after next tells
mover b armed g Disabling e after m next tells = of_disabling b (lines_of b g) m e after next tells
mover b armed g Asleep e after m next tells = of_sleeping b (lines_of b g) m (woken_by armed g) e after next tells
mover b armed g Enabling e after m next tells = of_enabling b (lines_of b g) m e after next tells
mover b armed g Going e after m next tells = of_going b (lines_of b g) m e after next tells

-- a next step that moves a line is an entry that is due on it
pub moves_due : (b : BoardSeen) (armed : List LineNo) → MovesDue b (sleep_order b armed)
moves_due b armed g at after e m next tells =
    subst (λ (ms : List Move). IsOn (lines_of b ms) m.0 m.1) (sym (moves_are b armed g))
    (let a = mover b armed (moves_of g) at e after m next tells in
    let on = moves_on b (lines_of b (moves_of g)) a.actor m a.moves in
    record { actor = a.actor; of = on.line; place = on.place; at = on.at; number = sym on.number; due = on.due })
