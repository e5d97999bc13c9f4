-- For which step of a sleep memory was refused.
use Rattle.std.proofs.Common.{◌≡◌, ℕ, ◌<◌, Bool, IsSome, Option, Some, Result, Ok, Err, List, ◌++◌, length}
use Rattle.std.proofs.Common.{drop, get_or, reverse, sym, ap, ◌∙◌, subst}
use Rattle.std.proofs.lemmas.List.{length-reverse}
use Rattle.irq_base.specs.declared.entries.Actor.{Actor}
use Rattle.irq_base.specs.declared.entries.Entry.{Entry}
use Rattle.irq_line.specs.declared.answers.StepRefused.{StepRefused}
use Rattle.irq_line.specs.declared.answers.StepRefused.TheVariants as refusals
use Rattle.board_play.specs.Lines.{BoardLine, Move, lines_of}
use Rattle.board_play.specs.Order.{actors_of, cpus_of, due_move, line_for, threads_of}
use Rattle.board_play.specs.Play.{first_move, or_move}
use Rattle.board_core.specs.Firsts.{IsFirstOf}
use Rattle.board_core.specs.Seen.{SystemSeen, board_lines}
use Rattle.board_core.specs.Turns.{CanMove, Turns, TurnsBy, lowest_move, move_of}
use Rattle.board_core.specs.Wanted.{HasSpare, LowestWants, WantedMemory, Wants}
use Rattle.board_core.proofs.Wanting.{may_move}
use Rattle.irq_pm.specs.Phases.{Phase, Picking, sleep_next}
use Rattle.irq_pm.specs.SleepLog.{moves_of}
use Rattle.irq_pm.proofs.Order.{step_of}
use Rattle.irq_sleeper.specs.Seen.{SleeperSeen, log_of}
use Rattle.irq_sleeper.specs.Steps.{GoesTo, IsUnderway, StepsBy, inner_of}
use Rattle.irq_sleeper.specs.Wanted.{PlayWants, StepWants, WantsDue}
use Rattle.irq_sleeper.proofs.Phased.{SleepStep, picked_step}
use Rattle.irq_sleeper.proofs.Underway.{inner_some}

module _ (may_want : Option Entry → Type 0) where
  -- ---- a turn that was refused

  pub step_wants : (s new : SystemSeen) (a : Actor) (refused : StepRefused) → Turns s a (Err refused) new → Wants may_want s a (Err refused)
      → StepWants may_want s (move_of s a) (Err refused)
  step_wants s new a (refusals.Full line len) by wants = tt
  step_wants s new a refusals.NoMemory by wants = record { actor = a; can = by.0.actor; its = λ m due. due; step = wants }

  pub lowest_wants : (s new : SystemSeen) (refused : StepRefused) → TurnsBy s (lowest_move s) (Err refused) new
      → LowestWants may_want s (Err refused) → StepWants may_want s (lowest_move s) (Err refused)
  lowest_wants s new (refusals.Full line len) by wants = tt
  lowest_wants s new refusals.NoMemory by wants = record {
    actor = wants.actor;
    can = may_move may_want s wants.actor (subst (λ (o : Option Move). IsSome o) wants.lowest by.0);
    its = λ m due. wants.lowest ∙ due;
    step = wants.step;
  }

  -- ---- whose move was due

  -- the same, where a move is due if the other is
  by_due : (s : SystemSeen) (due more : Option Move) (r : Result Bool StepRefused) → ((m : Move) → due ≡ Some m → more ≡ Some m)
      → StepWants may_want s due r → StepWants may_want s more r
  by_due s due more (Ok b) same wants = tt
  by_due s due more (Err (refusals.Full line len)) same wants = tt
  by_due s due more (Err refusals.NoMemory) same wants =
      record { actor = wants.actor; can = wants.can; its = λ m is. same m (wants.its m is); step = wants.step }

  -- the first of two that may be due
  pub either_wants : (s : SystemSeen) (due other : Option Move) (r : Result Bool StepRefused) → StepWants may_want s due r
      → StepWants may_want s (or_move due other) r
  either_wants s due other r wants = by_due s due (or_move due other) r (λ m is. ap (λ (o : Option Move). or_move o other) is) wants

  -- of the lowest thread or processor
  pub inner_wants : (s : SystemSeen) (a : Actor) (r : Result Bool StepRefused) → IsFirstOf s (threads_of s.board ++ cpus_of s.board) (Some a)
      → StepWants may_want s (move_of s a) r → StepWants may_want s (inner_of s) r
  inner_wants s a r first wants = by_due s (move_of s a) (inner_of s) r (λ m due. inner_some s a first ∙ due) wants

  -- ---- a sleep

  wants_next : (old new : SleeperSeen) (picks : List Actor) (at after : Phase) (due : Option Move) → IsUnderway old picks at
      → StepsBy old due (Err refusals.NoMemory) new → ((x : Move) → due ≡ Some x
      → sleep_next old.system.board old.watch.armed (reverse old.system.log) at ≡ Some (step_of x, after)) → WantsDue may_want old.system due
      → PlayWants may_want new picks (Err refusals.NoMemory)
  wants_next old new picks at after due u steps next wants =
      let b = old.system.board in
      let told : reverse old.system.log ≡ moves_of (reverse (log_of old)) = sym u.told.told in
      let lines : board_lines old.system.lines ≡ lines_of b (moves_of (reverse (log_of old))) = u.told.lines ∙ ap (λ (g : List Move). lines_of b g) told in
      subst (λ (s : SleeperSeen). PlayWants may_want s picks (Err refusals.NoMemory)) (sym steps.1)
      (record {
        at = u.phase;
        so_far = u.made;
        some = subst (λ (ls : List BoardLine). IsSome (first_move b ls (actors_of b))) lines steps.0;
        actor = wants.actor;
        can = subst (λ (ls : List BoardLine). CanMove b ls wants.actor) lines wants.can;
        next = λ m is. (
          after,
          ap (λ (h : List Move). sleep_next b old.watch.armed h u.phase) u.told.told
              ∙ (u.next ∙ next m (wants.its m (ap (λ (ls : List BoardLine). due_move b ls wants.actor) lines ∙ is))),
        );
        step = subst (λ (n : ℕ). WantedMemory may_want (HasSpare old.system.lines) n
            (line_for b (lines_of b (moves_of (reverse (log_of old)))) wants.actor) wants.actor)
            (sym (ap (λ (g : List Move). length g) u.told.told ∙ length-reverse old.system.log))
            (subst (λ (ls : List BoardLine). WantedMemory may_want (HasSpare old.system.lines) (length old.system.log)
            (line_for b ls wants.actor) wants.actor) lines wants.step);
      })

  -- a step that ends the sleep
  pub stop_wants : {first old new : SleeperSeen} {picks : List Actor} {at after : Phase} {r : Result Bool StepRefused}
      (s : SleepStep first old new picks at after r) {refused : StepRefused} → r ≡ Err refused → StepWants may_want old.system s.due r
      → PlayWants may_want new picks (Err refused)
  stop_wants {first} {old} {new} {picks} {at} {after} {r} s {refused} is wants = by_refusal refused is
    where
      by_refusal : (refused : StepRefused) → r ≡ Err refused → PlayWants may_want new picks (Err refused)
      by_refusal (refusals.Full line len) is = tt
      by_refusal refusals.NoMemory is =
          wants_next old new picks at after s.due s.goes.1 (subst (λ (x : Result Bool StepRefused). StepsBy old s.due x new) is s.steps) s.next
          (subst (λ (x : Result Bool StepRefused). StepWants may_want old.system s.due x) is wants)

  pub pick_wants : {first : SleeperSeen} (old new : SleeperSeen) {picks : List Actor} {i : ℕ} (d : Actor) (within : i < length picks)
      (u : GoesTo first old picks (Picking (drop i picks))) (r : Result Bool StepRefused)
      (steps : StepsBy old (move_of old.system (get_or picks i d)) r new) {refused : StepRefused} → r ≡ Err refused
      → StepWants may_want old.system (move_of old.system (get_or picks i d)) r → PlayWants may_want new picks (Err refused)
  pick_wants old new d within u r steps is wants = stop_wants (picked_step {old = old} {new = new} d within u {r = r} steps) is wants
