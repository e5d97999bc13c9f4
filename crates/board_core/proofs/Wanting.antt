-- For which step of a system memory was refused.
use Rattle.std.proofs.Common.{◌≡◌, ℕ, IsSome, Option, Some, List, [], ◌∷◌, length, reverse, slice_get, refl, sym, ◌∙◌, Result, Ok, Err}
use Rattle.std.proofs.Common.{subst, arith}
use Rattle.irq_line.specs.declared.answers.StepRefused.TheVariants as refusals
use Rattle.irq_line.specs.declared.answers.StepRefused.{StepRefused}
use Rattle.irq_base.specs.declared.entries.Actor.{Actor}
use Rattle.irq_base.specs.declared.entries.Actor.TheVariants as actors
use Rattle.irq_base.specs.declared.entries.Entry.{Entry}
use Rattle.board_play.specs.Lines.{BoardLine, Move}
use Rattle.board_play.specs.Order.{due_move, line_for}
use Rattle.board_play.specs.Play.{choice}
use Rattle.board_core.specs.Playing.{IsUnderway}
use Rattle.board_core.specs.Seen.{SystemSeen, board_lines}
use Rattle.board_core.specs.Stands.{IsAt}
use Rattle.board_core.specs.Turns.{CanMove, MayMove, MayWant, lowest_move, move_of}
use Rattle.board_core.specs.Wanted.{EndWants, PlayWants, HasSpare, LowestWants, WantedMemory, Wants, WantsLowest, WantsNext, WantsOn}
use Rattle.board_core.specs.declared.stands.Stand.{Stand}
use Rattle.board_core.specs.declared.turns.Turn.{Turn}
use Rattle.board_core.specs.declared.turns.Turn.TheVariants as turns
use Rattle.board_core.proofs.LowestTurns.{LowestTurn, answered, lowest_next}
use Rattle.board_core.proofs.Underway.{PickTurn, pick, after, pick_next, answered as pick_answered, some_choice, with_move}

module _ (may_want : Option Entry → Type 0) where
  -- where the actor steps
  pub wants_there : (s : SystemSeen) (a : Actor) (stand : Stand) (turn : Result Turn StepRefused) → IsAt s a stand
      → WantsOn may_want s (slice_get (board_lines s.lines) stand.line) a turn → Wants may_want s a turn
  wants_there s a stand turn at wants = subst (λ (o : Option BoardLine). WantsOn may_want s o a turn) at.line.1 wants

  pub lowest_wants : (s : SystemSeen) (a : Actor) (turn : Result Turn StepRefused) → lowest_move s ≡ move_of s a
      → Wants may_want s a turn → LowestWants may_want s turn
  lowest_wants s a (Ok (turns.Moved line e)) lowest wants = tt
  lowest_wants s a (Ok turns.NotYet) lowest wants = tt
  lowest_wants s a (Err (refusals.Full line len)) lowest wants = tt
  lowest_wants s a (Err refusals.NoMemory) lowest wants = record { actor = a; lowest = lowest; step = wants }

  -- the lowest actor's turn ends a settling
  ends_by : {old new : SystemSeen} (t : LowestTurn old new) (by : StepRefused) → t.turn ≡ Err by → LowestWants may_want old t.turn
      → EndWants may_want new (Err by)
  ends_by t (refusals.Full line len) same wants = tt
  ends_by {old} {new} t refusals.NoMemory same wants =
      let refused : IsSome (lowest_move old) × (new ≡ old) = answered t (Err refusals.NoMemory) same in
      subst (λ (s : SystemSeen). WantsLowest may_want s) (sym refused.1) (subst (λ (x : Result Turn StepRefused). LowestWants may_want old x) same wants)

  pub lowest_ends : {old new : SystemSeen} (t : LowestTurn old new) {by : StepRefused} {end : Result Unit StepRefused} → t.turn ≡ Err by
      → end ≡ Err by → LowestWants may_want old t.turn → EndWants may_want new end
  lowest_ends {old} {new} t {by} same is wants =
      subst (λ (e : Result Unit StepRefused). EndWants may_want new e) (sym is) (ends_by t by same wants)

  pub may_move : (s : SystemSeen) (a : Actor) → IsSome (move_of s a) → MayMove s a
  may_move s (actors.Thread d) some = (d, omega arith, refl, some)
  may_move s (actors.Cpu c) some = some
  may_move s (actors.Driver r) some = some

  -- there is a next move, whatever picks are left
  still_some : (s : SystemSeen) (picks rest : List Actor) (u : IsUnderway s picks rest) → IsSome (lowest_move s)
      → IsSome (choice s.board (board_lines s.lines) u.left)
  still_some s picks rest u some = subst (λ (o : Option (Move × List Actor)). IsSome o) (sym u.next) (some_choice s rest some)

  -- the next move as the lines of the moves so far have it
  next_wants : (s : SystemSeen) (picks rest : List Actor) (u : IsUnderway s picks rest) → IsSome (lowest_move s) → (a : Actor)
      → MayMove s a
      → ((m : Move) → move_of s a ≡ Some m → (after : List Actor) × (choice s.board (board_lines s.lines) rest ≡ Some (m, after)))
      → WantedMemory may_want (HasSpare s.lines) (length s.log) (line_for s.board (board_lines s.lines) a) a
      → WantsNext may_want (HasSpare s.lines) s.board picks s.log
  next_wants s picks rest u some a can next step =
      let g = reverse s.log in
      record {
        left = u.left;
        so_far = u.chosen;
        some = subst (λ (ls : List BoardLine). IsSome (choice s.board ls u.left)) u.lines (still_some s picks rest u some);
        actor = a;
        can = subst (λ (ls : List BoardLine). CanMove s.board ls a) u.lines can;
        next = subst (λ (ls : List BoardLine). (m : Move) → due_move s.board ls a ≡ Some m
            → (after : List Actor) × (choice s.board ls u.left ≡ Some (m, after))) u.lines
            (λ m due. ((next m due).0, u.next ∙ (next m due).1));
        step = subst (λ (ls : List BoardLine). WantedMemory may_want (HasSpare s.lines) (length s.log) (line_for s.board ls a) a) u.lines step;
      }

  lowest_ends_by : {old new : SystemSeen} (t : LowestTurn old new) {picks : List Actor} (by : StepRefused) → IsUnderway old picks []
      → t.turn ≡ Err by → LowestWants may_want old t.turn → PlayWants may_want new picks (Err by)
  lowest_ends_by t (refusals.Full line len) u same wants = tt
  lowest_ends_by {old} {new} t {picks} refusals.NoMemory u same wants =
      let refused : IsSome (lowest_move old) × (new ≡ old) = answered t (Err refusals.NoMemory) same in
      let low = subst (λ (x : Result Turn StepRefused). LowestWants may_want old x) same wants in
      subst (λ (s : SystemSeen). WantsNext may_want (HasSpare s.lines) s.board picks s.log) (sym refused.1)
      (next_wants old picks [] u refused.0 low.actor
      (may_move old low.actor (subst (λ (o : Option Move). IsSome o) low.lowest refused.0))
      (λ m due. ([], lowest_next old m (low.lowest ∙ due))) low.step)

  pub lowest_ends_play : {old new : SystemSeen} (t : LowestTurn old new) {picks : List Actor} {by : StepRefused} {end : Result Unit StepRefused}
      → IsUnderway old picks [] → t.turn ≡ Err by → end ≡ Err by → LowestWants may_want old t.turn → PlayWants may_want new picks end
  lowest_ends_play {old} {new} t {picks} {by} u same is wants =
      subst (λ (e : Result Unit StepRefused). PlayWants may_want new picks e) (sym is) (lowest_ends_by t by u same wants)

  -- a pick's turn ends a play
  pick_ends_by : {old new : SystemSeen} {picks : List Actor} {i : ℕ} (t : PickTurn old new picks i) (by : StepRefused) → t.turn ≡ Err by
      → Wants may_want old (pick t) t.turn → PlayWants may_want new picks (Err by)
  pick_ends_by t (refusals.Full line len) same wants = tt
  pick_ends_by {old} {new} {picks} t refusals.NoMemory same wants =
      let refused : MayWant old (pick t) × (new ≡ old) = pick_answered t (Err refusals.NoMemory) same in
      subst (λ (s : SystemSeen). WantsNext may_want (HasSpare s.lines) s.board picks s.log) (sym refused.1)
      (next_wants old picks (pick t ∷ after t) (pick_next t) refused.0.somebody (pick t) refused.0.actor
      (λ m due. (after t, with_move old (pick t) (after t) m due)) (subst (λ (x : Result Turn StepRefused). Wants may_want old (pick t) x) same wants))

  pub pick_ends_play : {old new : SystemSeen} {picks : List Actor} {i : ℕ} (t : PickTurn old new picks i) {by : StepRefused}
      {end : Result Unit StepRefused} → t.turn ≡ Err by → end ≡ Err by → Wants may_want old (pick t) t.turn → PlayWants may_want new picks end
  pick_ends_play {old} {new} {picks} t {by} same is wants =
      subst (λ (e : Result Unit StepRefused). PlayWants may_want new picks e) (sym is) (pick_ends_by t by same wants)
