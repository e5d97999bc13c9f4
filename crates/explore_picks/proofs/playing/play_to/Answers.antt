use Rattle.std.proofs.Common.{◌≡◌, ◌+◌, true, false, true≢false, Some, List, take, length, reverse, sym, ap, subst, ◌∙◌, arith, Result, Ok}
use Rattle.std.proofs.lemmas.Bool.{false≢true}
use Rattle.std.proofs.lemmas.Option.{slice_get-get_or}
use Rattle.std.proofs.lemmas.List.{length_push}
use Rattle.irq_base.specs.declared.devices.Run.{Run}
use Rattle.irq_base.specs.declared.entries.Actor.{Actor}
use Rattle.irq_base.specs.declared.numbers.LineNo.{LineNo}
use Rattle.irq_line.specs.declared.answers.StepRefused.{StepRefused}
use Rattle.irq_model.specs.Kinds.{same_line}
use Rattle.irq_model.proofs.Same.{same_self_line}
use Rattle.board_def.specs.Rules.{IsBoard}
use Rattle.board_def.specs.Seen.{BoardSeen}
use Rattle.board_core.specs.Turns.{Moves, Turns, move_of}
use Rattle.board_core.specs.declared.turns.Turn.{Turn}
use Rattle.board_core.specs.declared.turns.Turn.TheVariants as turns
use Rattle.callbacks.specs.Heard.{Heard}
use Rattle.explore_picks.specs.Made.{IsAlone, IsHeardPlay}
use Rattle.explore_picks.proofs.Alone.{turns_next}
use Rattle.explore_picks.proofs.PickedMoves.{heard_after, heard_now, made_here, made_elsewhere, one_more}
use Rattle.explore_picks.proofs.playing.play_to.Given as given
use Rattle.explore_picks.proofs.playing.play_to.Goals as goal
use Rattle.explore_picks.proofs.playing.play_to.Goals.{After-turn_of-mover, In-Ok-Moved}

-- the loop's turn made a move
moved : (g : given.Over) (c : In-Ok-Moved g)
    → Moves c.loop-made.system (move_of c.loop-made.system c.turn_of-mover.result.0) (c.in-Ok-Moved.of, c.in-Ok-Moved.entry) c.turn_of-mover.new.system
moved g c = subst (λ (x : Result Turn StepRefused). Turns c.loop-made.system c.turn_of-mover.result.0 x c.turn_of-mover.new.system)
    (c.in-Ok-Moved.is ∙ ap Ok (rw c.in-Ok-Moved.is at c.in-Ok-Moved.field-0-is)) c.turn_of-mover.ensures.turns

-- after the loop's turn the handlers were called for the runs so far
heard : (g : given.Over) (c : After-turn_of-mover g)
    → IsHeardPlay c.turn_of-mover.new.system.board (λ (runs : List Run). Heard g.H.Handler.hears runs c.args.handlers.now c.turn_of-mover.new.handlers)
    (reverse c.turn_of-mover.new.system.log)
heard g c =
    heard_after g.H.Handler.hears c.args.handlers.now c.loop-made.handlers c.loop-made.system c.loop-made.picks.items c.args.line
    (take c.loop-made.made c.args.wanted.now) c.loop-made.invariant.made c.loop-made.invariant.heard c.turn_of-mover.new.handlers c.turn_of-mover.new.system
    c.turn_of-mover.result.0 c.turn_of-mover.result.1 c.turn_of-mover.ensures.turns c.turn_of-mover.ensures.heard

pub loop-made-preserved-then-eq : goal.loop-made-preserved-then-eq
loop-made-preserved-then-eq g c =
    let old = c.loop-made.system in
    let new = c.turn_of-mover.new.system in
    let mover = c.turn_of-mover.result.0 in
    let moves = moved g (goal.at.loop-made-preserved-then-eq g c).In-Ok-Moved in
    let same : same_line c.args.line c.in-Ok-Moved.of ≡ true = sym c.eq.ensures ∙ c.if-eq.true in
    let count : length c.push.new.self.items ≡ length c.loop-made.picks.items + 1
    = ap (λ (ps : List Actor). length ps) c.in_ok-push-in-Ok-Moved.ensures.items ∙ length_push c.loop-made.picks.items mover in
    record {
      board = moves.board ∙ c.loop-made.invariant.board;
      layout = moves.layout ∙ c.loop-made.invariant.layout;
      is_board = c.loop-made.invariant.is_board;
      made = made_here old new c.loop-made.picks.items mover c.args.line (take c.loop-made.made c.args.wanted.now)
          c.in-Ok-Moved.of c.in-Ok-Moved.entry c.loop-made.invariant.made moves c.push.new.self.items
          c.in_ok-push-in-Ok-Moved.ensures.items same
          (take (c.loop-made.made + 1) c.args.wanted.now)
          (one_more c.args.wanted.now c.loop-made.made c.in-Ok-Moved.entry (c.is_at.ensures.0 c.if-not-is_at.false));
      heard = (heard g (goal.at.loop-made-preserved-then-eq g c).After-turn_of-mover).runs;
      few = omega (arith, count, c.len.ensures, c.if-len-ge-PICKS.false);
      within = omega (arith, c.loop-made-test.true);
      alone = λ alone. omega (arith, count, c.loop-made.invariant.alone alone);
    }

pub loop-made-preserved : goal.loop-made-preserved
loop-made-preserved g c =
    let old = c.loop-made.system in
    let new = c.turn_of-mover.new.system in
    let mover = c.turn_of-mover.result.0 in
    let moves = moved g (goal.at.loop-made-preserved g c).In-Ok-Moved in
    let other : same_line c.args.line c.in-Ok-Moved.of ≡ false = sym c.eq.ensures ∙ c.if-eq.false in
    let count : length c.push.new.self.items ≡ length c.loop-made.picks.items + 1
    = ap (λ (ps : List Actor). length ps) c.in_ok-push-in-Ok-Moved.ensures.items ∙ length_push c.loop-made.picks.items mover in
    record {
      board = moves.board ∙ c.loop-made.invariant.board;
      layout = moves.layout ∙ c.loop-made.invariant.layout;
      is_board = c.loop-made.invariant.is_board;
      made = made_elsewhere old new c.loop-made.picks.items mover c.args.line (take c.loop-made.made c.args.wanted.now)
          c.in-Ok-Moved.of c.in-Ok-Moved.entry c.loop-made.invariant.made moves c.push.new.self.items
          c.in_ok-push-in-Ok-Moved.ensures.items other;
      heard = (heard g (goal.at.loop-made-preserved g c).After-turn_of-mover).runs;
      few = omega (arith, count, c.len.ensures, c.if-len-ge-PICKS.false);
      within = c.loop-made.invariant.within;
      alone = λ alone. absurd (
          let next = turns_next old c.loop-made.picks.items c.args.line c.args.wanted.now c.loop-made.made c.loop-made.invariant.made
          (subst IsBoard (sym c.loop-made.invariant.board) c.loop-made.invariant.is_board)
          (subst (λ (b : BoardSeen). IsAlone b c.args.line c.args.wanted.now) (sym c.loop-made.invariant.board) alone)
          _ (slice_get-get_or c.args.wanted.now c.loop-made.made _ c.loop-made-test.true) c.actor-actor.result mover
          c.actor-actor.ensures c.turn_of-mover.ensures.first (Ok (turns.Moved c.in-Ok-Moved.of c.in-Ok-Moved.entry)) new moves in
          false≢true (sym other ∙ (ap (λ (l : LineNo). same_line c.args.line l) next.0 ∙ same_self_line c.args.line)));
    }

pub returns-then-not-is_at-clause-alone : goal.returns-then-not-is_at-clause-alone
returns-then-not-is_at-clause-alone g c = λ alone.
    let old = c.loop-made.system in
    let new = c.turn_of-mover.new.system in
    let mover = c.turn_of-mover.result.0 in
    let next = turns_next old c.loop-made.picks.items c.args.line c.args.wanted.now c.loop-made.made c.loop-made.invariant.made
    (subst IsBoard (sym c.loop-made.invariant.board) c.loop-made.invariant.is_board)
    (subst (λ (b : BoardSeen). IsAlone b c.args.line c.args.wanted.now) (sym c.loop-made.invariant.board) alone)
    _ (slice_get-get_or c.args.wanted.now c.loop-made.made _ c.loop-made-test.true) c.actor-actor.result mover
    c.actor-actor.ensures c.turn_of-mover.ensures.first (Ok (turns.Moved c.in-Ok-Moved.of c.in-Ok-Moved.entry)) new
    (moved g (goal.at.returns-then-not-is_at-clause-alone g c).In-Ok-Moved) in
    absurd (true≢false (sym (c.is_at.ensures.1 (slice_get-get_or c.args.wanted.now c.loop-made.made _ c.loop-made-test.true ∙ ap Some (sym next.1)))
    ∙ c.if-not-is_at.true))

pub returns-in-Ok-NotYet-clause-alone : goal.returns-in-Ok-NotYet-clause-alone
returns-in-Ok-NotYet-clause-alone g c = λ alone.
    let old = c.loop-made.system in
    let new = c.turn_of-mover.new.system in
    let mover = c.turn_of-mover.result.0 in
    let next = turns_next old c.loop-made.picks.items c.args.line c.args.wanted.now c.loop-made.made c.loop-made.invariant.made
    (subst IsBoard (sym c.loop-made.invariant.board) c.loop-made.invariant.is_board)
    (subst (λ (b : BoardSeen). IsAlone b c.args.line c.args.wanted.now) (sym c.loop-made.invariant.board) alone)
    _ (slice_get-get_or c.args.wanted.now c.loop-made.made _ c.loop-made-test.true) c.actor-actor.result mover
    c.actor-actor.ensures c.turn_of-mover.ensures.first (Ok turns.NotYet) new
    (subst (λ (x : Result Turn StepRefused). Turns old mover x new)
    (c.in-Ok-NotYet.is ∙ ap Ok (rw c.in-Ok-NotYet.is at c.in-Ok-NotYet.field-0-is)) c.turn_of-mover.ensures.turns)
    in
    absurd next

pub returns-then-len-ge-PICKS-clause-heard : goal.returns-then-len-ge-PICKS-clause-heard
returns-then-len-ge-PICKS-clause-heard g c =
    heard_now g.H.Handler.hears c.args.handlers.now c.loop-made.handlers c.loop-made.system c.loop-made.picks.items c.args.line
    (take c.loop-made.made c.args.wanted.now) c.loop-made.invariant.made c.loop-made.invariant.heard

pub returns-clause-heard : goal.returns-clause-heard
returns-clause-heard g c =
    heard_now g.H.Handler.hears c.args.handlers.now c.loop-made.handlers c.loop-made.system c.loop-made.picks.items c.args.line
    (take c.loop-made.made c.args.wanted.now) c.loop-made.invariant.made c.loop-made.invariant.heard

pub returns-then-not-is_at-clause-heard : goal.returns-then-not-is_at-clause-heard
returns-then-not-is_at-clause-heard g c = heard g (goal.at.returns-then-not-is_at-clause-heard g c).After-turn_of-mover

pub returns-in-Ok-NotYet-clause-heard : goal.returns-in-Ok-NotYet-clause-heard
returns-in-Ok-NotYet-clause-heard g c = heard g (goal.at.returns-in-Ok-NotYet-clause-heard g c).After-turn_of-mover

pub returns-in-Err-Full-clause-heard : goal.returns-in-Err-Full-clause-heard
returns-in-Err-Full-clause-heard g c = heard g (goal.at.returns-in-Err-Full-clause-heard g c).After-turn_of-mover

pub returns-in-Err-NoMemory-clause-heard : goal.returns-in-Err-NoMemory-clause-heard
returns-in-Err-NoMemory-clause-heard g c = heard g (goal.at.returns-in-Err-NoMemory-clause-heard g c).After-turn_of-mover

pub returns-in_err-push-in-Ok-Moved-clause-heard : goal.returns-in_err-push-in-Ok-Moved-clause-heard
returns-in_err-push-in-Ok-Moved-clause-heard g c = heard g (goal.at.returns-in_err-push-in-Ok-Moved-clause-heard g c).After-turn_of-mover
