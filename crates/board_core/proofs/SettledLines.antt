-- Settling without a log: what its turns leave, and what the last of them wanted.
use Rattle.std.proofs.Common.{◌≡◌, Option, List, [], ◌∷◌, length, refl, sym, ap, ◌∙◌, subst, Result, Ok, Err}
use Rattle.irq_line.specs.Seen.{LineSeen}
use Rattle.irq_line.specs.declared.answers.StepRefused.TheVariants as refusals
use Rattle.irq_line.specs.declared.answers.StepRefused.{StepRefused}
use Rattle.irq_base.specs.declared.devices.Run.{Run}
use Rattle.irq_base.specs.declared.entries.Entry.{Entry}
use Rattle.callbacks.specs.Heard.{Heard}
use Rattle.callbacks.proofs.Calls.{heard_more}
use Rattle.board_def.specs.Seen.{BoardSeen}
use Rattle.board_play.specs.Lines.{BoardLine, Move, lines_after}
use Rattle.board_core.specs.Pieces.{EndsPiece}
use Rattle.board_core.specs.Playing.{IsLowestMove, lines_after_all}
use Rattle.board_core.specs.Runs.{runs_by_move, runs_by_turn, runs_from}
use Rattle.board_core.specs.Seen.{SystemSeen, board_lines}
use Rattle.board_core.specs.Settled.{SettlesLines}
use Rattle.board_core.specs.Turns.{Moves, TurnsBy, lowest_move}
use Rattle.board_core.specs.Wanted.{EndWants, LowestWants, SettleWants}
use Rattle.board_core.specs.declared.turns.Turn.{Turn}
use Rattle.board_core.specs.declared.turns.Turn.TheVariants as turns
use Rattle.board_core.proofs.LowestTurns.{LowestTurn, same_stopped}
use Rattle.board_core.proofs.Wanting.{lowest_ends}

module _ {H : Type 0} (hears : H → Run → H → Type 0) where
  pub lines_begun : (s : SystemSeen) (h : H) → SettlesLines hears s s h h
  lines_begun s h = record { moves = []; lowest = tt; lines = refl; heard = refl }

  -- the log is none of it
  pub lines_as : {first old new : SystemSeen} {h k : H} → new.lines ≡ old.lines → SettlesLines hears first old h k → SettlesLines hears first new h k
  lines_as same s = record {
    moves = s.moves;
    lowest = s.lowest;
    lines = ap (λ (ls : List LineSeen). board_lines ls) same ∙ s.lines;
    heard = s.heard;
  }

  -- after one more turn of the lowest actor
  module _ {first old new : SystemSeen} {h k m : H} (board : old.board ≡ first.board) (s : SettlesLines hears first old h k) where
    unmoved : new ≡ old → k ≡ m → SettlesLines hears first new h m
    unmoved same still = subst (λ (x : H). SettlesLines hears first new h x) still (lines_as (ap (λ (x : SystemSeen). x.lines) same) s)

    moved : (line_entry : Move) → Moves old (lowest_move old) line_entry new → Heard hears (runs_by_move (board_lines old.lines) line_entry) k m
        → SettlesLines hears first new h m
    moved mv moves heard =
        let here : IsLowestMove old.board (board_lines old.lines) mv = record { is = moves.is; room = moves.room } in
        record {
          moves = mv ∷ s.moves;
          lowest = (
            s.lowest,
            subst (λ (ls : List BoardLine). IsLowestMove first.board ls mv) s.lines
                (subst (λ (b : BoardSeen). IsLowestMove b (board_lines old.lines) mv) board here),
          );
          lines = moves.lines ∙ ap (λ (ls : List BoardLine). lines_after mv ls) s.lines;
          heard = heard_more hears (runs_by_move (lines_after_all s.moves (board_lines first.lines)) mv) (runs_from (board_lines first.lines) s.moves) h k m
              s.heard (subst (λ (ls : List BoardLine). Heard hears (runs_by_move ls mv) k m) s.lines heard);
        }

    pub lines_turned : (turn : Result Turn StepRefused) → TurnsBy old (lowest_move old) turn new → Heard hears (runs_by_turn old turn) k m
        → SettlesLines hears first new h m
    lines_turned (Ok (turns.Moved line e)) t heard = moved (line, e) t heard
    lines_turned (Ok turns.NotYet) t heard = unmoved t.1 heard
    lines_turned (Err (refusals.Full line len)) t heard = unmoved t.1 heard
    lines_turned (Err refusals.NoMemory) t heard = unmoved t.1 heard

-- the log wanted no memory, so the line may have
by_line : (may_want : Option Entry → Type 0) (s : SystemSeen) → (EndsPiece (length s.log) → ⊥) → (end : Result Unit StepRefused)
    → EndWants may_want s end → SettleWants may_want s end
by_line may_want s within (Ok _) wants = tt
by_line may_want s within (Err (refusals.Full line len)) wants = tt
by_line may_want s within (Err refusals.NoMemory) wants = record {
  actor = wants.actor;
  lowest = wants.lowest;
  step = record { line = wants.step.line; is = wants.step.is; wanted = λ room. wants.step.wanted room within };
}

pub settle_ends : (may_want : Option Entry → Type 0) {old new : SystemSeen} (t : LowestTurn old new) {by : StepRefused}
    {end : Result Unit StepRefused} → (EndsPiece (length old.log) → ⊥) → t.turn ≡ Err by → end ≡ Err by
    → LowestWants may_want old t.turn → SettleWants may_want new end
settle_ends may_want {old} {new} t {by} {end} within same is wants =
    by_line may_want new (subst (λ (s : SystemSeen). EndsPiece (length s.log) → ⊥) (sym (same_stopped t same)) within) end
    (lowest_ends may_want t same is wants)
