-- The handlers were called for the runs that the steps of a demultiplexer ended.
use Rattle.std.proofs.Common.{◌≡◌, Option, List, [], ◌∷◌, ◌++◌, reverse, refl, sym, ap, ◌∙◌, subst, Result, Ok, Err}
use Rattle.irq_base.specs.Cell.{Cell}
use Rattle.irq_base.specs.declared.devices.Run.{Run}
use Rattle.irq_line.specs.declared.answers.StepRefused.{StepRefused}
use Rattle.callbacks.specs.Heard.{Heard}
use Rattle.callbacks.proofs.Calls.{heard_more}
use Rattle.board_def.specs.Seen.{BoardSeen}
use Rattle.board_play.specs.Lines.{BoardLine}
use Rattle.board_core.specs.Runs.{runs_by_move, runs_of, runs_by_turn as system_runs}
use Rattle.board_core.specs.Seen.{SystemSeen}
use Rattle.board_core.specs.declared.turns.Turn.{Turn}
use Rattle.board_core.specs.declared.turns.Turn.TheVariants as moves
use Rattle.irq_chained.specs.Chain.{children}
use Rattle.irq_chained.specs.Runs.{runs_by_turn, runs_in}
use Rattle.irq_chained.specs.Seen.{DemuxSeen, IsDemux, seen_of}
use Rattle.irq_chained.specs.Turned.{TurnsBy, lines_now, turn_of}
use Rattle.irq_chained.specs.declared.chain.ChainEntry.{ChainEntry}
use Rattle.irq_chained.specs.declared.chain.ChainEntry.TheVariants as steps
use Rattle.irq_chained.specs.declared.chain.ChainTurn.{ChainTurn}
use Rattle.irq_chained.specs.declared.chain.ChainTurn.TheVariants as turns
use Rattle.irq_chained.specs.declared.marks.Mark.{Mark}
use Rattle.irq_chained.specs.declared.marks.Walk.{Walk}
use Rattle.irq_chained.proofs.Playing.{turned}
use Rattle.irq_chained.proofs.Stepping.{lines_are}

-- the run that the system's turn ended is the demultiplexer's
pub runs_told : {s : SystemSeen} {ms : List Mark} {walk : Option Walk} {parent : Cell} → IsDemux s ms walk parent
    → {view : DemuxSeen} → seen_of s ms parent ≡ view → (turn : Result Turn StepRefused) (answer : Result ChainTurn StepRefused) → answer ≡ turn_of turn
    → system_runs s turn ≡ runs_by_turn view answer
runs_told {s} d {view} v turn answer same = by_turn turn ∙ ap (λ (a : Result ChainTurn StepRefused). runs_by_turn view a) (sym same)
  where
    by_turn : (turn : Result Turn StepRefused) → system_runs s turn ≡ runs_by_turn view (turn_of turn)
    by_turn (Ok (moves.Moved line e)) =
        ap (λ (ls : List BoardLine). runs_by_move ls (line, e)) (sym (lines_are d))
        ∙ ap (λ (x : DemuxSeen). runs_by_move (lines_now x) (line, e)) v
    by_turn (Ok moves.NotYet) = refl
    by_turn (Err refused) = refl

-- after a turn: its own run, if it ended one, and those before
pub runs_turned : (old new : DemuxSeen) (due : Option ChainEntry) (turn : Result ChainTurn StepRefused) → TurnsBy old due turn new
    → runs_in new ≡ runs_by_turn old turn ++ runs_in old
runs_turned old new due (Ok (turns.Moved e)) t =
    ap (λ (b : BoardSeen). runs_of b (children (reverse new.log))) t.board
    ∙ (ap (λ (g : List ChainEntry). runs_of old.board (children g)) (turned old new due e t) ∙ by_step e)
  where
    by_step : (e : ChainEntry) → runs_of old.board (children (e ∷ reverse old.log)) ≡ runs_by_turn old (Ok (turns.Moved e)) ++ runs_in old
    by_step (steps.Enter cpu status) = refl
    by_step (steps.Child line entry) = refl
    by_step (steps.Exit cpu) = refl
runs_turned old new due (Ok turns.NotYet) t = ap (λ (d : DemuxSeen). runs_in d) t.1
runs_turned old new due (Err refused) t = ap (λ (d : DemuxSeen). runs_in d) t.1

module _ {H : Type 0} (hears : H → Run → H → Type 0) where
  pub heard_told : {s : SystemSeen} {ms : List Mark} {walk : Option Walk} {parent : Cell} → IsDemux s ms walk parent
      → {view : DemuxSeen} → seen_of s ms parent ≡ view → (turn : Result Turn StepRefused) (answer : Result ChainTurn StepRefused) → answer ≡ turn_of turn
      → (h k : H) → Heard hears (system_runs s turn) h k → Heard hears (runs_by_turn view answer) h k
  heard_told d v turn answer same h k heard =
      subst (λ (runs : List Run). Heard hears runs h k) (runs_told d v turn answer same) heard

  pub heard_turned : (old new : DemuxSeen) (due : Option ChainEntry) (turn : Result ChainTurn StepRefused) → TurnsBy old due turn new → (h k m : H)
      → Heard hears (runs_in old) h k → Heard hears (runs_by_turn old turn) k m → Heard hears (runs_in new) h m
  heard_turned old new due turn t h k m before now =
      subst (λ (runs : List Run). Heard hears runs h m) (sym (runs_turned old new due turn t))
      (heard_more hears (runs_by_turn old turn) (runs_in old) h k m before now)

  -- no call where no run ended
  pub heard_none : {runs : List Run} (h : H) → runs ≡ [] → Heard hears runs h h
  heard_none h none = subst (λ (rs : List Run). Heard hears rs h h) (sym none) refl

  pub heard_fresh : (d : DemuxSeen) → d.log ≡ [] → (h : H) → Heard hears (runs_in d) h h
  heard_fresh d none h = heard_none h (ap (λ (l : List ChainEntry). runs_of d.board (children (reverse l))) none)

  -- a turn after one that changed nothing
  pub heard_after : {old same : DemuxSeen} (turn : Result ChainTurn StepRefused) → same ≡ old → (h k m : H) → Heard hears [] h k
      → Heard hears (runs_by_turn same turn) k m → Heard hears (runs_by_turn old turn) h m
  heard_after {old} {same} turn is h k m still now =
      subst (λ (d : DemuxSeen). Heard hears (runs_by_turn d turn) h m) is
      (subst (λ (x : H). Heard hears (runs_by_turn same turn) x m) (sym still) now)
