-- Turns of a demultiplexer, and what comes next in an open chain, of what is seen of it.
use Rattle.std.proofs.Common.{reverse, Result}
use Rattle.std.proofs.Common.{◌≡◌, ℕ, ◌<◌, ◌≤◌, true, false, is_some, IfSome, IsSome, IsTrue, Option, Some}
use Rattle.std.proofs.Common.{None, List, length, slice_get, sym, subst}
use Rattle.irq_base.specs.Cell.{Cell, after_high}
use Rattle.irq_base.specs.declared.entries.Actor.{Actor}
use Rattle.irq_base.specs.declared.entries.Actor.TheVariants as actors
use Rattle.irq_base.specs.declared.numbers.LineNo.{LineNo}
use Rattle.irq_laws.proofs.Chosen.{the_same}
use Rattle.irq_line.specs.declared.answers.StepRefused.{StepRefused}
use Rattle.board_def.specs.Rules.{IsBoard}
use Rattle.board_play.specs.Kept.{AreKept}
use Rattle.board_play.specs.Lines.{BoardLine, find_line}
use Rattle.board_play.specs.Order.{due_move, due_on, flow_line}
use Rattle.board_ready.specs.First.{first_of}
use Rattle.board_core.specs.Firsts.{is_take_due, number_of}
use Rattle.board_core.specs.Seen.{SystemSeen, board_lines}
use Rattle.board_core.specs.Stands.{IsCurrentOn}
use Rattle.board_core.specs.Turned.{StepsBy}
use Rattle.board_core.specs.Turns.{Turns}
use Rattle.board_core.specs.declared.turns.Turn.{Turn}
use Rattle.irq_chained.specs.Chain.{child, cpu_0, open_status, status_of}
use Rattle.irq_chained.specs.Parent.{is_asked}
use Rattle.irq_chained.specs.Seen.{DemuxSeen, IsDemux, seen_of}
use Rattle.irq_chained.specs.Turned.{IsOther, TurnsBy, next_of, turn_of}
use Rattle.irq_chained.specs.Wanted.{child_for}
use Rattle.irq_chained.specs.Walk.{IsWalkAfter, IsWalkOf, is_in_words}
use Rattle.irq_chained.specs.declared.chain.ChainEntry.TheVariants as steps
use Rattle.irq_chained.specs.declared.chain.ChainTurn.{ChainTurn}
use Rattle.irq_chained.specs.declared.marks.Mark.{Mark}
use Rattle.irq_chained.specs.declared.marks.Walk.{Walk}
use Rattle.irq_chained.proofs.Resting.{few_seen}
use Rattle.irq_chained.proofs.Stepping.{steps_of}
use Rattle.irq_chained.proofs.Turning.{says, other_turn, flow_rests, flow_turn, take_turn, exit_next, left_due, take_line, take_next}

module _ {s : SystemSeen} (t : SystemSeen) {ms : List Mark} {walk : Option Walk} {parent now : Cell} (d : IsDemux s ms walk parent)
    (shows : now ≡ after_high (is_asked (board_lines t.lines)) parent) {view : DemuxSeen} (v : seen_of s ms parent ≡ view)
    (isb : IsBoard view.board) (kept : AreKept view.board (board_lines view.lines)) where
  its_board : IsBoard s.board
  its_board = subst (λ (x : DemuxSeen). IsBoard x.board) (sym v) isb

  its_lines : AreKept s.board (board_lines s.lines)
  its_lines = subst (λ (x : DemuxSeen). AreKept x.board (board_lines x.lines)) (sym v) kept

  -- what the actor's turn keeps, and what it says if this is its answer
  abbrev pub Turned : Option Walk → Actor → Result Turn StepRefused → Type 0
  Turned after a turn = IsDemux t ms after now × ((answer : Result ChainTurn StepRefused) → answer ≡ turn_of turn
      → TurnsBy view (next_of view a) answer (seen_of t ms now))

  turned : (after : Option Walk) (a : Actor) (turn : Result Turn StepRefused) → IsDemux t ms after now
      × TurnsBy (seen_of s ms parent) (next_of (seen_of s ms parent) a) (turn_of turn) (seen_of t ms now)
      → Turned after a turn
  turned after a turn h = (h.0, λ answer same. says (seen_of t ms now) a v same h.1)

  pub other_turned : (a : Actor) (turn : Result Turn StepRefused) → IsOther a → Turns s a turn t → Turned walk a turn
  other_turned a turn other by = turned walk a turn (other_turn t d shows its_board its_lines a turn other by)

  pub flow_turned : (line : LineNo) (turn : Result Turn StepRefused) → IsSome (open_status (reverse view.log))
      → number_of (flow_line (board_lines view.lines) cpu_0) ≡ Some line
      → is_some (due_move s.board (board_lines s.lines) (actors.Cpu cpu_0)) ≡ true
      → StepsBy s (due_on (find_line (board_lines s.lines) line) (actors.Cpu cpu_0)) turn t
      → Turned walk (actors.Cpu cpu_0) turn
  flow_turned line turn opens number some by =
      turned walk (actors.Cpu cpu_0) turn (flow_turn t d shows its_board its_lines line turn
      (subst (λ (x : DemuxSeen). IsSome (open_status (reverse x.log))) (sym v) opens)
      (subst (λ (x : DemuxSeen). number_of (flow_line (board_lines x.lines) cpu_0) ≡ Some line) (sym v) number) some by)

  pub take_turned : (place : ℕ) (w after : Walk) (line : LineNo) (turn : Result Turn StepRefused)
      → IsWalkOf (board_lines view.lines) (reverse view.log) (Some w)
      → IsTrue (is_take_due cpu_0 (slice_get (board_lines view.lines) place))
      → next_of view (actors.Cpu cpu_0) ≡ child (due_on (slice_get (board_lines view.lines) place) (actors.Cpu cpu_0))
      → number_of (slice_get (board_lines s.lines) place) ≡ Some line → IsWalkAfter w place turn after
      → StepsBy s (due_on (find_line (board_lines s.lines) line) (actors.Cpu cpu_0)) turn t
      → Turned (Some after) (actors.Cpu cpu_0) turn
  take_turned place w after line turn walks due next number taken by =
      turned (Some after) (actors.Cpu cpu_0) turn (take_turn t d shows its_board its_lines (few_seen s.board s.lines d.fits its_lines)
      place w after line turn
      (subst (λ (x : DemuxSeen). IsWalkOf (board_lines x.lines) (reverse x.log) (Some w)) (sym v) walks)
      (subst (λ (x : DemuxSeen). IsTrue (is_take_due cpu_0 (slice_get (board_lines x.lines) place))) (sym v) due)
      (subst (λ (x : DemuxSeen). next_of x (actors.Cpu cpu_0)
      ≡ child (due_on (slice_get (board_lines x.lines) place) (actors.Cpu cpu_0))) (sym v) next) number taken by)

-- ---- where processor 0 has a flow

-- the line that it is told is that of its flow
its_number : (o : Option BoardLine) (line : LineNo) → number_of o ≡ Some line → IfSome o (λ x. x.def.line ≡ line)
its_number None line is = tt
its_number (Some x) line is = the_same x.def.line line is

no_number : (o : Option BoardLine) (line : LineNo) → o ≡ None → IfSome o (λ x. x.def.line ≡ line)
no_number None line is = tt
no_number (Some x) line is = absurd cc

module _ {s : SystemSeen} {ms : List Mark} {walk : Option Walk} {parent : Cell} (d : IsDemux s ms walk parent) {view : DemuxSeen}
    (v : seen_of s ms parent ≡ view) (line : LineNo) where
  pub flow_current : number_of (flow_line (board_lines view.lines) cpu_0) ≡ Some line
      → IsCurrentOn s line (actors.Cpu cpu_0)
  flow_current number = its_number (flow_line (board_lines s.lines) cpu_0) line
      (subst (λ (x : DemuxSeen). number_of (flow_line (board_lines x.lines) cpu_0) ≡ Some line) (sym v) number)

  pub free_current : flow_line (board_lines view.lines) cpu_0 ≡ None → IsCurrentOn s line (actors.Cpu cpu_0)
  free_current none = no_number (flow_line (board_lines s.lines) cpu_0) line
      (subst (λ (x : DemuxSeen). flow_line (board_lines x.lines) cpu_0 ≡ None) (sym v) none)

  -- if it spins there it has no next step
  pub flow_rested : IsSome (open_status (reverse view.log)) → number_of (flow_line (board_lines view.lines) cpu_0) ≡ Some line
      → is_some (due_move s.board (board_lines s.lines) (actors.Cpu cpu_0)) ≡ false → next_of view (actors.Cpu cpu_0) ≡ None
  flow_rested opens number rests = subst (λ (x : DemuxSeen). next_of x (actors.Cpu cpu_0) ≡ None) v
      (flow_rests d (subst (λ (x : DemuxSeen). IsSome (open_status (reverse x.log))) (sym v) opens) line
      (subst (λ (x : DemuxSeen). number_of (flow_line (board_lines x.lines) cpu_0) ≡ Some line) (sym v) number) rests)

-- ---- what comes next in an open chain without a flow

module _ {s : SystemSeen} {ms : List Mark} {walk : Option Walk} {parent : Cell} (d : IsDemux s ms walk parent) {view : DemuxSeen}
    (v : seen_of s ms parent ≡ view) (kept : AreKept view.board (board_lines view.lines)) (w : Walk)
    (walks : IsWalkOf (board_lines view.lines) (reverse view.log) (Some w)) (rests : flow_line (board_lines view.lines) cpu_0 ≡ None)
    {due : ℕ} (is : due ≡ status_of (board_lines s.lines)) where
  few : length (board_lines s.lines) ≤ 32
  few = few_seen s.board s.lines d.fits (subst (λ (x : DemuxSeen). AreKept x.board (board_lines x.lines)) (sym v) kept)

  its_walk : IsWalkOf (board_lines s.lines) (steps_of s ms) (Some w)
  its_walk = subst (λ (x : DemuxSeen). IsWalkOf (board_lines x.lines) (reverse x.log) (Some w)) (sym v) walks

  no_flow : flow_line (board_lines s.lines) cpu_0 ≡ None
  no_flow = subst (λ (x : DemuxSeen). flow_line (board_lines x.lines) cpu_0 ≡ None) (sym v) rests

  pub exit_seen : None ≡ first_of (is_in_words w.status w.taken due) 64 → next_of view (actors.Cpu cpu_0) ≡ Some (steps.Exit cpu_0)
  exit_seen found = subst (λ (x : DemuxSeen). next_of x (actors.Cpu cpu_0) ≡ Some (steps.Exit cpu_0)) v
      (exit_next d w due few its_walk no_flow is found)

  pub due_seen : (k : ℕ) → Some k ≡ first_of (is_in_words w.status w.taken due) 64
      → (k < 32) × IsTrue (is_take_due cpu_0 (slice_get (board_lines view.lines) k))
  due_seen k found = subst (λ (x : DemuxSeen). (k < 32) × IsTrue (is_take_due cpu_0 (slice_get (board_lines x.lines) k))) v
      (left_due d w due few its_walk no_flow is k found)

  pub take_seen : (k : ℕ) → Some k ≡ first_of (is_in_words w.status w.taken due) 64
      → next_of view (actors.Cpu cpu_0) ≡ child (due_on (slice_get (board_lines view.lines) k) (actors.Cpu cpu_0))
  take_seen k found =
      subst (λ (x : DemuxSeen). next_of x (actors.Cpu cpu_0) ≡ child (due_on (slice_get (board_lines x.lines) k) (actors.Cpu cpu_0))) v
      (take_next d w due few its_walk no_flow is k found)

  pub line_seen : (k : ℕ) → Some k ≡ first_of (is_in_words w.status w.taken due) 64
      → child_for view.board (reverse view.log) (actors.Cpu cpu_0) ≡ slice_get (board_lines view.lines) k
  line_seen k found =
      subst (λ (x : DemuxSeen). child_for x.board (reverse x.log) (actors.Cpu cpu_0) ≡ slice_get (board_lines x.lines) k) v
      (take_line d w due few its_walk no_flow is k found)
