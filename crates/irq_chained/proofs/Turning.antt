-- What the calls of a demultiplexer answer and leave.
use Rattle.std.proofs.Common.{◌≡◌, ℕ, ◌<◌, ◌≤◌, ◌==◌, ◌++◌, Bool, true, false, ◌&&◌, cond, IsSome, IsTrue, is_some, Option, Some, Result, Ok, Err}
use Rattle.std.proofs.Common.{None, List, [], ◌∷◌, map, length, get_or, slice_get, refl, sym, ap, ◌∙◌, subst, arith}
use Rattle.std.proofs.Common.{eqb-true}
use Rattle.std.proofs.lemmas.Nat.Bits.{bit_at-zero}
use Rattle.std.proofs.lemmas.List.{length-map}
use Rattle.std.proofs.lemmas.Option.{slice_get_within}
use Rattle.irq_base.specs.Cell.{Cell, after_ack, after_high, after_mask, after_unmask, is_edge_cell}
use Rattle.irq_base.specs.declared.entries.Actor.{Actor}
use Rattle.irq_base.specs.declared.entries.Actor.TheVariants as actors
use Rattle.irq_base.specs.declared.entries.Entry.{Entry}
use Rattle.irq_base.specs.declared.lines.LineDef.{LineDef}
use Rattle.irq_base.specs.declared.numbers.LineNo.{LineNo}
use Rattle.irq_line.specs.declared.answers.StepRefused.{StepRefused}
use Rattle.irq_line.specs.declared.answers.StepRefused.TheVariants as refusals
use Rattle.irq_line.specs.Seen.{LineSeen}
use Rattle.irq_model.specs.Kinds.{is_take}
use Rattle.irq_model.specs.Next.{next_past}
use Rattle.irq_model.specs.Rounds.{flow, is_cpu}
use Rattle.irq_laws.proofs.Chosen.{the_same}
use Rattle.board_def.specs.Rules.{IsBoard}
use Rattle.board_play.specs.Kept.{AreKept}
use Rattle.board_play.specs.Lines.{BoardLine, Move, find_line}
use Rattle.board_play.specs.Order.{due_line, due_move, due_on, flow_line, line_for, move_on, or_line}
use Rattle.board_play.proofs.KeptAlways.{apart_kept}
use Rattle.board_play.proofs.Members.{find_there}
use Rattle.board_play.proofs.Moves.{line_stands}
use Rattle.board_ready.specs.First.{first_of}
use Rattle.board_ready.specs.Sets.{has}
use Rattle.board_ready.proofs.Lowest.{first_some}
use Rattle.board_core.specs.Firsts.{is_take_due, number_of}
use Rattle.board_core.specs.Places.{line_at}
use Rattle.board_core.specs.Seen.{SystemSeen, board_line, board_lines}
use Rattle.board_core.proofs.Hearing.{step_of_turn}
use Rattle.board_core.proofs.Placed.{line_seen}
use Rattle.board_core.specs.Turned.{StepsBy}
use Rattle.board_core.specs.Turns.{Turns}
use Rattle.board_core.specs.declared.turns.Turn.{Turn}
use Rattle.board_core.specs.declared.turns.Turn.TheVariants as moves
use Rattle.irq_chained.specs.Chain.{chain_next, child, cpu_0, first_left, in_chain, is_left, lines_in, of_cpu_0, open_status, or_exit, status_of, to_enter}
use Rattle.irq_chained.specs.Parent.{is_asked}
use Rattle.irq_chained.specs.Seen.{DemuxSeen, IsDemux, seen_of}
use Rattle.irq_chained.specs.Turned.{Goes, IsOther, TurnsBy, lowest_of, next_of, turn_of}
use Rattle.irq_chained.specs.Wanted.{child_for, line_in_chain}
use Rattle.irq_chained.specs.Walk.{IsWalkAfter, IsWalkOf, is_in_words}
use Rattle.irq_chained.specs.declared.chain.ChainEntry.{ChainEntry}
use Rattle.irq_chained.specs.declared.chain.ChainEntry.TheVariants as steps
use Rattle.irq_chained.specs.declared.chain.ChainTurn.{ChainTurn}
use Rattle.irq_chained.specs.declared.marks.Mark.{Mark}
use Rattle.irq_chained.specs.declared.marks.Marked.TheVariants as marks
use Rattle.irq_chained.specs.declared.marks.Walk.{Walk}
use Rattle.irq_chained.proofs.Chained.{due_own, take_is_due}
use Rattle.irq_chained.proofs.Further.{some_of_0, somebody}
use Rattle.irq_chained.proofs.Lowest.{other_next}
use Rattle.irq_chained.proofs.StatusBits.{left_place}
use Rattle.irq_chained.proofs.NoTakes.{other_is_no_take, in_flow_is_no_take, flow_line_on}
use Rattle.irq_chained.proofs.Stepping.{WalkGoes, child_turn, lines_are, mark_goes, mark_kept, parent_level, steps_of, walk_stays, walk_takes}

pub level_cell : {s : SystemSeen} {ms : List Mark} {walk : Option Walk} {parent : Cell} → IsDemux s ms walk parent → is_edge_cell parent ≡ false
level_cell d = ap (λ (c : Cell). is_edge_cell c) (parent_level d)

-- processor 0 has this step
some_step : (seen : DemuxSeen) → IsBoard seen.board → (e : ChainEntry) → next_of seen (actors.Cpu cpu_0) ≡ Some e → IsSome (lowest_of seen)
some_step seen isb e is = some_of_0 seen isb (ap (λ (o : Option ChainEntry). is_some o) is)

-- the same, said of what is seen
pub says : {seen view : DemuxSeen} (new : DemuxSeen) (a : Actor) {turn answer : Result ChainTurn StepRefused} → seen ≡ view → answer ≡ turn
    → TurnsBy seen (next_of seen a) turn new → TurnsBy view (next_of view a) answer new
says {seen} {view} new a {turn} {answer} v same t = subst (λ (d : DemuxSeen). TurnsBy d (next_of d a) answer new) v
    (subst (λ (x : Result ChainTurn StepRefused). TurnsBy seen (next_of seen a) x new) (sym same) t)

pub some_of : {A : Type 0} (o : Option A) → IsSome o → (x : A) × (o ≡ Some x)
some_of None h = cc
some_of (Some x) h = (x, refl)

module _ {s : SystemSeen} (t : SystemSeen) {ms : List Mark} {walk : Option Walk} {parent now : Cell} (d : IsDemux s ms walk parent)
    (shows : now ≡ after_high (is_asked (board_lines t.lines)) parent) where
  abbrev g : List ChainEntry
  g = steps_of s ms

  abbrev seen : DemuxSeen
  seen = seen_of s ms parent

  -- ---- a step of a thread or a driver

  pub other_turn : IsBoard s.board → AreKept s.board (board_lines s.lines) → (a : Actor) (turn : Result Turn StepRefused) → IsOther a
      → Turns s a turn t
      → IsDemux t ms walk now × TurnsBy seen (next_of seen a) (turn_of turn) (seen_of t ms now)
  other_turn isb kept a turn other by = child_turn t walk a (line_for s.board (board_lines s.lines) a) d
      (other_next d a other) shows turn (wanted turn by) (step_of_turn s t a turn by) (walks turn by)
    where
      wanted : (turn : Result Turn StepRefused) → Turns s a turn t → turn ≡ Err refusals.NoMemory → IsSome (lowest_of seen)
      wanted turn by is =
          let w = subst (λ (x : Result Turn StepRefused). Turns s a x t) is by in
          somebody d isb kept w.0.somebody

      walks : (turn : Result Turn StepRefused) → Turns s a turn t → WalkGoes s ms turn t walk
      walks (Ok (moves.Moved line e)) by =
          let own = due_own (line_for s.board (board_lines s.lines) a) a (line, e) by.is in
          walk_stays (board_lines s.lines) (board_lines t.lines) g (line, e) walk by.lines (other_is_no_take e a own other) d.walks
      walks (Ok moves.NotYet) by = d.walks
      walks (Err refused) by = d.walks

  -- ---- a further step of a flow

  pub flow_turn : IsBoard s.board → AreKept s.board (board_lines s.lines) → (line : LineNo) (turn : Result Turn StepRefused)
      → IsSome (open_status g) → number_of (flow_line (board_lines s.lines) cpu_0) ≡ Some line
      → is_some (due_move s.board (board_lines s.lines) (actors.Cpu cpu_0)) ≡ true
      → StepsBy s (due_on (find_line (board_lines s.lines) line) (actors.Cpu cpu_0)) turn t
      → IsDemux t ms walk now × TurnsBy seen (next_of seen (actors.Cpu cpu_0)) (turn_of turn) (seen_of t ms now)
  flow_turn isb kept line turn opens number some by = by_line (flow_line (board_lines s.lines) cpu_0) refl number
    where
      lines : List BoardLine
      lines = board_lines s.lines

      by_line : (o : Option BoardLine) → flow_line lines cpu_0 ≡ o → number_of o ≡ Some line
          → IsDemux t ms walk now × TurnsBy seen (next_of seen (actors.Cpu cpu_0)) (turn_of turn) (seen_of t ms now)
      by_line None is number = cc
      by_line (Some x) is number =
          let st = some_of (open_status g) opens in
          let its : line_for s.board lines (actors.Cpu cpu_0) ≡ Some x = ap (λ (o : Option BoardLine). or_line o (due_line lines cpu_0)) is in
          let stands = line_stands s.board lines (actors.Cpu cpu_0) x its in
          let found : find_line lines line ≡ Some x = ap (λ (l : LineNo). find_line lines l)
          (sym (the_same x.def.line line number)) ∙ find_there lines (apart_kept s.board isb lines kept)
          stands.place x stands.at in
          let next : chain_next s.board g (actors.Cpu cpu_0) ≡ child (due_on (find_line lines line) (actors.Cpu cpu_0)) =
          ap (λ (o : Option ℕ). of_cpu_0 g (lines_in s.board g) o) st.1
          ∙ (ap (λ (ls : List BoardLine). in_chain g ls st.0 (flow_line ls cpu_0)) (lines_are d)
          ∙ (ap (λ (o : Option BoardLine). in_chain g lines st.0 o) is ∙ sym (ap (λ (o : Option BoardLine). child (due_on o (actors.Cpu cpu_0))) found))) in
          let due = some_of (due_on (Some x) (actors.Cpu cpu_0)) (ap (λ (o : Option BoardLine). is_some (due_on o (actors.Cpu cpu_0))) (sym its) ∙ some) in
          child_turn t walk (actors.Cpu cpu_0) (find_line lines line) d next shows turn
          (λ refused. some_step seen isb _
          (next ∙ (ap (λ (o : Option BoardLine). child (due_on o (actors.Cpu cpu_0))) found
          ∙ ap (λ (o : Option Move). child o) due.1))) by
          (walks x (flow_line_on lines cpu_0 x is) found turn by)
        where
          walks : (x : BoardLine) → is_cpu cpu_0 (flow x.def x.past) ≡ true → find_line lines line ≡ Some x
              → (turn : Result Turn StepRefused) → StepsBy s (due_on (find_line lines line) (actors.Cpu cpu_0)) turn t
              → WalkGoes s ms turn t walk
          walks x on found (Ok (moves.Moved l e)) by =
              walk_stays lines (board_lines t.lines) g (l, e) walk by.lines
              (in_flow_is_no_take x cpu_0 (l, e) on
              (ap (λ (o : Option BoardLine). due_on o (actors.Cpu cpu_0)) (sym found) ∙ by.is)) d.walks
          walks x on found (Ok moves.NotYet) by = d.walks
          walks x on found (Err refused) by = d.walks

  -- ---- a take

  pub take_turn : IsBoard s.board → AreKept s.board (board_lines s.lines) → length (board_lines s.lines) ≤ 32
      → (place : ℕ) (w after : Walk) (line : LineNo) (turn : Result Turn StepRefused) → IsWalkOf (board_lines s.lines) g (Some w)
      → IsTrue (is_take_due cpu_0 (slice_get (board_lines s.lines) place))
      → chain_next s.board g (actors.Cpu cpu_0) ≡ child
      (due_on (slice_get (board_lines s.lines) place) (actors.Cpu cpu_0))
      → number_of (slice_get (board_lines s.lines) place) ≡ Some line → IsWalkAfter w place turn after
      → StepsBy s (due_on (find_line (board_lines s.lines) line) (actors.Cpu cpu_0)) turn t
      → IsDemux t ms (Some after) now × TurnsBy seen (next_of seen (actors.Cpu cpu_0)) (turn_of turn)
      (seen_of t ms now)
  take_turn isb kept few place w after line turn walks_w due next number taken by = by_line (slice_get (board_lines s.lines) place) refl number
    where
      lines : List BoardLine
      lines = board_lines s.lines

      walks : (y : BoardLine) → slice_get lines place ≡ Some y → y.def.line ≡ line
          → find_line lines line ≡ slice_get lines place → (turn : Result Turn StepRefused) → IsWalkAfter w place turn after
          → StepsBy s (due_on (find_line lines line) (actors.Cpu cpu_0)) turn t → WalkGoes s ms turn t (Some after)
      walks y at its found (Ok (moves.Moved l e)) taken by =
          let m = take_is_due (slice_get lines place) due in
          let same : m.0 ≡ (l, e) = the_same m.0 (l, e) (sym m.1 ∙ (ap (λ (o : Option BoardLine). due_on o (actors.Cpu cpu_0)) (sym found) ∙ by.is)) in
          let takes : is_take e ≡ true = subst (λ (n : Move). is_take n.1 ≡ true) same m.2 in
          let of_line : y.def.line ≡ l = moved_line y at (l, e) (ap (λ (o : Option BoardLine). due_on o (actors.Cpu cpu_0)) (sym at ∙ sym found) ∙ by.is) in
          walk_takes lines (board_lines t.lines) g (l, e) w after place y (apart_kept s.board isb lines kept) few by.lines takes at of_line taken walks_w
        where
          moved_line : (y : BoardLine) → slice_get lines place ≡ Some y → (m : Move) → due_on (Some y) (actors.Cpu cpu_0) ≡ Some m → y.def.line ≡ m.0
          moved_line y at m is = by_entry (next_past y.def y.past (actors.Cpu cpu_0)) is
            where
              by_entry : (o : Option Entry) → move_on y.def.line o ≡ Some m → y.def.line ≡ m.0
              by_entry None is = cc
              by_entry (Some e) is = ap (λ (n : Move). n.0) (the_same (y.def.line, e) m is)
      walks y at its found (Ok moves.NotYet) taken by = subst (λ (v : Walk). IsWalkOf lines g (Some v)) (sym taken) walks_w
      walks y at its found (Err refused) taken by = subst (λ (v : Walk). IsWalkOf lines g (Some v)) (sym taken) walks_w

      by_line : (o : Option BoardLine) → slice_get lines place ≡ o → number_of o ≡ Some line
          → IsDemux t ms (Some after) now × TurnsBy seen (next_of seen (actors.Cpu cpu_0)) (turn_of turn)
          (seen_of t ms now)
      by_line None at number = cc
      by_line (Some y) at number =
          let its : y.def.line ≡ line = the_same y.def.line line number in
          let found : find_line lines line ≡ slice_get lines place = ap (λ (l : LineNo). find_line lines l) (sym its)
          ∙ (find_there lines (apart_kept s.board isb lines kept) place y at ∙ sym at) in
          child_turn t (Some after) (actors.Cpu cpu_0) (find_line lines line) d
          (next ∙ sym (ap (λ (o : Option BoardLine). child (due_on o (actors.Cpu cpu_0))) found)) shows turn
          (λ refused. some_step seen isb _ (next ∙ ap (λ (o : Option Move). child o) (take_is_due (slice_get lines place) due).1)) by
          (walks y at its found turn taken by)

pub not_zero : (n : ℕ) → (n ≡ 0 → ⊥) → (n == 0) ≡ false
not_zero n some = by_test (n == 0) refl
  where
    by_test : (b : Bool) → (n == 0) ≡ b → b ≡ false
    by_test true is = absurd (some (eqb-true n 0 is))
    by_test false is = refl

module _ {s : SystemSeen} {ms : List Mark} {walk : Option Walk} {parent : Cell} (d : IsDemux s ms walk parent) where
  abbrev so_far : List ChainEntry
  so_far = steps_of s ms

  -- ---- a flow in which processor 0 spins

  pub flow_rests : IsSome (open_status so_far) → (line : LineNo) → number_of (flow_line (board_lines s.lines) cpu_0) ≡ Some line
      → is_some (due_move s.board (board_lines s.lines) (actors.Cpu cpu_0)) ≡ false
      → chain_next s.board so_far (actors.Cpu cpu_0) ≡ None
  flow_rests opens line number rests = by_line (flow_line lines cpu_0) refl number
    where
      lines : List BoardLine
      lines = board_lines s.lines

      none_due : (o : Option Move) → is_some o ≡ false → child o ≡ None
      none_due None none = refl
      none_due (Some m) none = absurd cc

      by_line : (o : Option BoardLine) → flow_line lines cpu_0 ≡ o → number_of o ≡ Some line → chain_next s.board so_far (actors.Cpu cpu_0) ≡ None
      by_line None is number = cc
      by_line (Some x) is number =
          let st = some_of (open_status so_far) opens in
          let its : line_for s.board lines (actors.Cpu cpu_0) ≡ Some x = ap (λ (o : Option BoardLine). or_line o (due_line lines cpu_0)) is in
          ap (λ (o : Option ℕ). of_cpu_0 so_far (lines_in s.board so_far) o) st.1
          ∙ (ap (λ (ls : List BoardLine). in_chain so_far ls st.0 (flow_line ls cpu_0)) (lines_are d)
          ∙ (ap (λ (o : Option BoardLine). in_chain so_far lines st.0 o) is
          ∙ none_due (due_on (Some x) (actors.Cpu cpu_0)) (ap (λ (o : Option BoardLine). is_some (due_on o (actors.Cpu cpu_0))) (sym its) ∙ rests)))

  -- ---- a mark for which memory was refused

  pub unmarked : IsBoard s.board → (e : ChainEntry) → chain_next s.board so_far (actors.Cpu cpu_0) ≡ Some e
      → (all : List Mark) → all ≡ ms → (view : DemuxSeen) → seen_of s ms parent ≡ view
      → IsSome (lowest_of view) × (seen_of s all parent ≡ view)
  unmarked isb e next all is view v = (
    subst (λ (x : DemuxSeen). IsSome (lowest_of x)) v (some_of_0 (seen_of s ms parent) isb (ap (λ (o : Option ChainEntry). is_some o) next)),
    ap (λ (l : List Mark). seen_of s l parent) is ∙ v,
  )

  -- ---- an enter

  enters : (status : ℕ) → open_status so_far ≡ None → status ≡ status_of (board_lines s.lines) → chain_next s.board so_far (actors.Cpu cpu_0) ≡ to_enter status
  enters status closed is =
      ap (λ (o : Option ℕ). of_cpu_0 so_far (lines_in s.board so_far) o) closed
      ∙ (ap (λ (ls : List BoardLine). to_enter (status_of ls)) (lines_are d)
      ∙ ap (λ (n : ℕ). to_enter n) (sym is))

  pub not_entered : (status : ℕ) → open_status so_far ≡ None → status ≡ status_of (board_lines s.lines)
      → (status == 0) ≡ true → chain_next s.board so_far (actors.Cpu cpu_0) ≡ None
  not_entered status closed is none = enters status closed is ∙ ap (λ (b : Bool). cond b None (Some (steps.Enter cpu_0 status))) none

  pub enter_next : (status : ℕ) → open_status so_far ≡ None → status ≡ status_of (board_lines s.lines)
      → (status == 0) ≡ false → chain_next s.board so_far (actors.Cpu cpu_0) ≡ Some (steps.Enter cpu_0 status)
  enter_next status closed is some = enters status closed is ∙ ap (λ (b : Bool). cond b None (Some (steps.Enter cpu_0 status))) some

  module _ (status before : ℕ) (closed : open_status so_far ≡ None) (is : status ≡ status_of (board_lines s.lines))
      (some : (status == 0) ≡ false) (stands : before ≡ length s.log) where
    abbrev enter_mark : Mark
    enter_mark = record { before = before; what = marks.Enter status }

    abbrev enter_walk : Walk
    enter_walk = record { status = status; taken = 0 }

    is_next : chain_next s.board so_far (actors.Cpu cpu_0) ≡ Some (steps.Enter cpu_0 status)
    is_next = enter_next status closed is some

    enter_walks : IsWalkOf (board_lines s.lines) (steps.Enter cpu_0 status ∷ so_far) (Some enter_walk)
    enter_walks = (refl, λ k x at. ap (λ (n : ℕ). n == 1) (bit_at-zero k))

    pub enter_kept : (now : Cell) → now ≡ after_ack (after_mask parent) → (all : List Mark) → all ≡ ms ++ enter_mark ∷ [] → IsDemux s all (Some enter_walk) now
    enter_kept now shows all is = subst (λ (l : List Mark). IsDemux s l (Some enter_walk) now) (sym is)
        (mark_kept (Some enter_walk) enter_mark d is_next stands enter_walks shows)

    pub enter_goes : (now : Cell) → now ≡ after_ack (after_mask parent) → (all : List Mark)
        → all ≡ ms ++ enter_mark ∷ [] → (view : DemuxSeen) → seen_of s ms parent ≡ view
        → Goes view (next_of view (actors.Cpu cpu_0)) (steps.Enter cpu_0 status) (seen_of s all now)
    enter_goes now shows all is view v =
        subst (λ (x : DemuxSeen). Goes x (next_of x (actors.Cpu cpu_0)) (steps.Enter cpu_0 status) (seen_of s all now)) v
        (subst (λ (l : List Mark). Goes (seen_of s ms parent) (chain_next s.board so_far (actors.Cpu cpu_0))
        (steps.Enter cpu_0 status) (seen_of s l now)) (sym is)
        (mark_goes (Some enter_walk) enter_mark d is_next stands enter_walks shows))

  -- ---- an exit

  module _ (before : ℕ) (next : chain_next s.board so_far (actors.Cpu cpu_0) ≡ Some (steps.Exit cpu_0)) (stands : before ≡ length s.log) where
    abbrev exit_mark : Mark
    exit_mark = record { before = before; what = marks.Exit }

    pub exit_kept : (now : Cell) → now ≡ after_unmask parent → (all : List Mark) → all ≡ ms ++ exit_mark ∷ [] → IsDemux s all None now
    exit_kept now shows all is = subst (λ (l : List Mark). IsDemux s l None now) (sym is)
        (mark_kept None exit_mark d next stands refl shows)

    pub exit_goes : (now : Cell) → now ≡ after_unmask parent → (all : List Mark) → all ≡ ms ++ exit_mark ∷ []
        → (view : DemuxSeen) → seen_of s ms parent ≡ view
        → Goes view (next_of view (actors.Cpu cpu_0)) (steps.Exit cpu_0) (seen_of s all now)
    exit_goes now shows all is view v =
        subst (λ (x : DemuxSeen). Goes x (next_of x (actors.Cpu cpu_0)) (steps.Exit cpu_0) (seen_of s all now)) v
        (subst (λ (l : List Mark). Goes (seen_of s ms parent) (chain_next s.board so_far (actors.Cpu cpu_0))
        (steps.Exit cpu_0) (seen_of s l now)) (sym is)
        (mark_goes None exit_mark d next stands refl shows))

  -- ---- what comes next in an open chain without a flow

  module _ (w : Walk) (due : ℕ) (few : length (board_lines s.lines) ≤ 32)
      (walks : IsWalkOf (board_lines s.lines) so_far (Some w)) (rests : flow_line (board_lines s.lines) cpu_0 ≡ None)
      (is : due ≡ status_of (board_lines s.lines)) where
    walks_on : chain_next s.board so_far (actors.Cpu cpu_0) ≡ or_exit (child (due_on (first_left so_far (board_lines s.lines) w.status) (actors.Cpu cpu_0)))
    walks_on =
        ap (λ (o : Option ℕ). of_cpu_0 so_far (lines_in s.board so_far) o) walks.0
        ∙ (ap (λ (ls : List BoardLine). in_chain so_far ls w.status (flow_line ls cpu_0)) (lines_are d)
        ∙ ap (λ (o : Option BoardLine). in_chain so_far (board_lines s.lines) w.status o) rests)

    place_is : (o : Option ℕ) → o ≡ first_of (is_in_words w.status w.taken due) 64
        → first_of (is_left so_far (board_lines s.lines) w.status) (length (board_lines s.lines)) ≡ o
    place_is o found = sym (found ∙ left_place w due (board_lines s.lines) so_far is few walks)

    pub exit_next : None ≡ first_of (is_in_words w.status w.taken due) 64 → chain_next s.board so_far (actors.Cpu cpu_0) ≡ Some (steps.Exit cpu_0)
    exit_next found = walks_on ∙ ap (λ (o : Option ℕ). or_exit (child (due_on (line_at (board_lines s.lines) o) (actors.Cpu cpu_0)))) (place_is None found)

    pub left_due : (k : ℕ) → Some k ≡ first_of (is_in_words w.status w.taken due) 64 → (k < 32) × IsTrue (is_take_due cpu_0 (slice_get (board_lines s.lines) k))
    left_due k found =
        let f = first_some (is_left so_far (board_lines s.lines) w.status) (length (board_lines s.lines)) k (place_is (Some k) found) in
        (omega (arith, f.0, few), both (has w.status k) _ _ f.1)
      where
        both : (a b c : Bool) → (a && (b && c)) ≡ true → b ≡ true
        both true true c h = refl
        both true false c h = cc
        both false b c h = cc

    pub take_line : (k : ℕ) → Some k ≡ first_of (is_in_words w.status w.taken due) 64
        → child_for s.board so_far (actors.Cpu cpu_0) ≡ slice_get (board_lines s.lines) k
    take_line k found =
        ap (λ (o : Option ℕ). line_in_chain so_far (lines_in s.board so_far) o) walks.0
        ∙ (ap (λ (ls : List BoardLine). or_line (flow_line ls cpu_0) (first_left so_far ls w.status)) (lines_are d)
        ∙ (ap (λ (o : Option BoardLine). or_line o (first_left so_far (board_lines s.lines) w.status)) rests
        ∙ ap (λ (o : Option ℕ). line_at (board_lines s.lines) o) (place_is (Some k) found)))

    pub take_next : (k : ℕ) → Some k ≡ first_of (is_in_words w.status w.taken due) 64
        → chain_next s.board so_far (actors.Cpu cpu_0)
        ≡ child (due_on (slice_get (board_lines s.lines) k) (actors.Cpu cpu_0))
    take_next k found =
        let m = take_is_due (slice_get (board_lines s.lines) k) (left_due k found).1 in
        walks_on
        ∙ (ap (λ (o : Option ℕ). or_exit (child (due_on (line_at (board_lines s.lines) o) (actors.Cpu cpu_0)))) (place_is (Some k) found)
        ∙ (ap (λ (o : Option Move). or_exit (child o)) m.1 ∙ sym (ap (λ (o : Option Move). child o) m.1)))

-- ---- the number of a child

pub number_is : {X : Type 0} (f : X → LineSeen) (xs : List X) (lines : List LineSeen) (k : ℕ) (x : X) (d : LineDef)
    → map f xs ≡ lines → IsTrue (is_take_due cpu_0 (slice_get (board_lines lines) k)) → x ≡ get_or xs k x
    → d ≡ (f x).def → number_of (slice_get (board_lines lines) k) ≡ Some d.line
number_is f xs lines k x d same due is def =
    ap (λ (ls : List LineSeen). number_of (slice_get (board_lines ls) k)) (sym same)
    ∙ (ap (λ (o : Option BoardLine). number_of o) (line_seen f xs k x within is)
    ∙ ap (λ (e : LineDef). Some e.line) (sym def))
  where
    there : (o : Option BoardLine) → slice_get (board_lines (map f xs)) k ≡ o → IsTrue (is_take_due cpu_0 o) → k < length xs
    there None at h = cc
    there (Some y) at h =
        let w = slice_get_within (board_lines (map f xs)) k y at in
        let a : length (board_lines (map f xs)) ≡ length (map f xs) = length-map (map f xs) board_line in
        let b : length (map f xs) ≡ length xs = length-map xs f in
        omega (arith, w, a, b)

    within : k < length xs
    within = there (slice_get (board_lines (map f xs)) k) refl
        (subst (λ (ls : List LineSeen). IsTrue (is_take_due cpu_0 (slice_get (board_lines ls) k))) (sym same) due)
