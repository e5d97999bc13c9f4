-- A sleep, step by step.
use Rattle.std.proofs.Common.{◌≡◌, ℕ, ◌+◌, ◌-◌, ◌<◌, ◌≤◌, Bool, true, false, not, ◌&&◌, cond, IfSome}
use Rattle.std.proofs.Common.{IsSomeAnd, Option, Some, None, Result, Ok, Err, List, [], ◌∷◌, ◌++◌, length, reverse}
use Rattle.std.proofs.Common.{refl, sym, ap, ◌∙◌, subst, arith}
use Rattle.std.proofs.lemmas.List.{reverse-append, length_push}
use Rattle.irq_base.specs.declared.entries.Actor.{Actor}
use Rattle.irq_base.specs.declared.numbers.LineNo.{LineNo}
use Rattle.irq_line.specs.declared.answers.StepRefused.{StepRefused}
use Rattle.irq_line.specs.declared.answers.StepRefused.TheVariants as refusals
use Rattle.irq_model.specs.Kinds.{same_line}
use Rattle.irq_model.proofs.Same.{line_from_same, same_self_line}
use Rattle.irq_laws.proofs.Lists.{both_ways}
use Rattle.board_def.specs.Seen.{BoardSeen}
use Rattle.board_play.specs.Lines.{BoardLine, Move, part, defs_of, lines_of, lines_after, find_line}
use Rattle.board_play.specs.Order.{threads_of, cpus_of}
use Rattle.board_play.proofs.Moving.{lines_more}
use Rattle.board_core.specs.Firsts.{IsFirstOf}
use Rattle.board_core.specs.Seen.{SystemSeen, board_lines}
use Rattle.board_core.specs.Turns.{move_of, Moves, IsFullFor, TurnsBy, Turns, lowest_move}
use Rattle.board_core.specs.declared.turns.Turn.{Turn}
use Rattle.board_core.specs.declared.turns.Turn.TheVariants as turns
use Rattle.board_core.proofs.Movers.{first_there, none_there, some_of}
use Rattle.board_core.proofs.Underway.{part_in}
use Rattle.board_play.specs.Orders.{IsMade, moves_in}
use Rattle.irq_pm.specs.Phases.{Phase, Picking, Disabling, Asleep, Enabling, Going, Next}
use Rattle.irq_pm.specs.Phases.{sleep_next, sleep_order}
use Rattle.irq_sleeper.specs.Seen.{SleeperSeen, log_of, marked}
use Rattle.irq_pm.specs.SleepLog.{moves_of}
use Rattle.irq_sleeper.specs.Steps.{IsFresh, Made, Watched, StepsBy, Heeded, Heeds, IsRefused, IsSleep, IsTold, AreMarked, IsUnderway, Stays, inner_of}
use Rattle.irq_pm.specs.Waking.{woken_by, is_among, was_disabled}
use Rattle.irq_sleeper.specs.Watching.{Watches}
use Rattle.irq_pm.specs.declared.entries.SleepEntry.{SleepEntry}
use Rattle.irq_sleeper.specs.declared.marks.WakeMark.{WakeMark}
use Rattle.irq_sleeper.proofs.Marking.{IsWithin, IsWakeWithin, marked_more}
use Rattle.irq_pm.proofs.Order.{step_of}
use Rattle.irq_pm.proofs.Through.{moves_are}

-- the next step of the sleep in this phase
abbrev pub next_of : SleeperSeen → Phase → Option Next
next_of s at = sleep_next s.system.board s.watch.armed (reverse s.system.log) at

-- ---- before the first step

pub fresh : (s : SleeperSeen) (picks : List Actor) → IsFresh s → IsUnderway s picks (Picking picks)
fresh s picks f =
    let none : s.system.log ≡ [] = f.system.log in
    let empty : log_of s ≡ [] = ap (λ (g : List Move). marked s.asleep s.wake 0 g) none
    ∙ (ap (λ (a : Option ℕ). marked a s.wake 0 []) f.asleep
    ∙ ap (λ (w : Option WakeMark). marked None w 0 []) f.wake) in
    let none_yet : reverse s.system.log ≡ [] = ap (λ (g : List Move). reverse g) none in
    record {
      told = record {
        lines = f.system.lines ∙ ap (λ (g : List Move). lines_of s.system.board g) (sym none_yet);
        told = ap (λ (g : List SleepEntry). moves_of (reverse g)) empty ∙ sym none_yet;
      };
      marks = (f.asleep, f.wake);
      watch = record {
        awake = λ line. ap (λ (ls : List LineNo). is_among line ls) f.awake
            ∙ (all_awake (is_among line s.watch.armed) ∙ ap
            (λ (g : List Move). is_among line s.watch.armed && not (was_disabled line g)) (sym none_yet));
        woken = f.woken ∙ ap (λ (g : List Move). woken_by s.watch.armed g) (sym none_yet);
      };
      phase = Picking picks;
      made = subst (λ (g : List SleepEntry). IsMade (sleep_order s.system.board s.watch.armed) (Picking picks) (reverse g) (Picking picks)) (sym empty) refl;
      next = refl;
    }
  where
    all_awake : (b : Bool) → b ≡ (b && true)
    all_awake true = refl
    all_awake false = refl

-- ---- one step

-- the marks stay where they are while the log grows
marks_stay : (at : Phase) (old new : SleeperSeen) → new.asleep ≡ old.asleep → new.wake ≡ old.wake
    → length old.system.log ≤ length new.system.log → AreMarked at old → AreMarked at new
marks_stay at old new a w le marks = by_phase at marks
  where
    within : (o : Option ℕ) → IfSome o (λ k. k ≤ length old.system.log) → IfSome o (λ k. k ≤ length new.system.log)
    within None h = tt
    within (Some k) h = let s : k ≤ length old.system.log = h in omega (arith, s, le)

    wake_within : (o : Option WakeMark) → IfSome o (λ w. w.at ≤ length old.system.log) → IfSome o (λ w. w.at ≤ length new.system.log)
    wake_within None h = tt
    wake_within (Some w) h = let s : w.at ≤ length old.system.log = h in omega (arith, s, le)

    asleep_in : IfSome old.asleep (λ k. k ≤ length old.system.log) → IfSome new.asleep (λ k. k ≤ length new.system.log)
    asleep_in h = subst (λ (o : Option ℕ). IfSome o (λ k. k ≤ length new.system.log)) (sym a) (within old.asleep h)

    wake_in : IfSome old.wake (λ w. w.at ≤ length old.system.log) → IfSome new.wake (λ w. w.at ≤ length new.system.log)
    wake_in h = subst (λ (o : Option WakeMark). IfSome o (λ w. w.at ≤ length new.system.log)) (sym w) (wake_within old.wake h)

    by_phase : (at : Phase) → AreMarked at old → AreMarked at new
    by_phase (Picking picks) h = (a ∙ h.0, w ∙ h.1)
    by_phase Disabling h = (a ∙ h.0, w ∙ h.1)
    by_phase Asleep h = (asleep_in h.0, w ∙ h.1)
    by_phase Enabling h = (asleep_in h.0, wake_in h.1)
    by_phase Going h = (asleep_in h.0, wake_in h.1)

no_wake : (o : Option WakeMark) (n : ℕ) → o ≡ None → IsWakeWithin o n
no_wake None n is = tt
no_wake (Some w) n is = cc

no_asleep : (o : Option ℕ) (n : ℕ) → o ≡ None → IsWithin o n
no_asleep None n is = tt
no_asleep (Some w) n is = cc

-- no mark stands behind the log's end
placed : (at : Phase) (s : SleeperSeen) → AreMarked at s → IsWithin s.asleep (length s.system.log) × IsWakeWithin s.wake (length s.system.log)
placed (Picking picks) s h = (no_asleep s.asleep (length s.system.log) h.0, no_wake s.wake (length s.system.log) h.1)
placed Disabling s h = (no_asleep s.asleep (length s.system.log) h.0, no_wake s.wake (length s.system.log) h.1)
placed Asleep s h = (h.0, no_wake s.wake (length s.system.log) h.1)
placed Enabling s h = h
placed Going s h = h

-- the log after a move
log_more : (old new : SleeperSeen) (due : Option Move) (at : Phase) (m : Made old due new) → AreMarked at old
    → reverse (log_of new) ≡ step_of m.move ∷ reverse (log_of old)
log_more old new due at m marks =
    let p = placed at old marks in
    let zero_more : 0 + length old.system.log ≡ length old.system.log = omega arith in
    ap (λ (a : Option ℕ). reverse (marked a new.wake 0 new.system.log)) m.asleep
    ∙ (ap (λ (w : Option WakeMark). reverse (marked old.asleep w 0 new.system.log)) m.wake
    ∙ (ap (λ (g : List Move). reverse (marked old.asleep old.wake 0 g)) m.moves.log
    ∙ (ap (λ (g : List SleepEntry). reverse g)
    (marked_more old.asleep old.wake 0 old.system.log m.move
    (subst (λ (n : ℕ). IsWithin old.asleep n) (sym zero_more) p.0)
    (subst (λ (n : ℕ). IsWakeWithin old.wake n) (sym zero_more) p.1))
    ∙ reverse-append (log_of old) (step_of m.move ∷ []))))

-- the log of moves after a move
moves_more : (old new : SleeperSeen) (due : Option Move) (m : Made old due new) → reverse new.system.log ≡ m.move ∷ reverse old.system.log
moves_more old new due m = ap (λ (g : List Move). reverse g) m.moves.log ∙ reverse-append old.system.log (m.move ∷ [])

pub told_more : (old new : SleeperSeen) (due : Option Move) (at : Phase) → AreMarked at old → IsTold old → Made old due new → IsTold new
told_more old new due at marks t m =
    record {
      lines = m.moves.lines
          ∙ (ap (λ (ls : List BoardLine). lines_after m.move ls) t.lines
          ∙ (sym (lines_more (defs_of old.system.board) m.move (reverse old.system.log))
          ∙ (ap (λ (g : List Move). lines_of old.system.board g) (sym (moves_more old new due m))
          ∙ ap (λ (b : BoardSeen). lines_of b (reverse new.system.log)) (sym m.moves.board))));
      told = ap (λ (g : List SleepEntry). moves_of g) (log_more old new due at m marks)
          ∙ (ap (λ (g : List Move). m.move ∷ g) t.told ∙ sym (moves_more old new due m));
    }

-- the steps so far, and one more
made_more : (old new : SleeperSeen) (picks : List Actor) (due : Option Move) (at after : Phase)
    → IsUnderway old picks at → (m : Made old due new)
    → ((x : Move) → due ≡ Some x → next_of old at ≡ Some (step_of x, after))
    → IsMade (sleep_order new.system.board new.watch.armed) (Picking picks) (reverse (log_of new)) after
made_more old new picks due at after u m next =
    let o = sleep_order old.system.board old.watch.armed in
    let g = reverse (log_of old) in
    let now : sleep_next old.system.board old.watch.armed (moves_of g) u.phase ≡ Some (step_of m.move, after) =
    ap (λ (h : List Move). sleep_next old.system.board old.watch.armed h u.phase) u.told.told ∙ (u.next ∙ next m.move m.moves.is) in
    let has : length (part m.move.0 (reverse old.system.log)) < old.system.board.log
    = part_in old.system m.move.0 (λ past. length past < old.system.board.log) u.told.lines m.moves.room in
    let room : length (part m.move.0 (moves_in o g)) < old.system.board.log =
    subst (λ (h : List Move). length (part m.move.0 h) < old.system.board.log) (sym (moves_are old.system.board old.watch.armed g ∙ u.told.told)) has in
    let made : IsMade o (Picking picks) (step_of m.move ∷ g) after = (u.phase, u.made, now, room) in
    subst (λ (b : BoardSeen). IsMade (sleep_order b new.watch.armed) (Picking picks) (reverse (log_of new)) after) (sym m.moves.board)
    (subst (λ (a : List LineNo). IsMade (sleep_order old.system.board a) (Picking picks) (reverse (log_of new)) after) (sym m.armed)
    (subst (λ (h : List SleepEntry). IsMade o (Picking picks) h after) (sym (log_more old new due at m u.marks)) made))

longer : (old new : SleeperSeen) (due : Option Move) → Made old due new → length old.system.log ≤ length new.system.log
longer old new due m =
    let n : length new.system.log ≡ length (old.system.log ++ m.move ∷ []) = ap (λ (g : List Move). length g) m.moves.log in
    let k = length_push old.system.log m.move in
    omega (arith, n, k)

pub more : (old new : SleeperSeen) (picks : List Actor) (due : Option Move) (at after : Phase) → IsUnderway old picks at
    → Watched old due new → ((x : Move) → due ≡ Some x → next_of old at ≡ Some (step_of x, after))
    → (AreMarked at new → AreMarked after new) → IsUnderway new picks after
more old new picks due at after u w next same_marks =
    record {
      told = told_more old new due at u.marks u.told w.made;
      marks = same_marks (marks_stay at old new w.made.asleep w.made.wake (longer old new due w.made) u.marks);
      watch = subst (λ (g : List Move). Watches new.watch g) (sym (moves_more old new due w.made)) (w.watch (reverse old.system.log) u.watch);
      phase = after;
      made = made_more old new picks due at after u w.made next;
      next = refl;
    }

-- another phase with the same next step
pub at_other : (s : SleeperSeen) (picks : List Actor) (at other : Phase) → IsUnderway s picks at
    → (AreMarked at s → AreMarked other s) → next_of s at ≡ next_of s other → IsUnderway s picks other
at_other s picks at other u marks same = record { told = u.told; marks = marks u.marks; watch = u.watch; phase = u.phase; made = u.made; next = u.next ∙ same }

-- ---- ends

-- nothing comes next
pub ended : (s : SleeperSeen) (picks : List Actor) (at : Phase) → IsUnderway s picks at → next_of s at ≡ None → IsSleep s picks (Ok tt)
ended s picks at u none = (u.phase, u.made, ap (λ (h : List Move). sleep_next s.system.board s.watch.armed h u.phase) u.told.told ∙ (u.next ∙ none))

pub filled : (s : SleeperSeen) (picks : List Actor) (at after : Phase) (due : Option Move) (line : LineNo) (len : ℕ)
    → IsUnderway s picks at → IsFullFor s.system due line len
    → ((x : Move) → due ≡ Some x → next_of s at ≡ Some (step_of x, after)) → IsSleep s picks (Err (refusals.Full line len))
filled s picks at after due line len u full next =
    let told : length (part line (reverse s.system.log)) ≡ len = part_in s.system line (λ past. length past ≡ len) u.told.lines full.length in
    let g = reverse (log_of s) in (
      (
        u.phase,
        u.made,
        record {
          step = step_of full.move;
          after = after;
          next_is = ap (λ (h : List Move). sleep_next s.system.board s.watch.armed h u.phase) u.told.told ∙ (u.next ∙ next full.move full.is);
          move = full.move;
          tells = refl;
          of_line = full.of_line;
          is_long = ap (λ (h : List Move). length (part line h)) (moves_are s.system.board s.watch.armed g ∙ u.told.told) ∙ (told ∙ full.log);
        },
      ),
      told,
    )

-- a step was refused
pub stopped : (old new : SleeperSeen) (picks : List Actor) (at after : Phase) (due : Option Move) (refused : StepRefused)
    → IsUnderway old picks at → StepsBy old due (Err refused) new
    → ((x : Move) → due ≡ Some x → next_of old at ≡ Some (step_of x, after)) → IsTold new × IsSleep new picks (Err refused)
stopped old new picks at after due refused u steps next =
    subst (λ (s : SleeperSeen). IsTold s × IsSleep s picks (Err refused)) (sym steps.1) (u.told, by_refusal refused steps.0)
  where
    by_refusal : (refused : StepRefused) → IsRefused old.system due refused → IsSleep old picks (Err refused)
    by_refusal (refusals.Full line len) full = filled old picks at after due line len u full next
    by_refusal refusals.NoMemory somebody = (u.phase, u.made, somebody)

-- ---- board, layout and armed lines stay

pub stays : (s : SleeperSeen) → Stays s s
stays s = record { board = refl; layout = refl; armed = refl }

pub stays_on : (a b c : SleeperSeen) → Stays a b → Stays b c → Stays a c
stays_on a b c x y = record { board = y.board ∙ x.board; layout = y.layout ∙ x.layout; armed = y.armed ∙ x.armed }

made_stays : (old new : SleeperSeen) (due : Option Move) → Made old due new → Stays old new
made_stays old new due m = record { board = m.moves.board; layout = m.moves.layout; armed = m.armed }

same_stays : (old new : SleeperSeen) → new ≡ old → Stays old new
same_stays old new same = subst (λ (s : SleeperSeen). Stays old s) (sym same) (stays old)

pub steps_stay : (old new : SleeperSeen) (due : Option Move) (r : Result Bool StepRefused) → StepsBy old due r new → Stays old new
steps_stay old new due (Ok true) s = made_stays old new due s.made
steps_stay old new due (Ok false) s = same_stays old new s.1
steps_stay old new due (Err refused) s = same_stays old new s.1

-- ---- it ends

-- how many more entries the logs have room for
room : ℕ → List BoardLine → ℕ
room log [] = 0
room log (x ∷ xs) = (log - length x.past) + room log xs

pub room_of : SystemSeen → ℕ
room_of s = room s.board.log (board_lines s.lines)

room_kept : (log : ℕ) (m : Move) (lines : List BoardLine) → room log (lines_after m lines) ≤ room log lines
unfolding room
room_kept log m [] = omega arith
room_kept log m (x ∷ xs) = by_test (same_line x.def.line m.0) (room_kept log m xs)
  where
    by_test : (b : Bool) → room log (lines_after m xs) ≤ room log xs
        → (log - length (cond b (m.1 ∷ x.past) x.past)) + room log (lines_after m xs) ≤ (log - length x.past) + room log
        xs
    by_test true le = omega (arith, le)
    by_test false le = omega (arith, le)

room_less : (log : ℕ) (m : Move) (lines : List BoardLine) → IsSomeAnd (find_line lines m.0) (λ x. length x.past < log)
    → room log (lines_after m lines) < room log lines
unfolding room
room_less log m [] h = absurd h
room_less log m (x ∷ xs) h = by_test (same_line m.0 x.def.line) refl h (room_kept log m xs) (λ h. room_less log m xs h)
  where
    same_again : same_line m.0 x.def.line ≡ true → same_line x.def.line m.0 ≡ true
    same_again same = ap (λ (l : LineNo). same_line l m.0) (sym (line_from_same m.0 x.def.line same)) ∙ same_self_line m.0

    by_moved : (b : Bool) → same_line m.0 x.def.line ≡ true → same_line x.def.line m.0 ≡ b → length x.past < log → room log (lines_after m xs) ≤ room log xs
        → (log - length (cond b (m.1 ∷ x.past) x.past)) + room log (lines_after m xs) < (log - length x.past) + room log xs
    by_moved true same is less le = omega (arith, less, le)
    by_moved false same is less le = both_ways (same_line x.def.line m.0) (same_again same) is

    by_less : (b : Bool) → room log (lines_after m xs) < room log xs
        → (log - length (cond b (m.1 ∷ x.past) x.past)) + room log (lines_after m xs) < (log - length x.past) + room log
        xs
    by_less true lt = omega (arith, lt)
    by_less false lt = omega (arith, lt)

    by_test : (b : Bool) → same_line m.0 x.def.line ≡ b
        → IsSomeAnd (cond b (Some x) (find_line xs m.0)) (λ x. length x.past < log)
        → room log (lines_after m xs) ≤ room log xs
        → (IsSomeAnd (find_line xs m.0) (λ x. length x.past < log) → room log (lines_after m xs) < room log xs)
        → (log - length (cond (same_line x.def.line m.0) (m.1 ∷ x.past) x.past)) + room log (lines_after m xs) < (log - length x.past) + room log xs
    by_test true same h le deeper = by_moved (same_line x.def.line m.0) same refl h le
    by_test false other h le deeper = by_less (same_line x.def.line m.0) (deeper h)

pub room_falls : (old new : SleeperSeen) (due : Option Move) → Made old due new → room_of new.system < room_of old.system
unfolding room_of
room_falls old new due m =
    subst (λ (n : ℕ). n < room old.system.board.log (board_lines old.system.lines))
    (ap (λ (ls : List BoardLine). room old.system.board.log ls) (sym m.moves.lines)
    ∙ ap (λ (b : BoardSeen). room b.log (board_lines new.system.lines)) (sym m.moves.board))
    (room_less old.system.board.log m.move (board_lines old.system.lines) m.moves.room)

-- ---- a turn, and what is noted of it

-- the sleeper whose system has turned
abbrev pub turned : SleeperSeen → SystemSeen → SleeperSeen
turned old system = record { system = system; watch = old.watch; asleep = old.asleep; wake = old.wake }

unturned : (old : SleeperSeen) (system : SystemSeen) (new : SleeperSeen) → system ≡ old.system → new ≡ turned old system → new ≡ old
unturned old system new same is = is ∙ ap (λ (s : SystemSeen). turned old s) same

abbrev heeded : (old : SleeperSeen) (system : SystemSeen) (new : SleeperSeen) (due : Option Move) (m : Move)
    → Moves old.system due m system → Heeded (turned old system) new → Made old due new
heeded old system new due m moves h =
    record { move = m; moves = subst (λ (s : SystemSeen). Moves old.system due m s) (sym h.system) moves; armed = h.armed; asleep = h.asleep; wake = h.wake }

pub steps_by : (old : SleeperSeen) (system : SystemSeen) (new : SleeperSeen) (due : Option Move) (turn : Turn) (made : Bool)
    → TurnsBy old.system due (Ok turn) system → Heeds (turned old system) turn made new → StepsBy old due (Ok made) new
steps_by old system new due (turns.Moved line e) made t h =
    subst (λ (b : Bool). StepsBy old due (Ok b) new) (sym h.0) (record { made = heeded old system new due (line, e) t h.1; watch = h.2 })
steps_by old system new due turns.NotYet made t h =
    subst (λ (b : Bool). StepsBy old due (Ok b) new) (sym h.0) (t.0, unturned old system new t.1 h.1)

-- a turn that was refused
pub step_refused : (old : SleeperSeen) (system : SystemSeen) (a : Actor) (refused : StepRefused) → Turns old.system a (Err refused) system
    → StepsBy old (move_of old.system a) (Err refused) (turned old system)
step_refused old system a (refusals.Full line len) t = (t.0, ap (λ (s : SystemSeen). turned old s) t.1)
step_refused old system a refusals.NoMemory t = (t.0.somebody, ap (λ (s : SystemSeen). turned old s) t.1)

pub lowest_refused : (old : SleeperSeen) (system : SystemSeen) (refused : StepRefused) → TurnsBy old.system (lowest_move old.system) (Err refused) system
    → StepsBy old (lowest_move old.system) (Err refused) (turned old system)
lowest_refused old system (refusals.Full line len) t = (t.0, ap (λ (s : SystemSeen). turned old s) t.1)
lowest_refused old system refusals.NoMemory t = (t.0, ap (λ (s : SystemSeen). turned old s) t.1)

-- ---- the lowest thread or processor

pub inner_none : (s : SystemSeen) → IsFirstOf s (threads_of s.board ++ cpus_of s.board) None → inner_of s ≡ None
inner_none s first = none_there s.board (board_lines s.lines) (threads_of s.board ++ cpus_of s.board) first

pub inner_some : (s : SystemSeen) (a : Actor) → IsFirstOf s (threads_of s.board ++ cpus_of s.board) (Some a) → inner_of s ≡ move_of s a
inner_some s a first =
    let m = some_of (move_of s a) first.moves in
    first_there s.board (board_lines s.lines) (threads_of s.board ++ cpus_of s.board) first.place a m.0 first.at m.1 first.before ∙ sym m.1
