-- What holds of every sleep: its lines, each line's history, what wakes it, and its end.
use Rattle.std.proofs.Common.{All, ◌≡◌, inl, inr, ℕ, ◌<◌, Bool, true, false, cond, Option, Some, None, List, [], ◌∷◌}
use Rattle.std.proofs.Common.{◌++◌, reverse, slice_get, refl, sym, ap, ◌∙◌, subst}
use Rattle.std.proofs.lemmas.List.{reverse-reverse}
use Rattle.std.proofs.lemmas.Bool.{and_parts}
use Rattle.std.specs.List.{list_any}
use Rattle.irq_base.specs.declared.entries.Actor.{Actor}
use Rattle.irq_base.specs.declared.entries.Actor.TheVariants as actors
use Rattle.irq_base.specs.declared.entries.Entry.{Entry}
use Rattle.irq_base.specs.declared.lines.LineDef.{LineDef}
use Rattle.irq_base.specs.declared.numbers.DriverNo.{DriverNo}
use Rattle.irq_base.specs.declared.numbers.LineNo.{LineNo}
use Rattle.irq_model.specs.Kinds.{same_line, same_driver, is_driver, is_start}
use Rattle.irq_model.specs.Legal.{IsLegalPast}
use Rattle.irq_model.specs.Links.{depth}
use Rattle.irq_model.specs.Places.{EachEntry}
use Rattle.irq_model.specs.Valid.{IsValid}
use Rattle.irq_model.proofs.Same.{driver_from_same}
use Rattle.irq_laws.proofs.Lists.{both_ways}
use Rattle.play_laws.specs.Actors.{IsOneOf}
use Rattle.board_def.specs.Rules.{IsBoard, IsActorOf, has_driver}
use Rattle.board_def.proofs.Rising.{head_of, tail_of}
use Rattle.board_def.specs.Seen.{BoardSeen}
use Rattle.board_driver.specs.Longer.{last_driver}
use Rattle.board_play.specs.Kept.{AreKept}
use Rattle.board_play.specs.Lines.{BoardLine, Move, part, lines_of, defs_of}
use Rattle.board_play.specs.Order.{due_move, threads_of, cpus_of, actors_of}
use Rattle.board_play.specs.Play.{End, Done, first_move, or_move}
use Rattle.board_play.proofs.KeptAlways.{kept_fresh}
use Rattle.board_play.proofs.Listed.{def_at}
use Rattle.board_play.proofs.Members.{line_there, past_at}
use Rattle.board_play.proofs.Moving.{lines_more}
use Rattle.board_play.proofs.OfBoard.{valid_defs}
use Rattle.board_core.proofs.Movers.{none_listed}
use Rattle.board_play.proofs.OneOrderedPlay.{one_play}
use Rattle.board_play.specs.Orders.{IsMade, moves_in, onto}
use Rattle.irq_pm.proofs.LeftAlone.{left_alone}
use Rattle.irq_pm.proofs.SleepLaws.{rests, still_at}
use Rattle.irq_pm.proofs.ResumeLaws.{resumes_as_it_was}
use Rattle.irq_pm.specs.Sleeping.{is_synced_by, is_suspended, is_asleep, is_left_alone, since_disable, others_only_ask}
use Rattle.irq_pm.specs.SleptLines.{begins_run, IsReopening}
use Rattle.irq_pm.specs.Phases.{Phase, Picking, Disabling, Asleep, Enabling, Going, disabling, sleeping, going, due_of}
use Rattle.irq_pm.specs.Phases.{inner_move, is_disable_due, last_move, ask_move, picked, step_in, sleep_next}
use Rattle.irq_pm.specs.Phases.{sleep_order}
use Rattle.irq_pm.specs.SleepLog.{told, moves_of}
use Rattle.irq_pm.specs.SleptBoard.{are_runs_calm, slept}
use Rattle.irq_pm.specs.Slept.{Sleeps, SleepsThrough, IsReopened, NamesWaker}
use Rattle.irq_pm.specs.Waking.{woken_by}
use Rattle.irq_pm.specs.declared.entries.SleepEntry.{SleepEntry}
use Rattle.irq_pm.specs.declared.entries.SleepEntry.TheVariants as sleeps
use Rattle.irq_pm.proofs.Alone.{awake_is_alone}
use Rattle.irq_pm.proofs.Calm.{calm_def}
use Rattle.irq_pm.proofs.Keeps.{Holds, NoneIsLast, IsAloneOn, IsAwakeOn, after_move, keeps}
use Rattle.irq_pm.proofs.Listed.{no_thread_moves, no_cpu_moves}
use Rattle.irq_pm.proofs.Order.{either_next, neither_move, neither_next, of_step, of_mark, no_step}
use Rattle.irq_pm.proofs.Script.{its_script}
use Rattle.irq_pm.proofs.Turning.{Each, never_stuck}

-- the lines after one more step
lines_step : (b : BoardSeen) (e : SleepEntry) (g : List SleepEntry) → lines_of b (moves_of (e ∷ g)) ≡ after_move (told e) (lines_of b (moves_of g))
lines_step b (sleeps.Step line entry) g = lines_more (defs_of b) (line, entry) (moves_of g)
lines_step b sleeps.Asleep g = refl
lines_step b (sleeps.Wake line) g = refl

-- the order's moves are the log's
pub moves_are : (b : BoardSeen) (armed : List LineNo) (g : List SleepEntry) → moves_in (sleep_order b armed) g ≡ moves_of g
moves_are b armed [] = refl
moves_are b armed (e ∷ g) = ap (λ (h : List Move). onto (told e) h) (moves_are b armed g)

-- ---- the picks of a board

driver_differs : (b : BoardSeen) → has_driver b.drivers last_driver ≡ false → (a : Actor) → IsActorOf b a → is_driver last_driver a ≡ false
driver_differs b free (actors.Thread dev) of_board = refl
driver_differs b free (actors.Cpu cpu) of_board = refl
driver_differs b free (actors.Driver r) of_board = by_test (same_driver last_driver r) refl
  where
    by_test : (t : Bool) → same_driver last_driver r ≡ t → same_driver last_driver r ≡ false
    by_test false differs = differs
    by_test true same = both_ways (has_driver b.drivers last_driver)
        (ap (λ (d : DriverNo). has_driver b.drivers d) (driver_from_same last_driver r same) ∙ of_board) free

all_at : (P : Actor → Type 0) (picks : List Actor) → All P picks → (a : Actor) → IsOneOf a picks → P a
all_at P [] all a at = absurd at
all_at P (x ∷ xs) all a at = elim at [ inl here ↦ subst P (sym here) (head_of P x xs all) | inr there ↦ all_at P xs (tail_of P x xs all) a there ]

pub picks_are_others : (b : BoardSeen) → IsBoard b → has_driver b.drivers last_driver ≡ false → NoneIsLast b.picks
picks_are_others b is free a at = driver_differs b free a (all_at (IsActorOf b) b.picks is.picks a at)

-- ---- step by step

module _ (b : BoardSeen) (is : IsBoard b) (long : IsBoard (slept b)) (free : has_driver b.drivers last_driver ≡ false) (armed : List LineNo) where
  pub record State (g : List SleepEntry) (at : Phase) : Type 0 where
    pub kept : AreKept (slept b) (lines_of (slept b) (moves_of g))
    pub holds : Holds at (lines_of (slept b) (moves_of g))

  fresh_awake : Each IsAwakeOn (lines_of (slept b) [])
  fresh_awake i x at = ap (λ (past : List Entry). is_suspended last_driver past) (past_at (defs_of (slept b)) [] i x at)

  pub state : (g : List SleepEntry) (at : Phase) → IsMade (sleep_order (slept b) armed) (Picking b.picks) g at → State g at
  state [] at made = subst (λ (p : Phase). State [] p) (sym made) (record { kept = kept_fresh (slept b); holds = (picks_are_others b is free, fresh_awake) })
  state (e ∷ g) at made =
      let s = state g made.0 made.1 in
      let next = keeps b is long free armed (moves_of g) s.kept made.0 e at s.holds made.2 in
      record {
        kept = subst (λ (ls : List BoardLine). AreKept (slept b) ls) (sym (lines_step (slept b) e g)) next.0;
        holds = subst (λ (ls : List BoardLine). Holds at ls) (sym (lines_step (slept b) e g)) next.1;
      }

  -- in each phase the lines are left alone
  alone_in : (at : Phase) (lines : List BoardLine) → Holds at lines → Each IsAloneOn lines
  alone_in (Picking picks) lines h = λ i x at. awake_is_alone x.past (h.1 i x at)
  alone_in Disabling lines h = h
  alone_in Asleep lines h = h.0
  alone_in Enabling lines h = h.0
  alone_in Going lines h = λ i x at. awake_is_alone x.past (h i x at).0

  -- ---- one line

  module _ (i : ℕ) (def : LineDef) (at_def : slice_get (defs_of (slept b)) i ≡ Some def) where
    abbrev pub past_of : List SleepEntry → List Entry
    past_of g = part def.line (moves_of g)

    there : (g : List SleepEntry) → slice_get (lines_of (slept b) (moves_of g)) i ≡ Some (record { def = def; past = past_of g })
    there g = line_there (defs_of (slept b)) (moves_of g) i def at_def

    pub legal : (g : List SleepEntry) (at : Phase) → IsMade (sleep_order (slept b) armed) (Picking b.picks) g at → IsLegalPast def (past_of g)
    legal g at made = (state g at made).kept.legal i (record { def = def; past = past_of g }) (there g)

    alone : are_runs_calm b ≡ true → (g : List SleepEntry) (at : Phase) → IsMade (sleep_order (slept b) armed) (Picking b.picks) g at
        → is_suspended last_driver (past_of g) ≡ true → is_left_alone last_driver (past_of g) ≡ true
    alone calm g at made stands =
        let back : (P : List Entry → Type 0) → P (past_of g) → P (reverse (reverse (past_of g))) = λ P p. subst P (sym (reverse-reverse (past_of g))) p in
        let others = alone_in at (lines_of (slept b) (moves_of g)) (state g at made).holds i (record { def = def; past = past_of g }) (there g) stands in
        subst (λ (p : List Entry). is_left_alone last_driver p ≡ true) (reverse-reverse (past_of g))
        (left_alone def last_driver (reverse (past_of g)) (back (λ p. IsLegalPast def p) (legal g at made))
        (calm_def b calm i def at_def) (its_script b is long free i def at_def)
        (back (λ p. is_suspended last_driver p ≡ true) stands) (back (λ p. others_only_ask last_driver p ≡ true) others))

    -- a law of each entry, and of what stands before it, of a line that is left alone
    abbrev IsLawful : (Entry → List Entry → Type 0) → Type 0
    IsLawful P = (e : Entry) (past : List Entry) → IsLegalPast def (e ∷ past)
        → (is_suspended last_driver (e ∷ past) ≡ true → is_left_alone last_driver (e ∷ past) ≡ true)
        → (is_suspended last_driver past ≡ true → is_left_alone last_driver past ≡ true) → P e past

    each : are_runs_calm b ≡ true → (P : Entry → List Entry → Type 0) → IsLawful P → (g : List SleepEntry) (at : Phase)
        → IsMade (sleep_order (slept b) armed) (Picking b.picks) g at → EachEntry P (past_of g)
    each calm P law [] at made = tt
    each calm P law (sleeps.Asleep ∷ g) at made = each calm P law g made.0 made.1
    each calm P law (sleeps.Wake line ∷ g) at made = each calm P law g made.0 made.1
    each calm P law (sleeps.Step line e ∷ g) at made = by_line (same_line def.line line) refl (each calm P law g made.0 made.1)
      where
        more : (t : Bool) → same_line def.line line ≡ t → past_of (sleeps.Step line e ∷ g) ≡ cond t (e ∷ past_of g) (past_of g)
        more t test = ap (λ (t : Bool). cond t (e ∷ past_of g) (past_of g)) test

        by_line : (t : Bool) → same_line def.line line ≡ t → EachEntry P (past_of g) → EachEntry P (past_of (sleeps.Step line e ∷ g))
        by_line false test before = subst (λ (p : List Entry). EachEntry P p) (sym (more false test)) before
        by_line true test before =
            let same = more true test in
            subst (λ (p : List Entry). EachEntry P p) (sym same) (
              law e (past_of g) (subst (λ (p : List Entry). IsLegalPast def p) same (legal (sleeps.Step line e ∷ g) at made))
                  (subst (λ (p : List Entry). is_suspended last_driver p ≡ true → is_left_alone last_driver p ≡ true)
                  same (alone calm (sleeps.Step line e ∷ g) at made)) (alone calm g made.0 made.1),
              before,
            )

    valid : IsValid def
    valid = valid_defs (slept b) long i def at_def

    asleep_stands : (past : List Entry) → is_asleep last_driver past ≡ true → is_suspended last_driver past ≡ true
    asleep_stands past asleep = (and_parts (is_suspended last_driver past) (list_any (is_synced_by last_driver) (since_disable last_driver past)) asleep).0

    opens : (e : Entry) (past : List Entry) → IsLegalPast def (e ∷ past)
        → (is_suspended last_driver past ≡ true → is_left_alone last_driver past ≡ true) → IsReopened e past
        → depth (e ∷ past) ≡ 0
    opens e past legal alone r =
        let back : IsLegalPast def (reverse (reverse (e ∷ past))) = subst (λ p. IsLegalPast def p) (sym (reverse-reverse (e ∷ past))) legal in
        let resumed = (resumes_as_it_was def last_driver (reverse (e ∷ past)) valid back).opens in
        let here : EachEntry (λ e past. IsReopening last_driver e past → (is_start e ≡ true) × (depth (e ∷ past) ≡ 0)) (e ∷ past) =
        subst (λ p. EachEntry (λ e past. IsReopening last_driver e past → (is_start e ≡ true) × (depth (e ∷ past) ≡ 0))
        p) (reverse-reverse (e ∷ past)) resumed in
        (here.0 (record {
          resume = record { enable = r.enable; suspended = r.suspended; alone = alone r.suspended };
          open_before = r.open_before;
          unkilled = r.unkilled;
        })).1

    pub through : are_runs_calm b ≡ true → (g : List SleepEntry) (at : Phase)
        → IsMade (sleep_order (slept b) armed) (Picking b.picks) g at → SleepsThrough (past_of g)
    through calm g at made =
        record {
          alone = each calm (λ e past. is_suspended last_driver (e ∷ past) ≡ true
              → is_left_alone last_driver (e ∷ past) ≡ true) (λ e past legal now before stands. now stands) g at made;
          still = each calm (λ e past. is_asleep last_driver past ≡ true → begins_run e ≡ false)
              (λ e past legal now before asleep. still_at def e past legal.0
              (rests def last_driver past valid legal.1 asleep (before (asleep_stands past asleep)))) g at made;
          deep = each calm (λ e past. is_asleep last_driver (e ∷ past) ≡ true → 0 < depth (e ∷ past))
              (λ e past legal now before asleep. (rests def last_driver (e ∷ past) valid legal asleep
              (now (asleep_stands (e ∷ past) asleep))).disabled) g at made;
          opens = each calm (λ e past. IsReopened e past → depth (e ∷ past) ≡ 0) (λ e past legal now before r. opens e past legal before r) g at made;
        }

  -- ---- its end

  -- the machine doesn't stay between two phases
  pub stuck : are_runs_calm b ≡ true → (lines : List BoardLine) → AreKept (slept b) lines → disabling (slept b) lines ≡ None → ⊥
  stuck calm lines k none = by_test (is_disable_due (due_of (slept b) lines last_driver)) refl none
    where
      by_test : (t : Bool) → is_disable_due (due_of (slept b) lines last_driver) ≡ t
          → cond t (step_in Disabling (or_move (last_move (slept b) lines) (inner_move (slept b) lines)))
          (Some (sleeps.Asleep, Asleep)) ≡ None → ⊥
      by_test false test none = cc
      by_test true test none =
          let no = neither_move (last_move (slept b) lines) (inner_move (slept b) lines)
          (no_step Disabling (or_move (last_move (slept b) lines) (inner_move (slept b) lines)) none) in
          let rest = none_listed (slept b) lines (threads_of (slept b) ++ cpus_of (slept b)) no.1 in
          never_stuck b is long free lines k calm (no_thread_moves (slept b) long lines k rest) (no_cpu_moves (slept b) long lines k rest) test no.0

  pub some_next : (woken : Option LineNo) (lines : List BoardLine) → sleeping woken (slept b) lines ≡ None → ⊥
  some_next (Some line) lines none = cc
  some_next None lines none = let n = (neither_next (step_in Asleep
      (or_move (inner_move (slept b) lines) (ask_move (slept b) lines))) (Some (sleeps.Wake None, Enabling)) none).1 in
      cc

  nobody_moves : are_runs_calm b ≡ true → (at : Phase) (g : List Move) → AreKept (slept b) (lines_of (slept b) g)
      → sleep_next (slept b) armed g at ≡ None → first_move (slept b) (lines_of (slept b) g) (actors_of (slept b))
      ≡ None
  nobody_moves calm (Picking picks) g k none = absurd (stuck calm (lines_of (slept b) g) k
      (neither_next (picked (slept b) (lines_of (slept b) g) picks) (disabling (slept b) (lines_of (slept b) g))
      none).1)
  nobody_moves calm Disabling g k none = absurd (stuck calm (lines_of (slept b) g) k none)
  nobody_moves calm Asleep g k none = absurd (some_next (woken_by armed g) (lines_of (slept b) g) none)
  nobody_moves calm Enabling g k none =
      no_step Going (first_move (slept b) (lines_of (slept b) g) (actors_of (slept b)))
      (neither_next (step_in Enabling (last_move (slept b) (lines_of (slept b) g))) (going (slept b) (lines_of (slept b) g)) none).1
  nobody_moves calm Going g k none = no_step Going (first_move (slept b) (lines_of (slept b) g) (actors_of (slept b))) none

  pub comes_to_rest : are_runs_calm b ≡ true → (g : List SleepEntry) → Sleeps (slept b) armed b.picks g Done → (a : Actor)
      → IsOneOf a (actors_of (slept b)) → due_move (slept b) (lines_of (slept b) (moves_of g)) a ≡ None
  comes_to_rest calm g played a at =
      none_listed (slept b) (lines_of (slept b) (moves_of g)) (actors_of (slept b))
      (nobody_moves calm played.0 (moves_of g) (state g played.0 played.1).kept played.2) a at

-- ---- what wakes the machine

not_asleep : (line : Option LineNo) → sleeps.Wake line ≡ sleeps.Asleep → ⊥
not_asleep line same = cc

same_line_woken : (a b : Option LineNo) → sleeps.Wake a ≡ sleeps.Wake b → a ≡ b
same_line_woken a b same = cc

module _ (b : BoardSeen) (armed : List LineNo) where
  none_is_wake : (phase : Phase) (o : Option Move) (line : Option LineNo) (after : Phase) → step_in phase o ≡ Some (sleeps.Wake line, after) → ⊥
  none_is_wake phase None line after next = cc
  none_is_wake phase (Some m) line after next = let is = (of_step phase (Some m) (sleeps.Wake line) after next).step in cc

  no_pick_wakes : (lines : List BoardLine) (picks : List Actor) (line : Option LineNo) (after : Phase)
      → picked b lines picks ≡ Some (sleeps.Wake line, after) → ⊥
  no_pick_wakes lines [] line after next = cc
  no_pick_wakes lines (p ∷ picks) line after next = elim (either_next (step_in (Picking picks) (due_move b lines p))
      (picked b lines picks) (sleeps.Wake line, after) next) [
        | inl step ↦ none_is_wake (Picking picks) (due_move b lines p) line after step
        | inr rest ↦ no_pick_wakes lines picks line after rest.1
      ]

  none_disabling : (lines : List BoardLine) (line : Option LineNo) (after : Phase) → disabling b lines ≡ Some (sleeps.Wake line, after) → ⊥
  none_disabling lines line after next = by_test (is_disable_due (due_of b lines last_driver)) next
    where
      by_test : (t : Bool) → cond t (step_in Disabling (or_move (last_move b lines) (inner_move b lines)))
          (Some (sleeps.Asleep, Asleep)) ≡ Some (sleeps.Wake line, after) → ⊥
      by_test true next = none_is_wake Disabling (or_move (last_move b lines) (inner_move b lines)) line after next
      by_test false next = not_asleep line (of_mark sleeps.Asleep Asleep (sleeps.Wake line) after next).0

  waker : (woken : Option LineNo) (lines : List BoardLine) (line : Option LineNo) (after : Phase)
      → sleeping woken b lines ≡ Some (sleeps.Wake line, after) → line ≡ woken
  waker (Some n) lines line after next = same_line_woken line (Some n) (of_mark (sleeps.Wake (Some n)) Enabling (sleeps.Wake line) after next).0
  waker None lines line after next = elim (either_next
      (step_in Asleep (or_move (inner_move b lines) (ask_move b lines))) (Some (sleeps.Wake None, Enabling))
      (sleeps.Wake line, after) next) [
        | inl step ↦ absurd (none_is_wake Asleep (or_move (inner_move b lines) (ask_move b lines)) line after step)
        | inr mark ↦ same_line_woken line None (of_mark (sleeps.Wake None) Enabling (sleeps.Wake line) after mark.1).0
      ]

  names : (phase : Phase) (g : List Move) (line : Option LineNo) (after : Phase)
      → sleep_next b armed g phase ≡ Some (sleeps.Wake line, after) → line ≡ woken_by armed g
  names (Picking picks) g line after next = elim (either_next (picked b (lines_of b g) picks) (disabling b (lines_of b g)) (sleeps.Wake line, after) next) [
    | inl pick ↦ absurd (no_pick_wakes (lines_of b g) picks line after pick)
    | inr rest ↦ absurd (none_disabling (lines_of b g) line after rest.1)
  ]
  names Disabling g line after next = absurd (none_disabling (lines_of b g) line after next)
  names Asleep g line after next = waker (woken_by armed g) (lines_of b g) line after next
  names Enabling g line after next = elim (either_next (step_in Enabling (last_move b (lines_of b g)))
      (going b (lines_of b g)) (sleeps.Wake line, after) next) [
        | inl step ↦ absurd (none_is_wake Enabling (last_move b (lines_of b g)) line after step)
        | inr rest ↦ absurd (none_is_wake Going (first_move b (lines_of b g) (actors_of b)) line after rest.1)
      ]
  names Going g line after next = absurd (none_is_wake Going (first_move b (lines_of b g) (actors_of b)) line after next)

  pub names_waker : (first : Phase) (g : List SleepEntry) (at : Phase) → IsMade (sleep_order b armed) first g at → NamesWaker armed g
  names_waker first [] at made = tt
  names_waker first (e ∷ g) at made = (
    λ line same. names made.0 (moves_of g) line at (subst
        (λ (x : SleepEntry). sleep_next b armed (moves_of g) made.0 ≡ Some (x, at)) same made.2),
    names_waker first g
        made.0 made.1,
  )

-- ---- in words of the laws

pub one_sleep : (b : BoardSeen) (armed : List LineNo) (picks : List Actor) (g h : List SleepEntry) (x y : End)
    → Sleeps b armed picks g x → Sleeps b armed picks h y → (g ≡ h) × (x ≡ y)
one_sleep b armed picks g h x y p q = one_play (sleep_order b armed) (Picking picks) g h x y p q

module _ (b : BoardSeen) (armed : List LineNo) (g : List SleepEntry) (end : End) (is : IsBoard b)
    (long : IsBoard (slept b)) (free : has_driver b.drivers last_driver ≡ false)
    (played : Sleeps (slept b) armed b.picks g end) where
  pub kept_lines : AreKept (slept b) (lines_of (slept b) (moves_of g))
  kept_lines = (state b is long free armed g played.0 played.1).kept

  pub lines_through : are_runs_calm b ≡ true → (i : ℕ) (x : BoardLine) → slice_get (lines_of (slept b) (moves_of g)) i ≡ Some x → SleepsThrough x.past
  lines_through calm i x at =
      let d = def_at (slept b) (lines_of (slept b) (moves_of g)) kept_lines i x at in
      subst (λ (p : List Entry). SleepsThrough p) (sym (past_at (defs_of (slept b)) (moves_of g) i x at))
      (through b is long free armed i x.def d calm g played.0 played.1)

pub wake_named : (b : BoardSeen) (armed : List LineNo) (picks : List Actor) (g : List SleepEntry) (end : End) → Sleeps b armed picks g end → NamesWaker armed g
wake_named b armed picks g end played = names_waker b armed (Picking picks) g played.0 played.1
