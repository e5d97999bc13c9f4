-- What each step of a sleep keeps of the lines, phase by phase.
use Rattle.std.proofs.Common.{◌≡◌, ℕ, zero, suc, ◌≤◌, inl, inr, Bool, true, false, not, cond, Option, Some, None, List}
use Rattle.std.proofs.Common.{[], ◌∷◌, ◌++◌, map, slice_get, refl, sym, ap, ◌∙◌, subst, arith}
use Rattle.std.proofs.lemmas.Bool.{and_parts}
use Rattle.irq_base.specs.declared.calls.Call.{Call}
use Rattle.irq_base.specs.declared.calls.Call.TheVariants as calls
use Rattle.irq_base.specs.declared.devices.DeviceDef.{DeviceDef}
use Rattle.irq_base.specs.declared.entries.Actor.{Actor}
use Rattle.irq_base.specs.declared.entries.Actor.TheVariants as actors
use Rattle.irq_base.specs.declared.entries.Entry.{Entry}
use Rattle.irq_base.specs.declared.entries.Entry.TheVariants as by
use Rattle.irq_base.specs.declared.entries.DriverEntry.TheVariants as drivers
use Rattle.irq_base.specs.declared.lines.LineDef.{LineDef}
use Rattle.irq_base.specs.declared.numbers.DriverNo.{DriverNo}
use Rattle.irq_base.specs.declared.numbers.LineNo.{LineNo}
use Rattle.irq_model.specs.Due.{due_call}
use Rattle.irq_model.specs.Kinds.{same_line, same_driver, is_any_ask, is_by_driver, is_driver}
use Rattle.irq_model.specs.Next.{ask_makes_edge, next_of_driver, next_past}
use Rattle.irq_model.proofs.Same.{line_from_same}
use Rattle.irq_laws.proofs.Chosen.{the_same}
use Rattle.irq_laws.proofs.OwnLaws.{due_is_own_past}
use Rattle.irq_laws.proofs.Progress.{same_call}
use Rattle.play_laws.specs.Actors.{IsOneOf}
use Rattle.board_def.specs.Rules.{IsBoard, has_driver}
use Rattle.board_def.specs.Seen.{BoardSeen}
use Rattle.board_driver.specs.Longer.{last_driver}
use Rattle.board_core.specs.Firsts.{call_on, with_line}
use Rattle.board_play.specs.Kept.{AreKept}
use Rattle.board_play.specs.Lines.{BoardLine, Move, lines_of, lines_after, line_after}
use Rattle.board_play.specs.Order.{due_move, threads_of, cpus_of, actors_of}
use Rattle.board_play.specs.Play.{first_move, or_move}
use Rattle.board_play.proofs.Counting.{no_more, completed, one_completed, not_completed, others_complete}
use Rattle.board_play.proofs.KeptAlways.{apart_kept, move_keeps}
use Rattle.board_play.proofs.Moves.{MovesOn, moves_on}
use Rattle.board_play.proofs.Moving.{moved_at}
use Rattle.board_play.proofs.Parts.{the_line}
use Rattle.irq_pm.proofs.Waits.{own_due}
use Rattle.irq_pm.specs.Sleeping.{is_other_driver, is_suspended}
use Rattle.irq_pm.specs.Phases.{Phase, Picking, Disabling, Asleep, Enabling, Going, is_ask_call, is_ask_due}
use Rattle.irq_pm.specs.Phases.{is_disable_due, due_of, disabling, sleeping, going, last_move, inner_move, ask_move}
use Rattle.irq_pm.specs.Phases.{or_next, picked, step_in, sleep_next}
use Rattle.irq_pm.specs.SleepLog.{told}
use Rattle.irq_pm.specs.SleptBoard.{slept}
use Rattle.irq_pm.specs.Waking.{woken_by}
use Rattle.irq_pm.specs.declared.entries.SleepEntry.{SleepEntry}
use Rattle.irq_pm.specs.declared.entries.SleepEntry.TheVariants as sleeps
use Rattle.irq_pm.proofs.Alone.{IsAlone, not_other, ask_is_none, not_by, alone_more, awake_more, awake_is_alone}
use Rattle.irq_pm.proofs.Order.{step_of, either_move, either_next, of_step, no_step, of_mark, first_is, pick_is, IsAsking, ask_is}
use Rattle.irq_pm.proofs.Turning.{Each, IsShut, IsOpened, all_shut, all_opened}

abbrev pub IsAloneOn : BoardLine → Type 0
IsAloneOn x = IsAlone x.past

abbrev pub IsAwakeOn : BoardLine → Type 0
IsAwakeOn x = is_suspended last_driver x.past ≡ false

-- none of the picks is the system's driver
abbrev pub NoneIsLast : List Actor → Type 0
NoneIsLast picks = (a : Actor) → IsOneOf a picks → is_driver last_driver a ≡ false

-- what holds of the lines in a phase
abbrev pub Holds : Phase → List BoardLine → Type 0
Holds (Picking picks) lines = NoneIsLast picks × Each IsAwakeOn lines
Holds Disabling lines = Each IsAloneOn lines
Holds Asleep lines = Each IsAloneOn lines × Each IsShut lines
Holds Enabling lines = Each IsAloneOn lines × Each IsShut lines
Holds Going lines = Each IsOpened lines

-- the lines after a step; a mark leaves them
abbrev pub after_move : Option Move → List BoardLine → List BoardLine
after_move None lines = lines
after_move (Some m) lines = lines_after m lines

-- ---- one more move

grown : BoardLine → Entry → BoardLine
grown x e = record { def = x.def; past = e ∷ x.past }

module _ (board : BoardSeen) (is : IsBoard board) (lines : List BoardLine) (k : AreKept board lines) (a : Actor)
    (m : Move) (due : due_move board lines a ≡ Some m) where
  -- what holds of each line still holds, if it does of the line that the entry was added to
  pub each_after : (P Q : BoardLine → Type 0) → ((x : BoardLine) → P x → Q x)
      → ((x : BoardLine) → next_past x.def x.past a ≡ Some m.1 → P x → Q (record { def = x.def; past = m.1 ∷ x.past }))
      → Each P lines → Each Q (lines_after m lines)
  each_after P Q stays grows each i y at =
      let s = moved_at lines m i y at in
      subst Q s.is (by_test s.line s.at (each i s.line s.at) (same_line s.line.def.line m.0) refl)
    where
      moves : MovesOn board lines a m
      moves = moves_on board lines a m due

      here : (x : BoardLine) → slice_get lines i ≡ Some x → same_line x.def.line m.0 ≡ true → moves.line ≡ x
      here x at same = the_line lines (apart_kept board is lines k) moves.place i moves.line x moves.at at
          (sym moves.number ∙ sym (line_from_same x.def.line m.0 same))

      by_test : (x : BoardLine) → slice_get lines i ≡ Some x → P x → (t : Bool) → same_line x.def.line m.0 ≡ t → Q (line_after m x)
      by_test x at p false differs = subst (λ (t : Bool). Q (record { def = x.def; past = cond t (m.1 ∷ x.past) x.past })) (sym differs) (stays x p)
      by_test x at p true same =
          subst (λ (t : Bool). Q (record { def = x.def; past = cond t (m.1 ∷ x.past) x.past })) (sym same)
          (grows x (subst (λ (y : BoardLine). next_past y.def y.past a ≡ Some m.1) (here x at same) moves.due) p)

  -- whoever but another driver makes it, the lines stay alone
  pub alone_after : is_other_driver last_driver a ≡ false → Each IsAloneOn lines → Each IsAloneOn (lines_after m lines)
  alone_after none =
      each_after IsAloneOn IsAloneOn (λ x p. p) (λ x next p. alone_more m.1 x.past
      (not_other m.1 a (due_is_own_past x.def x.past a m.1 next) none) p)

  pub awake_after : is_driver last_driver a ≡ false → Each IsAwakeOn lines → Each IsAwakeOn (lines_after m lines)
  awake_after none =
      each_after IsAwakeOn IsAwakeOn (λ x p. p) (λ x next p. awake_more m.1 x.past (not_by m.1 a (due_is_own_past x.def x.past a m.1 next) none) p)

  pub shut_after : Each IsShut lines → Each IsShut (lines_after m lines)
  shut_after = each_after IsShut IsShut (λ x p. p) (λ x next p. still_shut x m.1 next p)
    where
      by_next : (x : BoardLine) (e : Entry) (z : Call × ℕ) → is_by_driver last_driver e ≡ true
          → due_call x.def last_driver x.past ≡ Some z → (o : Option (Call × ℕ))
          → due_call x.def last_driver (e ∷ x.past) ≡ o → IsShut x → 1 ≤ completed x.def last_driver (e ∷ x.past)
      by_next x e z mine due None after p = let n = one_completed x.def last_driver e x.past z mine due (λ d j h. both_none d j after h) in omega (arith, n, p)
        where
          both_none : (d : Call) (j : ℕ) → due_call x.def last_driver (e ∷ x.past) ≡ None → due_call x.def last_driver (e ∷ x.past) ≡ Some (d, suc j) → ⊥
          both_none d j none some = cc
      by_next x e z mine due (Some (d, zero)) after p = let n
          = one_completed x.def last_driver e x.past z mine due (λ c j h. both_some c j after h) in omega (arith, n, p)
        where
          both_some : (c : Call) (j : ℕ) → due_call x.def last_driver (e ∷ x.past) ≡ Some (d, zero)
              → due_call x.def last_driver (e ∷ x.past) ≡ Some (c, suc j) → ⊥
          both_some c j one other = let n = (same_call d c zero (suc j) (sym one ∙ other)).1 in omega (arith, n)
      by_next x e z mine due (Some (d, suc j)) after p = let n = not_completed x.def last_driver e x.past d j mine after in omega (arith, n, p)

      still_shut : (x : BoardLine) (e : Entry) → next_past x.def x.past a ≡ Some e → IsShut x → 1 ≤ completed x.def last_driver (e ∷ x.past)
      still_shut x e next p = by_driver (is_by_driver last_driver e) refl
        where
          by_due : is_by_driver last_driver e ≡ true → (o : Option (Call × ℕ)) → due_call x.def last_driver x.past ≡ o
              → next_of_driver x.def last_driver x.past o ≡ Some e → 1 ≤ completed x.def last_driver (e ∷ x.past)
          by_due mine None due next = cc
          by_due mine (Some z) due next = by_next x e z mine due (due_call x.def last_driver (e ∷ x.past)) refl p

          own : is_by_driver last_driver e ≡ true → next_of_driver x.def last_driver x.past (due_call x.def last_driver x.past) ≡ Some e
          own mine = own_due x.def last_driver e x.past (ap (λ (b : Actor). next_past x.def x.past b) (due_is_own_past x.def x.past a e next) ∙ next) mine

          by_driver : (t : Bool) → is_by_driver last_driver e ≡ t → 1 ≤ completed x.def last_driver (e ∷ x.past)
          by_driver false other = let n = others_complete x.def last_driver e x.past other in omega (arith, n, p)
          by_driver true mine = by_due mine (due_call x.def last_driver x.past) refl (own mine)

  pub opened_after : Each IsOpened lines → Each IsOpened (lines_after m lines)
  opened_after = each_after IsOpened IsOpened (λ x p. p) (λ x next p. still_open x m.1 next p)
    where
      still_open : (x : BoardLine) (e : Entry) → next_past x.def x.past a ≡ Some e → IsOpened x → IsOpened (record { def = x.def; past = e ∷ x.past })
      still_open x e next p = by_driver (is_by_driver last_driver e) refl
        where
          none_next : (o : Option (Call × ℕ)) → o ≡ None → next_of_driver x.def last_driver x.past o ≡ Some e → ⊥
          none_next None none next = cc
          none_next (Some z) none next = cc

          by_driver : (t : Bool) → is_by_driver last_driver e ≡ t → IsOpened (record { def = x.def; past = e ∷ x.past })
          by_driver false other = (awake_more e x.past other p.0, no_more x.def last_driver e x.past other ∙ p.1)
          by_driver true mine =
              absurd
              (none_next (due_call x.def last_driver x.past) p.1
              (own_due x.def last_driver e x.past (ap (λ (b : Actor). next_past x.def x.past b) (due_is_own_past x.def x.past a e next) ∙ next) mine))

-- ---- who is no driver

abbrev IsInner : Actor → Type 0
IsInner a = is_other_driver last_driver a ≡ false

thread_inner : (a : Actor) (ds : List DeviceDef) → IsOneOf a (map (λ (x : DeviceDef). actors.Thread x.dev) ds) → IsInner a
thread_inner a [] at = absurd at
thread_inner a (d ∷ ds) at = elim at [ inl here ↦ ap (λ (b : Actor). is_other_driver last_driver b) here | inr there ↦ thread_inner a ds there ]

cpu_inner : (a : Actor) (ns : List ℕ) → IsOneOf a (map (λ n. actors.Cpu (record { 0 = n })) ns) → IsInner a
cpu_inner a [] at = absurd at
cpu_inner a (n ∷ ns) at = elim at [ inl here ↦ ap (λ (b : Actor). is_other_driver last_driver b) here | inr there ↦ cpu_inner a ns there ]

either_inner : (a : Actor) (xs ys : List Actor) → (IsOneOf a xs → IsInner a) → (IsOneOf a ys → IsInner a) → IsOneOf a (xs ++ ys) → IsInner a
either_inner a [] ys first second at = second at
either_inner a (x ∷ xs) ys first second at = elim at [ inl here ↦ first (inl here) | inr there ↦ either_inner a xs ys (λ h. first (inr h)) second there ]

pub inner_is : (b : BoardSeen) (a : Actor) → IsOneOf a (threads_of b ++ cpus_of b) → IsInner a
inner_is b a at = either_inner a (threads_of b) (cpus_of b) (thread_inner a b.devices) (cpu_inner a _) at

-- ---- a driver that asks

asks : (def : LineDef) (r : DriverNo) (past : List Entry) (line : LineNo) (e : Entry)
    → is_ask_due (with_line line (due_call def r past)) ≡ true → next_past def past (actors.Driver r) ≡ Some e
    → is_any_ask e ≡ true
asks def r past line e asking next = by_due (due_call def r past) asking next
  where
    by_call : (c : Call) (n : ℕ) → is_ask_call c ≡ true → next_of_driver def r past (Some (c, n)) ≡ Some e → is_any_ask e ≡ true
    by_call (calls.Ask d) n asking next = ap (λ (x : Entry). is_any_ask x) (sym (the_same (by.Driver r (drivers.Ask (ask_makes_edge def d past) d)) e next))
    by_call c n asking next = cc

    by_due : (o : Option (Call × ℕ)) → is_ask_due (with_line line o) ≡ true → next_of_driver def r past o ≡ Some e → is_any_ask e ≡ true
    by_due None asking next = cc
    by_due (Some (c, n)) asking next = by_call c n asking next

module _ (board : BoardSeen) (is : IsBoard board) (lines : List BoardLine) (k : AreKept board lines) (m : Move) (asking : IsAsking board lines m) where
  -- the lines stay alone
  pub alone_after_ask : Each IsAloneOn lines → Each IsAloneOn (lines_after m lines)
  alone_after_ask =
      each_after board is lines k (actors.Driver asking.driver) m asking.moves IsAloneOn IsAloneOn (λ x p. p)
      (λ x next p. alone_more m.1 x.past (ask_is_none m.1 is_ask) p)
    where
      moves : MovesOn board lines (actors.Driver asking.driver) m
      moves = moves_on board lines (actors.Driver asking.driver) m asking.moves

      is_ask : is_any_ask m.1 ≡ true
      is_ask =
          asks moves.line.def asking.driver moves.line.past moves.line.def.line m.1
          (ap (λ (o : Option BoardLine). is_ask_due (call_on o asking.driver)) (sym moves.its)
          ∙ (and_parts (not (same_driver asking.driver last_driver)) _ asking.asks).1) moves.due

-- ---- each step

module _ (b : BoardSeen) (is : IsBoard b) (long : IsBoard (slept b)) (free : has_driver b.drivers last_driver ≡ false)
    (armed : List LineNo) (lines : List BoardLine) (k : AreKept (slept b) lines) where
  -- who moves, and on what the step is
  pub record Kept (e : SleepEntry) (after : Phase) : Type 0 where
    pub kept : AreKept (slept b) (after_move (told e) lines)
    pub holds : Holds after (after_move (told e) lines)

  moved : (a : Actor) (m : Move) (phase : Phase) (e : SleepEntry) (after : Phase) → due_move (slept b) lines a ≡ Some m
      → e ≡ step_of m → after ≡ phase → Holds phase (lines_after m lines) → Kept e after
  moved a m phase e after due step then holds =
      subst (λ (p : Phase). Kept e p) (sym then)
      (subst (λ (x : SleepEntry). Kept x phase) (sym step) (record { kept = move_keeps (slept b) lines a m long k due; holds = holds }))

  marked : (mark : SleepEntry) (phase : Phase) (e : SleepEntry) (after : Phase) → told mark ≡ None
      → (e ≡ mark) × (after ≡ phase) → Holds phase lines → Kept e after
  marked mark phase e after none same holds =
      subst (λ (p : Phase). Kept e p) (sym same.1)
      (subst (λ (x : SleepEntry). Kept x phase) (sym same.0)
      (record {
        kept = subst (λ (o : Option Move). AreKept (slept b) (after_move o lines)) (sym none) k;
        holds
            = subst (λ (o : Option Move). Holds phase (after_move o lines)) (sym none) holds;
      }))

  by_disabling : (e : SleepEntry) (after : Phase) → Each IsAloneOn lines → disabling (slept b) lines ≡ Some (e, after) → Kept e after
  by_disabling e after alone next = by_test (is_disable_due (due_of (slept b) lines last_driver)) refl next
    where
      by_test : (t : Bool) → is_disable_due (due_of (slept b) lines last_driver) ≡ t
          → cond t (step_in Disabling (or_move (last_move (slept b) lines) (inner_move (slept b) lines)))
          (Some (sleeps.Asleep, Asleep)) ≡ Some (e, after) → Kept e after
      by_test true test next =
          let s = of_step Disabling (or_move (last_move (slept b) lines) (inner_move (slept b) lines)) e after next in
          elim (either_move (last_move (slept b) lines) (inner_move (slept b) lines) s.move s.is) [
            | inl own ↦ moved (actors.Driver last_driver) s.move Disabling e after own s.step s.goes_to
                (alone_after (slept b) long lines k (actors.Driver last_driver) s.move own refl alone)
            | inr inner ↦
                let f = first_is (slept b) lines (threads_of (slept b) ++ cpus_of (slept b)) s.move inner.1 in
                moved f.actor s.move Disabling e after f.moves s.step s.goes_to
                (alone_after (slept b) long lines k f.actor s.move f.moves (inner_is (slept b) f.actor f.listed)
                alone)
          ]
      by_test false test next = marked sleeps.Asleep Asleep e after refl (of_mark sleeps.Asleep Asleep e after next)
          (alone, all_shut b is long free lines k test)

  by_sleeping : (woken : Option LineNo) (e : SleepEntry) (after : Phase) → Each IsAloneOn lines → Each IsShut lines
      → sleeping woken (slept b) lines ≡ Some (e, after) → Kept e after
  by_sleeping (Some line) e after alone shut next = marked (sleeps.Wake (Some line)) Enabling e after refl
      (of_mark (sleeps.Wake (Some line)) Enabling e after next) (alone, shut)
  by_sleeping None e after alone shut next =
      elim (either_next (step_in Asleep (or_move (inner_move (slept b) lines) (ask_move (slept b) lines)))
      (Some (sleeps.Wake None, Enabling)) (e, after) next) [
        | inl step ↦
            let s = of_step Asleep (or_move (inner_move (slept b) lines) (ask_move (slept b) lines)) e after step in
            elim (either_move (inner_move (slept b) lines) (ask_move (slept b) lines) s.move s.is) [
              | inl inner ↦
                  let f = first_is (slept b) lines (threads_of (slept b) ++ cpus_of (slept b)) s.move inner in
                  moved f.actor s.move Asleep e after f.moves s.step s.goes_to (
                    alone_after (slept b) long lines k f.actor s.move f.moves (inner_is (slept b) f.actor f.listed)
                        alone,
                    shut_after (slept b) long lines k f.actor s.move f.moves shut,
                  )
              | inr ask ↦
                  let d = ask_is (slept b) lines (slept b).drivers s.move ask.1 in
                  moved (actors.Driver d.driver) s.move Asleep e after d.moves s.step s.goes_to
                  (alone_after_ask (slept b) long lines k s.move d alone, shut_after (slept b) long lines k (actors.Driver d.driver) s.move d.moves shut)
            ]
        | inr mark ↦ marked (sleeps.Wake None) Enabling e after refl (of_mark (sleeps.Wake None) Enabling e after mark.1) (alone, shut)
      ]

  by_going : (e : SleepEntry) (after : Phase) → Each IsOpened lines → going (slept b) lines ≡ Some (e, after) → Kept e after
  by_going e after opened next =
      let s = of_step Going (first_move (slept b) lines (actors_of (slept b))) e after next in
      let f = first_is (slept b) lines (actors_of (slept b)) s.move s.is in
      moved f.actor s.move Going e after f.moves s.step s.goes_to (opened_after (slept b) long lines k f.actor s.move f.moves opened)

  by_enabling : (e : SleepEntry) (after : Phase) → Each IsAloneOn lines → Each IsShut lines
      → or_next (step_in Enabling (last_move (slept b) lines)) (going (slept b) lines) ≡ Some (e, after) → Kept e after
  by_enabling e after alone shut next =
      elim (either_next (step_in Enabling (last_move (slept b) lines)) (going (slept b) lines) (e, after) next) [
        | inl step ↦
            let s = of_step Enabling (last_move (slept b) lines) e after step in
            moved (actors.Driver last_driver) s.move Enabling e after s.is s.step s.goes_to (
              alone_after (slept b) long lines k (actors.Driver last_driver) s.move s.is refl alone,
              shut_after (slept b)
                  long lines k (actors.Driver last_driver) s.move s.is shut,
            )
        | inr rest ↦ by_going e after (all_opened b is long free lines k shut (no_step Enabling (last_move (slept b) lines) rest.0)) rest.1
      ]

  by_picking : (picks : List Actor) (e : SleepEntry) (after : Phase) → NoneIsLast picks → Each IsAwakeOn lines
      → or_next (picked (slept b) lines picks) (disabling (slept b) lines) ≡ Some (e, after) → Kept e after
  by_picking picks e after none awake next =
      elim (either_next (picked (slept b) lines picks) (disabling (slept b) lines) (e, after) next) [
        | inl pick ↦
            let p = pick_is (slept b) lines picks e after pick in
            moved p.actor p.move (Picking p.rest) e after p.moves p.step p.goes_to
            (λ a at. none a (p.fewer a at), awake_after (slept b) long lines k p.actor p.move p.moves (none p.actor p.listed) awake)
        | inr rest ↦ by_disabling e after (λ i x at. awake_is_alone x.past (awake i x at)) rest.1
      ]

-- each step keeps what holds in its phase, and what holds in the next phase holds then
pub keeps : (b : BoardSeen) → IsBoard b → IsBoard (slept b) → has_driver b.drivers last_driver ≡ false
    → (armed : List LineNo) (g : List Move) → AreKept (slept b) (lines_of (slept b) g)
    → (phase : Phase) (e : SleepEntry) (after : Phase) → Holds phase (lines_of (slept b) g) → sleep_next (slept b) armed g phase ≡ Some (e, after)
    → AreKept (slept b) (after_move (told e) (lines_of (slept b) g)) × Holds after (after_move (told e) (lines_of (slept b) g))
keeps b is long free armed g k phase e after holds next = let x = by_phase phase holds next in (x.kept, x.holds)
  where
    by_phase : (phase : Phase) → Holds phase (lines_of (slept b) g)
        → sleep_next (slept b) armed g phase ≡ Some (e, after)
        → Kept b is long free armed (lines_of (slept b) g) k e after
    by_phase (Picking picks) h next = by_picking b is long free armed (lines_of (slept b) g) k picks e after h.0 h.1 next
    by_phase Disabling h next = by_disabling b is long free armed (lines_of (slept b) g) k e after h next
    by_phase Asleep h next = by_sleeping b is long free armed (lines_of (slept b) g) k (woken_by armed g) e after h.0 h.1 next
    by_phase Enabling h next = by_enabling b is long free armed (lines_of (slept b) g) k e after h.0 h.1 next
    by_phase Going h next = by_going b is long free armed (lines_of (slept b) g) k e after h next
