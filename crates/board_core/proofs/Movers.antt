-- Who can move, by what the ready actors are.
use Rattle.std.proofs.Common.{◌≡◌, ℕ, zero, suc, ◌<◌, ◌≤◌, ◌==◌, inl, inr, Bool, true, false, not, cond}
use Rattle.std.proofs.Common.{is_some, IsTrue, ◌↔◌, IsSome, IsSomeAnd, Option, Some, None, List, [], ◌∷◌, ◌++◌}
use Rattle.std.proofs.Common.{map, length, reverse, filter, slice_get, refl, sym, ap, ◌∙◌, subst, arith}
use Rattle.std.specs.List.{list_any}
use Rattle.std.proofs.lemmas.Option.{slice_get_within}
use Rattle.irq_base.specs.declared.devices.DeviceDef.{DeviceDef}
use Rattle.irq_base.specs.declared.entries.Actor.{Actor}
use Rattle.irq_base.specs.declared.entries.Actor.TheVariants as actors
use Rattle.irq_base.specs.declared.entries.Entry.{Entry}
use Rattle.irq_base.specs.declared.lines.LineDef.{LineDef}
use Rattle.irq_base.specs.declared.numbers.DevNo.{DevNo}
use Rattle.irq_base.specs.declared.numbers.LineNo.{LineNo}
use Rattle.irq_model.specs.Legal.{IsLegalPast}
use Rattle.irq_model.specs.Lines.{has_device, is_device}
use Rattle.irq_model.specs.Next.{next, next_past, next_of_thread}
use Rattle.irq_model.specs.Valid.{IsValid}
use Rattle.irq_base.specs.declared.waiting.WaitFor.{WaitFor}
use Rattle.irq_base.specs.declared.waiting.WaitFor.TheVariants as waits
use Rattle.irq_laws.specs.Blocks.{block_of}
use Rattle.irq_laws.proofs.Chosen.{the_same}
use Rattle.irq_line.specs.Queries.{IsLowestThread, IsThreadDue, blocks_of, is_blocked}
use Rattle.irq_line.specs.Seen.{LineSeen}
use Rattle.irq_line.proofs.Waits.{call_waits}
use Rattle.play_laws.specs.Actors.{IsOneOf}
use Rattle.board_def.specs.Seen.{BoardSeen}
use Rattle.board_play.specs.Lines.{BoardLine, Move, defs_of, find_line}
use Rattle.board_play.specs.Order.{device_line, line_for, move_on, due_on, due_move, actors_of}
use Rattle.board_play.specs.Play.{or_move, first_move}
use Rattle.board_play.proofs.KeptAlways.{apart_kept}
use Rattle.board_play.proofs.Listed.{def_at, all_rest}
use Rattle.board_play.proofs.Members.{AreApart, find_there}
use Rattle.board_play.proofs.Moves.{moves_on}
use Rattle.board_play.proofs.OfBoard.{valid_defs, def_of_row, device_found}
use Rattle.board_ready.specs.Kept.{thread_of}
use Rattle.board_ready.specs.Ready.{is_barred, is_open, can_go_on}
use Rattle.irq_base.specs.declared.waiting.Blocks.{Blocks}
use Rattle.board_ready.specs.declared.parts.CurrentCall.{CurrentCall}
use Rattle.board_ready.specs.declared.parts.LineReadiness.{LineReadiness}
use Rattle.board_core.specs.Places.{IsPlace}
use Rattle.board_core.specs.ReadyFor.{IsReadinessOf, call_at, call_of}
use Rattle.board_core.specs.Scripts.{ScriptSeen, IsScript}
use Rattle.board_core.specs.Seen.{board_line, board_lines}
use Rattle.board_core.specs.declared.scripts.PlacedCall.{PlacedCall}
use Rattle.board_core.proofs.ScriptLaws.{script_line}
use Rattle.board_core.proofs.InLists.{map_there, map_back}
use Rattle.board_core.specs.Seen.{SystemSeen}
use Rattle.board_core.proofs.Kept.{KeptSystem}

-- ---- options

module _ {A : Type 0} where
  pub some_of : (o : Option A) → IsSome o → (x : A) × (o ≡ Some x)
  some_of None some = cc
  some_of (Some x) some = (x, refl)

  pub none_of : (o : Option A) → is_some o ≡ false → o ≡ None
  none_of None none = refl
  none_of (Some x) none = cc

  pub some_with : (P : A → Type 0) (o : Option A) → IsSomeAnd o P → (x : A) × (o ≡ Some x) × P x
  some_with P None h = absurd h
  some_with P (Some x) h = (x, refl, h)

  pub not_both : (o : Option A) (x : A) → o ≡ None → o ≡ Some x → ⊥
  not_both None x none some = cc
  not_both (Some y) x none some = cc

-- ---- the first of some actors

module _ (board : BoardSeen) (lines : List BoardLine) where
  pub none_listed : (all : List Actor) → first_move board lines all ≡ None → (a : Actor) → IsOneOf a all → due_move board lines a ≡ None
  none_listed [] none a at = absurd at
  none_listed (b ∷ all) none a at = by_first (due_move board lines b) refl none (λ rest. none_listed all rest a)
    where
      by_first : (o : Option Move) → due_move board lines b ≡ o → or_move o (first_move board lines all) ≡ None
          → (first_move board lines all ≡ None → IsOneOf a all → due_move board lines a ≡ None)
          → due_move board lines a ≡ None
      by_first None due none deeper = elim at [ inl here ↦ ap (λ (x : Actor). due_move board lines x) here ∙ due | inr there ↦ deeper none there ]
      by_first (Some m) due none deeper = cc

  pub first_append : (xs ys : List Actor) → first_move board lines (xs ++ ys) ≡ or_move (first_move board lines xs) (first_move board lines ys)
  first_append [] ys = refl
  first_append (x ∷ xs) ys = by_first (due_move board lines x) (first_append xs ys)
    where
      by_first : (o : Option Move) → first_move board lines (xs ++ ys)
          ≡ or_move (first_move board lines xs) (first_move board lines ys)
          → or_move o (first_move board lines (xs ++ ys))
          ≡ or_move (or_move o (first_move board lines xs)) (first_move board lines ys)
      by_first None deeper = deeper
      by_first (Some m) deeper = refl

  -- the one at a place, when none before it can move
  pub first_there : (all : List Actor) (i : ℕ) (a : Actor) (m : Move) → slice_get all i ≡ Some a
      → due_move board lines a ≡ Some m → ((j : ℕ) (b : Actor) → j < i → slice_get all j ≡ Some b
      → due_move board lines b ≡ None) → first_move board lines all ≡ Some m
  first_there [] i a m at due before = cc
  first_there (b ∷ all) zero a m at due before = ap (λ (o : Option Move). or_move o (first_move board lines all))
      (ap (λ (x : Actor). due_move board lines x) (the_same b a at) ∙ due)
  first_there (b ∷ all) (suc i) a m at due before =
      ap (λ (o : Option Move). or_move o (first_move board lines all)) (before 0 b (omega arith) refl)
      ∙ first_there all i a m at due (λ j x less at_x. before (suc j) x (omega (arith, less)) at_x)

  pub none_there : (all : List Actor) → ((j : ℕ) (b : Actor) → slice_get all j ≡ Some b → due_move board lines b ≡ None) → first_move board lines all ≡ None
  none_there [] none = refl
  none_there (b ∷ all) none = ap (λ (o : Option Move). or_move o (first_move board lines all)) (none 0 b refl) ∙ none_there all (λ j x at. none (suc j) x at)

module _ {view : SystemSeen} (system : KeptSystem view) where
  open system use {board, lines, scripts, parts.{ready}, is_board, kept}

  apart : AreApart (map (λ (x : BoardLine). x.def) (board_lines lines))
  apart = apart_kept board is_board (board_lines lines) kept.system.kept

  -- if somebody can move there is a lowest who can
  pub somebody : (a : Actor) (m : Move) → due_move board (board_lines lines) a ≡ Some m → IsSome (first_move board (board_lines lines) (actors_of board))
  somebody a m due = by_first (first_move board (board_lines lines) (actors_of board)) refl
    where
      by_first : (o : Option Move) → first_move board (board_lines lines) (actors_of board) ≡ o → IsSome o
      by_first None none =
          absurd (not_both (due_move board (board_lines lines) a) m
          (all_rest board is_board (valid_defs board is_board) (board_lines lines) kept.system.kept
          (none_listed board (board_lines lines) (actors_of board) none) a) due)
      by_first (Some n) first = refl

  pub at_line : (k : ℕ) (x : LineSeen) → slice_get lines k ≡ Some x → slice_get (board_lines lines) k ≡ Some (board_line x)
  at_line k x at = map_there board_line lines k x at

  pub part_of : (k : ℕ) (x : LineSeen) → slice_get lines k ≡ Some x → (p : LineReadiness) × (slice_get ready.lines k ≡ Some p) × IsReadinessOf x p
  part_of k x at = some_with (IsReadinessOf x) (slice_get ready.lines k) (kept.ready.each_line k x at)

  pub line_of : (k : ℕ) (p : LineReadiness) → slice_get ready.lines k ≡ Some p → (x : LineSeen) × (slice_get lines k ≡ Some x) × IsReadinessOf x p
  line_of k p at =
      let l = slice_get_within ready.lines k p at in
      let m = kept.ready.all_lines in
      let within : k < length lines = omega (arith, l, m) in
      by_line (slice_get lines k) refl (some_there lines k within)
    where
      some_there : (xs : List LineSeen) (k : ℕ) → k < length xs → IsSome (slice_get xs k)
      some_there [] k h = absurd (omega (arith, h))
      some_there (x ∷ xs) zero h = refl
      some_there (x ∷ xs) (suc k) h = some_there xs k (omega (arith, h))

      by_line : (o : Option LineSeen) → slice_get lines k ≡ o → IsSome o → (x : LineSeen) × (slice_get lines k ≡ Some x) × IsReadinessOf x p
      by_line None there some = cc
      by_line (Some x) there some =
          let q = part_of k x there in
          (x, there, subst (λ (y : LineReadiness). IsReadinessOf x y) (the_same q.0 p (sym q.1 ∙ at)) q.2)

  pub definition : (k : ℕ) (x : LineSeen) → slice_get lines k ≡ Some x → slice_get (defs_of board) k ≡ Some x.def
  definition k x at = def_at board (board_lines lines) kept.system.kept k (board_line x) (at_line k x at)

  pub valid : (k : ℕ) (x : LineSeen) → slice_get lines k ≡ Some x → IsValid x.def
  valid k x at = valid_defs board is_board k x.def (definition k x at)

  pub legal : (k : ℕ) (x : LineSeen) → slice_get lines k ≡ Some x → IsLegalPast x.def (reverse x.entries)
  legal k x at = kept.system.kept.legal k (board_line x) (at_line k x at)

  -- a move is due on a line
  pub record IsMove (a : Actor) (m : Move) : Type 0 where
    pub place : ℕ
    pub line : LineSeen
    pub at : slice_get lines place ≡ Some line
    pub its : line_for board (board_lines lines) a ≡ Some (board_line line)
    pub due : next line.def line.entries a ≡ Some m.1

  pub is_move : (a : Actor) (m : Move) → due_move board (board_lines lines) a ≡ Some m → IsMove a m
  is_move a m due =
      let v = moves_on board (board_lines lines) a m due in
      let x = map_back board_line lines v.place v.line v.at in
      let same : v.line ≡ board_line x.0 = sym x.2 in
      record {
        place = v.place;
        line = x.0;
        at = x.1;
        its = v.its ∙ ap (λ (y : BoardLine). Some y) same;
        due = subst (λ (y : BoardLine). next_past y.def y.past a ≡ Some m.1) same v.due;
      }

  -- ---- threads

  of_device : (x : LineSeen) (d : DevNo) → IsThreadDue x d → has_device x.def d ≡ true
  of_device x d due = by_device (has_device x.def d) due
    where
      by_device : (b : Bool) → is_some (cond b (next_of_thread x.def d (reverse x.entries)) None) ≡ true → b ≡ true
      by_device true due = refl
      by_device false due = cc

  -- a thread that has an entry due is on that line
  pub line_of_due : (k : ℕ) (x : LineSeen) (d : DevNo) → slice_get lines k ≡ Some x → IsThreadDue x d
      → line_for board (board_lines lines) (actors.Thread d) ≡ Some (board_line x)
  line_of_due k x d at due =
      let f = device_found board is_board k x.def (definition k x at) d (of_device x d due) in
      ap (λ (o : Option DeviceDef). device_line (board_lines lines) o) f.found
      ∙ (ap (λ (l : LineNo). find_line (board_lines lines) l) f.on_line ∙ find_there (board_lines lines) apart k (board_line x) (at_line k x at))

  pub thread_moves : (k : ℕ) (x : LineSeen) (d : DevNo) → slice_get lines k ≡ Some x → IsThreadDue x d
      → (m : Move) × (due_move board (board_lines lines) (actors.Thread d) ≡ Some m)
  thread_moves k x d at due =
      let e = some_of (next x.def x.entries (actors.Thread d)) due in (
        (x.def.line, e.0),
        ap (λ (o : Option BoardLine). due_on o (actors.Thread d)) (line_of_due k x d at due)
            ∙ ap (λ (o : Option Entry). move_on x.def.line o) e.1,
      )

  -- a thread that can move is at its line no lower than the lowest
  pub thread_ready : (d : DevNo) (m : Move) → due_move board (board_lines lines) (actors.Thread d) ≡ Some m
      → (k : ℕ) × (x : LineSeen) × (p : LineReadiness) × (lowest : DevNo) × (slice_get lines k ≡ Some x)
      × (slice_get ready.lines k ≡ Some p) × (p.thread ≡ Some lowest) × (lowest.0 ≤ d.0)
  thread_ready d m due =
      let v = is_move (actors.Thread d) m due in
      let p = part_of v.place v.line v.at in
      by_lowest v.place v.line p.0 v.at p.1 p.0.thread refl p.2.thread (ap (λ (o : Option Entry). is_some o) v.due)
    where
      by_lowest : (k : ℕ) (x : LineSeen) (p : LineReadiness) → slice_get lines k ≡ Some x
          → slice_get ready.lines k ≡ Some p → (o : Option DevNo) → p.thread ≡ o → IsLowestThread x o → IsThreadDue x d
          → (k : ℕ) × (x : LineSeen) × (p : LineReadiness) × (lowest : DevNo) × (slice_get lines k ≡ Some x)
          × (slice_get ready.lines k ≡ Some p) × (p.thread ≡ Some lowest) × (lowest.0 ≤ d.0)
      by_lowest k x p at at_p None thread least is_due = absurd (least d is_due)
      by_lowest k x p at at_p (Some lowest) thread least is_due = (k, x, p, lowest, at, at_p, thread, least.1 d is_due)

  pub lowest_due : (k : ℕ) (x : LineSeen) (d : DevNo) → slice_get lines k ≡ Some x → thread_of (slice_get ready.lines k) ≡ Some d → IsThreadDue x d
  lowest_due k x d at its =
      let p = part_of k x at in
      let low : p.0.thread ≡ Some d = ap (λ (o : Option LineReadiness). thread_of o) (sym p.1) ∙ its in
      (subst (λ (o : Option DevNo). IsLowestThread x o) low p.2.thread).0

  -- the lowest thread of a line can move, and its device is one of the line's
  pub thread_device_of : (k : ℕ) (x : LineSeen) (d : DevNo) → slice_get lines k ≡ Some x → thread_of (slice_get ready.lines k) ≡ Some d
      → ((m : Move) × (due_move board (board_lines lines) (actors.Thread d) ≡ Some m))
      × (list_any (is_device d) (filter (λ y. y.line.0 == x.def.line.0) board.devices) ≡ true)
  thread_device_of k x d at its =
      let due = lowest_due k x d at its in
      let o = def_of_row board k x.def (definition k x at) in (
        thread_moves k x d at due,
        subst (λ (def : LineDef). has_device def d ≡ true
            → list_any (is_device d) (filter (λ y. y.line.0 == def.line.0) board.devices) ≡ true) o.is (λ h. h) (of_device x d due),
      )

  -- ---- drivers

  barred_is : (b : WaitFor) (blocks : Blocks) → is_barred b blocks ≡ is_blocked b blocks
  barred_is waits.Nothing blocks = refl
  barred_is waits.Flow blocks = refl
  barred_is waits.Threads blocks = refl
  barred_is waits.Mutex blocks = refl
  barred_is waits.Freed blocks = refl

  none_exactly : (o : Option Entry) (b : Bool) → (o ≡ None) ↔ IsTrue b → not b ≡ is_some o
  none_exactly None b iff = ap not (iff.0 refl)
  none_exactly (Some e) true iff = absurd (not_both (Some e) e (iff.1 refl) refl)
  none_exactly (Some e) false iff = refl

  -- the place of the driver's line
  pub script_place : (j : ℕ) (s : ScriptSeen) (call : CurrentCall) → slice_get scripts j ≡ Some s
      → call_of s ≡ Some call → IsPlace (board_lines lines) (Some call.line)
      (line_for board (board_lines lines) (actors.Driver s.driver))
  script_place j s call at called = by_step (slice_get s.calls s.at) refl called
    where
      its : IsScript board.calls (board_lines lines) s
      its = kept.system.each j s at

      by_step : (o : Option PlacedCall) → slice_get s.calls s.at ≡ o → call_at o s.made ≡ Some call
          → IsPlace (board_lines lines) (Some call.line) (line_for board (board_lines lines) (actors.Driver s.driver))
      by_step None here is = cc
      by_step (Some step) here is =
          let line = script_line board.calls (board_lines lines) apart s its (Some step) here in
          let y = some_with (λ z. z.def.line ≡ step.call.line) (slice_get (board_lines lines) step.place) (its.places s.at step here) in
          let made : CurrentCall = record { line = step.place; wait = block_of step.call.call s.made } in
          subst (λ (c : CurrentCall). IsPlace (board_lines lines) (Some c.line)
          (line_for board (board_lines lines) (actors.Driver s.driver))) (the_same made call is)
          (ap (λ (o : Option BoardLine). is_some o) (line ∙ y.1), sym line)

  pub driver_can : (j : ℕ) (s : ScriptSeen) → slice_get scripts j ≡ Some s
      → can_go_on ready.lines (call_of s) ≡ is_some (due_move board (board_lines lines) (actors.Driver s.driver))
  driver_can j s at = by_step (slice_get s.calls s.at) refl
    where
      its : IsScript board.calls (board_lines lines) s
      its = kept.system.each j s at

      by_line : (step : PlacedCall) (k : ℕ) (y : BoardLine) → slice_get s.calls s.at ≡ Some step
          → slice_get (board_lines lines) step.place ≡ Some y
          → is_open (block_of step.call.call s.made) (slice_get ready.lines step.place)
          ≡ is_some (due_on (Some y) (actors.Driver s.driver))
      by_line step k y here there =
          let x = map_back board_line lines step.place y there in
          let p = part_of step.place x.0 x.1 in
          let due = its.due step (board_line x.0) here (at_line step.place x.0 x.1) in
          let law = call_waits x.0 s.driver step.call.call s.made (kept.system.sound step.place x.0 x.1) due in
          ap (λ (o : Option LineReadiness). is_open (block_of step.call.call s.made) o) p.1
          ∙ (ap (λ (b : Blocks). not (is_barred (block_of step.call.call s.made) b)) p.2.blocks
          ∙ (ap not (barred_is (block_of step.call.call s.made) (blocks_of x.0))
          ∙ (none_exactly (next x.0.def x.0.entries (actors.Driver s.driver)) (is_blocked (block_of step.call.call s.made) (blocks_of x.0)) law
          ∙ (moved x.0.def.line (next x.0.def x.0.entries (actors.Driver s.driver))
          ∙ ap (λ (z : BoardLine). is_some (due_on (Some z) (actors.Driver s.driver))) x.2))))
        where
          moved : (line : LineNo) (o : Option Entry) → is_some o ≡ is_some (move_on line o)
          moved line None = refl
          moved line (Some e) = refl

      by_step : (o : Option PlacedCall) → slice_get s.calls s.at ≡ o
          → can_go_on ready.lines (call_at o s.made) ≡ is_some
          (due_move board (board_lines lines) (actors.Driver s.driver))
      by_step None here = sym (ap (λ (o : Option BoardLine). is_some (due_on o (actors.Driver s.driver)))
          (script_line board.calls (board_lines lines) apart s its None here))
      by_step (Some step) here =
          let y = some_with (λ z. z.def.line ≡ step.call.line) (slice_get (board_lines lines) step.place) (its.places s.at step here) in
          by_line step s.at y.0 here y.1 ∙ sym (ap (λ (o : Option BoardLine). is_some
          (due_on o (actors.Driver s.driver))) (script_line board.calls (board_lines lines) apart s its (Some step)
          here ∙ y.1))
