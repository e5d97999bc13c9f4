-- What a turn makes of a system.
use Rattle.std.proofs.Common.{◌≡◌, ℕ, ◌<◌, inl, inr, Bool, true, false, IsSome, IsSomeAnd, IfSome, Option}
use Rattle.std.proofs.Common.{Some, None, Result, Ok, Err, List, [], ◌∷◌, ◌++◌, map, length, reverse, slice_get}
use Rattle.std.proofs.Common.{slice_set, refl, sym, ap, ◌∙◌, subst, arith}
use Rattle.std.proofs.lemmas.List.{map-set, reverse-append, length-reverse}
use Rattle.irq_base.specs.declared.entries.Actor.{Actor}
use Rattle.irq_base.specs.declared.entries.Actor.TheVariants as actors
use Rattle.irq_base.specs.declared.entries.Entry.{Entry}
use Rattle.irq_base.specs.declared.lines.LineDef.{LineDef}
use Rattle.irq_base.specs.declared.numbers.DriverNo.{DriverNo}
use Rattle.irq_base.specs.declared.numbers.LineNo.{LineNo}
use Rattle.irq_line.specs.Seen.{LineSeen, IsSound}
use Rattle.irq_line.specs.declared.answers.StepRefused.{StepRefused}
use Rattle.irq_line.specs.declared.answers.Stepped.{Stepped}
use Rattle.irq_line.specs.declared.answers.Stepped.TheVariants as stepped
use Rattle.irq_line.specs.declared.answers.StepRefused.TheVariants as refusals
use Rattle.irq_model.specs.Kinds.{same_driver, is_driver, is_by_driver}
use Rattle.irq_model.specs.Next.{next}
use Rattle.irq_model.proofs.Same.{driver_from_same, same_self_driver}
use Rattle.irq_laws.proofs.Chosen.{the_same}
use Rattle.irq_laws.proofs.OwnLaws.{due_is_own_past}
use Rattle.std.proofs.lemmas.Bool.{false_from_ne_true}
use Rattle.board_def.proofs.Rising.{Rises}
use Rattle.board_play.specs.Kept.{AreKept}
use Rattle.board_play.specs.Lines.{BoardLine, Move, find_line, lines_after}
use Rattle.board_play.specs.Order.{flow_line, line_for, move_on, due_on}
use Rattle.board_play.proofs.KeptAlways.{apart_kept}
use Rattle.board_play.proofs.Listed.{def_at}
use Rattle.board_play.proofs.Members.{AreApart, find_there}
use Rattle.board_core.specs.Stands.{IsCurrentAt, CanStepAt}
use Rattle.board_core.specs.declared.stands.Stand.{Stand}
use Rattle.board_play.proofs.OfBoard.{def_of_row, has_calls}
use Rattle.board_core.specs.Inside.{seen_of, drivers_of, IsSystem}
use Rattle.board_core.specs.Log.{merged}
use Rattle.board_core.specs.Places.{StepsAt, SteppedAt}
use Rattle.line_scripts.specs.Endings.{completes}
use Rattle.board_core.specs.Scripts.{ScriptSeen, advanced_by, advanced_at, advanced, IsScript}
use Rattle.board_core.specs.Seen.{SystemSeen, board_line, board_lines}
use Rattle.irq_line.specs.Answers.{Adds}
use Rattle.board_core.specs.Turned.{IsScriptOf, StepsBy, script_after, scripts_after, turn_of}
use Rattle.board_core.specs.Turns.{Moves, IsFullFor}
use Rattle.board_core.specs.declared.scripts.PlacedCall.{PlacedCall}
use Rattle.board_core.proofs.ScriptLaws.{HaveCalls, script_line, other_script, own_script}
use Rattle.board_core.proofs.InLists.{set_same, set_cases, map_there}
use Rattle.board_core.proofs.LinesAfter.{set_is_after, merged_more, IsCurrentOf, step_keeps}
use Rattle.board_core.proofs.InLists.{one_place}
use Rattle.board_core.proofs.Kept.{KeptSystem, Step}

-- ---- a turn

not_some : {A : Type 0} (o : Option A) → o ≡ None → IsSome o → ⊥
not_some None none some = cc
not_some (Some x) none some = cc

module _ (L : Type 0) {view : SystemSeen} (system : KeptSystem view) {a : Actor} {stand : Stand} (can : CanStepAt view a stand) where
  open system use {board, layout, lines, scripts, order, is_board, kept, view_is}
  open stand use {line as k, script}

  abbrev seen : SystemSeen
  seen = seen_of board layout lines order

  its : CanStepAt seen a stand
  its = subst (λ (s : SystemSeen). CanStepAt s a stand) (sym view_is) can

  line_is : (x : LineSeen) → slice_get lines k ≡ Some x → slice_get (board_lines lines) k ≡ Some (board_line x)
  line_is x at = map_there board_line lines k x at

  -- the move that is due of the actor on the line at place k
  abbrev due_here : Option Move
  due_here = due_on (slice_get (board_lines lines) k) a

  move_is : (x : LineSeen) → slice_get lines k ≡ Some x → (o : Option Entry) → next x.def x.entries a ≡ o → due_here ≡ move_on x.def.line o
  move_is x at o due = ap (λ (l : Option BoardLine). due_on l a) (line_is x at) ∙ ap (λ (o : Option Entry). move_on x.def.line o) due

  -- a driver is on its line, and a processor with a flow on that
  current_as : (b : Actor) {x : BoardLine} → slice_get (board_lines lines) k ≡ Some x
      → IsCurrentAt seen b k → IsCurrentOf board (board_lines lines) b x
  current_as (actors.Driver r) at cur = cur ∙ at
  current_as (actors.Cpu c) {x} at cur = its_flow (flow_line (board_lines lines) c) cur
    where
      its_flow : (o : Option BoardLine) → IfSome o (λ y. slice_get (board_lines lines) k ≡ Some y) → IfSome o (λ y. y ≡ x)
      its_flow None cur = tt
      its_flow (Some y) cur = the_same y x (sym cur ∙ at)
  current_as (actors.Thread d) at cur = tt

  log_is : (x : LineSeen) → slice_get lines k ≡ Some x → x.def.log ≡ board.log
  log_is x at =
      let o = def_of_row board k x.def (def_at board (board_lines lines) kept.system.kept k (board_line x) (map_there board_line lines k x at)) in
      ap (λ (d : LineDef). d.log) (sym o.is)

  found_is : (x : LineSeen) → slice_get lines k ≡ Some x → find_line (board_lines lines) x.def.line ≡ Some (board_line x)
  found_is x at = find_there (board_lines lines) (apart_kept board is_board (board_lines lines) kept.system.kept) k
      (board_line x) (map_there board_line lines k x at)

  -- the lines after the step
  lines_are : (x y : LineSeen) (e : Entry) → slice_get lines k ≡ Some x → Adds x a e y
      → board_lines (slice_set lines k y) ≡ lines_after (x.def.line, e) (board_lines lines)
  lines_are x y e at adds =
      let newest : board_line y ≡ record { def = x.def; past = e ∷ reverse x.entries } =
      ap (λ (d : LineDef). record { def = d; past = reverse y.entries }) adds.def
      ∙ ap (λ (es : List Entry). record { def = x.def; past = es })
      (ap (λ (es : List Entry). reverse es) adds.entries ∙ reverse-append x.entries (e ∷ [])) in
      map-set board_line lines k y ∙ (ap (λ (z : BoardLine). slice_set (board_lines lines) k z) newest
      ∙ sym (set_is_after (board_lines lines) (apart_kept board is_board (board_lines lines) kept.system.kept) k
      (board_line x) e (map_there board_line lines k x at)))

  have : HaveCalls board.calls (board_lines lines)
  have i x at = has_calls board i x.def (def_at board (board_lines lines) kept.system.kept i x at)

  -- ---- the scripts after the step

  whose : (x : LineSeen) (e : Entry) → next x.def x.entries a ≡ Some e → (r : DriverNo) → is_by_driver r e ≡ is_driver r a
  whose x e due r = ap (is_driver r) (due_is_own_past x.def (reverse x.entries) a e due)

  driver_at : (j : ℕ) (s : ScriptSeen) → slice_get scripts j ≡ Some s → slice_get board.drivers j ≡ Some s.driver
  driver_at j s at = subst (λ (rs : List DriverNo). slice_get rs j ≡ Some s.driver) kept.system.drivers
      (map_there (λ (s : ScriptSeen). s.driver) scripts j s at)

  -- another's script
  of_other : (x : LineSeen) (e : Entry) → next x.def x.entries a ≡ Some e → (j : ℕ) (s : ScriptSeen)
      → slice_get scripts j ≡ Some s → is_driver s.driver a ≡ false
      → IsScript board.calls (lines_after (x.def.line, e) (board_lines lines)) s
  of_other x e due j s at other = other_script board.calls (board_lines lines) (x.def.line, e) s (kept.system.each j s at) (whose x e due s.driver ∙ other)

  -- the driver's own
  of_own : (x : LineSeen) (e : Entry) → slice_get lines k ≡ Some x → next x.def x.entries a ≡ Some e
      → (j : ℕ) (s : ScriptSeen) → slice_get scripts j ≡ Some s → a ≡ actors.Driver s.driver
      → IsScript board.calls (lines_after (x.def.line, e) (board_lines lines)) (advanced e s)
  of_own x e at due j s at_s me = by_step (slice_get s.calls s.at) refl
    where
      apart : AreApart (map (λ (x : BoardLine). x.def) (board_lines lines))
      apart = apart_kept board is_board (board_lines lines) kept.system.kept

      own : is_by_driver s.driver e ≡ true
      own = whose x e due s.driver ∙ (ap (is_driver s.driver) me ∙ same_self_driver s.driver)

      current : line_for board (board_lines lines) (actors.Driver s.driver) ≡ Some (board_line x)
      current = subst (λ (b : Actor). IsCurrentAt seen b k) me its.current ∙ line_is x at

      by_step : (o : Option PlacedCall) → slice_get s.calls s.at ≡ o → IsScript board.calls (lines_after (x.def.line, e) (board_lines lines)) (advanced e s)
      by_step None end =
          absurd (not_some (line_for board (board_lines lines) (actors.Driver s.driver))
          (script_line board.calls (board_lines lines) apart s (kept.system.each j s at_s) None end)
          (subst (λ (o : Option BoardLine). IsSome o) (sym current) refl))
      by_step (Some step) here =
          let there : slice_get (board_lines lines) step.place
          ≡ Some (board_line x) = sym (script_line board.calls (board_lines lines) apart s (kept.system.each j s at_s)
          (Some step) here) ∙ current in
          own_script board.calls (board_lines lines) (x.def.line, e) apart have s (kept.system.each j s at_s) own step here
          (board_line x) there refl (subst (λ (b : Actor). next x.def x.entries b ≡ Some e) me due)

  -- if the actor is no driver, each script is another's
  no_driver : (b : Actor) → IsScriptOf board.drivers b None → (r : DriverNo) → is_driver r b ≡ false
  no_driver (actors.Driver s) of r = absurd of
  no_driver (actors.Cpu c) of r = refl
  no_driver (actors.Thread d) of r = refl

  its_driver : (b : Actor) (j : ℕ) → IsScriptOf board.drivers b (Some j) → (r : DriverNo) × (b ≡ actors.Driver r) × (slice_get board.drivers j ≡ Some r)
  its_driver (actors.Driver s) j of = (s, refl, of)
  its_driver (actors.Cpu c) j of = absurd of
  its_driver (actors.Thread d) j of = absurd of

  each_after : (x : LineSeen) (e : Entry) → slice_get lines k ≡ Some x → next x.def x.entries a ≡ Some e
      → (o : Option ℕ) → IsScriptOf board.drivers a o → (i : ℕ) (s : ScriptSeen)
      → slice_get (scripts_after {L = L} o (Ok (stepped.Added e)) scripts) i ≡ Some s
      → IsScript board.calls (lines_after (x.def.line, e) (board_lines lines)) s
  each_after x e at due None of i s at_s = of_other x e due i s at_s (no_driver a of s.driver)
  each_after x e at due (Some j) of i s at_s = by_script (slice_get scripts j) refl at_s
    where
      rises : Rises (λ (r : DriverNo). r.0) board.drivers
      rises i r at = (is_board.drivers i r at).rises

      others : (i : ℕ) (s : ScriptSeen) → slice_get scripts i ≡ Some s → ((i ≡ j) → ⊥) → is_driver s.driver a ≡ false
      others i s at differs =
          let d = its_driver a j of in
          ap (is_driver s.driver) d.1 ∙ false_from_ne_true (same_driver s.driver d.0)
          (λ same. differs (one_place board.drivers rises i j s.driver d.0 (driver_at i s at) d.2
          (driver_from_same s.driver d.0 same)))

      by_script : (o : Option ScriptSeen) → slice_get scripts j ≡ o → slice_get (script_after o j e scripts) i ≡ Some s
          → IsScript board.calls (lines_after (x.def.line, e) (board_lines lines)) s
      by_script None none at_s =
          of_other x e due i s at_s (others i s at_s (λ same. not_there (slice_get scripts j) s none (ap (λ (n : ℕ). slice_get scripts n) (sym same) ∙ at_s)))
        where
          not_there : (o : Option ScriptSeen) (s : ScriptSeen) → o ≡ None → o ≡ Some s → ⊥
          not_there None s none some = cc
          not_there (Some t) s none some = cc
      by_script (Some t) there at_s = elim (set_cases scripts j i (advanced e t) s at_s) [
        | inl h ↦
            let d = its_driver a j of in
            let mine : a ≡ actors.Driver t.driver = d.1 ∙ ap (λ (r : DriverNo). actors.Driver r) (the_same d.0 t.driver (sym d.2 ∙ driver_at j t there)) in
            subst (λ (z : ScriptSeen). IsScript board.calls (lines_after (x.def.line, e) (board_lines lines)) z) h.1 (of_own x e at due j t there mine)
        | inr h ↦ of_other x e due i s h.1 (others i s h.1 h.0)
      ]

  drivers_after : (o : Option ℕ) (r : Result (Stepped L) StepRefused) → drivers_of (scripts_after o r scripts) ≡ drivers_of scripts
  drivers_after None r = refl
  drivers_after (Some j) (Ok stepped.NotYet) = refl
  drivers_after (Some j) (Ok (stepped.Lacks lack)) = refl
  drivers_after (Some j) (Err refused) = refl
  drivers_after (Some j) (Ok (stepped.Added e)) = by_script (slice_get scripts j) refl
    where
      same_driver_after : (o : Option PlacedCall) (s : ScriptSeen) → (advanced_at o e s).driver ≡ s.driver
      same_driver_after None s = refl
      same_driver_after (Some step) s = by_last (completes step.call.call e)
        where
          by_last : (b : Bool) → (advanced_by b s).driver ≡ s.driver
          by_last true = refl
          by_last false = refl

      by_script : (o : Option ScriptSeen) → slice_get scripts j ≡ o → drivers_of (script_after o j e scripts) ≡ drivers_of scripts
      by_script None none = refl
      by_script (Some s) there =
          map-set (λ (s : ScriptSeen). s.driver) scripts j (advanced e s)
          ∙ (ap (λ (d : DriverNo). slice_set (drivers_of scripts) j d)
          (same_driver_after (slice_get s.calls s.at) s)
          ∙ set_same (drivers_of scripts) j s.driver (map_there (λ (s : ScriptSeen). s.driver) scripts j s there))

  -- ---- the system after the step

  sound_after : (y : LineSeen) → IsSound y → (i : ℕ) (z : LineSeen) → slice_get (slice_set lines k y) i ≡ Some z → IsSound z
  sound_after y sound i z at = elim (set_cases lines k i y z at) [ inl h ↦ subst IsSound h.1 sound | inr h ↦ kept.system.sound i z h.1 ]

  moved : (e : Entry) (new : List LineSeen) (longer : List ℕ) → StepsAt lines order k a e new longer → (line : LineNo)
      → IsSomeAnd (slice_get lines k) (λ x. line ≡ x.def.line)
      → IsSystem board new (scripts_after {L = L} script (Ok (stepped.Added e)) scripts)
      × Moves seen due_here (line, e) (seen_of board layout new longer)
  moved e new longer s line of_line =
      let x = s.before in
      let y = s.after in
      let number : line ≡ x.def.line = subst (λ (o : Option LineSeen). IsSomeAnd o (λ x. line ≡ x.def.line)) s.at of_line in
      let m : Move = (x.def.line, e) in
      let due : due_here ≡ Some m = move_is x s.at (Some e) s.adds.due in
      let after : board_lines new ≡ lines_after m (board_lines lines) = ap (λ (ls : List LineSeen). board_lines ls) s.rest ∙ lines_are x y e s.at s.adds in
      let room : length (reverse x.entries) < board.log
      = subst (λ (n : ℕ). length (reverse x.entries) < n) (log_is x s.at)
      (let l = length-reverse x.entries in let b = s.adds.below in omega (arith, l, b)) in
      let set_after : board_lines new ≡ slice_set (board_lines lines) k (record { def = x.def; past = e ∷ reverse x.entries }) =
      after ∙ set_is_after (board_lines lines) (apart_kept board is_board (board_lines lines) kept.system.kept) k
      (board_line x) e (map_there board_line lines k x s.at) in
      let told : merged (reverse longer) (board_lines new) ≡ m ∷ merged (reverse order) (board_lines lines) =
      ap (λ (ks : List ℕ). merged ks (board_lines new)) (ap (λ (ks : List ℕ). reverse ks) s.told ∙ reverse-append order (k ∷ []))
      ∙ (ap (λ (ls : List BoardLine). merged (k ∷ reverse order) ls) set_after
      ∙ merged_more (board_lines lines) k (reverse order) (board_line x) e (map_there board_line lines k x s.at)) in
      let same : (x.def.line, e) ≡ (line, e) = ap (λ (l : LineNo). (l, e)) (sym number) in (
        record {
          kept = subst (λ (ls : List BoardLine). AreKept board ls) (sym after)
              (step_keeps board is_board (board_lines lines) kept.system.kept a k (board_line x) e
              (map_there board_line lines k x s.at) s.adds.due (current_as a (line_is x s.at) its.current));
          sound = subst (λ (ls : List LineSeen). (i : ℕ) (z : LineSeen) → slice_get ls i ≡ Some z → IsSound z) (sym s.rest) (sound_after y s.sound);
          drivers = drivers_after script (Ok (stepped.Added e)) ∙ kept.system.drivers;
          each = λ i t at. subst (λ (ls : List BoardLine). IsScript board.calls ls t) (sym after) (each_after x e s.at s.adds.due script its.script i t at);
        },
        subst (λ (n : Move). Moves seen due_here n (seen_of board layout new longer)) same
            (record {
              is = due;
              room = subst (λ (o : Option BoardLine). IsSomeAnd o (λ x. length x.past < board.log)) (sym (found_is x s.at)) room;
              board = refl;
              layout = refl;
              lines = after;
              log = ap (λ (g : List Move). reverse g) told ∙ reverse_more m (merged (reverse order) (board_lines lines));
            }),
      )
    where
      reverse_more : (m : Move) (g : List Move) → reverse (m ∷ g) ≡ reverse g ++ m ∷ []
      reverse_more m g = reverse-append (m ∷ []) g

  same_seen : (new : List LineSeen) (longer : List ℕ) → new ≡ lines → longer ≡ order → seen_of board layout new longer ≡ seen
  same_seen new longer ls os = ap (λ (x : List LineSeen). seen_of board layout x longer) ls ∙ ap (λ (x : List ℕ). seen_of board layout lines x) os

  same_system : (new : List LineSeen) → new ≡ lines → (r : Result (Stepped L) StepRefused)
      → scripts_after script r scripts ≡ scripts → IsSystem board new (scripts_after script r scripts)
  same_system new ls r ss = subst (λ (x : List LineSeen). IsSystem board x (scripts_after script r scripts)) (sym ls)
      (subst (λ (x : List ScriptSeen). IsSystem board lines x) (sym ss) kept.system)

  no_scripts : (o : Option ℕ) → scripts_after {L = L} o (Ok stepped.NotYet) scripts ≡ scripts
  no_scripts None = refl
  no_scripts (Some j) = refl

  not_scripts : (o : Option ℕ) (refused : StepRefused) → scripts_after {L = L} o (Err refused) scripts ≡ scripts
  not_scripts None refused = refl
  not_scripts (Some j) refused = refl

  by_answer : (r : Result (Stepped L) StepRefused) (new : List LineSeen) (longer : List ℕ)
      → SteppedAt lines order k a r new longer → (line : LineNo)
      → IsSomeAnd (slice_get lines k) (λ x. line ≡ x.def.line)
      → IsSystem board new (scripts_after script r scripts)
      × StepsBy seen due_here (turn_of line r) (seen_of board layout new longer)
  by_answer (Ok (stepped.Added e)) new longer s line number = moved e new longer s line number
  by_answer (Ok (stepped.Lacks lack)) new longer s line number = absurd s
  by_answer (Ok stepped.NotYet) new longer s line number =
      (same_system new s.1 (Ok stepped.NotYet) (no_scripts script), (move_is s.0.line s.0.at None s.0.rests, same_seen new longer s.1 s.2))
  by_answer (Err (refusals.Full full len)) new longer s line number =
      let x = s.0.line in
      let told : len ≡ length x.entries = s.0.is_full.told in
      let limit : length x.entries ≡ x.def.log = s.0.is_full.log in (
        same_system new s.1 (Err (refusals.Full full len)) (not_scripts script (refusals.Full full len)),
        (
          full_for x s.0.at (next x.def x.entries a) refl s.0.is_full.due full s.0.is_full.line_is len told limit,
          same_seen new longer s.1 s.2,
        ),
      )
    where
      full_for : (x : LineSeen) → slice_get lines k ≡ Some x → (o : Option Entry) → next x.def x.entries a ≡ o
          → IsSome (next x.def x.entries a) → (line : LineNo) → line ≡ x.def.line → (len : ℕ) → len ≡ length x.entries
          → length x.entries ≡ x.def.log
          → IsFullFor seen due_here line len
      full_for x at None due some line is_number len told limit = absurd (not_some (next x.def x.entries a) due some)
      full_for x at (Some e) due some line is_number len told limit =
          record {
            move = (x.def.line, e);
            is = move_is x at (Some e) due;
            of_line = sym is_number;
            length = subst (λ (o : Option BoardLine). IsSomeAnd o (λ x. length x.past ≡ len))
                (sym (ap (λ (l : LineNo). find_line (board_lines lines) l) is_number ∙ found_is x at))
                (length-reverse x.entries ∙ sym told);
            log = told ∙ (limit ∙ log_is x at);
          }
  by_answer (Err refusals.NoMemory) new longer s line number =
      (same_system new s.0 (Err refusals.NoMemory) (not_scripts script refusals.NoMemory), same_seen new longer s.0 s.1)

  -- the line at the place is the one of its number
  pub number_found : (number : LineNo) → IsSomeAnd (slice_get lines k) (λ x. number ≡ x.def.line)
      → slice_get (board_lines lines) k ≡ find_line (board_lines lines) number
  number_found number is = by_line (slice_get lines k) refl is
    where
      by_line : (o : Option LineSeen) → slice_get lines k ≡ o → IsSomeAnd o (λ x. number ≡ x.def.line)
          → slice_get (board_lines lines) k ≡ find_line (board_lines lines) number
      by_line None at is = absurd is
      by_line (Some x) at is = line_is x at ∙ sym (found_is x at) ∙ ap (λ (l : LineNo). find_line (board_lines lines) l) (sym is)

  pub system_after : (t : Step L system a stand) → IsSystem board t.lines t.scripts
  system_after t = subst (λ (ss : List ScriptSeen). IsSystem board t.lines ss) (sym t.scripts_are)
      (by_answer t.answer t.lines t.order t.stepped t.number t.number_is).0

  pub turned : (t : Step L system a stand)
      → StepsBy view (due_on (slice_get (board_lines view.lines) k) a) (turn_of t.number t.answer) (seen_of board layout t.lines t.order)
  turned t =
      subst (λ (s : SystemSeen). StepsBy s (due_on (slice_get (board_lines s.lines) k) a) (turn_of t.number t.answer)
      (seen_of board layout t.lines t.order)) view_is
      (by_answer t.answer t.lines t.order t.stepped t.number t.number_is).1
