-- The first of some actors that can move, and a driver's due call, as a system answers them.
use Rattle.std.proofs.Common.{◌≡◌, ℕ, ◌+◌, ◌<◌, inl, inr, is_some, Option, Some, None, List, ◌++◌, map, length, slice_get, refl, sym, ap, ◌∙◌, subst, arith}
use Rattle.std.proofs.lemmas.Option.{slice_get_within}
use Rattle.irq_base.specs.declared.calls.Call.{Call}
use Rattle.irq_base.specs.declared.entries.Actor.TheVariants as actors
use Rattle.irq_base.specs.declared.numbers.CpuNo.{CpuNo}
use Rattle.irq_base.specs.declared.numbers.DriverNo.{DriverNo}
use Rattle.irq_base.specs.declared.numbers.LineNo.{LineNo}
use Rattle.board_play.specs.Lines.{BoardLine, Move}
use Rattle.board_play.specs.Order.{threads_of, cpus_of, drivers_of}
use Rattle.board_ready.specs.Ready.{lowest_thread, lowest_cpu, lowest_driver, lowest_thread_or_cpu, thread_or, cpu_actor}
use Rattle.board_ready.specs.declared.parts.LineReadiness.{LineReadiness}
use Rattle.board_ready.specs.declared.parts.ReadyActor.{ReadyActor}
use Rattle.board_ready.specs.declared.parts.ReadyActor.TheVariants as readies
use Rattle.board_ready.specs.declared.parts.ReadyThread.{ReadyThread}
use Rattle.board_core.specs.Firsts.{IsFirstOf, with_line, call_on}
use Rattle.board_core.specs.Inside.{seen_of}
use Rattle.board_core.specs.Scripts.{ScriptSeen, IsScript, due_at}
use Rattle.board_core.specs.Seen.{SystemSeen, board_lines}
use Rattle.board_core.specs.declared.scripts.PlacedCall.{PlacedCall}
use Rattle.board_core.specs.declared.turns.DueCall.{DueCall}
use Rattle.irq_laws.proofs.Chosen.{the_same}
use Rattle.board_play.specs.Current.{current_line}
use Rattle.board_play.proofs.KeptAlways.{apart_kept}
use Rattle.board_play.proofs.Members.{AreApart}
use Rattle.board_core.proofs.LowestMover.{at_first, at_second, either_at, thread_first, cpu_first, driver_first, no_thread, no_cpu, no_driver, script_of}
use Rattle.board_core.proofs.Movers.{some_with}
use Rattle.board_core.proofs.ScriptLaws.{script_line}
use Rattle.board_core.proofs.Standing.{driver_at, no_call}
use Rattle.board_core.proofs.LowestStanding.{driver_number_within}
use Rattle.board_core.proofs.Kept.{KeptSystem}

module _ (lines : List LineReadiness) where
  abbrev Says : Option ReadyActor → Option ReadyThread → Option ℕ → Type 0
  Says None a b = (a ≡ None) × (b ≡ None)
  Says (Some (readies.Thread t)) a b = a ≡ Some t
  Says (Some (readies.Cpu cpu)) a b = (a ≡ None) × (b ≡ Some cpu.0)
  Says (Some (readies.Driver j)) a b = (a ≡ None) × (b ≡ None)

  said : (a : Option ReadyThread) (b : Option ℕ) → Says (thread_or a (cpu_actor b)) a b
  said (Some t) b = refl
  said None (Some n) = (refl, refl)
  said None None = (refl, refl)

  says : (o : Option ReadyActor) → o ≡ lowest_thread_or_cpu lines → Says o (lowest_thread lines) (lowest_cpu lines)
  says o is = subst (λ (x : Option ReadyActor). Says x (lowest_thread lines) (lowest_cpu lines)) (sym is) (said (lowest_thread lines) (lowest_cpu lines))

module _ {view : SystemSeen} (system : KeptSystem view) where
  open system use {board, layout, lines, scripts, order, parts, is_board, kept, view_is}

  abbrev seen : SystemSeen
  seen = seen_of board layout lines order

  pub first_thread : (t : ReadyThread) → Some (readies.Thread t) ≡ lowest_thread_or_cpu parts.ready.lines
      → IsFirstOf view (threads_of view.board ++ cpus_of view.board) (Some (actors.Thread t.dev))
  first_thread t found =
      let h = thread_first system t (says parts.ready.lines (Some (readies.Thread t)) found) in
      let its : IsFirstOf seen (threads_of board ++ cpus_of board) (Some (actors.Thread t.dev)) =
      record {
        place = h.place;
        at = at_first (threads_of board) (cpus_of board) h.place (actors.Thread t.dev) h.at;
        moves = ap (λ (o : Option Move). is_some o) h.due_is;
        before = λ j b less at_b. elim (either_at (threads_of board) (cpus_of board) j b at_b) [
          | inl thread ↦ h.before j b less thread
          | inr cpu ↦ absurd (let e = cpu.1 in let w = slice_get_within (threads_of board) h.place
              (actors.Thread t.dev) h.at in omega (arith, e, w, less))
        ];
      } in
      subst (λ (s : SystemSeen). IsFirstOf s (threads_of s.board ++ cpus_of s.board) (Some (actors.Thread t.dev)))
      view_is its

  pub first_cpu : (c : CpuNo) → Some (readies.Cpu c) ≡ lowest_thread_or_cpu parts.ready.lines
      → IsFirstOf view (threads_of view.board ++ cpus_of view.board) (Some (actors.Cpu c))
  first_cpu c found =
      let low = says parts.ready.lines (Some (readies.Cpu c)) found in
      let h = (cpu_first system c low.1).0 in
      let none = no_thread system low.0 in
      let its : IsFirstOf seen (threads_of board ++ cpus_of board) (Some (actors.Cpu c)) =
      record {
        place = length (threads_of board) + h.place;
        at = at_second (threads_of board) (cpus_of board) h.place (actors.Cpu c) h.at;
        moves = ap (λ (o : Option Move). is_some o) h.due_is;
        before = λ j b less at_b. elim (either_at (threads_of board) (cpus_of board) j b at_b) [
          | inl thread ↦ none j b thread
          | inr cpu ↦ h.before cpu.0 b (let e = cpu.1 in omega (arith, e, less)) cpu.2
        ];
      } in
      subst (λ (s : SystemSeen). IsFirstOf s (threads_of s.board ++ cpus_of s.board) (Some (actors.Cpu c))) view_is its

  nobody_first : lowest_thread parts.ready.lines ≡ None → lowest_cpu parts.ready.lines ≡ None
      → IsFirstOf view (threads_of view.board ++ cpus_of view.board) None
  nobody_first no_threads no_cpus =
      let its : IsFirstOf seen (threads_of board ++ cpus_of board) None =
      λ j b at_b. elim (either_at (threads_of board) (cpus_of board) j b at_b) [
        | inl thread ↦ no_thread system no_threads j b thread
        | inr cpu ↦ no_cpu system no_cpus cpu.0 b cpu.2
      ] in
      subst (λ (s : SystemSeen). IsFirstOf s (threads_of s.board ++ cpus_of s.board) None) view_is its

  pub none_first : None ≡ lowest_thread_or_cpu parts.ready.lines → IsFirstOf view (threads_of view.board ++ cpus_of view.board) None
  none_first found = let low = says parts.ready.lines None found in nobody_first low.0 low.1

  -- ---- drivers

  pub first_driver : (j : ℕ) (d : DriverNo) → Some j ≡ lowest_driver parts.ready
      → slice_get parts.driver_numbers j ≡ Some d.0 → IsFirstOf view (drivers_of view.board) (Some (actors.Driver d))
  first_driver j d found at =
      let h = driver_first system j d (sym found)
      (driver_at system j d at) in
      let its : IsFirstOf seen (drivers_of board) (Some (actors.Driver d))
      = record {
        place = h.place;
        at = h.at;
        moves = ap (λ (o : Option Move). is_some o) h.due_is;
        before
            = h.before;
      } in
      subst (λ (s : SystemSeen). IsFirstOf s (drivers_of s.board) (Some (actors.Driver d))) view_is its

  pub no_first_driver : None ≡ lowest_driver parts.ready → IsFirstOf view (drivers_of view.board) None
  no_first_driver found = subst (λ (s : SystemSeen). IsFirstOf s (drivers_of s.board) None) view_is
      (no_driver system (sym found))

  -- ---- the due call

  -- the script at the driver's place
  pub script_at : (j : ℕ) (d : DriverNo) → slice_get parts.driver_numbers j ≡ Some d.0 → (s : ScriptSeen) × (slice_get scripts j ≡ Some s) × (s.driver ≡ d)
  script_at j d at = script_of system j d
      (driver_at system j d at)

  pub due_is : (j : ℕ) (d : DriverNo) (s : ScriptSeen) (o : Option DueCall)
      → slice_get parts.driver_numbers j ≡ Some d.0 → slice_get scripts j ≡ Some s
      → o ≡ due_at (slice_get s.calls s.at) s.made → o
      ≡ call_on (current_line view.board.calls (board_lines view.lines) d) d
  due_is j d s o at at_s is_o =
      let t = script_at j d at in
      let mine : s.driver ≡ d = ap (λ (x : ScriptSeen). x.driver) (the_same s t.0 (sym at_s ∙ t.1)) ∙ t.2 in
      subst (λ (w : SystemSeen). o ≡ call_on (current_line w.board.calls (board_lines w.lines) d) d) view_is
      (subst (λ (x : DriverNo). o ≡ call_on (current_line board.calls (board_lines lines) x) x) mine (is_o ∙ by_step (slice_get s.calls s.at) refl))
    where
      its : IsScript board.calls (board_lines lines) s
      its = kept.system.each j s at_s

      apart : AreApart (map (λ (x : BoardLine). x.def) (board_lines lines))
      apart = apart_kept board is_board (board_lines lines) kept.system.kept

      by_step : (x : Option PlacedCall) → slice_get s.calls s.at ≡ x
          → due_at x s.made ≡ call_on (current_line board.calls (board_lines lines) s.driver) s.driver
      by_step None end = sym (ap (λ (l : Option BoardLine). call_on l s.driver) (script_line board.calls (board_lines lines) apart s its None end))
      by_step (Some step) here =
          let y = some_with (λ z. z.def.line ≡ step.call.line) (slice_get (board_lines lines) step.place) (its.places s.at step here) in
          let due = its.due step y.0 here y.1 in
          let line : current_line board.calls (board_lines lines) s.driver
          ≡ Some y.0 = script_line board.calls (board_lines lines) apart s its (Some step) here ∙ y.1 in
          sym (ap (λ (l : Option BoardLine). call_on l s.driver) line
          ∙ (ap (λ (c : Option (Call × ℕ)). with_line y.0.def.line c) due
          ∙ ap (λ (l : LineNo). Some (record { line = l; call = step.call.call; made = s.made })) y.2))

  pub no_due : (d : DriverNo) → ((j : ℕ) → slice_get parts.driver_numbers j ≡ Some d.0 → ⊥)
      → None ≡ call_on (current_line view.board.calls (board_lines view.lines) d) d
  no_due d none = subst (λ (w : SystemSeen). None ≡ call_on (current_line w.board.calls (board_lines w.lines) d) d) view_is
      (sym (ap (λ (l : Option BoardLine). call_on l d)
      (no_call system d none)))

  pub script_within : (j : ℕ) (d : DriverNo) → slice_get parts.driver_numbers j ≡ Some d.0 → j < length scripts
  script_within j d at = let t = script_at j d at in slice_get_within scripts j t.0 t.1

  -- ---- the bounds of places

  pub driver_within : (j : ℕ) → Some j ≡ lowest_driver parts.ready → j < length parts.driver_numbers
  driver_within j found = driver_number_within system j (sym found)
