-- Where an actor steps, as a system answers it.
use Rattle.std.proofs.Common.{◌≡◌, ℕ, suc, ◌==◌, inl, inr, Bool, true, false, cond, is_some, IfSome, Option, Some, None, List, [], ◌∷◌, Result}
use Rattle.std.proofs.Common.{map, slice_get, refl, sym, ap, ◌∙◌, subst, eq-eqb}
use Rattle.std.proofs.lemmas.Bool.{leb-true, le-leb, or_cases}
use Rattle.irq_line.specs.declared.answers.StepRefused.{StepRefused}
use Rattle.irq_base.specs.declared.devices.DeviceDef.{DeviceDef}
use Rattle.irq_base.specs.declared.entries.Actor.{Actor}
use Rattle.irq_base.specs.declared.entries.Actor.TheVariants as actors
use Rattle.irq_base.specs.declared.numbers.CpuNo.{CpuNo}
use Rattle.irq_base.specs.declared.entries.Entry.{Entry}
use Rattle.irq_base.specs.declared.numbers.DevNo.{DevNo}
use Rattle.irq_base.specs.declared.numbers.DriverNo.{DriverNo}
use Rattle.irq_base.specs.declared.numbers.LineNo.{LineNo}
use Rattle.irq_model.specs.Next.{next}
use Rattle.irq_model.proofs.Same.{line_from_same, driver_from_same}
use Rattle.irq_laws.proofs.Lists.{both_ways}
use Rattle.irq_line.specs.Queries.{IsLowestThread}
use Rattle.irq_line.specs.Seen.{LineSeen}
use Rattle.board_def.specs.Rules.{find_device, has_driver}
use Rattle.board_play.specs.Current.{current_line}
use Rattle.board_play.specs.Lines.{BoardLine, Move, find_line}
use Rattle.board_play.specs.Order.{device_line, due_line, flow_line, line_for, move_on, or_line, due_on, due_move}
use Rattle.board_play.proofs.KeptAlways.{apart_kept}
use Rattle.board_play.proofs.Members.{AreApart, find_there, found}
use Rattle.board_play.proofs.Moves.{flow_stands, line_stands}
use Rattle.board_play.proofs.Script.{current}
use Rattle.board_ready.specs.Ready.{cpu_line, is_cpu_ready, moving_line, can_go_on, current_call, is_driver_ready, lowest}
use Rattle.board_ready.specs.declared.parts.CurrentCall.{CurrentCall}
use Rattle.board_ready.specs.declared.parts.LineReadiness.{LineReadiness}
use Rattle.board_core.specs.Inside.{seen_of}
use Rattle.board_core.specs.Scripts.{ScriptSeen}
use Rattle.board_core.specs.Numbers.{IsPlaceOfNumber, numbers_of_drivers}
use Rattle.board_core.specs.Places.{IsPlace}
use Rattle.board_core.specs.ReadyFor.{IsReadinessOf, is_up_to, has_thread_up_to}
use Rattle.board_core.specs.Seen.{SystemSeen, board_line, board_lines}
use Rattle.board_core.specs.Stands.{IsCurrentAt, CanStepAt, IsCurrentOn, IsAt, IsStand, IsScriptPlace, IsStandOn}
use Rattle.board_core.specs.Turned.{IsScriptOf, StepsBy}
use Rattle.board_core.specs.Turns.{move_of}
use Rattle.board_core.specs.declared.turns.Turn.{Turn}
use Rattle.board_core.specs.declared.stands.Stand.{Stand}
use Rattle.board_core.proofs.LowestMover.{script_of, current_is, driver_ready_is}
use Rattle.board_core.proofs.Movers.{some_of, none_of, some_with, not_both, somebody, line_of_due, thread_moves, script_place}
use Rattle.board_core.proofs.CpuMovers.{cpu_ready_is, cpu_stands, ready_line}
use Rattle.board_core.proofs.InLists.{map_there, map_back}
use Rattle.board_core.proofs.Kept.{KeptSystem}

module _ {view : SystemSeen} (system : KeptSystem view) where
  open system use {board, layout, lines, scripts, order, parts, is_board, kept, view_is}

  abbrev seen : SystemSeen
  seen = seen_of board layout lines order

  -- ---- processors

  moving : (r : Bool) (o : Option ℕ) (k : ℕ) → Some k ≡ cond r o None → (r ≡ true) × (Some k ≡ o)
  moving true o k is = (refl, is)
  moving false o k is = absurd cc

  pub cpu_there : (c : CpuNo) (k : ℕ) (stand : Stand) → Some k ≡ moving_line parts.ready.lines c.0
      → stand ≡ record { line = k; script = None } → IsStand view (actors.Cpu c) (Some stand)
  cpu_there c k stand at same =
      let v = moving (is_cpu_ready parts.ready.lines c.0) (cpu_line parts.ready.lines c.0) k at in
      let h = cpu_stands system c (Some k) v.1 in
      let some = sym (cpu_ready_is system c) ∙ v.0 in
      let m = some_of (due_move board (board_lines lines) (actors.Cpu c)) some in
      subst (λ (s : SystemSeen). IsStand s (actors.Cpu c) (Some stand)) view_is
      (subst (λ (t : Stand). IsStand seen (actors.Cpu c) (Some t)) (sym same) (
        record { line = h.0; script = tt },
        record { actor = some; somebody = somebody system (actors.Cpu c) m.0 m.1 },
      ))

  pub cpu_nowhere : (c : CpuNo) → None ≡ moving_line parts.ready.lines c.0 → IsStand view (actors.Cpu c) None
  cpu_nowhere c at = subst (λ (s : SystemSeen). IsStand s (actors.Cpu c) None) view_is (by_ready (is_cpu_ready parts.ready.lines c.0) refl at)
    where
      by_ready : (r : Bool) → is_cpu_ready parts.ready.lines c.0 ≡ r → None ≡ cond r (cpu_line parts.ready.lines c.0) None
          → due_move board (board_lines lines) (actors.Cpu c) ≡ None
      by_ready true is none = let k = ready_line system c is in absurd (not_both (cpu_line parts.ready.lines c.0) k.0 (sym none) k.1)
      by_ready false is none = none_of (due_move board (board_lines lines) (actors.Cpu c)) (sym (cpu_ready_is system c) ∙ is)

  pub cpu_can_move : (c : CpuNo) → is_cpu_ready parts.ready.lines c.0 ≡ is_some (move_of view (actors.Cpu c))
  cpu_can_move c = subst (λ (s : SystemSeen). is_cpu_ready parts.ready.lines c.0 ≡ is_some (move_of s (actors.Cpu c))) view_is (cpu_ready_is system c)

  -- ---- threads

  apart : AreApart (map (λ (x : BoardLine). x.def) (board_lines lines))
  apart = apart_kept board is_board (board_lines lines) kept.system.kept

  -- the line that stands where its number does
  pub line_at : (k : ℕ) (line : LineNo) → slice_get parts.line_numbers k ≡ Some line.0 → (x : LineSeen) × (slice_get lines k ≡ Some x) × (x.def.line ≡ line)
  line_at k line at =
      let x = map_back (λ (x : LineSeen). x.def.line.0) lines k line.0 (ap (λ (ns : List ℕ). slice_get ns k) (sym kept.line_numbers) ∙ at) in
      (x.0, x.1, line_from_same x.0.def.line line (eq-eqb x.0.def.line.0 line.0 x.2))

  pub place_is : (k : ℕ) (x : LineSeen) → slice_get lines k ≡ Some x → IsPlace (board_lines lines) (Some k) (find_line (board_lines lines) x.def.line)
  place_is k x at =
      let f = find_there (board_lines lines) apart k (board_line x) (map_there board_line lines k x at) in
      (ap (λ (o : Option BoardLine). is_some o) f, map_there board_line lines k x at ∙ sym f)

  part_there : (k : ℕ) (x : LineSeen) → slice_get lines k ≡ Some x → (p : LineReadiness) × (slice_get parts.ready.lines k ≡ Some p) × IsReadinessOf x p
  part_there k x at = some_with (IsReadinessOf x) (slice_get parts.ready.lines k) (kept.ready.each_line k x at)

  -- where no line stands with this number
  no_line : (line : LineNo) → ((k : ℕ) → slice_get parts.line_numbers k ≡ Some line.0 → ⊥) → find_line (board_lines lines) line ≡ None
  no_line line none = by_line (find_line (board_lines lines) line) refl
    where
      by_line : (o : Option BoardLine) → find_line (board_lines lines) line ≡ o → find_line (board_lines lines) line ≡ None
      by_line None is_none = is_none
      by_line (Some y) there =
          let f = found (board_lines lines) line y there in
          let x = map_back board_line lines f.place y f.at in
          let number : x.0.def.line ≡ line = ap (λ (z : BoardLine). z.def.line) x.2 ∙ sym f.number in
          absurd (none f.place (ap (λ (ns : List ℕ). slice_get ns f.place) kept.line_numbers
          ∙ (map_there (λ (x : LineSeen). x.def.line.0) lines f.place x.0 x.1
          ∙ ap (λ (l : LineNo). Some l.0) number)))

  -- the line of a device
  its_line : (d : DevNo) (device : DeviceDef) → Some device ≡ find_device board.devices d → (k : ℕ) (x : LineSeen)
      → slice_get lines k ≡ Some x → x.def.line ≡ device.line → line_for board (board_lines lines) (actors.Thread d) ≡ Some (board_line x)
  its_line d device there k x at number =
      ap (λ (o : Option DeviceDef). device_line (board_lines lines) o) (sym there)
      ∙ (ap (λ (l : LineNo). find_line (board_lines lines) l) (sym number)
      ∙ find_there (board_lines lines) apart k (board_line x) (map_there board_line lines k x at))

  pub thread_place : (d : DevNo) (k : ℕ) (x : LineSeen) → slice_get lines k ≡ Some x
      → line_for board (board_lines lines) (actors.Thread d) ≡ Some (board_line x)
      → IsPlace (board_lines lines) (Some k) (line_for board (board_lines lines) (actors.Thread d))
  thread_place d k x at its = (ap (λ (o : Option BoardLine). is_some o) its, map_there board_line lines k x at ∙ sym its)

  pub thread_there : (d : DevNo) (device : DeviceDef) (k : ℕ) (stand : Stand) → Some device ≡ find_device board.devices d
      → slice_get parts.line_numbers k ≡ Some device.line.0 → has_thread_up_to (slice_get parts.ready.lines k) d ≡ true
      → stand ≡ record { line = k; script = None } → IsStand view (actors.Thread d) (Some stand)
  thread_there d device k stand there at up_to same =
      let x = line_at k device.line at in
      let p = part_there k x.0 x.1 in
      let its = its_line d device there k x.0 x.1 x.2 in
      subst (λ (s : SystemSeen). IsStand s (actors.Thread d) (Some stand)) view_is
      (subst (λ (t : Stand). IsStand seen (actors.Thread d) (Some t)) (sym same)
      (by_thread x.0 x.1 its p.0.thread p.2.thread (ap (λ (o : Option LineReadiness). has_thread_up_to o d) (sym p.1) ∙ up_to)))
    where
      by_thread : (x : LineSeen) → slice_get lines k ≡ Some x → line_for board (board_lines lines) (actors.Thread d) ≡ Some (board_line x)
          → (o : Option DevNo) → IsLowestThread x o → is_up_to d o ≡ true
          → IsStand seen (actors.Thread d) (Some (record { line = k; script = None }))
      by_thread x at its None low up_to = cc
      by_thread x at its (Some lowest) low up_to =
          let m = thread_moves system k x lowest at low.0 in (
            record { line = thread_place d k x at its; script = tt },
            record {
              actor = (lowest, leb-true lowest.0 d.0 up_to, line_of_due system k x lowest at low.0 ∙ sym its, ap (λ (o : Option Move). is_some o) m.1);
              somebody = somebody system (actors.Thread lowest) m.0 m.1;
            },
          )

  -- a thread that its line isn't up to, one whose line takes no part, and one of no device
  pub thread_below : (d : DevNo) (device : DeviceDef) (k : ℕ) → Some device ≡ find_device board.devices d
      → slice_get parts.line_numbers k ≡ Some device.line.0 → has_thread_up_to (slice_get parts.ready.lines k) d ≡ false
      → IsStand view (actors.Thread d) None
  thread_below d device k there at above =
      let x = line_at k device.line at in
      let p = part_there k x.0 x.1 in
      subst (λ (s : SystemSeen). IsStand s (actors.Thread d) None) view_is
      (by_thread x.0 (its_line d device there k x.0 x.1 x.2) p.0.thread p.2.thread
      (ap (λ (o : Option LineReadiness). has_thread_up_to o d) (sym p.1) ∙ above) (next x.0.def x.0.entries (actors.Thread d)) refl)
    where
      by_thread : (x : LineSeen) → line_for board (board_lines lines) (actors.Thread d) ≡ Some (board_line x)
          → (o : Option DevNo) → IsLowestThread x o → is_up_to d o ≡ false → (e : Option Entry)
          → next x.def x.entries (actors.Thread d) ≡ e → IsStand seen (actors.Thread d) None
      by_thread x its o low above None due =
          ap (λ (y : Option BoardLine). due_on y (actors.Thread d)) its ∙ ap (λ (y : Option Entry). move_on x.def.line y) due
      by_thread x its None low above (Some e) due = absurd (low d (ap (λ (y : Option Entry). is_some y) due))
      by_thread x its (Some lowest) low above (Some e) due
          = absurd (both_ways (is_up_to d (Some lowest))
          (le-leb lowest.0 d.0 (low.1 d (ap (λ (y : Option Entry). is_some y) due))) above)

  pub thread_nowhere : (d : DevNo) (device : DeviceDef) → Some device ≡ find_device board.devices d
      → ((k : ℕ) → slice_get parts.line_numbers k ≡ Some device.line.0 → ⊥) → IsStand view (actors.Thread d) None
  thread_nowhere d device there none = subst (λ (s : SystemSeen). IsStand s (actors.Thread d) None) view_is
      (ap (λ (o : Option DeviceDef). due_on (device_line (board_lines lines) o) (actors.Thread d)) (sym there)
      ∙ ap (λ (o : Option BoardLine). due_on o (actors.Thread d)) (no_line device.line none))

  pub thread_of_none : (d : DevNo) → None ≡ find_device board.devices d → IsStand view (actors.Thread d) None
  thread_of_none d none = subst (λ (s : SystemSeen). IsStand s (actors.Thread d) None) view_is
      (ap (λ (o : Option DeviceDef). due_on (device_line (board_lines lines) o) (actors.Thread d)) (sym none))

  -- ---- drivers

  pub driver_at : (j : ℕ) (d : DriverNo) → slice_get parts.driver_numbers j ≡ Some d.0 → slice_get board.drivers j ≡ Some d
  driver_at j d at =
      let x = map_back (λ (x : DriverNo). x.0) board.drivers j d.0 (ap (λ (ns : List ℕ). slice_get ns j) (sym kept.driver_numbers) ∙ at) in
      x.1 ∙ ap (λ (y : DriverNo). Some y) (driver_from_same x.0 d (eq-eqb x.0.0 d.0 x.2))

  pub at_script : (j : ℕ) (s : ScriptSeen) (call : CurrentCall) (m : Move) → slice_get scripts j ≡ Some s
      → current_call parts.ready.drivers j ≡ Some call
      → due_move board (board_lines lines) (actors.Driver s.driver) ≡ Some m
      → IsStand seen (actors.Driver s.driver) (Some (record { line = call.line; script = Some j }))
  at_script j s call m at called due = (
    record {
      line = script_place system j s call at
          (sym (current_is system j s at) ∙ called);
      script = ap (λ (ds : List DriverNo). slice_get ds j) (sym kept.system.drivers) ∙ map_there (λ (x : ScriptSeen). x.driver) scripts j s at;
    },
    record {
      actor = ap (λ (o : Option Move). is_some o) due;
      somebody
          = somebody system (actors.Driver s.driver) m due;
    },
  )

  pub driver_there : (d : DriverNo) (j : ℕ) (call : CurrentCall) (stand : Stand)
      → slice_get parts.driver_numbers j ≡ Some d.0 → is_driver_ready parts.ready j ≡ true
      → Some call ≡ current_call parts.ready.drivers j → stand ≡ record { line = call.line; script = Some j }
      → IsStand view (actors.Driver d) (Some stand)
  driver_there d j call stand at can called same =
      let s = script_of system j d (driver_at j d at) in
      let m = some_of (due_move board (board_lines lines) (actors.Driver s.0.driver))
      (sym (driver_ready_is system j s.0 s.1) ∙ can) in
      subst (λ (w : SystemSeen). IsStand w (actors.Driver d) (Some stand)) view_is
      (subst (λ (t : Stand). IsStand seen (actors.Driver d) (Some t)) (sym same)
      (subst (λ (x : DriverNo). IsStand seen (actors.Driver x) (Some (record { line = call.line; script = Some j })))
      s.2 (at_script j s.0 call m.0 s.1 (sym called) m.1)))

  pub driver_waits : (d : DriverNo) (j : ℕ) → slice_get parts.driver_numbers j ≡ Some d.0
      → is_driver_ready parts.ready j ≡ false → IsStand view (actors.Driver d) None
  driver_waits d j at waits =
      let s = script_of system j d (driver_at j d at) in
      subst (λ (w : SystemSeen). IsStand w (actors.Driver d) None) view_is
      (subst (λ (x : DriverNo). IsStand seen (actors.Driver x) None) s.2
      (none_of (due_move board (board_lines lines) (actors.Driver s.0.driver))
      (sym (driver_ready_is system j s.0 s.1) ∙ waits)))

  -- without a current call it isn't ready
  pub driver_ends : (d : DriverNo) (j : ℕ) → slice_get parts.driver_numbers j ≡ Some d.0
      → None ≡ current_call parts.ready.drivers j → IsStand view (actors.Driver d) None
  driver_ends d j at none = driver_waits d j at (ap (λ (o : Option CurrentCall). can_go_on parts.ready.lines o) (sym none))

  -- a driver that isn't the board's has no call
  pub no_call : (d : DriverNo) → ((j : ℕ) → slice_get parts.driver_numbers j ≡ Some d.0 → ⊥) → current_line board.calls (board_lines lines) d ≡ None
  no_call d none = by_line (current_line board.calls (board_lines lines) d) refl
    where
      place_of_driver : (rs : List DriverNo) → has_driver rs d ≡ true → (j : ℕ) × (slice_get (numbers_of_drivers rs) j ≡ Some d.0)
      place_of_driver [] h = cc
      place_of_driver (r ∷ rs) h = elim (or_cases (r.0 == d.0) (has_driver rs d) h) [
        | inl here ↦ (0, ap (λ (x : DriverNo). Some x.0) (driver_from_same r d here))
        | inr there ↦ (let p = place_of_driver rs there in (suc p.0, p.1))
      ]

      by_line : (o : Option BoardLine) → current_line board.calls (board_lines lines) d ≡ o → current_line board.calls (board_lines lines) d ≡ None
      by_line None its = its
      by_line (Some x) its =
          let k = current (board_lines lines) d [] board.calls x its in
          let declared : has_driver board.drivers d ≡ true
          = ap (λ (r : DriverNo). has_driver board.drivers r) (driver_from_same d k.call.driver k.mine)
          ∙ (is_board.calls k.place k.call k.at).driver in
          let p = place_of_driver board.drivers declared in
          absurd (none p.0 (ap (λ (ns : List ℕ). slice_get ns p.0) kept.driver_numbers ∙ p.1))

  pub driver_nowhere : (d : DriverNo) → ((j : ℕ) → slice_get parts.driver_numbers j ≡ Some d.0 → ⊥) → IsStand view (actors.Driver d) None
  driver_nowhere d none = subst (λ (w : SystemSeen). IsStand w (actors.Driver d) None) view_is
      (ap (λ (o : Option BoardLine). due_on o (actors.Driver d)) (no_call d none))

  -- ---- a line by its number

  pub script_there : (d : DriverNo) (numbers : List ℕ) (o : Option ℕ) → numbers ≡ parts.driver_numbers
      → IsPlaceOfNumber numbers d.0 o → IsScriptPlace view (actors.Driver d) o
  script_there d numbers o same place = subst (λ (s : SystemSeen). IsScriptPlace s (actors.Driver d) o) view_is
      (by_place o (subst (λ (ns : List ℕ). IsPlaceOfNumber ns d.0 o) same place))
    where
      by_place : (o : Option ℕ) → IsPlaceOfNumber parts.driver_numbers d.0 o → IsScriptPlace seen (actors.Driver d) o
      by_place None none = no_call d none
      by_place (Some j) at = driver_at j d at

  pub line_nowhere : (line : LineNo) → ((k : ℕ) → slice_get parts.line_numbers k ≡ Some line.0 → ⊥) → find_line (board_lines view.lines) line ≡ None
  line_nowhere line none = subst (λ (s : SystemSeen). find_line (board_lines s.lines) line ≡ None) view_is (no_line line none)

  pub line_there : (line : LineNo) (a : Actor) (k : ℕ) (o : Option ℕ) (stand : Stand)
      → slice_get parts.line_numbers k ≡ Some line.0 → IsCurrentOn view line a → IsScriptPlace view a o
      → stand ≡ record { line = k; script = o } → IsStandOn view line a (Some stand)
  line_there line a k o stand at cur script same =
      let x = line_at k line at in
      let place = subst (λ (l : LineNo). IsPlace (board_lines lines) (Some k) (find_line (board_lines lines) l)) x.2 (place_is k x.0 x.1) in
      let here : slice_get (board_lines lines) k ≡ Some (board_line x.0) = map_there board_line lines k x.0 x.1 in
      let w : seen ≡ view = view_is in
      let current_now = subst (λ (s : SystemSeen). IsCurrentOn s line a) (sym w) cur in
      let its = subst (λ (s : SystemSeen). IsScriptPlace s a o) (sym w) script in
      subst (λ (s : SystemSeen). IsStandOn s line a (Some stand)) view_is
      (subst (λ (t : Stand). IsStandOn seen line a (Some t)) (sym same) (
        record {
          line = ap (λ (o : Option BoardLine). is_some o) here;
          current = is_current a current_now place.1;
          script
              = is_script a o current_now its;
        },
        place.1,
      ))
    where
      is_current : (a : Actor) → IsCurrentOn seen line a → slice_get (board_lines lines) k ≡ find_line (board_lines lines) line → IsCurrentAt seen a k
      is_current (actors.Cpu c) cur place = its_flow (flow_line (board_lines lines) c) refl cur
        where
          its_flow : (o : Option BoardLine) → flow_line (board_lines lines) c ≡ o → IfSome o (λ y. y.def.line ≡ line)
              → IfSome o (λ y. slice_get (board_lines lines) k ≡ Some y)
          its_flow None is cur = tt
          its_flow (Some y) is cur =
              let s = flow_stands (board_lines lines) c y is in
              place ∙ (ap (λ (l : LineNo). find_line (board_lines lines) l) (sym cur) ∙ find_there (board_lines lines) apart s.place y s.at)
      is_current (actors.Thread d) cur place = tt
      is_current (actors.Driver r) cur place =
          let y = some_with (λ z. z.def.line ≡ line) (current_line board.calls (board_lines lines) r) cur in
          let s = line_stands board (board_lines lines) (actors.Driver r) y.0 y.1 in
          y.1 ∙ (sym (find_there (board_lines lines) apart s.place y.0 s.at) ∙ (ap (λ (l : LineNo). find_line (board_lines lines) l) y.2 ∙ sym place))

      is_script : (a : Actor) (o : Option ℕ) → IsCurrentOn seen line a → IsScriptPlace seen a o → IsScriptOf board.drivers a o
      is_script (actors.Driver r) None cur none = let y
          = some_with (λ z. z.def.line ≡ line) (current_line board.calls (board_lines lines) r) cur in
          absurd (not_both (current_line board.calls (board_lines lines) r) y.0 none y.1)
      is_script (actors.Driver r) (Some j) cur at = at
      is_script (actors.Cpu c) o cur its = its
      is_script (actors.Thread d) o cur its = its

-- what a search by number answers
pub number_there : {numbers items : List ℕ} (n : ℕ) {k : ℕ} {o : Option ℕ} → numbers ≡ items
    → IsPlaceOfNumber numbers n o → o ≡ Some k → slice_get items k ≡ Some n
number_there {numbers} n {k} same place some = subst (λ (ns : List ℕ). IsPlaceOfNumber ns n (Some k)) same
    (subst (λ (p : Option ℕ). IsPlaceOfNumber numbers n p) some place)

pub number_nowhere : {numbers items : List ℕ} (n : ℕ) {o : Option ℕ} → numbers ≡ items → IsPlaceOfNumber numbers n o
    → o ≡ None → (k : ℕ) → slice_get items k ≡ Some n → ⊥
number_nowhere {numbers} n same place none = subst (λ (ns : List ℕ). IsPlaceOfNumber ns n None) same
    (subst (λ (p : Option ℕ). IsPlaceOfNumber numbers n p) none place)

-- what is asked for, by the arm that its answer took
pub told_by_arm : {A : Type 0} {answer asked : Option A} {x y : A} → answer ≡ Some y → y ≡ x → answer ≡ asked → Some x ≡ asked
told_by_arm is same ensures = ap (λ (z : _). Some z) (sym same) ∙ (sym is ∙ ensures)

-- ---- a step at a stand

pub can_step : (s : SystemSeen) (a : Actor) (stand : Stand) → IsAt s a stand → CanStepAt s a stand
can_step s a stand at = record { line = ap (λ (o : Option BoardLine). is_some o) at.line.1 ∙ at.line.0; current = by_actor a at.line; script = at.script }
  where
    by_actor : (a : Actor) → IsPlace (board_lines s.lines) (Some stand.line) (line_for s.board (board_lines s.lines) a) → IsCurrentAt s a stand.line
    by_actor (actors.Driver r) place = sym place.1
    by_actor (actors.Cpu c) place = its_flow (flow_line (board_lines s.lines) c) refl
      where
        its_flow : (o : Option BoardLine) → flow_line (board_lines s.lines) c ≡ o → IfSome o (λ y. slice_get (board_lines s.lines) stand.line ≡ Some y)
        its_flow None is = tt
        its_flow (Some y) is = place.1 ∙ ap (λ (o : Option BoardLine). or_line o (due_line (board_lines s.lines) c)) is
    by_actor (actors.Thread d) place = tt

pub steps_by_move : (old new : SystemSeen) (a : Actor) (stand : Stand) (turn : Result Turn StepRefused) → IsAt old a stand
    → StepsBy old (due_on (slice_get (board_lines old.lines) stand.line) a) turn new
    → StepsBy old (move_of old a) turn new
steps_by_move old new a stand turn at s = subst (λ (o : Option BoardLine). StepsBy old (due_on o a) turn new) at.line.1 s
