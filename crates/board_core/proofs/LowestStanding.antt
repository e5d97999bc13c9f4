-- Where the lowest actor that can move steps, as a system answers it.
use Rattle.std.proofs.Common.{◌≡◌, ℕ, ◌<◌, is_some, Option, Some, None, List}
use Rattle.std.proofs.Common.{length, slice_get, sym, ap, ◌∙◌, subst, arith}
use Rattle.std.proofs.Math.ListN.{length-map}
use Rattle.irq_base.specs.declared.entries.Actor.TheVariants as actors
use Rattle.irq_base.specs.declared.numbers.CpuNo.{CpuNo}
use Rattle.irq_base.specs.declared.numbers.DriverNo.{DriverNo}
use Rattle.irq_laws.proofs.Lists.{both_ways}
use Rattle.board_play.specs.Lines.{Move}
use Rattle.board_play.specs.Order.{due_move}
use Rattle.board_ready.specs.Ready.{cpu_line, can_go_on, current_call, is_driver_ready, lowest_driver, lowest}
use Rattle.board_ready.specs.declared.parts.CurrentCall.{CurrentCall}
use Rattle.board_ready.specs.declared.parts.ReadyActor.TheVariants as readies
use Rattle.board_ready.specs.declared.parts.ReadyThread.{ReadyThread}
use Rattle.board_ready.proofs.Lowest.{first_some, thread_some}
use Rattle.board_core.specs.Inside.{seen_of}
use Rattle.board_core.specs.Scripts.{ScriptSeen}
use Rattle.board_core.specs.Seen.{SystemSeen, board_lines}
use Rattle.board_core.specs.Stands.{IsAt, IsLowestStand}
use Rattle.board_core.specs.declared.stands.Stand.{Stand}
use Rattle.board_core.proofs.LowestMover.{lowest_says, line_there, lowest_is_thread, lowest_is_cpu, lowest_is_driver, nobody, script_of}
use Rattle.board_core.proofs.Movers.{not_both, line_of_due, lowest_due}
use Rattle.board_core.proofs.CpuMovers.{cpu_stands}
use Rattle.board_core.proofs.Kept.{KeptSystem}
use Rattle.board_core.proofs.Standing.{thread_place, driver_at, at_script}

module _ {view : SystemSeen} (system : KeptSystem view) where
  open system use {board, layout, lines, scripts, order, parts, kept, view_is}

  abbrev seen : SystemSeen
  seen = seen_of board layout lines order

  pub lowest_thread_stands : (t : ReadyThread) (stand : Stand) → Some (readies.Thread t) ≡ lowest parts.ready
      → stand ≡ record { line = t.line; script = None }
      → IsLowestStand view (Some (actors.Thread t.dev, stand))
  lowest_thread_stands t stand is_lowest same =
      let low = lowest_says parts.ready (Some (readies.Thread t)) is_lowest in
      let h = lowest_is_thread system t low in
      let x = line_there system t low in
      let its = line_of_due system t.line x.0 t.dev x.1 (lowest_due system t.line x.0 t.dev x.1 (thread_some parts.ready.lines t low)) in
      let stands : IsLowestStand seen (Some (actors.Thread t.dev, record { line = t.line; script = None })) =
      (record { line = thread_place system t.dev t.line x.0 x.1 its; script = tt }, h.2 ∙ sym h.1, ap (λ (o : Option Move). is_some o) h.1) in
      subst (λ (w : SystemSeen). IsLowestStand w (Some (actors.Thread t.dev, stand))) view_is
      (subst (λ (u : Stand). IsLowestStand seen (Some (actors.Thread t.dev, u))) (sym same) stands)

  pub lowest_cpu_stands : (c : CpuNo) (k : ℕ) (stand : Stand) → Some (readies.Cpu c) ≡ lowest parts.ready
      → Some k ≡ cpu_line parts.ready.lines c.0 → stand ≡ record { line = k; script = None }
      → IsLowestStand view (Some (actors.Cpu c, stand))
  lowest_cpu_stands c k stand is_lowest at same =
      let low = lowest_says parts.ready (Some (readies.Cpu c)) is_lowest in
      let h = lowest_is_cpu system c low.0 low.1 in
      let p = cpu_stands system c (Some k) at in
      let stands : IsLowestStand seen (Some (actors.Cpu c, record { line = k; script = None }))
      = (record { line = p.0; script = tt }, h.4 ∙ sym h.3, ap (λ (o : Option Move). is_some o) h.3) in
      subst (λ (w : SystemSeen). IsLowestStand w (Some (actors.Cpu c, stand))) view_is
      (subst (λ (u : Stand). IsLowestStand seen (Some (actors.Cpu c, u))) (sym same) stands)

  pub lowest_cpu_there : (c : CpuNo) → Some (readies.Cpu c) ≡ lowest parts.ready → None ≡ cpu_line parts.ready.lines c.0 → IsLowestStand view None
  lowest_cpu_there c is_lowest none =
      let low = lowest_says parts.ready (Some (readies.Cpu c)) is_lowest in
      let h = lowest_is_cpu system c low.0 low.1 in
      absurd (not_both (cpu_line parts.ready.lines c.0) h.1 (sym none) h.2)

  pub lowest_driver_stands : (j : ℕ) (d : DriverNo) (call : CurrentCall) (stand : Stand)
      → Some (readies.Driver j) ≡ lowest parts.ready → slice_get parts.driver_numbers j ≡ Some d.0
      → Some call ≡ current_call parts.ready.drivers j
      → stand ≡ record { line = call.line; script = Some j } → IsLowestStand view (Some (actors.Driver d, stand))
  lowest_driver_stands j d call stand is_lowest at called same =
      let low = lowest_says parts.ready (Some (readies.Driver j)) is_lowest in
      let h = lowest_is_driver system j d low.0 low.1 low.2 (driver_at system j d at) in
      let s = script_of system j d (driver_at system j d at) in
      let stands : IsLowestStand seen (Some (actors.Driver d, record { line = call.line; script = Some j })) = (
        subst (λ (x : DriverNo). IsAt seen (actors.Driver x) (record { line = call.line; script = Some j })) s.2
            (at_script system j s.0 call h.0 s.1 (sym called) (ap
            (λ (x : DriverNo). due_move board (board_lines lines) (actors.Driver x)) s.2 ∙ h.1)).0,
        h.2
            ∙ sym h.1,
        ap (λ (o : Option Move). is_some o) h.1,
      ) in
      subst (λ (w : SystemSeen). IsLowestStand w (Some (actors.Driver d, stand))) view_is
      (subst (λ (u : Stand). IsLowestStand seen (Some (actors.Driver d, u))) (sym same) stands)

  pub lowest_driver_there : (j : ℕ) → Some (readies.Driver j) ≡ lowest parts.ready → None ≡ current_call parts.ready.drivers j → IsLowestStand view None
  lowest_driver_there j is_lowest none =
      let low = lowest_says parts.ready (Some (readies.Driver j)) is_lowest in
      let f = first_some (is_driver_ready parts.ready) (length parts.ready.drivers) j low.2 in
      absurd (both_ways (is_driver_ready parts.ready j) f.1 (ap (λ (o : Option CurrentCall). can_go_on parts.ready.lines o) (sym none)))

  pub nobody_stands : None ≡ lowest parts.ready → IsLowestStand view None
  nobody_stands is_lowest =
      let low = lowest_says parts.ready None is_lowest in
      subst (λ (w : SystemSeen). IsLowestStand w None) view_is
      (nobody system low.0 low.1 low.2)

  -- the bounds of the places
  pub driver_number_within : (j : ℕ) → lowest_driver parts.ready ≡ Some j → j < length parts.driver_numbers
  driver_number_within j low =
      let f = (first_some (is_driver_ready parts.ready) (length parts.ready.drivers) j low).0 in
      let a = kept.ready.all_drivers in
      let b = ap (λ (ns : List ℕ). length ns) kept.driver_numbers in
      let c = length-map board.drivers (λ (x : DriverNo). x.0) in
      let d = ap (λ (rs : List DriverNo). length rs) kept.system.drivers in
      let e = length-map scripts (λ (s : ScriptSeen). s.driver) in
      omega (arith, f, a, b, c, d, e)

  pub driver_number_there : (j : ℕ) → Some (readies.Driver j) ≡ lowest parts.ready → j < length parts.driver_numbers
  driver_number_there j is_lowest = driver_number_within j (lowest_says parts.ready (Some (readies.Driver j)) is_lowest).2
