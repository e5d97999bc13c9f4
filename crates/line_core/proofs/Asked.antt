-- The queries of a line are answered by its state.
use Rattle.std.proofs.Common.{◌≡◌, Option, Some, None, is_none, List, reverse, refl, sym, ap, subst, ◌∙◌}
use Rattle.irq_base.specs.declared.numbers.CpuNo.{CpuNo}
use Rattle.irq_base.specs.declared.numbers.DevNo.{DevNo}
use Rattle.irq_base.specs.declared.numbers.DriverNo.{DriverNo}
use Rattle.irq_line.specs.Queries.{IsTaker, IsLowestHung, IsLowestThread, blocks_of, flow_of, spins, spins_at}
use Rattle.irq_line.specs.Seen.{LineSeen, IsSound}
use Rattle.line_scripts.specs.Rows.{RowSeen}
use Rattle.run_scripts.specs.Runs.{RunsSeen}
use Rattle.line_marks.proofs.CpuDueIs.{cpu_due_is}
use Rattle.line_marks.specs.Line.{IsLine}
use Rattle.line_marks.specs.State.{StateSeen, state_of}
use Rattle.line_state.specs.Seen.{taker_of, lowest_due, spins_in}
use Rattle.line_core.proofs.Blocked.{blocks_are}
use Rattle.line_core.proofs.LowestHung.{lowest_hung}
use Rattle.line_core.proofs.Queries.{IsLowest, is_taker, is_lowest}
use Rattle.line_core.specs.Blocking.{blocks_by}
use Rattle.line_core.specs.Hanging.{lowest_hung_by}

module _ (line : LineSeen) (s : StateSeen) (scripts : List (DriverNo × RowSeen)) (runs : RunsSeen)
    (is : IsLine line.def line.entries s scripts runs) where
  pub flow_told : s.desc.flow ≡ flow_of line
  flow_told = ap (λ (x : StateSeen). x.desc.flow) is.state

  pub taker_told : IsTaker line (taker_of s)
  taker_told = subst (λ (x : StateSeen). IsTaker line (taker_of x)) (sym is.state)
      (is_taker line.def (reverse line.entries) is.valid is.valid_runs is.legal)

  lowest_at : (o : Option DevNo) → lowest_due line.def (state_of line.def (reverse line.entries)) ≡ o → IsLowestThread line o
  lowest_at o found = seen o (subst (λ (x : Option DevNo). IsLowest line.def (reverse line.entries) is.valid is.valid_runs is.legal x)
      found (is_lowest line.def (reverse line.entries) is.valid is.valid_runs is.legal))
    where
      seen : (x : Option DevNo) → IsLowest line.def (reverse line.entries) is.valid is.valid_runs is.legal x → IsLowestThread line x
      seen None h = h
      seen (Some l) h = h

  pub lowest_told : IsLowestThread line (lowest_due line.def s)
  lowest_told = subst (λ (x : StateSeen). IsLowestThread line (lowest_due line.def x)) (sym is.state)
      (lowest_at (lowest_due line.def (state_of line.def (reverse line.entries))) refl)

  pub spins_told : spins_in line.def s s.desc.flow ≡ spins line
  spins_told = ap (λ (x : StateSeen). spins_in line.def x x.desc.flow) is.state ∙ by_flow (flow_of line)
    where
      by_flow : (o : Option CpuNo) → spins_in line.def (state_of line.def (reverse line.entries)) o ≡ spins_at line.def (reverse line.entries) o
      by_flow None = refl
      by_flow (Some c) = ap is_none (sym (cpu_due_is line.def (reverse line.entries) c is.valid is.legal))

  pub hung_told : IsLowestHung line (lowest_hung_by line.def s scripts)
  hung_told = subst (λ (x : StateSeen). IsLowestHung line (lowest_hung_by line.def x scripts)) (sym is.state)
      (lowest_hung line.def (reverse line.entries) is.valid is.valid_runs is.legal scripts is.calls is.at)

  pub blocks_told : blocks_by s ≡ blocks_of line
  blocks_told = ap blocks_by is.state ∙ sym (blocks_are line.def (reverse line.entries) is.valid is.legal)

  pub sound : IsSound line
  sound = record { valid = is.valid; runs = is.valid_runs; legal = is.legal; log = is.room }
