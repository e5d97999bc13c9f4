-- The bound of an edge line.
use Rattle.std.proofs.Common.{◌≡◌, ℕ, ◌+◌, ◌*◌, ◌≤◌, true, List, reverse, length, refl, sym, subst, arith}
use Rattle.std.proofs.lemmas.List.{reverse-reverse}
use Rattle.std.proofs.Math.Nat.{mul-add, add-mul, mul-le-mul_left, mul-le-mul_right}
use Rattle.irq_base.specs.declared.lines.LineDef.{LineDef}
use Rattle.irq_base.specs.declared.entries.Entry.{Entry}
use Rattle.irq_base.specs.declared.entries.Entry.TheVariants as by
use Rattle.irq_base.specs.declared.entries.CpuEntry.TheVariants as cpus
use Rattle.irq_model.specs.Places.{count_of}
use Rattle.irq_model.specs.Kinds.{is_again, is_device_edge}
use Rattle.irq_model.specs.Lines.{is_edge_line}
use Rattle.irq_model.specs.Bounds.{other_calls}
use Rattle.irq_model.specs.RunBounds.{round_weight, device_edges, run_edge_bound}
use Rattle.irq_model.specs.Legal.{IsLegalPast}
use Rattle.irq_model.specs.Valid.{IsValid}
use Rattle.irq_model.specs.ValidRuns.{HasValidRuns}
use Rattle.irq_storms.specs.Storms.{IsEdgeCounted}
use Rattle.irq_storms.specs.Tests.{is_end, total}
use Rattle.irq_storms.proofs.Counting.{count_imply}
use Rattle.irq_storms.proofs.RunCounts.{rounds_past}
use Rattle.irq_storms.proofs.EdgeCounts.{edge_is_counted}
use Rattle.irq_storms.proofs.CallCosts.{driver_weight}
use Rattle.irq_storms.proofs.DeviceEdges.{edges_counted}
use Rattle.irq_storms.proofs.LongBound.{by_rounds}
use Rattle.irq_storms.proofs.WakeCosts.{thread_weight}
use Rattle.irq_storms.proofs.WeightSums.{all_handlers, round_pays, is_arm_call, calls_paid}

pub counted_past : (def : LineDef) (past : List Entry) → IsLegalPast def past → is_edge_line def ≡ true → IsEdgeCounted def past
counted_past def past legal edge =
    let turned : reverse (reverse past) ≡ past = reverse-reverse past in
    subst (λ (l : List Entry). IsEdgeCounted def l) turned
    (edge_is_counted def (reverse past) (subst (λ (l : List Entry). IsLegalPast def l) (sym turned) legal) edge)

pub again_ends : (e : Entry) → is_again e ≡ true → is_end e ≡ true
again_ends (by.Cpu c (cpus.End again unmask note)) h = refl
again_ends e h = cc

-- in the edges that devices make
by_edges : (def : LineDef) (past : List Entry) → IsValid def → HasValidRuns def → IsLegalPast def past → is_edge_line def ≡ true
    → length past ≤ (3 + all_handlers def) * count_of is_device_edge past + total (λ c. driver_weight (thread_weight def) c.1) def.calls
by_edges def past valid runs legal edge =
    let all = by_rounds def past valid runs legal in
    let k = counted_past def past legal edge in
    let rounds = k.rounds in
    let takes = k.takes in
    let ends = rounds_past def past legal in
    let agains = count_imply is_again is_end past again_ends in
    let m = mul-le-mul_left (all_handlers def) rounds in
    let parts = add-mul 3 (all_handlers def) (count_of is_device_edge past) in
    omega (arith, all, rounds, takes, ends, agains, m, parts)

pub edge_within : (def : LineDef) (past : List Entry) → IsValid def → HasValidRuns def → IsLegalPast def past → is_edge_line def ≡ true
    → length past ≤ run_edge_bound def
edge_within def past valid runs legal edge =
    let n = by_edges def past valid runs legal edge in
    let e = mul-le-mul_left (3 + all_handlers def) (edges_counted def past valid runs legal) in
    let d = mul-add (3 + all_handlers def) (device_edges def) (count_of (λ c. is_arm_call c.1) def.calls) in
    let c = calls_paid def valid runs in
    let f = mul-le-mul_right (device_edges def) (four (round_weight def) (all_handlers def) (round_pays def valid)) in
    let g = add-mul 1 (3 + all_handlers def) (device_edges def) in
    let x = mul-add (round_weight def) (device_edges def + other_calls def) 1 in
    let y = mul-add (round_weight def) (device_edges def) (other_calls def) in
    omega (arith, n, e, d, c, f, g, x, y)
  where
    four : (f h : ℕ) → 8 + h ≤ f → 1 + (3 + h) ≤ f
    four f h le = omega (arith, le)
