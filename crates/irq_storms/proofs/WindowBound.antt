-- The bound by the window, of every line whose runs start it seldom after a kill.
use Rattle.std.proofs.Common.{◌≡◌, ℕ, ◌+◌, ◌*◌, ◌≤◌, Bool, true, false, not, ◌&&◌, cond, List, [], ◌∷◌, length, refl, sym, ap, ◌∙◌, arith}
use Rattle.std.proofs.Math.Nat.{mul-add, add-mul, mul-le-mul_left, mul-le-mul_right, mul_assoc, mul_comm, mul-one}
use Rattle.irq_base.specs.declared.lines.FlowKind.{FlowKind}
use Rattle.irq_base.specs.declared.lines.FlowKind.TheVariants as flows
use Rattle.irq_base.specs.declared.lines.LineDef.{LineDef}
use Rattle.irq_base.specs.declared.entries.Entry.{Entry}
use Rattle.irq_base.specs.declared.entries.Entry.TheVariants as by
use Rattle.irq_model.specs.Places.{count_of}
use Rattle.irq_model.specs.Kinds.{is_again, arms_with_edge}
use Rattle.irq_model.specs.Lines.{is_edge_line, is_level_line, is_edge_flow, is_level_flow, is_eoi_flow}
use Rattle.irq_model.specs.Rounds.{begins_round}
use Rattle.irq_model.specs.Bounds.{ask_calls, other_calls}
use Rattle.irq_model.specs.RunBounds.{round_weight, run_level_bound}
use Rattle.irq_model.specs.Legal.{IsLegalPast}
use Rattle.irq_model.specs.Valid.{IsValid}
use Rattle.irq_model.specs.ValidRuns.{HasValidRuns}
use Rattle.irq_storms.specs.Judged.{one_if, count_where, starts_killed}
use Rattle.irq_storms.specs.Tests.{is_end, total}
use Rattle.irq_storms.proofs.Counting.{count_imply}
use Rattle.irq_storms.proofs.RunCounts.{rounds_past}
use Rattle.irq_storms.proofs.CallCosts.{driver_weight}
use Rattle.irq_storms.proofs.CallCounts.{asks_of_drivers}
use Rattle.irq_storms.proofs.DeviceEdges.{run_arms, edges_past, arms_of_drivers}
use Rattle.irq_storms.proofs.EdgeTakes.{edge_takes}
use Rattle.irq_storms.proofs.LevelBound.{phases, window_rounds, by_level_rounds}
use Rattle.irq_storms.proofs.LongBound.{by_rounds, is_run_call, run_calls_paid}
use Rattle.irq_storms.proofs.RunEdgeBound.{counted_past, again_ends}
use Rattle.irq_storms.proofs.WakeCosts.{thread_weight}
use Rattle.irq_storms.proofs.WeightSums.{all_handlers, round_pays, is_arm_call, calls_paid}

-- ---- products

-- the rounds at most, by the window
abbrev most_rounds : LineDef → ℕ
most_rounds def = 2 * phases def + 2 * (def.window * phases def)

-- what a round and the threads that it wakes weigh, times the rounds and the phases
abbrev plain_bound : LineDef → ℕ
plain_bound def = round_weight def * most_rounds def + 3 * (round_weight def * phases def)

-- f: the weight of a round, m: the phases, w: the window
spread : (f m w : ℕ) → f * m * (2 * w + 5) ≡ f * (2 * m + 2 * (w * m)) + 3 * (f * m)
spread f m w =
    let a = mul-add (f * m) (2 * w) 5 in
    let b : f * m * (2 * w) ≡ f * (2 * (w * m)) = mul_assoc f m (2 * w) ∙ ap (λ (x : ℕ). f * x) (mul_comm m (2 * w) ∙ mul_assoc 2 w m) in
    let c = mul-add f (2 * m) (2 * (w * m)) in
    let d : f * (2 * m) ≡ 2 * (f * m) = sym (mul_assoc f 2 m) ∙ ap (λ (x : ℕ). x * m) (mul_comm f 2) ∙ mul_assoc 2 f m in
    omega (arith, a, b, c, d)

product : (def : LineDef) → run_level_bound def ≡ plain_bound def * cond (is_edge_line def && is_eoi_flow def.flow) 2 1
product def = ap (λ (n : ℕ). n * cond (is_edge_line def && is_eoi_flow def.flow) 2 1) (spread (round_weight def) (phases def) def.window)

-- ---- the calls of drivers, and the rounds, in the weight of a round

module _ (def : LineDef) (valid : IsValid def) (runs : HasValidRuns def) where
  abbrev f : ℕ
  f = round_weight def

  asks_below : 2 * ask_calls def ≤ f * ask_calls def
  asks_below = mul-le-mul_right (ask_calls def) (two f (all_handlers def) (round_pays def valid))
    where
      two : (f h : ℕ) → 8 + h ≤ f → 2 ≤ f
      two f h le = omega (arith, le)

  -- asks, and other calls a round's weight each
  calls_below : f * ask_calls def + f * other_calls def ≤ f * phases def
  calls_below = let m = mul-le-mul_left f some in let q = mul-add f (ask_calls def) (other_calls def) in omega (arith, m, q)
    where
      some : ask_calls def + other_calls def ≤ phases def
      some = omega arith

  rounds_below : (n : ℕ) (past : List Entry) → n + all_handlers def ≤ f → count_of (begins_round def) past ≤ most_rounds def
      → (n + all_handlers def) * count_of (begins_round def) past ≤ f * most_rounds def
  rounds_below n past le few =
      let x = mul-le-mul_left (n + all_handlers def) few in
      let y = mul-le-mul_right (most_rounds def) le in
      omega (arith, x, y)

  -- three entries a round beside its runs
  by_three : (past : List Entry) → count_of (begins_round def) past ≤ most_rounds def
      → length past ≤ (3 + all_handlers def) * count_of (begins_round def) past + total (λ c. driver_weight (thread_weight def) c.1) def.calls
      → length past ≤ plain_bound def
  by_three past few h =
      let r = rounds_below 3 past (let p = round_pays def valid in omega (arith, p)) few in
      let c = calls_paid def valid runs in
      let a = asks_below in
      let k = calls_below in
      omega (arith, h, r, c, a, k)

  -- ---- a level line, and the edge flow

  on_level : (past : List Entry) → IsLegalPast def past → is_level_line def ≡ true
      → length past ≤ (3 + all_handlers def) * count_of (begins_round def) past + total (λ c. driver_weight (thread_weight def) c.1) def.calls
  on_level past legal level =
      let n = by_level_rounds def past valid runs legal level in
      let a = add-mul 2 (all_handlers def) (count_of (begins_round def) past) in
      let b = add-mul 3 (all_handlers def) (count_of (begins_round def) past) in
      omega (arith, n, a, b)

  on_edge_flow : (past : List Entry) → IsLegalPast def past → is_edge_flow def.flow ≡ true
      → length past ≤ (3 + all_handlers def) * count_of (begins_round def) past + total (λ c. driver_weight (thread_weight def) c.1) def.calls
  on_edge_flow past legal flow =
      let n = by_rounds def past valid runs legal in
      let t = edge_takes def valid flow past legal in
      let b = add-mul 3 (all_handlers def) (count_of (begins_round def) past) in
      omega (arith, n, t, b)

  -- ---- the fast-EOI flow of an edge line: a take for each edge, and the arms of runs are among their
  -- calls

  arms_call : (e : Entry) → one_if (is_run_call e) ≡ 1 → run_arms e ≤ 1
  arms_call (by.CpuCall c call) h = one (arms_with_edge call)
    where
      one : (b : Bool) → one_if b ≤ 1
      one true = omega arith
      one false = omega arith
  arms_call (by.ThreadCall x call) h = one (arms_with_edge call)
    where
      one : (b : Bool) → one_if b ≤ 1
      one true = omega arith
      one false = omega arith
  arms_call e h = omega arith

  arms_below : (past : List Entry) → total run_arms past ≤ count_of is_run_call past
  arms_below [] = omega arith
  arms_below (by.CpuCall c call ∷ past) = let r = arms_below past in let m = arms_call (by.CpuCall c call) refl in omega (arith, r, m)
  arms_below (by.ThreadCall x call ∷ past) = let r = arms_below past in let m = arms_call (by.ThreadCall x call) refl in omega (arith, r, m)
  arms_below (by.Cpu c e ∷ past) = let r = arms_below past in omega (arith, r)
  arms_below (by.Thread x e ∷ past) = let r = arms_below past in omega (arith, r)
  arms_below (by.Driver s e ∷ past) = let r = arms_below past in omega (arith, r)
  arms_below (by.DriverCall s call ∷ past) = let r = arms_below past in omega (arith, r)

  on_eoi_edge : (past : List Entry) → IsLegalPast def past → is_edge_line def ≡ true → count_of (begins_round def) past ≤ most_rounds def
      → length past ≤ 2 * plain_bound def
  on_eoi_edge past legal edge few =
      let n = by_rounds def past valid runs legal in
      let t = (counted_past def past legal edge).takes in
      let ends = rounds_past def past legal in
      let agains = count_imply is_again is_end past again_ends in
      let e = edges_past past in
      let asks = asks_of_drivers def past legal in
      let d = arms_of_drivers def past legal in
      let b = arms_below past in
      let p = run_calls_paid def past valid runs legal in
      let r = rounds_below 1 past (let q = round_pays def valid in omega (arith, q)) few in
      let s = add-mul 1 (all_handlers def) (count_of (begins_round def) past) in
      let c = calls_paid def valid runs in
      let x = add-mul 3 (all_handlers def) (count_of (λ c. is_arm_call c.1) def.calls) in
      let a = asks_below in
      let k = calls_below in
      omega (arith, n, t, ends, agains, e, asks, d, b, p, r, s, c, x, a, k)

  -- ---- every line

  twice_if : (b : Bool) (n : ℕ) → n ≤ plain_bound def → n ≤ plain_bound def * cond b 2 1
  twice_if true n h = let m = mul_comm (plain_bound def) 2 in omega (arith, h, m)
  twice_if false n h = let m = mul-one (plain_bound def) in omega (arith, h, m)

  both : (a b : Bool) → a ≡ true → b ≡ true → (a && b) ≡ true
  both true b h i = i
  both false b h i = cc

  -- runs start a killed line no more often than drivers call
  pub window_within : (past : List Entry) → IsLegalPast def past → count_where starts_killed past ≤ other_calls def → length past ≤ run_level_bound def
  window_within past legal seldom = by_line (is_edge_line def) refl def.flow refl
    where
      few : count_of (begins_round def) past ≤ most_rounds def
      few = window_rounds def past valid legal seldom

      at_once : length past ≤ plain_bound def → length past ≤ run_level_bound def
      at_once h = let n = twice_if (is_edge_line def && is_eoi_flow def.flow) (length past) h in let p = product def in omega (arith, n, p)

      on_eoi : is_edge_line def ≡ true → is_eoi_flow def.flow ≡ true → length past ≤ run_level_bound def
      on_eoi edge eoi =
          let n = on_eoi_edge past legal edge few in
          let p = product def in
          let m : plain_bound def * cond (is_edge_line def && is_eoi_flow def.flow) 2 1 ≡ plain_bound def * 2 =
          ap (λ (b : Bool). plain_bound def * cond b 2 1) (both (is_edge_line def) (is_eoi_flow def.flow) edge eoi) in
          let c = mul_comm (plain_bound def) 2 in
          omega (arith, n, p, m, c)

      not_both : {P : Type 0} (b : Bool) → b ≡ true → not b ≡ true → P
      not_both true h i = cc
      not_both false h i = cc

      by_line : (b : Bool) → is_edge_line def ≡ b → (k : FlowKind) → def.flow ≡ k → length past ≤ run_level_bound def
      by_line false level k is = at_once (by_three past few (on_level past legal (ap not level)))
      by_line true edge flows.Edge is = at_once (by_three past few (on_edge_flow past legal (ap is_edge_flow is)))
      by_line true edge flows.Eoi is = on_eoi edge (ap is_eoi_flow is)
      by_line true edge flows.Level is = not_both (is_edge_line def) edge (valid.level_flow (ap is_level_flow is))
