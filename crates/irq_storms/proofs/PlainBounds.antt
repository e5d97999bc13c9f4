-- Where no run makes a call and no device is told what to answer, the bounds are those of lines whose
-- drivers alone call.
use Rattle.std.proofs.Common.{◌≡◌, ℕ, ◌+◌, ◌*◌, Bool, true, false, ◌&&◌, cond, List, [], ◌∷◌, length, refl, sym, ap, ◌∙◌, arith}
use Rattle.std.proofs.Math.Nat.{mul-one, mul_comm}
use Rattle.std.specs.List.{list_any, sum_by}
use Rattle.std.proofs.lemmas.Bool.{or_parts}
use Rattle.irq_base.specs.declared.numbers.DevNo.{DevNo}
use Rattle.irq_base.specs.declared.calls.Call.{Call}
use Rattle.irq_base.specs.declared.devices.DeviceDef.{DeviceDef}
use Rattle.irq_base.specs.declared.devices.Kind.{Kind}
use Rattle.irq_base.specs.declared.devices.Kind.TheVariants as kinds
use Rattle.irq_base.specs.declared.devices.Part.{Part}
use Rattle.irq_base.specs.declared.devices.Part.TheVariants as parts
use Rattle.irq_base.specs.declared.devices.ToldAnswer.{ToldAnswer}
use Rattle.irq_base.specs.declared.lines.LineDef.{LineDef}
use Rattle.irq_model.specs.Places.{count_of}
use Rattle.irq_model.specs.Kinds.{same_dev}
use Rattle.irq_model.specs.Lines.{same_part, is_edge_line, is_eoi_flow, script_in, run_script}
use Rattle.irq_model.specs.Bounds.{ask_calls, other_calls, edge_bound, level_bound, bound}
use Rattle.irq_model.specs.RunLaws.{is_enabling}
use Rattle.irq_model.specs.RunBounds.{weight_of, script_weight, device_weight, wake_weight, round_weight, arms_this}
use Rattle.irq_model.specs.RunBounds.{asks_of, arms_of, told_wakes, edges_by_arms, device_edges}
use Rattle.irq_model.specs.RunBounds.{run_edge_bound, is_told_handled, told_handled, run_level_bound}
use Rattle.irq_model.specs.RunBounds.{EnablesOnlyItsOwn}
use Rattle.std.proofs.Common.{◌||◌}
use Rattle.irq_storms.specs.Lengths.{history_bound, IsBounded, HasPlainRuns}
use Rattle.irq_storms.specs.Tests.{total}
use Rattle.irq_storms.proofs.Counting.{total_none}
use Rattle.irq_storms.proofs.WakeCosts.{total_sum}

no_script : (def : LineDef) → HasPlainRuns def → (d : DevNo) (part : Part) → run_script def d part ≡ []
no_script def plain d part = ap (λ (runs : List (DevNo × Part × Call)). script_in runs d part) plain.runs

pub plain_is_bounded : (def : LineDef) → HasPlainRuns def → IsBounded def
plain_is_bounded def plain level =
    record {
      handlers = λ d. ap (λ (cs : List Call). list_any is_enabling cs) (no_script def plain d parts.Primary);
      threads = λ d h. let n = sym h ∙ ap (λ (cs : List Call). list_any is_enabling cs) (no_script def plain d parts.Thread) in cc;
      wakes = λ d h. let n = sym h ∙ ap (λ (cs : List Call). list_any is_enabling cs) (no_script def plain d parts.Thread) in cc;
    }

no_weight : (def : LineDef) → HasPlainRuns def → (d : DevNo) (part : Part) → script_weight def part d ≡ 0
no_weight def plain d part = ap (λ (cs : List Call). sum_by weight_of cs) (no_script def plain d part)

no_arms : (def : LineDef) → HasPlainRuns def → (d : DevNo) (part : Part) → arms_of def part d ≡ 0
no_arms def plain d part = ap (λ (cs : List Call). count_of (arms_this d) cs) (no_script def plain d part)

six_each : (def : LineDef) → HasPlainRuns def → (xs : List DeviceDef) → total (device_weight def) xs ≡ 6 * length xs
six_each def plain [] = refl
six_each def plain (x ∷ xs) =
    let r = six_each def plain xs in
    let a = no_weight def plain x.dev parts.Primary in
    let b = no_weight def plain x.dev parts.Thread in
    omega (arith, r, a, b)

plain_round : (def : LineDef) → HasPlainRuns def → round_weight def ≡ 6 * length def.devices + 8
plain_round def plain =
    let s = total_sum (device_weight def) def.devices in
    let d = six_each def plain def.devices in
    let w : sum_by (wake_weight def) def.runs ≡ 0 = ap (λ (runs : List (DevNo × Part × Call)). sum_by (wake_weight def) runs) plain.runs in
    omega (arith, s, d, w)

none_times : (n : ℕ) → n * 0 ≡ 0
none_times n = mul_comm n 0 ∙ omega arith

no_edges : (def : LineDef) → HasPlainRuns def → (d : DevNo) (kind : Kind) → edges_by_arms def d kind ≡ 0
no_edges def plain d kinds.Direct = ap (λ (n : ℕ). asks_of def d * n) (no_arms def plain d parts.Primary) ∙ none_times (asks_of def d)
no_edges def plain d kinds.Check = ap (λ (n : ℕ). 2 * asks_of def d * n) (no_arms def plain d parts.Thread) ∙ none_times (2 * asks_of def d)
no_edges def plain d kinds.Null = ap (λ (n : ℕ). 2 * asks_of def d * n) (no_arms def plain d parts.Thread) ∙ none_times (2 * asks_of def d)
no_edges def plain d kinds.Stuck = refl
no_edges def plain d kinds.Odd = refl
no_edges def plain d (kinds.Told threaded) = ap (λ (n : ℕ). n * told_wakes def d) (no_arms def plain d parts.Thread) ∙ omega arith

plain_edges : (def : LineDef) → HasPlainRuns def → device_edges def ≡ ask_calls def
plain_edges def plain =
    let s = total_sum (λ x. edges_by_arms def x.dev x.kind) def.devices in
    let n = total_none (λ (x : DeviceDef). edges_by_arms def x.dev x.kind) def.devices (λ x. no_edges def plain x.dev x.kind) in
    omega (arith, s, n)

plain_told : (def : LineDef) → HasPlainRuns def → told_handled def ≡ 0
plain_told def plain = ap (λ (ws : List (DevNo × Part × ToldAnswer)). count_of (λ c. is_told_handled c.2) ws) plain.told

plain_edge : (def : LineDef) → HasPlainRuns def → run_edge_bound def ≡ edge_bound def
plain_edge def plain =
    ap (λ (n : ℕ). n * (device_edges def + other_calls def + 1)) (plain_round def plain)
    ∙ ap (λ (n : ℕ). (6 * length def.devices + 8) * (n + other_calls def + 1)) (plain_edges def plain)

plain_level : (def : LineDef) → HasPlainRuns def → is_edge_line def ≡ false → run_level_bound def ≡ level_bound def
plain_level def plain level =
    ap (λ (b : Bool). round_weight def * (ask_calls def + other_calls def + told_handled def + 1) * (2 * def.window + 5)
    * cond (b && is_eoi_flow def.flow) 2 1) level
    ∙ mul-one (round_weight def * (ask_calls def + other_calls def + told_handled def + 1) * (2 * def.window + 5))
    ∙ ap (λ (n : ℕ). n * (ask_calls def + other_calls def + told_handled def + 1) * (2 * def.window + 5)) (plain_round def plain)
    ∙ ap (λ (n : ℕ). (6 * length def.devices + 8) * n * (2 * def.window + 5)) (let t = plain_told def plain in omega (arith, t))

pub plain_bound : (def : LineDef) → HasPlainRuns def → history_bound def ≡ bound def
plain_bound def plain = by_line (is_edge_line def) refl
  where
    by_line : (b : Bool) → is_edge_line def ≡ b → cond b (run_edge_bound def) (run_level_bound def) ≡ cond b (edge_bound def) (level_bound def)
    by_line true edge = plain_edge def plain
    by_line false level = plain_level def plain level

-- ---- where no run enables the line

none_enables : (d : DevNo) (part : Part) (runs : List (DevNo × Part × Call)) → list_any (λ c. is_enabling c.2) runs ≡ false
    → list_any is_enabling (script_in runs d part) ≡ false
none_enables d part [] h = refl
none_enables d part (c ∷ cs) h =
    let p = or_parts (is_enabling c.2) (list_any (λ c. is_enabling c.2) cs) h in
    by_test (same_dev d c.0 && same_part part c.1) p.0 (none_enables d part cs p.1)
  where
    by_test : (b : Bool) → is_enabling c.2 ≡ false → list_any is_enabling (script_in cs d part) ≡ false
        → list_any is_enabling (cond b (c.2 ∷ script_in cs d part) (script_in cs d part)) ≡ false
    by_test true here rest = ap (λ (x : Bool). x || list_any is_enabling (script_in cs d part)) here ∙ rest
    by_test false here rest = rest

not_both : {P : Type 0} (b : Bool) → b ≡ true → b ≡ false → P
not_both b t f = let n = sym t ∙ f in cc

pub never_enabling : (def : LineDef) → list_any (λ c. is_enabling c.2) def.runs ≡ false → EnablesOnlyItsOwn def
never_enabling def none =
    record {
      handlers = λ d. none_enables d parts.Primary def.runs none;
      threads = λ d h. not_both _ h (none_enables d parts.Thread def.runs none);
      wakes = λ d h. not_both _ h (none_enables d parts.Thread def.runs none);
    }
