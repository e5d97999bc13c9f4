use Rattle.std.proofs.Common.{◌≡◌, ◌≤◌, ◌+◌, ◌-◌, ◌%◌, ap, ◌∙◌, arith}
use Rattle.std.proofs.lemmas.List.FromFn.{map-range_with_len_more}
use Rattle.irq_base.specs.declared.calls.Call.TheVariants as calls
use Rattle.board_gen.specs.Generated.{asks_from, script_call}
use Rattle.board_gen.proofs.Owning.{calls_next}
use Rattle.board_gen.proofs.scripts.add_asks.Goals as goal

pub loop-i-preserved : goal.loop-i-preserved
loop-i-preserved c =
    let s = c.args.script.now in
    let from = c.args.from in
    let i = c.loop-i.i in
    let k = c.loop-i.invariant in
    let done = c.in_ok-add_call.ensures in
    let passed : c.args.from ≤ c.loop-i.i = c.loop-i.auto.i in
    let next : c.loop-i.i + 1 - c.args.from ≡ (c.loop-i.i - c.args.from) + 1 = omega arith in
    record {
      calls = calls_next c.args.board.now c.loop-i.board c.add_call.new.board (asks_from s from (i - from)) (asks_from s from (i + 1 - from))
          (script_call s (calls.Ask (record { 0 = s.first + i % s.devices }))) k.calls done.calls
          (ap (asks_from s from) next ∙ map-range_with_len_more
          (λ p. script_call s (calls.Ask (record { 0 = s.first + p % s.devices }))) from (i - from) i
          (omega (arith, passed)));
      count = omega (arith, done.count, k.count, next);
      scripted = done.scripted;
    }
