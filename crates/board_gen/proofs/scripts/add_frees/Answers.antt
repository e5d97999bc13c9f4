use Rattle.std.proofs.Common.{◌+◌, arith}
use Rattle.std.proofs.lemmas.List.FromFn.{map-range_with_len_more}
use Rattle.irq_base.specs.declared.calls.Call.TheVariants as calls
use Rattle.board_gen.specs.Generated.{frees, script_call}
use Rattle.board_gen.proofs.Owning.{calls_next}
use Rattle.board_gen.proofs.scripts.add_frees.Goals as goal

pub loop-i-preserved : goal.loop-i-preserved
loop-i-preserved c =
    let s = c.args.script.now in
    let i = c.loop-i.i in
    let k = c.loop-i.invariant in
    let done = c.in_ok-add_call.ensures in
    record {
      calls = calls_next c.args.board.now c.loop-i.board c.add_call.new.board (frees (record s { devices = i })) (frees (record s { devices = i + 1 }))
          (script_call s (calls.Free (record { 0 = s.first + i }))) k.calls done.calls
          (map-range_with_len_more (λ dev. script_call s (calls.Free (record { 0 = dev }))) s.first i (s.first + i) (omega arith));
      count = omega (arith, done.count, k.count);
      scripted = done.scripted;
    }
