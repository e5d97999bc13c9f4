use Rattle.std.proofs.Common.{◌+◌, arith}
use Rattle.std.proofs.lemmas.List.FromFn.{map-range_with_len_more}
use Rattle.irq_base.specs.declared.calls.Call.TheVariants as calls
use Rattle.board_gen.specs.Generated.{requests, script_call, shared_oneshot}
use Rattle.board_gen.proofs.Owning.{calls_next, named_next, request_owner}
use Rattle.board_gen.proofs.scripts.add_requests.Goals as goal

pub add_call-requires-clause-owner : goal.add_call-requires-clause-owner
add_call-requires-clause-owner c =
    let s = c.args.script.now in
    request_owner c.loop-i.board.calls (record { 0 = s.number }) shared_oneshot (record { 0 = s.first + c.loop-i.i })
    (c.loop-i.invariant.unnamed (record { 0 = s.first + c.loop-i.i }) (omega arith))

pub loop-i-preserved : goal.loop-i-preserved
loop-i-preserved c =
    let s = c.args.script.now in
    let i = c.loop-i.i in
    let k = c.loop-i.invariant in
    let done = c.in_ok-add_call.ensures in
    record {
      calls = calls_next c.args.board.now c.loop-i.board c.add_call.new.board (requests (record s { devices = i })) (requests (record s { devices = i + 1 }))
          (script_call s (calls.Request (record { 0 = s.first + i }) shared_oneshot)) k.calls done.calls
          (map-range_with_len_more (λ dev. script_call s (calls.Request (record { 0 = dev }) shared_oneshot)) s.first i (s.first + i) (omega arith));
      count = omega (arith, done.count, k.count);
      scripted = done.scripted;
      unnamed = λ d from. named_next c.loop-i.board c.add_call.new.board s shared_oneshot (s.first + i) k.unnamed done.calls d (omega (arith, from));
    }
