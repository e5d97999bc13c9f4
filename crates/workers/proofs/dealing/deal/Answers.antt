use Rattle.std.proofs.Common.{length, ◌<◌, ◌≤◌, arith}
use Rattle.std.proofs.lemmas.List.{get_or_default}
use Rattle.workers.proofs.Dealt.{hand_on, card_on, all_dealt}
use Rattle.workers.proofs.dealing.deal.Goals as goal

pub loop-i-preserved : goal.loop-i-preserved
loop-i-preserved g c =
    let less : c.loop-i.i < length c.args.crew.now = omega (arith, c.loop-i-test.true) in
    hand_on c.args.crew.now c.loop-i.hands.items c.push.new.self.items c.loop-i.i c.home_of.result _
    less (get_or_default c.args.crew.now c.loop-i.i _ _ less) c.loop-i.invariant c.in_ok-push.ensures.items

pub loop-i-2-preserved : goal.loop-i-2-preserved
loop-i-2-preserved g c =
    let less : c.loop-i-2.i < length c.sort_unstable_by_key.new.self.items = omega (arith, c.loop-i-2-test.true, c.len-i-end.ensures) in
    card_on c.sort_unstable_by_key.new.self.items c.loop-i-2.dealt.items c.push-in-loop-i-2.new.self.items c.loop-i-2.i
    c.index.result.now less c.index.ensures c.loop-i-2.invariant c.in_ok-push-2.ensures.items

pub returns : goal.returns
returns g c =
    let end : length c.sort_unstable_by_key.new.self.items ≤ c.loop-i-2.i = omega (arith, c.loop-i-2-test.false, c.len-i-end.ensures) in
    all_dealt c.args.crew.now c.loop-i.hands.items c.sort_unstable_by_key.new.self.items c.loop-i-2.dealt.items c.loop-i.i
    c.loop-i-2.i (omega (arith, c.loop-i-test.false)) c.loop-i.invariant c.sort_unstable_by_key.ensures.permutation end
    c.loop-i-2.invariant
