use Rattle.std.proofs.Common.{◌<◌, ◌≡◌, Some, true, false, sym, ap, ◌∙◌, arith}
use Rattle.line_core.proofs.Ways.{walk_comes_back, walk_ends, walk_goes_on, walk_stops, walk_syncs}
use Rattle.line_core.specs.Hanging.{is_sync, wait_of_actor, way_from}
use Rattle.line_core.proofs.hanging.is_thread_hung.Goals as goal

pub returns-then-is_sync : goal.returns-then-is_sync
returns-then-is_sync g c = λ def scripted.
    let s = c.args.state.now.state in
    let less : c.loop.counter < 3 = omega (arith, c.loop-test.true) in
    let syncs : is_sync (wait_of_actor def s c.args.scripts.now c.loop.at) ≡ true =
    ap is_sync (sym (c.wait_of_actor-wait.ensures def scripted)) ∙ (sym c.is_sync.ensures ∙ c.if-is_sync.true) in
    sym (c.loop.invariant def scripted ∙ walk_syncs def s c.args.scripts.now c.args.dev c.loop.counter c.loop.at less syncs)

pub returns-then-is_thread_of : goal.returns-then-is_thread_of
returns-then-is_thread_of g c = λ def scripted.
    let s = c.args.state.now.state in
    let less : c.loop.counter < 3 = omega (arith, c.loop-test.true) in
    let wait = sym (c.wait_of_actor-wait.ensures def scripted) in
    let quiet : is_sync (wait_of_actor def s c.args.scripts.now c.loop.at) ≡ false =
    ap is_sync wait ∙ (sym c.is_sync.ensures ∙ c.if-is_sync.false) in
    let way : way_from s (wait_of_actor def s c.args.scripts.now c.loop.at) ≡ Some c.in-Some.next =
    ap (way_from s) wait ∙ (sym c.way_from.ensures ∙ c.in-Some.is) in
    sym (c.loop.invariant def scripted ∙ walk_comes_back def s c.args.scripts.now c.args.dev c.loop.counter c.loop.at c.in-Some.next less quiet way
    (sym c.is_thread_of.ensures ∙ c.if-is_thread_of.true))

pub returns-in-None : goal.returns-in-None
returns-in-None g c = λ def scripted.
    let s = c.args.state.now.state in
    let less : c.loop.counter < 3 = omega (arith, c.loop-test.true) in
    let wait = sym (c.wait_of_actor-wait.ensures def scripted) in
    let quiet : is_sync (wait_of_actor def s c.args.scripts.now c.loop.at) ≡ false =
    ap is_sync wait ∙ (sym c.is_sync.ensures ∙ c.if-is_sync.false) in
    sym (c.loop.invariant def scripted ∙ walk_stops def s c.args.scripts.now c.args.dev c.loop.counter c.loop.at less quiet
    (ap (way_from s) wait ∙ (sym c.way_from.ensures ∙ c.in-None.is)))

pub loop-preserved : goal.loop-preserved
loop-preserved g c = λ def scripted.
    let s = c.args.state.now.state in
    let less : c.loop.counter < 3 = omega (arith, c.loop-test.true) in
    let wait = sym (c.wait_of_actor-wait.ensures def scripted) in
    let quiet : is_sync (wait_of_actor def s c.args.scripts.now c.loop.at) ≡ false =
    ap is_sync wait ∙ (sym c.is_sync.ensures ∙ c.if-is_sync.false) in
    let way : way_from s (wait_of_actor def s c.args.scripts.now c.loop.at) ≡ Some c.in-Some.next =
    ap (way_from s) wait ∙ (sym c.way_from.ensures ∙ c.in-Some.is) in
    c.loop.invariant def scripted ∙ walk_goes_on def s c.args.scripts.now c.args.dev c.loop.counter c.loop.at c.in-Some.next less quiet way
    (sym c.is_thread_of.ensures ∙ c.if-is_thread_of.false)

pub returns : goal.returns
returns g c = λ def scripted.
    sym (c.loop.invariant def scripted ∙ walk_ends def c.args.state.now.state c.args.scripts.now c.args.dev c.loop.counter c.loop.at
    (omega (arith, c.loop-test.false)))
