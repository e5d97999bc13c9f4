use Rattle.std.proofs.Common.{◌≡◌, Some, sym, ap, subst, ◌∙◌, arith}
use Rattle.std.proofs.lemmas.Option.{none-some}
use Rattle.act_thread.specs.Threads.{AreRows, rank_at}
use Rattle.line_state.proofs.Ranks.{found_at, looked_next, none_at_all, none_left}
use Rattle.line_core.specs.Hanging.{is_thread_hung}
use Rattle.line_core.proofs.hanging.lowest_hung_thread.Goals as goal

pub returns-in_err-dev : goal.returns-in_err-dev
returns-in_err-dev g c = λ def scripted.
    let s = c.args.state.now.state in
    let seen : c.threads.result.now ≡ s.threads = c.threads.ensures in
    c.from_residual.ensures
    ∙ none_left (is_thread_hung def s c.args.scripts.now) s.threads c.loop-rank.rank (c.loop-rank.invariant def scripted)
    (subst AreRows seen c.device.ensures.rows)
    (λ d rank. none-some d (sym c.in_err-dev.was ∙ (c.device.ensures.device d).1 (ap (λ t. rank_at t d) seen ∙ rank)))

pub returns-then-is_thread_hung : goal.returns-then-is_thread_hung
returns-then-is_thread_hung g c = λ def scripted.
    let s = c.args.state.now.state in
    let dev = c.in_ok-dev.dev in
    let seen : c.threads.result.now ≡ s.threads = c.threads.ensures in
    let rank : rank_at s.threads dev ≡ Some c.loop-rank.rank = sym (ap (λ t. rank_at t dev) seen) ∙ (c.device.ensures.device dev).0 c.in_ok-dev.was in
    found_at (is_thread_hung def s c.args.scripts.now) s.threads c.loop-rank.rank (c.loop-rank.invariant def scripted) dev rank
    (sym (c.is_thread_hung.ensures def scripted) ∙ c.if-is_thread_hung.true)

pub loop-rank-preserved : goal.loop-rank-preserved
loop-rank-preserved g c = λ def scripted.
    let s = c.args.state.now.state in
    let dev = c.in_ok-dev.dev in
    let seen : c.threads.result.now ≡ s.threads = c.threads.ensures in
    let rank : rank_at s.threads dev ≡ Some c.loop-rank.rank = sym (ap (λ t. rank_at t dev) seen) ∙ (c.device.ensures.device dev).0 c.in_ok-dev.was in
    looked_next (is_thread_hung def s c.args.scripts.now) s.threads c.loop-rank.rank (c.loop-rank.invariant def scripted)
    (subst AreRows seen c.device.ensures.rows) dev rank (sym (c.is_thread_hung.ensures def scripted) ∙ c.if-is_thread_hung.false)

pub returns : goal.returns
returns g c = λ def scripted.
    none_at_all (is_thread_hung def c.args.state.now.state c.args.scripts.now) c.args.state.now.state.threads c.loop-rank.rank
    (c.loop-rank.invariant def scripted) (omega (arith, c.loop-rank-test.false))
