use Rattle.std.proofs.Common.{◌≡◌, Some, true, false, sym, ap, subst, ◌∙◌, arith}
use Rattle.std.proofs.lemmas.Option.{none-some}
use Rattle.act_thread.specs.Threads.{AreRows, rank_at}
use Rattle.line_state.proofs.Could.{is_due, told_some}
use Rattle.line_state.proofs.Ranks.{found_at, looked_next, none_at_all, none_left}
use Rattle.line_state.specs.Entries.{thread_entry}
use Rattle.line_marks.specs.Due.{thread_due}
use Rattle.line_state.specs.Seen.{LineStateSeen}
use Rattle.line_state.proofs.state.LineState.lowest_that_moves.Goals as goal

pub returns-in_err-dev : goal.returns-in_err-dev
returns-in_err-dev g c = λ def scripted.
    let s = c.args.self.now.state in
    let seen : c.self.inside.threads ≡ s.threads = ap (λ (l : LineStateSeen). l.state.threads) c.self.view_is in
    c.from_residual.ensures
    ∙ none_left (is_due def s) s.threads c.loop-rank.rank (c.loop-rank.invariant def scripted) (subst AreRows seen c.device.ensures.rows)
    (λ d rank. none-some d (sym c.in_err-dev.was ∙ (c.device.ensures.device d).1 (ap (λ t. rank_at t d) seen ∙ rank)))

pub returns-then-is_some : goal.returns-then-is_some
returns-then-is_some g c = λ def scripted.
    let s = c.args.self.now.state in
    let dev = c.in_ok-dev.dev in
    let seen : c.self.inside.threads ≡ s.threads = ap (λ (l : LineStateSeen). l.state.threads) c.self.view_is in
    let rank : rank_at s.threads dev ≡ Some c.loop-rank.rank = sym (ap (λ t. rank_at t dev) seen) ∙ (c.device.ensures.device dev).0 c.in_ok-dev.was in
    let due : is_due def s dev ≡ true = told_some (thread_entry def s dev) c.due_of_thread.result (thread_due def s dev) true
    (c.due_of_thread.ensures.due def scripted) (sym c.is_some.ensures ∙ c.if-is_some.true) in
    found_at (is_due def s) s.threads c.loop-rank.rank (c.loop-rank.invariant def scripted) dev rank due

pub loop-rank-preserved : goal.loop-rank-preserved
loop-rank-preserved g c = λ def scripted.
    let s = c.args.self.now.state in
    let dev = c.in_ok-dev.dev in
    let seen : c.self.inside.threads ≡ s.threads = ap (λ (l : LineStateSeen). l.state.threads) c.self.view_is in
    let rank : rank_at s.threads dev ≡ Some c.loop-rank.rank = sym (ap (λ t. rank_at t dev) seen) ∙ (c.device.ensures.device dev).0 c.in_ok-dev.was in
    let due : is_due def s dev ≡ false = told_some (thread_entry def s dev) c.due_of_thread.result (thread_due def s dev) false
    (c.due_of_thread.ensures.due def scripted) (sym c.is_some.ensures ∙ c.if-is_some.false) in
    looked_next (is_due def s) s.threads c.loop-rank.rank (c.loop-rank.invariant def scripted) (subst AreRows seen c.device.ensures.rows) dev rank due

pub returns : goal.returns
returns g c = λ def scripted.
    let s = c.args.self.now.state in
    none_at_all (is_due def s) s.threads c.loop-rank.rank (c.loop-rank.invariant def scripted) (omega (arith, c.loop-rank-test.false))
