use Rattle.std.proofs.Common.{sym, ap, ◌∙◌}
use Rattle.device_table.specs.Rows.{lowest_where}
use Rattle.act_thread.specs.Steps.{could_step}
use Rattle.act_thread.proofs.Finding.{none_active, none_found, one_found, rows_seen}
use Rattle.act_thread.proofs.threads.Threads.lowest.Goals as goal

pub returns-then-self-eq0-clause-lowest : goal.returns-then-self-eq0-clause-lowest
returns-then-self-eq0-clause-lowest c =
    let i = c.self.inside in
    sym (none_active i.rows i.active i.held i.ranks i.ready i.returned c.args.goes_on c.self.invariant
    c.if-self-eq0.true) ∙ ap (lowest_where (could_step c.args.goes_on)) c.self.view_is

pub returns-in_err-rank-clause-lowest : goal.returns-in_err-rank-clause-lowest
returns-in_err-rank-clause-lowest c =
    let i = c.self.inside in
    c.from_residual.ensures ∙ (sym (none_found i.rows i.active i.held i.ranks i.ready i.returned c.args.goes_on
    c.self.invariant c.in_err-rank.ensures) ∙ ap (lowest_where (could_step c.args.goes_on)) c.self.view_is)

pub returns-clause-lowest : goal.returns-clause-lowest
returns-clause-lowest c =
    let i = c.self.inside in
    one_found i.rows i.active i.held i.ranks i.ready i.returned c.args.goes_on c.self.invariant c.in_ok-rank.rank
    c.device.result c.in_ok-rank.ensures (λ d rank. (c.device.ensures d).1 rank)
    ∙ ap (lowest_where (could_step c.args.goes_on)) c.self.view_is

pub returns-then-self-eq0-clause-rows : goal.returns-then-self-eq0-clause-rows
returns-then-self-eq0-clause-rows c =
    let i = c.self.inside in
    rows_seen i.rows i.active i.held i.ranks i.ready i.returned c.args.goes_on c.self.invariant _ c.self.view_is

pub returns-in_err-rank-clause-rows : goal.returns-in_err-rank-clause-rows
returns-in_err-rank-clause-rows c =
    let i = c.self.inside in
    rows_seen i.rows i.active i.held i.ranks i.ready i.returned c.args.goes_on c.self.invariant _ c.self.view_is

pub returns-clause-rows : goal.returns-clause-rows
returns-clause-rows c =
    let i = c.self.inside in
    rows_seen i.rows i.active i.held i.ranks i.ready i.returned c.args.goes_on c.self.invariant _ c.self.view_is
