use Rattle.std.proofs.Common.{◌<◌, ◌≤◌, List, IsPermutation, length, sym, ap, subst, ◌∙◌, arith}
use Rattle.board_def.specs.Seen.{BoardSeen}
use Rattle.line_lock.specs.Knows.{is_among}
use Rattle.line_lock.specs.Passes.{LockSeen}
use Rattle.workers.specs.Fit.{workers_of, Fit}
use Rattle.workers.specs.Forks.{AreBoards, Hires, IsThere}
use Rattle.workers.proofs.Hiring.{nowhere_on, hired_more, all_hired, at_crew, dealt_crew}
use Rattle.workers.proofs.Manning.{is_new, is_there}
use Rattle.workers.proofs.jobs.share.Goals as goal

pub hire-requires-clause-fresh : goal.hire-requires-clause-fresh
hire-requires-clause-fresh g c =
    let dealt = c.in_ok-dealt.dealt.items in
    let lines = c.lines.inside.lines.items in
    let perm : IsPermutation (workers_of c.args.board.now lines) dealt
    = dealt_crew c.args.board.now lines c.in_ok-lines.lines c.deref.result.now dealt c.lines.view_is
    (c.deref.ensures.value ∙ c.in_ok-crew.ensures) c.in_ok-dealt.ensures in
    let less : c.loop-i.i < length dealt = omega (arith, c.loop-i-test.true, c.len-i-end.ensures) in
    let at = at_crew dealt c.loop-i.i c.index.result.now less c.index.ensures in
    λ k. nowhere_on c.index.result.now k c.loop-i.jobs.jobs
    (ap (is_among c.index.result.now) c.loop-i.invariant.actors
    ∙ is_new c.args.board.now lines c.is_board.ensures.board dealt perm c.loop-i.i c.index.result.now at)

pub hire-requires-clause-there : goal.hire-requires-clause-there
hire-requires-clause-there g c =
    let dealt = c.in_ok-dealt.dealt.items in
    let lines = c.lines.inside.lines.items in
    let perm : IsPermutation (workers_of c.args.board.now lines) dealt
    = dealt_crew c.args.board.now lines c.in_ok-lines.lines c.deref.result.now dealt c.lines.view_is
    (c.deref.ensures.value ∙ c.in_ok-crew.ensures) c.in_ok-dealt.ensures in
    let less : c.loop-i.i < length dealt = omega (arith, c.loop-i-test.true, c.len-i-end.ensures) in
    let at = at_crew dealt c.loop-i.i c.index.result.now less c.index.ensures in
    subst (λ (b : BoardSeen). IsThere b c.in_ok-lines.lines c.index.result.now) (sym c.loop-i.invariant.same)
    (subst (λ (ls : List LockSeen). IsThere c.args.board.now ls c.index.result.now) c.lines.view_is
    (is_there c.args.board.now lines c.is_board.ensures.board dealt perm c.loop-i.i c.index.result.now at))

pub loop-i-preserved : goal.loop-i-preserved
loop-i-preserved g c =
    let dealt = c.in_ok-dealt.dealt.items in
    let lines = c.lines.inside.lines.items in
    let less : c.loop-i.i < length dealt = omega (arith, c.loop-i-test.true, c.len-i-end.ensures) in
    let at = at_crew dealt c.loop-i.i c.index.result.now less c.index.ensures in
    hired_more c.args.board.now lines dealt c.loop-i.i c.index.result.now c.loop-i.jobs c.hire.new.self c.loop-i.invariant at c.in_ok-hire.ensures.board
    (subst (λ (ls : List LockSeen). Hires ls c.index.result.now c.loop-i.jobs c.hire.new.self) (sym c.lines.view_is) c.in_ok-hire.ensures.hires)
    c.in_ok-hire.ensures.new

pub returns-clause-fit : goal.returns-clause-fit
returns-clause-fit g c =
    let dealt = c.in_ok-dealt.dealt.items in
    let lines = c.lines.inside.lines.items in
    let perm : IsPermutation (workers_of c.args.board.now lines) dealt
    = dealt_crew c.args.board.now lines c.in_ok-lines.lines c.deref.result.now dealt c.lines.view_is
    (c.deref.ensures.value ∙ c.in_ok-crew.ensures) c.in_ok-dealt.ensures in
    let end : length dealt ≤ c.loop-i.i = omega (arith, c.loop-i-test.false, c.len-i-end.ensures) in
    let boards = c.in_ok-lines.ensures.defs ∙ c.requires.defs in
    subst (λ (ls : List LockSeen). Fit ls c.loop-i.jobs) c.lines.view_is
    (all_hired c.args.board.now lines dealt c.loop-i.i c.loop-i.jobs
    (subst (λ (ls : List LockSeen). AreBoards c.args.board.now ls) (sym c.lines.view_is) boards) perm
    c.loop-i.invariant end)
