use Rattle.std.proofs.Common.{ℕ, ◌+◌, Bor, Some, None, List, length, ap, subst, ◌∙◌}
use Rattle.std.specs.Option.{option_map}
use Rattle.log_check.specs.JudgeSeen.{JudgeSeen}
use Rattle.log_check.specs.Judging.{Takes}
use Rattle.log_check.proofs.OneLine.{added, counted, seen_as, stays, stopped}
use Rattle.log_check.proofs.line_judge.LineJudge.take.Goals as goal

pub returns-in-Some-2 : goal.returns-in-Some-2
returns-in-Some-2 g c =
    let seen = g.L.IrqLine.seen in
    let first = c.self.inside.first in
    let new = seen c.adds.new.line in
    subst (λ (old : JudgeSeen). Takes c.args.board.now c.args.text.now c.args.number (Some c.in-Some-2.after.now) old
    (record { line = Some new; first = first }))
    (seen_as seen c.self.inside.line (Some c.in-Some.line) first c.args.self.now c.self.view_is c.in-Some.is)
    (added c.args.board.now c.args.text.now c.args.number c.args.actor c.requires.head (seen c.in-Some.line) new first c.in-Some-2.after.now
    (rw c.in-Some-2.is at c.in_ok-after-in-Some.ensures))

pub returns-in-None-2 : goal.returns-in-None-2
returns-in-None-2 g c =
    let seen = g.L.IrqLine.seen in
    let first = c.self.inside.first in
    let after = option_map (λ (t : Bor (List ℕ)). t.now) c.stop.result in
    subst (λ (old : JudgeSeen). Takes c.args.board.now c.args.text.now c.args.number after old c.stop.new.self)
    (seen_as seen c.self.inside.line (Some c.in-Some.line) first c.args.self.now c.self.view_is c.in-Some.is)
    (stopped c.args.board.now c.args.text.now c.args.number c.args.actor c.requires.head (seen c.in-Some.line)
    (seen c.adds.new.line) first (c.len.result + 1) after
    c.stop.new.self (rw c.in-None-2.is at c.in_ok-after-in-Some.ensures)
    (ap (λ n. n + 1) (c.len.ensures ∙ ap length c.history.ensures.entries)) c.stop.ensures)

pub returns-in-None : goal.returns-in-None
returns-in-None g c =
    let seen = g.L.IrqLine.seen in
    let first = c.self.inside.first in
    let after = option_map (λ (t : Bor (List ℕ)). t.now) c.stop-in-None.result in
    subst (λ (old : JudgeSeen). Takes c.args.board.now c.args.text.now c.args.number after old c.stop-in-None.new.self)
    (seen_as seen c.self.inside.line None first c.args.self.now c.self.view_is c.in-None.is)
    (stays c.args.board.now c.args.text.now c.args.number c.args.actor c.requires.head first c.unwrap_or-entry.result after c.stop-in-None.new.self
    (counted first c.unwrap_or-entry.result c.unwrap_or-entry.ensures) c.stop-in-None.ensures)
