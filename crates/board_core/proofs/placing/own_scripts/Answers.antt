use Rattle.std.proofs.Common.{rules, ◌≡◌, Some, [], slice_get, take, reverse, sym, ap, ◌∙◌, subst}
use Rattle.board_core.specs.Placing.{AreOwn}
use Rattle.board_core.proofs.MadeOf.{all_taken}
use Rattle.board_core.proofs.Placed.{past_more, due_at}
use Rattle.board_core.proofs.placing.own_scripts.Goals as goal

pub loop-i-init : goal.loop-i-init
loop-i-init g c = subst (λ d. AreOwn c.args.board.now.drivers (record { def = d; past = [] }) c.in_ok-own.own.items)
    c.definition-def.ensures c.in_ok-own.ensures

pub loop-i-preserved : goal.loop-i-preserved
loop-i-preserved g c =
    let line = g.L.IrqLine.seen c.args.line.now in
    let i = c.loop-i.i in
    let at : slice_get line.entries i ≡ Some c.in-Some.entry = ap (λ es. slice_get es i) (sym c.history-history.ensures.entries) ∙ sym c.in-Some.ensures in
    subst (λ past. AreOwn c.args.board.now.drivers (record { def = line.def; past = past }) c.tell.new.own.items)
    (sym (past_more line.entries i c.in-Some.entry at))
    (c.tell.ensures (record { def = line.def; past = reverse (take i line.entries) })
    (due_at line.def line.entries i c.in-Some.entry at c.is_sound.ensures.legal) c.loop-i.invariant)

pub returns : goal.returns
returns g c =
    let line = g.L.IrqLine.seen c.args.line.now in
    subst (λ es. AreOwn c.args.board.now.drivers (record { def = line.def; past = reverse es }) c.loop-i.own.items)
    (all_taken line.entries c.loop-i.i (search rules)) c.loop-i.invariant
