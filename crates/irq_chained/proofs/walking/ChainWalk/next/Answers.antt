use Rattle.std.proofs.Common.{◌-◌, ◌∙◌, Some, List, drop, sym, ap}
use Rattle.board_play.specs.Lines.{Move}
use Rattle.irq_chained.specs.Walk.{merged}
use Rattle.irq_chained.proofs.Merging.{mark_first, mark_rest, move_first, move_rest, none_first, none_rest}
use Rattle.irq_chained.specs.declared.chain.ChainEntry.{ChainEntry}
use Rattle.irq_chained.proofs.walking.ChainWalk.next.Goals as goal

pub returns-in-Some-clause-first : goal.returns-in-Some-clause-first
returns-in-Some-clause-first g c =
    ap (λ (e : ChainEntry). Some e) c.step_of_mark.ensures
    ∙ mark_first c.self.invariant c.self.view_is
    c.in-Some.what (sym c.in-Some.ensures)

pub returns-in-Some-clause-rest : goal.returns-in-Some-clause-rest
returns-in-Some-clause-rest g c =
    mark_rest c.self.invariant c.self.view_is c.in-Some.what (sym c.in-Some.ensures)

pub returns-in-Some-next-clause-first : goal.returns-in-Some-next-clause-first
returns-in-Some-next-clause-first g c =
    move_first c.self.invariant c.self.view_is
    (sym c.in-None.ensures) (c.in-Some-next.line, c.in-Some-next.entry) c.in-Some-next.ensures.first

pub returns-in-Some-next-clause-rest : goal.returns-in-Some-next-clause-rest
returns-in-Some-next-clause-rest g c =
    let w = c.self.inside in
    ap (λ (l : List Move). merged (drop w.at w.marks.now) l (w.total - (w.left - 1))) c.in-Some-next.ensures.rest
    ∙ move_rest c.self.invariant c.self.view_is
    (sym c.in-None.ensures) (c.in-Some-next.line, c.in-Some-next.entry) c.in-Some-next.ensures.first

pub returns-in-None-next-clause-first : goal.returns-in-None-next-clause-first
returns-in-None-next-clause-first g c =
    none_first c.self.invariant c.self.view_is (sym c.in-None.ensures) c.in-None-next.ensures.first

pub returns-in-None-next-clause-rest : goal.returns-in-None-next-clause-rest
returns-in-None-next-clause-rest g c =
    let w = c.self.inside in
    ap (λ (l : List Move). merged (drop w.at w.marks.now) l (w.total - w.left)) c.in-None-next.ensures.rest
    ∙ none_rest c.self.invariant c.self.view_is (sym c.in-None.ensures) c.in-None-next.ensures.first
