use Rattle.std.proofs.Common.{List, drop, map, slice_get, sym, ap, ◌∙◌, arith}
use Rattle.std.proofs.Math.ListN.{length-map}
use Rattle.board_play.specs.Lines.{Move}
use Rattle.board_core.proofs.Walking.{cursor_within, next_at, none_left, rest_left, stands_left}
use Rattle.board_core.proofs.moves.Moves.next_place.Goals as goal

pub returns-in_default-clause-first : goal.returns-in_default-clause-first
returns-in_default-clause-first g c =
    ap (λ (g : List Move). slice_get g 0) (none_left c.self.inside.order.now c.self.inside.at
    (map g.L.IrqLine.seen c.self.inside.lines.now) c.place_at.ensures.place c.in_default.is (sym c.self.view_is))

pub returns-in_default-clause-rest : goal.returns-in_default-clause-rest
returns-in_default-clause-rest g c =
    let none = none_left c.self.inside.order.now c.self.inside.at (map g.L.IrqLine.seen c.self.inside.lines.now)
    c.place_at.ensures.place c.in_default.is (sym c.self.view_is) in
    none ∙ sym (ap (λ (g : List Move). drop 1 g) none)

pub bounds-self-inside-k : goal.bounds-self-inside-k
bounds-self-inside-k g c = (next_at c.self.inside.order.now c.self.inside.at (sym c.in-Some.ensures.place) c.self.invariant).few

pub move_place-next-requires-clause-within : goal.move_place-next-requires-clause-within
move_place-next-requires-clause-within g c =
    let within = (next_at c.self.inside.order.now c.self.inside.at (sym c.in-Some.ensures.place) c.self.invariant).within in
    let many = length-map c.self.inside.lines.now g.L.IrqLine.seen in
    omega (arith, within, many)

pub move_place-next-requires-clause-short : goal.move_place-next-requires-clause-short
move_place-next-requires-clause-short g c = cursor_within (next_at c.self.inside.order.now c.self.inside.at (sym c.in-Some.ensures.place) c.self.invariant)

pub bounds-self-inside-k-2 : goal.bounds-self-inside-k-2
bounds-self-inside-k-2 g c = (next_at c.self.inside.order.now c.self.inside.at (sym c.in-Some.ensures.place) c.self.invariant).few

pub invariant_of-self : goal.invariant_of-self
invariant_of-self g c = (next_at c.self.inside.order.now c.self.inside.at (sym c.in-Some.ensures.place) c.self.invariant).next.walk

pub returns-clause-first : goal.returns-clause-first
returns-clause-first g c =
    let at = c.move_place-next.result in
    stands_left (next_at c.self.inside.order.now c.self.inside.at (sym c.in-Some.ensures.place) c.self.invariant)
    (sym c.self.view_is) at.line at.history.now.entries at.place
    c.move_place-next.ensures.line c.move_place-next.ensures.place

pub returns-clause-rest : goal.returns-clause-rest
returns-clause-rest g c = rest_left (next_at c.self.inside.order.now c.self.inside.at (sym c.in-Some.ensures.place) c.self.invariant) (sym c.self.view_is)
