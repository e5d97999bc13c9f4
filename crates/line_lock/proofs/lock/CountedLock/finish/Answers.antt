use Rattle.std.proofs.Common.{Some, sym, ap, ◌∙◌}
use Rattle.std.proofs.lemmas.Option.{none-some, same_Some}
use mathlib.Core.Option.{some-injective}
use Rattle.line_lock.proofs.Closing.{ended}
use Rattle.line_lock.proofs.lock.CountedLock.finish.Goals as goal

pub unreachable-requires : goal.unreachable-requires
unreachable-requires g c =
    let knows = ap (λ p. p.knows) c.pass.view_is in
    let home = ended g.T.Kept.definition g.T.Kept.entries c.self.inside.table.shared.key c.pass.inside.seat.id
    c.pass.inside.seat.me.0 _ _ c.pass.invariant.there
    (ap (λ p. p.turn) c.pass.view_is ∙ c.requires.idle) (ap (λ k. k.actor) knows ∙ c.requires.first)
    (ap (λ k. k.out) knows ∙ c.requires.nobody) c.close_with-closed.ensures.values.2 in
    none-some home.value (sym c.in_default.is ∙ some-injective c.take.result (Some home.value) (sym c.take.ensures.value ∙ home.home))

pub returns-clause-def : goal.returns-clause-def
returns-clause-def g c =
    let knows = ap (λ p. p.knows) c.pass.view_is in
    let home = ended g.T.Kept.definition g.T.Kept.entries c.self.inside.table.shared.key c.pass.inside.seat.id
    c.pass.inside.seat.me.0 _ _ c.pass.invariant.there
    (ap (λ p. p.turn) c.pass.view_is ∙ c.requires.idle) (ap (λ k. k.actor) knows ∙ c.requires.first)
    (ap (λ k. k.out) knows ∙ c.requires.nobody) c.close_with-closed.ensures.values.2 in
    let same = same_Some c.in-Some.value home.value (sym c.in-Some.is
    ∙ some-injective c.take.result (Some home.value) (sym c.take.ensures.value ∙ home.home)) in
    ap g.T.Kept.definition same ∙ (home.def ∙ ap (λ l. l.def) c.self.view_is)

pub returns-clause-entries : goal.returns-clause-entries
returns-clause-entries g c =
    let knows = ap (λ p. p.knows) c.pass.view_is in
    let home = ended g.T.Kept.definition g.T.Kept.entries c.self.inside.table.shared.key c.pass.inside.seat.id
    c.pass.inside.seat.me.0 _ _ c.pass.invariant.there
    (ap (λ p. p.turn) c.pass.view_is ∙ c.requires.idle) (ap (λ k. k.actor) knows ∙ c.requires.first)
    (ap (λ k. k.out) knows ∙ c.requires.nobody) c.close_with-closed.ensures.values.2 in
    let same = same_Some c.in-Some.value home.value (sym c.in-Some.is
    ∙ some-injective c.take.result (Some home.value) (sym c.take.ensures.value ∙ home.home)) in
    ap g.T.Kept.entries same ∙ (home.entries ∙ ap (λ k. k.seen) knows)
