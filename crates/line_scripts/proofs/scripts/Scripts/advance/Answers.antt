use Rattle.std.proofs.Common.{◌+◌, ◌<◌, IsSome, sym, ap, ◌∙◌, subst, if◌then◌else◌}
use Rattle.line_scripts.specs.Rows.{RowSeen, call_in}
use Rattle.line_scripts.proofs.Places.{none_due, was, own, others, same_calls, advanced}
use Rattle.line_scripts.proofs.scripts.Scripts.advance.Goals as goal

pub unreachable-requires : goal.unreachable-requires
unreachable-requires c = none_due _ _ c.self.view_is c.args.who (sym c.in_default.is ∙ c.row_place.ensures) c.requires.due

pub advance-requires-clause-due : goal.advance-requires-clause-due
advance-requires-clause-due c =
    subst (λ (x : RowSeen). IsSome (call_in x)) (was _ _ c.self.view_is c.args.who c.in-Some.place c.in-Some.ensures _ c.index_mut.ensures.value) c.requires.due

pub advance-requires-clause-within : goal.advance-requires-clause-within
advance-requires-clause-within c =
    subst (λ (x : RowSeen). x.within + 1 < 4294967296)
    (was _ _ c.self.view_is c.args.who c.in-Some.place c.in-Some.ensures _ c.index_mut.ensures.value) c.requires.within

pub returns-clause-calls : goal.returns-clause-calls
returns-clause-calls c = same_calls _ _ c.self.view_is c.args.who c.in-Some.place c.in-Some.ensures _ c.index_mut.ensures.value _ c.advance.ensures.calls

pub returns-clause-place : goal.returns-clause-place
returns-clause-place c =
    let e = c.index_mut.ensures.value in
    ap (λ (x : RowSeen). x.place) (own _ _ c.self.view_is c.args.who c.in-Some.place c.in-Some.ensures _ e _)
    ∙ (c.advance.ensures.place ∙ ap (λ (x : RowSeen). if c.args.completes then x.place + 1 else x.place)
    (sym (was _ _ c.self.view_is c.args.who c.in-Some.place c.in-Some.ensures _ e)))

pub returns-clause-within : goal.returns-clause-within
returns-clause-within c =
    let e = c.index_mut.ensures.value in
    ap (λ (x : RowSeen). x.within) (own _ _ c.self.view_is c.args.who c.in-Some.place c.in-Some.ensures _ e _)
    ∙ (c.advance.ensures.within ∙ ap (λ (x : RowSeen). if c.args.completes then 0 else x.within + 1)
    (sym (was _ _ c.self.view_is c.args.who c.in-Some.place c.in-Some.ensures _ e)))

pub returns-clause-other_places : goal.returns-clause-other_places
returns-clause-other_places c = λ r other.
    ap (λ (x : RowSeen). x.place) (others _ _ c.self.view_is c.args.who c.in-Some.place c.in-Some.ensures _ c.index_mut.ensures.value _ r other)

pub returns-clause-other_withins : goal.returns-clause-other_withins
returns-clause-other_withins c = λ r other.
    ap (λ (x : RowSeen). x.within) (others _ _ c.self.view_is c.args.who c.in-Some.place c.in-Some.ensures _ c.index_mut.ensures.value _ r other)

pub returns-clause-asks : goal.returns-clause-asks
returns-clause-asks c =
    advanced _ _ c.self.view_is c.args.who c.in-Some.place c.in-Some.ensures _ c.index_mut.ensures.value _ c.args.completes c.requires.due
    c.advance.ensures.calls c.advance.ensures.place
