use Rattle.std.proofs.Common.{◌+◌, ◌++◌, [], ◌∷◌, List, unwrap_or, sym, ap, ◌∙◌, if◌then◌else◌}
use Rattle.std.proofs.lemmas.Result.{on_ok_weaker}
use Rattle.indexmap.proofs.CallerLemmas.{insert_entry-new}
use Rattle.irq_base.specs.declared.numbers.DriverNo.{DriverNo}
use Rattle.irq_model.specs.Bounds.{is_ask_call}
use Rattle.irq_model.specs.Kinds.{same_driver}
use Rattle.line_scripts.specs.Rows.{RowSeen, unbegun, row_of, asks_left}
use Rattle.line_scripts.proofs.Places.{none_found, was_none, was, own, others, pushed}
use Rattle.line_scripts.proofs.RowSteps.{other_both, asks_added}
use Rattle.line_scripts.proofs.scripts.Scripts.add.Goals as goal

pub returns-in-Some-clause-own : goal.returns-in-Some-clause-own
returns-in-Some-clause-own c =
    let e = c.index_mut.ensures.value in
    on_ok_weaker c.push.result
    (λ is. own _ _ c.self.view_is c.args.who c.in-Some.place c.in-Some.ensures _ e _
    ∙ (is ∙ ap (λ (x : RowSeen). record x { calls = x.calls ++ c.args.call ∷ [] })
    (sym (was _ _ c.self.view_is c.args.who c.in-Some.place c.in-Some.ensures _ e))))
    c.push.ensures

pub returns-in-Some-clause-others : goal.returns-in-Some-clause-others
returns-in-Some-clause-others c =
    on_ok_weaker c.push.result
    (λ _ r other. others _ _ c.self.view_is c.args.who c.in-Some.place c.in-Some.ensures _ c.index_mut.ensures.value _ r other)
    c.push.ensures

pub returns-in-Some-clause-asks : goal.returns-in-Some-clause-asks
returns-in-Some-clause-asks c =
    on_ok_weaker c.push.result
    (λ is. pushed _ _ c.self.view_is c.args.who c.in-Some.place c.in-Some.ensures _ c.index_mut.ensures.value _ c.args.call c.requires is)
    c.push.ensures

pub returns-clause-own : goal.returns-clause-own
returns-clause-own c =
    ap (λ o. unwrap_or o (unbegun [])) c.in_ok-insert.ensures.updates.1
    ∙ (c.in_ok-push.ensures ∙ ap (λ (x : RowSeen). record x { calls = x.calls ++ c.args.call ∷ [] })
    (c.new-row.ensures ∙ sym (was_none _ _ c.self.view_is c.args.who (sym c.in_default.is ∙ c.row_place.ensures))))

pub returns-clause-others : goal.returns-clause-others
returns-clause-others c = λ r other.
    ap (λ o. unwrap_or o (unbegun [])) (c.in_ok-insert.ensures.updates.2 r (other_both r c.args.who other))
    ∙ ap (λ s. row_of s r) c.self.view_is

pub returns-clause-asks : goal.returns-clause-asks
returns-clause-asks c =
    let none = none_found _ _ c.self.view_is c.args.who (sym c.in_default.is ∙ c.row_place.ensures) in
    ap asks_left (c.in_ok-insert.ensures.entries ∙ insert_entry-new same_driver c.self.inside.rows c.args.who c.push-2.new.self none)
    ∙ (asks_added _ c.args.who _ c.args.call
    (c.in_ok-push.ensures ∙ ap (λ (x : RowSeen). record x { calls = x.calls ++ c.args.call ∷ [] }) c.new-row.ensures)
    ∙ ap (λ (s : List (DriverNo × RowSeen)). asks_left s + (if is_ask_call c.args.call then 1 else 0)) c.self.view_is)
