use Rattle.std.proofs.Common.{◌≡◌, List, ℕ, [], ◌∷◌, ◌++◌, length, take, ap, sym, subst, ◌∙◌}
use Rattle.std.proofs.lemmas.List.{take_at}
use Rattle.state_search.specs.Rows.{found_in, AreOf}
use Rattle.state_search.specs.declared.found.Row.{Row}
use Rattle.state_search.proofs.Finding.{found_push, of_push}
use Rattle.state_search.proofs.found.Found.push.Goals as goal
use Rattle.state_search.proofs.found.Found.push.Given.{Over}
use Rattle.state_search.proofs.found.Found.push.Goals.{After-truncate}

pub invariant_of-self-in-Ok : goal.invariant_of-self-in-Ok
invariant_of-self-in-Ok g c =
    let words = c.in_ok-extend_from_slice.ensures.items in
    let rows = c.in-Ok.ensures.items in
    let row : Row g.row.L.Denot = record { label = c.args.label; from = c.len-from.result; to = c.len-to.result } in
    let of = of_push c.self.inside.rows.items c.self.inside.words.items c.args.words.now row c.self.invariant
    (c.len-from.ensures ∙ c.self.inside.words.ok.0) (c.len-to.ensures ∙ (c.extend_from_slice.new.self.ok.0 ∙ ap length words)) in
    subst (λ (r : List (Row g.row.L.Denot)). AreOf r c.extend_from_slice.new.self.items) (sym rows)
    (subst (λ (w : List ℕ). AreOf (c.self.inside.rows.items ++ row ∷ []) w) (sym words) of)

-- where the row didn't fit, the numbers are as before
words_before : (g : Over) (c : After-truncate g) → c.truncate.new.self.items ≡ c.self.inside.words.items
words_before g c =
    c.truncate.ensures.items
    ∙ (ap (λ (w : List ℕ). take c.len-from.result w) c.in_ok-extend_from_slice.ensures.items
    ∙ take_at c.self.inside.words.items c.args.words.now c.len-from.result (sym (c.len-from.ensures ∙ c.self.inside.words.ok.0)))

pub invariant_of-self-in_default : goal.invariant_of-self-in_default
invariant_of-self-in_default g c =
    subst (λ (r : List (Row g.row.L.Denot)). AreOf r c.truncate.new.self.items) (sym c.in_default.ensures.items)
    (subst (λ (w : List ℕ). AreOf c.self.inside.rows.items w) (sym (words_before g c)) c.self.invariant)

pub returns-in_default-clause-refused : goal.returns-in_default-clause-refused
returns-in_default-clause-refused g c =
    let rows = c.in_default.ensures.items in
    let words = words_before g c in
    (λ i. found_in (rows i) (words i)) ∙ c.self.view_is

pub returns-clause-added : goal.returns-clause-added
returns-clause-added g c =
    let words = c.in_ok-extend_from_slice.ensures.items in
    let rows = c.in-Ok.ensures.items in
    (λ i. found_in (rows i) (words i))
    ∙ (found_push c.self.inside.rows.items c.self.inside.words.items c.args.words.now
    (record { label = c.args.label; from = c.len-from.result; to = c.len-to.result }) c.self.invariant.within
    (c.len-from.ensures ∙ c.self.inside.words.ok.0)
    (c.len-to.ensures ∙ (c.extend_from_slice.new.self.ok.0 ∙ ap length words))
    ∙ ap (λ t. t ++ (c.args.label, c.args.words.now) ∷ []) c.self.view_is)
