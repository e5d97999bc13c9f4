use Rattle.std.proofs.Common.{rules, ◌≡◌, List, [], ◌∷◌, Some, Option, subst}
use Rattle.atomic_table.specs.Table.{opening}
use Rattle.line_lock.specs.Rule.{Holds, first_view}
use Rattle.line_lock.proofs.Opening.{opened}
use Rattle.line_lock.proofs.lock.CountedLock.new.Goals as goal

pub new-requires : goal.new-requires
new-requires g c =
    let is : g.T.Kept.definition c.args.value ≡ c.in-Ok.def = search rules in
    let slots : Some c.args.value ∷ [] ≡ c.push.new.self.items = search rules in
    subst (λ (xs : List (Option g.row.T.Denot)). Holds g.T.Kept.definition g.T.Kept.entries c.in-Ok.def
    (opening (0 ∷ 0 ∷ []) xs (first_view c.in-Ok.def))) slots
    (opened g.T.Kept.definition g.T.Kept.entries c.in-Ok.def c.args.value is c.requires.empty)
