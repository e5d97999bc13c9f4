use Rattle.std.proofs.Common.{◌∙◌, ◌++◌, [], ◌∷◌, ap, sym, subst}
use Rattle.board_def.specs.Tables.{values_of, IsKeyedBy}
use Rattle.board_def.proofs.Tabled.{row_added, values_more, keyed_more}
use Rattle.board_def.proofs.tables.Table.push.Goals as goal

pub invariant_of-self-2 : goal.invariant_of-self-2
invariant_of-self-2 g c =
    let key_of = g.T.Keyed.key_of in
    let m = c.self.inside.rows in
    let added = c.in_ok-insert.ensures.entries ∙ row_added key_of g.K.PartialEq.eq m c.args.self.now c.key.result
    c.args.row c.self.invariant c.self.view_is c.key.ensures c.requires in
    subst (IsKeyedBy key_of) (sym {a = c.insert.new.self.entries} added) (keyed_more key_of m.entries c.key.result c.args.row c.key.ensures c.self.invariant)

pub returns-clause-ok : goal.returns-clause-ok
returns-clause-ok g c =
    let key_of = g.T.Keyed.key_of in
    let m = c.self.inside.rows in
    let added = c.in_ok-insert.ensures.entries ∙ row_added key_of g.K.PartialEq.eq m c.args.self.now c.key.result
    c.args.row c.self.invariant c.self.view_is c.key.ensures c.requires in
    ap values_of added ∙ (values_more key_of m.entries c.key.result c.args.row ∙ ap (λ rows. rows ++ c.args.row ∷ []) c.self.view_is)
