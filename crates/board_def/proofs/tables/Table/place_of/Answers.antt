use Rattle.std.proofs.Common.{◌∙◌, ap, position}
use Rattle.board_def.proofs.Tabled.{place_found}
use Rattle.board_def.proofs.tables.Table.place_of.Goals as goal

pub returns : goal.returns
returns g c =
    c.get_index_of.ensures.index
    ∙ (place_found g.T.Keyed.key_of g.K.PartialEq.eq c.args.key.now c.self.inside.rows.entries c.self.invariant
    ∙ ap (position (λ row. g.K.PartialEq.eq c.args.key.now (g.T.Keyed.key_of row))) c.self.view_is)
