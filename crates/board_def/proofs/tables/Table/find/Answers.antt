use Rattle.std.proofs.Common.{◌∙◌, ap}
use Rattle.board_def.specs.Tables.{find_row}
use Rattle.board_def.proofs.Tabled.{row_found}
use Rattle.board_def.proofs.tables.Table.find.Goals as goal

pub returns : goal.returns
returns g c =
    c.copied.ensures ∙ (c.get.ensures.value
    ∙ (row_found g.T.Keyed.key_of g.K.PartialEq.eq c.args.key.now c.self.inside.rows.entries c.self.invariant
    ∙ ap (λ rows. find_row g.K.PartialEq.eq g.T.Keyed.key_of rows c.args.key.now) c.self.view_is))
