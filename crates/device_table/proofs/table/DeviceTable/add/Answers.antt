use Rattle.std.proofs.Common.{◌≡◌, [], ◌∷◌, ◌++◌, ap, ◌∙◌}
use Rattle.indexmap.proofs.CallerLemmas.{insert_entry-new}
use Rattle.irq_model.specs.Kinds.{same_dev}
use Rattle.device_table.specs.Rows.{at}
use Rattle.device_table.proofs.table.DeviceTable.add.Goals as goal

pub returns : goal.returns
returns g c =
    c.in_ok-insert.ensures.entries
    ∙ (insert_entry-new same_dev c.self.inside.rows c.args.dev c.args.row
    (ap (λ t. at t c.args.dev) c.self.view_is ∙ c.requires)
    ∙ ap (λ t. t ++ (c.args.dev, c.args.row) ∷ []) c.self.view_is)
