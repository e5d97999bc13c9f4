use Rattle.std.proofs.Common.{slice_get, ap, ◌∙◌}
use Rattle.device_table.specs.Rows.{put, is_row_of}
use Rattle.device_table.proofs.Placing.{put_at}
use Rattle.device_table.proofs.table.DeviceTable.set_at.Goals as goal

pub returns : goal.returns
returns g c =
    put_at c.self.inside.rows.entries c.args.dev c.args.row c.args.place c.in-Some.ensures.unique
    (ap (λ t. is_row_of c.args.dev (slice_get t c.args.place)) c.self.view_is ∙ c.requires)
    ∙ ap (λ t. put t c.args.dev c.args.row) c.self.view_is
