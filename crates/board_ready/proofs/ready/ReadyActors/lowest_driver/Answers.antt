use Rattle.std.proofs.Common.{ap, ◌∙◌}
use Rattle.board_ready.specs.Ready.{lowest_driver}
use Rattle.board_ready.specs.Seen.{ReadySeen}
use Rattle.board_ready.proofs.Searching.{driver_found}
use Rattle.board_ready.proofs.ready.ReadyActors.lowest_driver.Goals as goal

pub returns : goal.returns
returns c = c.first_bit.ensures ∙ (driver_found c.self.inside.lines.items c.self.inside.drivers.items
    c.self.inside.ready c.self.invariant.few_drivers c.self.invariant.ready
    ∙ ap (λ (s : ReadySeen). lowest_driver s) c.self.view_is)
