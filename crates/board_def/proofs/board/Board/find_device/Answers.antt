use Rattle.std.proofs.Common.{sym, ap, ◌∙◌}
use Rattle.board_def.specs.Rules.{find_device}
use Rattle.board_def.specs.Seen.{BoardSeen}
use Rattle.board_def.proofs.Rising.{device_near}
use Rattle.board_def.proofs.Tabled.{device_found}
use Rattle.board_def.proofs.board.Board.find_device.Goals as goal

pub returns : goal.returns
returns c =
    device_near c.self.inside.devices c.likely_place.result c.in-Some.device c.args.dev (λ i x at. (c.self.invariant.devices i x at).rises)
    c.in-Some.ensures (sym c.eq.ensures ∙ c.if-eq.true) ∙ ap (λ (b : BoardSeen). find_device b.devices c.args.dev) c.self.view_is

pub returns-2 : goal.returns-2
returns-2 c = c.find.ensures ∙ (device_found c.args.dev c.self.inside.devices ∙ ap (λ (b : BoardSeen). find_device b.devices c.args.dev) c.self.view_is)
