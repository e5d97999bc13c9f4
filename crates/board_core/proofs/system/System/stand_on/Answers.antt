use Rattle.std.proofs.Common.{map, refl, ◌∙◌}
use Rattle.board_core.proofs.Kept.{kept_system}
use Rattle.board_core.proofs.InSystem.{numbers_kept}
use Rattle.board_core.proofs.RisingNumbers.{rising_lines}
use Rattle.board_core.proofs.Standing.{line_nowhere, line_there, number_there, number_nowhere}
use Rattle.board_core.proofs.system.System.stand_on.Goals as goal

pub place_of-requires : goal.place_of-requires
place_of-requires g c =
    let s = c.self.inside in
    rising_lines s.board.now c.is_board.ensures.board c.deref.result.now
    (c.deref.ensures.value ∙ (c.self.invariant.line_numbers
    ∙ numbers_kept s.board.now (map g.L.IrqLine.seen s.lines.items) s.scripts.items c.self.invariant.system))

pub returns-in_default : goal.returns-in_default
returns-in_default g c =
    let system = kept_system c.is_board.ensures.board c.self.invariant c.self.view_is in
    line_nowhere system c.args.line
    (number_nowhere c.args.line.0 c.deref.ensures.value
    c.place_of.ensures c.in_default.is)

pub returns : goal.returns
returns g c =
    let system = kept_system c.is_board.ensures.board c.self.invariant c.self.view_is in
    line_there system c.args.line c.args.actor c.in-Some.k
    c.script_place-script.result _
    (number_there c.args.line.0 c.deref.ensures.value c.place_of.ensures c.in-Some.is) c.requires c.script_place-script.ensures refl
