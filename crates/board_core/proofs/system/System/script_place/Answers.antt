use Rattle.std.proofs.Common.{sym, subst, ◌∙◌}
use Rattle.irq_base.specs.declared.entries.Actor.{Actor}
use Rattle.board_core.specs.Stands.{IsScriptPlace}
use Rattle.board_core.proofs.Kept.{kept_system}
use Rattle.board_core.proofs.RisingNumbers.{rising_drivers}
use Rattle.board_core.proofs.Standing.{script_there}
use Rattle.board_core.proofs.system.System.script_place.Goals as goal

pub place_of-requires : goal.place_of-requires
place_of-requires g c = rising_drivers c.self.inside.board.now c.is_board.ensures.board c.deref.result.now
    (c.deref.ensures.value ∙ c.self.invariant.driver_numbers)

pub returns-in-Driver : goal.returns-in-Driver
returns-in-Driver g c =
    let system = kept_system c.is_board.ensures.board c.self.invariant c.self.view_is in
    subst (λ (a : Actor). IsScriptPlace c.args.self.now a c.place_of.result) (sym c.in-Driver.is)
    (script_there system c.in-Driver.driver c.deref.result.now
    c.place_of.result c.deref.ensures.value c.place_of.ensures)
