use Rattle.std.proofs.Common.{refl, sym, ◌∙◌}
use Rattle.board_core.proofs.Kept.{kept_system}
use Rattle.board_core.proofs.RisingNumbers.{rising_drivers}
use Rattle.board_core.proofs.Standing.{driver_nowhere, driver_waits, driver_there, number_there, number_nowhere}
use Rattle.board_core.proofs.system.System.driver_stand.Goals as goal

pub place_of-requires : goal.place_of-requires
place_of-requires g c = rising_drivers c.self.inside.board.now c.is_board.ensures.board c.deref.result.now
    (c.deref.ensures.value ∙ c.self.invariant.driver_numbers)

pub returns-in_default : goal.returns-in_default
returns-in_default g c =
    let system = kept_system c.is_board.ensures.board c.self.invariant c.self.view_is in
    driver_nowhere system c.args.driver
    (number_nowhere c.args.driver.0 c.deref.ensures.value c.place_of.ensures c.in_default.is)

pub returns-then-not-is_ready : goal.returns-then-not-is_ready
returns-then-not-is_ready g c =
    let system = kept_system c.is_board.ensures.board c.self.invariant c.self.view_is in
    driver_waits system c.args.driver c.in-Some.j
    (number_there c.args.driver.0 c.deref.ensures.value c.place_of.ensures c.in-Some.is) (sym c.is_ready.ensures ∙ c.if-not-is_ready.true)

pub returns-in-Some-call : goal.returns-in-Some-call
returns-in-Some-call g c =
    let system = kept_system c.is_board.ensures.board c.self.invariant c.self.view_is in
    driver_there system c.args.driver c.in-Some.j c.in-Some-call.call _
    (number_there c.args.driver.0 c.deref.ensures.value c.place_of.ensures c.in-Some.is) (sym c.is_ready.ensures ∙ c.if-not-is_ready.false)
    c.in-Some-call.ensures refl
