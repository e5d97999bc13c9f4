use Rattle.std.proofs.Common.{arith}
use Rattle.board_core.proofs.InLists.{read_at}
use Rattle.board_core.proofs.Kept.{kept_system}
use Rattle.board_core.proofs.FirstLaws.{first_driver, no_first_driver, driver_within}
use Rattle.board_core.proofs.system.System.lowest_driver.Goals as goal

pub index-requires : goal.index-requires
index-requires g c =
    let system = kept_system c.is_board.ensures.board c.self.invariant c.self.view_is in
    let s = c.self.inside in
    let there = driver_within system c.in-Some.j c.in-Some.ensures in
    omega (arith, there, s.driver_numbers.ok.0)

pub returns-in-Some : goal.returns-in-Some
returns-in-Some g c =
    let system = kept_system c.is_board.ensures.board c.self.invariant c.self.view_is in
    first_driver system c.in-Some.j (record { 0 = c.index.result.now })
    c.in-Some.ensures
    (read_at c.self.inside.driver_numbers.items (driver_within system c.in-Some.j c.in-Some.ensures)
    c.index.ensures)

pub returns-in-None : goal.returns-in-None
returns-in-None g c =
    let system = kept_system c.is_board.ensures.board c.self.invariant c.self.view_is in
    no_first_driver system
    c.in-None.ensures
