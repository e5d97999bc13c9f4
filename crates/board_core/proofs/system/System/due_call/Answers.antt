use Rattle.std.proofs.Common.{◌∙◌, arith}
use Rattle.board_core.proofs.InLists.{read_at}
use Rattle.board_core.proofs.Kept.{kept_system}
use Rattle.board_core.proofs.FirstLaws.{due_is, no_due, script_within}
use Rattle.board_core.proofs.RisingNumbers.{rising_drivers}
use Rattle.board_core.proofs.Standing.{number_there, number_nowhere}
use Rattle.board_core.proofs.system.System.due_call.Goals as goal

pub place_of-requires : goal.place_of-requires
place_of-requires g c = rising_drivers c.self.inside.board.now c.is_board.ensures.board c.deref.result.now
    (c.deref.ensures.value ∙ c.self.invariant.driver_numbers)

pub returns-in_default : goal.returns-in_default
returns-in_default g c =
    let system = kept_system c.is_board.ensures.board c.self.invariant c.self.view_is in
    no_due system c.args.driver
    (number_nowhere c.args.driver.0 c.deref.ensures.value c.place_of.ensures c.in_default.is)

pub index-requires : goal.index-requires
index-requires g c =
    let system = kept_system c.is_board.ensures.board c.self.invariant c.self.view_is in
    let s = c.self.inside in
    let there = script_within system c.in-Some.j c.args.driver
    (number_there c.args.driver.0 c.deref.ensures.value c.place_of.ensures c.in-Some.is) in
    omega (arith, there, s.scripts.ok.0)

pub returns : goal.returns
returns g c =
    let system = kept_system c.is_board.ensures.board c.self.invariant c.self.view_is in
    let at = number_there c.args.driver.0 c.deref.ensures.value c.place_of.ensures c.in-Some.is in
    due_is system c.in-Some.j c.args.driver c.index.result.now
    c.due.result at
    (read_at c.self.inside.scripts.items (script_within system c.in-Some.j c.args.driver at)
    c.index.ensures) c.due.ensures
