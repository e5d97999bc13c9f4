use Rattle.std.proofs.Common.{refl, arith}
use Rattle.board_core.proofs.Standing.{told_by_arm}
use Rattle.board_core.proofs.InLists.{read_at}
use Rattle.board_core.proofs.Kept.{kept_system}
use Rattle.board_core.proofs.LowestStanding.{lowest_thread_stands, lowest_cpu_stands, lowest_cpu_there, lowest_driver_stands}
use Rattle.board_core.proofs.LowestStanding.{lowest_driver_there, nobody_stands, driver_number_there}
use Rattle.board_core.proofs.system.System.lowest_stand.Goals as goal

pub index-requires : goal.index-requires
index-requires g c =
    let system = kept_system c.is_board.ensures.board c.self.invariant c.self.view_is in
    let s = c.self.inside in
    let there = driver_number_there system c.in-Some-Driver.j
    (told_by_arm c.in-Some-Driver.is c.in-Some-Driver.field-0-is c.lowest.ensures) in
    omega (arith, there, s.driver_numbers.ok.0)

pub returns-in-Some-Thread : goal.returns-in-Some-Thread
returns-in-Some-Thread g c =
    let system = kept_system c.is_board.ensures.board c.self.invariant c.self.view_is in
    lowest_thread_stands system c.in-Some-Thread.thread _
    (told_by_arm c.in-Some-Thread.is c.in-Some-Thread.field-0-is c.lowest.ensures) refl

pub returns-in-Some : goal.returns-in-Some
returns-in-Some g c =
    let system = kept_system c.is_board.ensures.board c.self.invariant c.self.view_is in
    lowest_cpu_stands system c.in-Some-Cpu.cpu c.in-Some.k _
    (told_by_arm c.in-Some-Cpu.is c.in-Some-Cpu.field-0-is c.lowest.ensures) c.in-Some.ensures refl

pub returns-in-None-cpu_line : goal.returns-in-None-cpu_line
returns-in-None-cpu_line g c =
    let system = kept_system c.is_board.ensures.board c.self.invariant c.self.view_is in
    lowest_cpu_there system c.in-Some-Cpu.cpu
    (told_by_arm c.in-Some-Cpu.is c.in-Some-Cpu.field-0-is c.lowest.ensures) c.in-None-cpu_line.ensures

pub returns-in-Some-call : goal.returns-in-Some-call
returns-in-Some-call g c =
    let system = kept_system c.is_board.ensures.board c.self.invariant c.self.view_is in
    lowest_driver_stands system c.in-Some-Driver.j
    (record { 0 = c.index.result.now }) c.in-Some-call.call _
    (told_by_arm c.in-Some-Driver.is c.in-Some-Driver.field-0-is c.lowest.ensures)
    (read_at c.self.inside.driver_numbers.items (driver_number_there system c.in-Some-Driver.j
    (told_by_arm c.in-Some-Driver.is c.in-Some-Driver.field-0-is c.lowest.ensures)) c.index.ensures)
    c.in-Some-call.ensures refl

pub returns-in-None-call : goal.returns-in-None-call
returns-in-None-call g c =
    let system = kept_system c.is_board.ensures.board c.self.invariant c.self.view_is in
    lowest_driver_there system c.in-Some-Driver.j
    (told_by_arm c.in-Some-Driver.is c.in-Some-Driver.field-0-is c.lowest.ensures) c.in-None-call.ensures

pub returns-in-None : goal.returns-in-None
returns-in-None g c =
    let system = kept_system c.is_board.ensures.board c.self.invariant c.self.view_is in
    nobody_stands system c.in-None.ensures
