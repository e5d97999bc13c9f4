use Rattle.board_core.proofs.Standing.{told_by_arm}
use Rattle.board_core.proofs.Kept.{kept_system}
use Rattle.board_core.proofs.FirstLaws.{first_thread, first_cpu, none_first}
use Rattle.board_core.proofs.system.System.lowest_thread_or_cpu.Goals as goal

pub returns-in-Some-Thread : goal.returns-in-Some-Thread
returns-in-Some-Thread g c =
    let system = kept_system c.is_board.ensures.board c.self.invariant c.self.view_is in
    first_thread system c.in-Some-Thread.thread
    (told_by_arm c.in-Some-Thread.is c.in-Some-Thread.field-0-is c.lowest_thread_or_cpu.ensures)

pub returns-in-Some-Cpu : goal.returns-in-Some-Cpu
returns-in-Some-Cpu g c =
    let system = kept_system c.is_board.ensures.board c.self.invariant c.self.view_is in
    first_cpu system c.in-Some-Cpu.cpu
    (told_by_arm c.in-Some-Cpu.is c.in-Some-Cpu.field-0-is c.lowest_thread_or_cpu.ensures)

pub returns-in-None : goal.returns-in-None
returns-in-None g c =
    let system = kept_system c.is_board.ensures.board c.self.invariant c.self.view_is in
    none_first system c.in-None.ensures
