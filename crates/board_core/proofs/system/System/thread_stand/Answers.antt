use Rattle.std.proofs.Common.{map, refl, sym, ap, ◌∙◌}
use Rattle.board_core.specs.ReadyFor.{has_thread_up_to}
use Rattle.board_core.proofs.Kept.{kept_system}
use Rattle.board_core.proofs.InSystem.{numbers_kept}
use Rattle.board_core.proofs.RisingNumbers.{rising_lines}
use Rattle.board_core.proofs.Standing.{thread_of_none, thread_nowhere, thread_below, thread_there, number_there, number_nowhere, told_by_arm}
use Rattle.board_core.proofs.system.System.thread_stand.Goals as goal

pub place_of-requires : goal.place_of-requires
place_of-requires g c =
    let s = c.self.inside in
    rising_lines s.board.now c.is_board.ensures.board c.deref.result.now
    (c.deref.ensures.value ∙ (c.self.invariant.line_numbers
    ∙ numbers_kept s.board.now (map g.L.IrqLine.seen s.lines.items) s.scripts.items c.self.invariant.system))

pub returns-in_default : goal.returns-in_default
returns-in_default g c =
    let system = kept_system c.is_board.ensures.board c.self.invariant c.self.view_is in
    thread_of_none system c.args.dev (sym c.in_default.is ∙ c.find_device.ensures)

pub returns-in_default-place_of : goal.returns-in_default-place_of
returns-in_default-place_of g c =
    let system = kept_system c.is_board.ensures.board c.self.invariant c.self.view_is in
    thread_nowhere system c.args.dev c.in-Some.device (told_by_arm c.in-Some.is refl c.find_device.ensures)
    (number_nowhere c.in-Some.device.line.0 c.deref.ensures.value c.place_of.ensures c.in_default-place_of.is)

pub returns-then-has_thread_up_to : goal.returns-then-has_thread_up_to
returns-then-has_thread_up_to g c =
    let system = kept_system c.is_board.ensures.board c.self.invariant c.self.view_is in
    thread_there system c.args.dev c.in-Some.device c.in-Some-place_of.k _ (told_by_arm c.in-Some.is refl c.find_device.ensures)
    (number_there c.in-Some.device.line.0 c.deref.ensures.value c.place_of.ensures c.in-Some-place_of.is)
    (ap (λ o. has_thread_up_to o c.args.dev) (sym c.line.ensures)
    ∙ (sym c.has_thread_up_to.ensures ∙ c.if-has_thread_up_to.true)) refl

pub returns-else-has_thread_up_to : goal.returns-else-has_thread_up_to
returns-else-has_thread_up_to g c =
    let system = kept_system c.is_board.ensures.board c.self.invariant c.self.view_is in
    thread_below system c.args.dev c.in-Some.device c.in-Some-place_of.k (told_by_arm c.in-Some.is refl c.find_device.ensures)
    (number_there c.in-Some.device.line.0 c.deref.ensures.value c.place_of.ensures c.in-Some-place_of.is)
    (ap (λ o. has_thread_up_to o c.args.dev) (sym c.line.ensures)
    ∙ (sym c.has_thread_up_to.ensures ∙ c.if-has_thread_up_to.false))
