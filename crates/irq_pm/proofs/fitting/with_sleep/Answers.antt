use Rattle.std.proofs.Common.{◌≡◌, ◌+◌, ◌≤◌, All, length, sym, ◌∙◌, subst}
use Rattle.board_driver.specs.Longer.{IsOfALine}
use Rattle.irq_pm.specs.SleptBoard.{sleep_script}
use Rattle.irq_pm.proofs.Fits.{room_for_calls, calls_fit_board}
use Rattle.irq_pm.proofs.fitting.with_sleep.Goals as goal

pub with_last_driver-requires-clause-room : goal.with_last_driver-requires-clause-room
with_last_driver-requires-clause-room c =
    let same : c.as_slice.result.now ≡ sleep_script c.args.board = c.as_slice.ensures.value ∙ c.in_ok-calls.ensures in
    subst (λ calls. length c.args.board.calls + length calls ≤ 16384) (sym same) (room_for_calls c.args.board c.is_board.ensures.board c.requires.room)

pub with_last_driver-requires-clause-lines : goal.with_last_driver-requires-clause-lines
with_last_driver-requires-clause-lines c =
    let same : c.as_slice.result.now ≡ sleep_script c.args.board = c.as_slice.ensures.value ∙ c.in_ok-calls.ensures in
    subst (λ calls. All (IsOfALine c.args.board) calls) (sym same) (calls_fit_board c.args.board)
