use Rattle.std.proofs.Common.{sym, ap, ◌∙◌, subst}
use Rattle.board_core.specs.Seen.{SystemSeen, board_lines}
use Rattle.board_def.specs.Rules.{IsBoard}
use Rattle.board_def.specs.Seen.{BoardSeen}
use Rattle.play_report.proofs.Handed.{Reported}
use Rattle.sleep_play.specs.Played.{HandsOutSleep, SleepPlaySeen}
use Rattle.sleep_play.proofs.Finished.{hands_out, hands_out_step}
use Rattle.sleep_play.proofs.ended.SleepPlayEndedPlay.hand_out.Goals as goal

pub returns : goal.returns
returns g c =
    let s = c.self.inside.sleeper in
    let lines = c.into_system.result.lines in
    let reports = c.hand_out.result.reports in
    let same = sym (ap (λ (p : SleepPlaySeen). p.sleeper.system.board) c.self.view_is ∙ c.requires.board) in
    subst (λ (p : SleepPlaySeen). HandsOutSleep g.L.IrqLine.may_want p.sleeper p.end reports) c.self.view_is
    (λ b armed of. hands_out_step g.L.IrqLine.may_want b armed s of c.self.inside.end c.self.invariant.1 lines (ap (λ x. x.lines) c.into_system.ensures)
    reports c.hand_out.ensures.room
    (hands_out b armed s of (subst IsBoard same c.is_board.ensures.board) c.self.invariant.0.told c.self.inside.end
    c.self.invariant.0.sleep c.self.invariant.0.says lines (ap (λ x. x.lines) c.into_system.ensures) reports
    (subst (λ (x : BoardSeen). Reported x (board_lines lines) reports) same
    (let out = c.hand_out.ensures in record { so_far = out.so_far; done = out.done; hung = out.hung; full = out.full }))))

pub hand_out-requires-clause-board : goal.hand_out-requires-clause-board
hand_out-requires-clause-board g c =
    ap (λ (s : SystemSeen). s.board) c.into_system.ensures
    ∙ (ap (λ (p : SleepPlaySeen). p.sleeper.system.board) c.self.view_is ∙ c.requires.board)

pub hand_out-requires-clause-room : goal.hand_out-requires-clause-room
hand_out-requires-clause-room g c = c.requires.room
