use Rattle.std.proofs.Common.{sym, ap, ◌∙◌, subst}
use Rattle.board_core.specs.Seen.{board_lines}
use Rattle.board_def.specs.Rules.{IsBoard}
use Rattle.board_def.specs.Seen.{BoardSeen}
use Rattle.play_report.proofs.Handed.{Reported}
use Rattle.irq_play.specs.Played.{HandsOutSystem, StatedPlaySeen}
use Rattle.irq_play.proofs.Finished.{handed_out}
use Rattle.irq_play.proofs.ended.StatedPlay.take_reports.Goals as goal

pub returns-clause-handed_out : goal.returns-clause-handed_out
returns-clause-handed_out g c =
    let s = c.self.inside.system in
    let reports = c.hand_out.result.reports in
    let same = sym (ap (λ (p : StatedPlaySeen). p.system.board) c.self.view_is ∙ c.requires.board) in
    subst (λ (p : StatedPlaySeen). HandsOutSystem g.L.IrqLine.may_want p.system p.end reports) c.self.view_is
    (handed_out s (subst IsBoard same c.is_board.ensures.board) g.L.IrqLine.may_want c.self.inside.end c.self.invariant.0 c.self.invariant.1 reports
    (subst (λ (b : BoardSeen). Reported b (board_lines s.lines) reports) same
    (let out = c.hand_out.ensures in record { so_far = out.so_far; done = out.done; hung = out.hung; full = out.full }))
    c.hand_out.ensures.room)

pub hand_out-requires-clause-board : goal.hand_out-requires-clause-board
hand_out-requires-clause-board g c = ap (λ (p : StatedPlaySeen). p.system.board) c.self.view_is ∙ c.requires.board
