use Rattle.std.proofs.Common.{sym, ap, ◌∙◌, subst}
use Rattle.board_core.specs.Seen.{board_lines}
use Rattle.board_def.specs.Seen.{BoardSeen}
use Rattle.play_report.proofs.Handed.{Reported}
use Rattle.chained_play.specs.Played.{ChainPlaySeen, HandsOutChain}
use Rattle.chained_play.proofs.Finished.{hands_out, hands_out_step}
use Rattle.chained_play.proofs.ended.ChainPlayEndedPlay.hand_out.Goals as goal

pub returns : goal.returns
returns g c =
    let d = c.self.inside.demux in
    let k = c.is_kept.ensures in
    let lines = c.into_system.result.lines in
    let reports = c.hand_out.result.reports in
    subst (λ (p : ChainPlaySeen). HandsOutChain g.L.IrqLine.may_want p.demux p.end reports) c.self.view_is
    (hands_out_step g.L.IrqLine.may_want d c.self.inside.end c.self.invariant.1 lines c.into_system.ensures.lines reports c.hand_out.ensures.room
    (hands_out d k.board k.fits k.legal k.lines k.kept c.self.inside.end c.self.invariant.0.play c.self.invariant.0.says lines c.into_system.ensures.lines
    reports
    (subst (λ (b : BoardSeen). Reported b (board_lines lines) reports) (sym (ap (λ (p : ChainPlaySeen). p.demux.board) c.self.view_is ∙ c.requires.board))
    (let out = c.hand_out.ensures in record { so_far = out.so_far; done = out.done; hung = out.hung; full = out.full }))))
