use Rattle.board_core.proofs.MadeOf.{sound_more, all_sound}
use Rattle.board_report.proofs.handing.are_sound.Goals as goal

pub loop-i-preserved : goal.loop-i-preserved
loop-i-preserved g c = sound_more g.L.IrqLine.seen c.args.lines.now c.loop-i.i c.index-lines-i.result c.loop-i-test.true
    c.index-lines-i.is c.is_sound.ensures c.loop-i.invariant

pub returns : goal.returns
returns g c = all_sound g.L.IrqLine.seen c.args.lines.now c.loop-i.i c.loop-i-test.false c.loop-i.invariant
