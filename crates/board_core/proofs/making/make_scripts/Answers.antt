use Rattle.board_core.proofs.RisingNumbers.{rising_lines, rising_drivers}
use Rattle.board_core.proofs.Cutting.{next_cut, all_cut, script_there}
use Rattle.board_core.proofs.making.make_scripts.Goals as goal

pub place_of-script-requires : goal.place_of-script-requires
place_of-script-requires c = rising_drivers c.args.board.now c.is_board.ensures.board c.args.driver_numbers.now c.requires.drivers

pub place_of-place-requires : goal.place_of-place-requires
place_of-place-requires c = rising_lines c.args.board.now c.is_board.ensures.board c.args.line_numbers.now c.requires.lines

pub push_call-requires : goal.push_call-requires
push_call-requires c = script_there c.args.board.now c.loop-call.scripts.items c.args.driver_numbers.now _
    c.place_of-script.result c.loop-call.invariant.drivers c.requires.drivers c.place_of-script.ensures

pub loop-call-preserved : goal.loop-call-preserved
loop-call-preserved c =
    next_cut c.is_board.ensures.board _ c.place_of-script.result c.place_of-place.result c.calls-call-items.ensures
    c.loop-call-test.true c.loop-call.invariant c.requires.lines c.requires.drivers c.place_of-script.ensures
    c.place_of-place.ensures c.in_ok-push_call.ensures

pub returns : goal.returns
returns c = all_cut c.calls-call-items.ensures c.loop-call-test.false c.loop-call.auto.call-index-end c.loop-call.invariant
