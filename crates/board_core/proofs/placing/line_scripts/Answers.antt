use Rattle.std.proofs.Common.{rules, refl, sym}
use Rattle.board_core.proofs.Cutting.{script_there}
use Rattle.board_core.proofs.MadeOf.{all_taken}
use Rattle.board_core.proofs.OwnScripts.{bare_first, bare_more, bare_own}
use Rattle.board_core.proofs.RisingNumbers.{rising_drivers}
use Rattle.board_core.proofs.placing.line_scripts.Goals as goal

pub place_of-script-requires : goal.place_of-script-requires
place_of-script-requires c = rising_drivers c.args.board.now c.is_board.ensures.board c.args.driver_numbers.now c.requires

pub push_call-requires : goal.push_call-requires
push_call-requires c = script_there c.args.board.now c.loop-i.own.items c.args.driver_numbers.now c.in-Some.driver.0
    c.place_of-script.result c.loop-i.invariant.drivers c.requires c.place_of-script.ensures

pub loop-i-init : goal.loop-i-init
loop-i-init c = bare_first c.args.board.now c.in_ok-own.own.items c.in_ok-own.ensures c.args.def.now.calls

pub loop-i-preserved : goal.loop-i-preserved
loop-i-preserved c =
    bare_more (λ i r at. (c.is_board.ensures.board.drivers i r at).rises) c.requires c.args.def.now.calls c.loop-i.i _
    (sym c.in-Some.ensures) refl refl c.place_of-script.result c.place_of-script.ensures c.in_ok-push_call.ensures c.loop-i.invariant

pub returns : goal.returns
returns c = bare_own c.args.def.now (all_taken c.args.def.now.calls c.loop-i.i (search rules)) c.loop-i.invariant
