use Rattle.board_play.proofs.Rest.{waits, scripts, due, untouched_is_at_rest}
use Rattle.board_play.proofs.hung_hold_up.Goals as goal

pub returns : goal.returns
returns c = record { waits = waits; scripts = scripts; due = due; at_rest = untouched_is_at_rest }
