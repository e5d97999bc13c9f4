use Rattle.std.proofs.Common.{subst}
use Rattle.board_core.specs.Placing.{IsPlaceOfActor}
use Rattle.board_core.proofs.OwnScripts.{own_more, actor_fits}
use Rattle.board_core.proofs.placing.tell.Goals as goal

pub advance-requires : goal.advance-requires
advance-requires c = actor_fits c.args.board.now c.args.own.now.items c.args.driver_numbers.now c.actor.result
    c.place_of_actor-script.result c.requires.drivers c.requires.numbers c.place_of_actor-script.ensures

pub returns : goal.returns
returns c x due own =
    own_more _ (λ i r at. (c.is_board.ensures.board.drivers i r at).rises) c.requires.numbers c.args.entry due
    c.place_of_actor-script.result
    (subst (λ a. IsPlaceOfActor c.args.driver_numbers.now a c.place_of_actor-script.result)
    c.actor.ensures c.place_of_actor-script.ensures)
    c.advance.ensures own
