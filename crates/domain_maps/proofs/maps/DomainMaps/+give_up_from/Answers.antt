use Rattle.std.proofs.Common.{◌+◌, ◌<◌, length, refl, sym, arith, drop}
use Rattle.std.proofs.lemmas.Option.{slice_get_within}
use Rattle.domain_maps.proofs.Levels.{drop_at, drop_end, gives_up_more}
use Rattle.domain_maps.proofs.maps.DomainMaps.+give_up_from.Goals as goal

pub returns-in_default-clause-numbers : goal.returns-in_default-clause-numbers
returns-in_default-clause-numbers t c d k = rw (drop_end c.args.path.now c.args.from (sym c.in_default.ensures)) refl

pub overflow_add-from : goal.overflow_add-from
overflow_add-from t c =
    let within : c.args.from < length c.args.path.now = slice_get_within c.args.path.now c.args.from (c.in-Some.domain, c.in-Some.hw) (sym c.in-Some.ensures) in
    omega (arith, within, c.requires.few)

pub give_up_from-requires : goal.give_up_from-requires
give_up_from-requires t c =
    let within : c.args.from < length c.args.path.now = slice_get_within c.args.path.now c.args.from (c.in-Some.domain, c.in-Some.hw) (sym c.in-Some.ensures) in
    (omega (arith, within, c.decreases), c.requires.few)

pub returns-clause-numbers : goal.returns-clause-numbers
returns-clause-numbers t c d k = rw (drop_at c.args.path.now c.args.from (c.in-Some.domain, c.in-Some.hw)
    (sym c.in-Some.ensures)) (gives_up_more (c.in-Some.domain, c.in-Some.hw) (drop (c.args.from + 1) c.args.path.now) d
    k _ _ _ (c.dispose.ensures.numbers d k) (c.give_up_from.ensures.numbers d k))
