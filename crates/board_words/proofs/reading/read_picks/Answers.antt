use Rattle.std.proofs.Common.{◌≡◌, false, sym, ◌∙◌, arith}
use Rattle.board_words.specs.Seen.{words_left, are_none}
use Rattle.board_words.proofs.Picking.{bad_pick}
use Rattle.board_words.proofs.reading.read_picks.Goals as goal

pub returns-in_default-pick : goal.returns-in_default-pick
returns-in_default-pick c =
    let some : are_none (words_left c.args.words) ≡ false = grind arith in
    bad_pick (words_left c.args.words) (words_left c.loop-word.rest) (words_left c.next.new.self) c.in-Some.word.now some c.in-Some.ensures
    (sym c.in_default-pick.is ∙ c.pick.ensures) c.loop-word.invariant.found
