use Rattle.std.proofs.Common.{◌≡◌, true, false, get_or, [], codes, arith}
use Rattle.board_words.specs.Forms.{is}
use Rattle.board_words.specs.Seen.{words_left}
use Rattle.board_words.proofs.Walks.{other_option, mask_option}
use Rattle.board_words.proofs.places.Places.option.Goals as goal

pub returns-then-not-option_word-clause-found : goal.returns-then-not-option_word-clause-found
returns-then-not-option_word-clause-found c =
    let other : is (get_or (words_left c.args.self.now.words) 0 []) (codes "mask") ≡ false = grind arith in
    other_option c.option_word.ensures.takes c.requires other

pub returns-clause-found : goal.returns-clause-found
returns-clause-found c =
    let mask : is (get_or (words_left c.args.self.now.words) 0 []) (codes "mask") ≡ true = grind arith in
    mask_option c.option_word.ensures.takes c.number-number.ensures.takes c.requires mask
