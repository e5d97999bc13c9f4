use Rattle.std.proofs.Common.{◌≡◌, None, length}
use Rattle.std.specs.Option.{option_or}
use Rattle.board_words.specs.Forms.{line_options}
use Rattle.board_words.specs.Places.{in_all}
use Rattle.board_words.specs.Seen.{words_left}
use Rattle.board_words.specs.Statements.{mask_after}
use Rattle.board_words.proofs.places.Places.options.Given as goal

abbrev pub invariant-loop-self : goal.invariant-loop-self
invariant-loop-self l = record {
  found : in_all l.self line_options ≡ in_all l.fn.self line_options;
  value : l.self.found ≡ None → option_or l.mask (mask_after (words_left l.self.words)) ≡ mask_after (words_left l.fn.self.words);
}

abbrev pub decreases-loop-self : goal.decreases-loop-self
decreases-loop-self l = length (words_left l.self.words)
