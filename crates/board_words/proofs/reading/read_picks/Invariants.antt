use Rattle.std.proofs.Common.{◌≡◌, ◌++◌, length}
use Rattle.std.specs.List.{flat_map}
use Rattle.board_words.specs.Faults.{first_in_order}
use Rattle.board_words.specs.Forms.{pick}
use Rattle.board_words.specs.Seen.{words_left}
use Rattle.board_words.specs.Statements.{picks_of}
use Rattle.board_words.proofs.reading.read_picks.Given as goal

abbrev pub invariant-loop-word : goal.invariant-loop-word
invariant-loop-word l = record {
  found : first_in_order (flat_map pick (words_left l.rest)) ≡ first_in_order (flat_map pick (words_left l.fn.words));
  picks : l.picks ++ picks_of (words_left l.rest) ≡ picks_of (words_left l.fn.words);
}

abbrev pub decreases-loop-word : goal.decreases-loop-word
decreases-loop-word l = length (words_left l.rest)
