use Rattle.std.proofs.Common.{◌≡◌, ◌++◌, length, None}
use Rattle.std.specs.List.{flat_map}
use Rattle.board_words.specs.Forms.{answer}
use Rattle.board_words.specs.Places.{in_all}
use Rattle.board_words.specs.Seen.{words_left}
use Rattle.board_words.specs.Statements.{answers_of}
use Rattle.board_words.proofs.places.Places.answers.Given as goal

abbrev pub invariant-loop-part : goal.invariant-loop-part
invariant-loop-part l = record {
  found : in_all l.self (flat_map (answer l.fn.part)) ≡ in_all l.fn.self (flat_map (answer l.fn.part));
  answers : l.self.found ≡ None
      → l.answers ++ answers_of l.fn.part (words_left l.self.words) ≡ answers_of l.fn.part (words_left l.fn.self.words);
}

abbrev pub decreases-loop-part : goal.decreases-loop-part
decreases-loop-part l = length (words_left l.self.words)
