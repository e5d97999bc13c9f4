use Rattle.std.proofs.Common.{◌≡◌, length}
use Rattle.std.specs.List.{flat_map}
use Rattle.board_words.specs.Forms.{one_of, device_flags}
use Rattle.board_words.specs.Places.{in_all}
use Rattle.board_words.specs.Seen.{words_left}
use Rattle.board_words.proofs.places.Places.device_flags.Given as goal

abbrev pub invariant-loop-self : goal.invariant-loop-self
invariant-loop-self l = in_all l.self (flat_map (one_of device_flags)) ≡ in_all l.fn.self (flat_map (one_of device_flags))

abbrev pub decreases-loop-self : goal.decreases-loop-self
decreases-loop-self l = length (words_left l.self.words)
