use Rattle.std.proofs.Common.{◌≡◌, ◌*◌, drop}
use Rattle.line_words.specs.Reading.{go_all}
use Rattle.line_words.proofs.places.go_all.Given as goal

abbrev pub invariant-loop-driver : goal.invariant-loop-driver
invariant-loop-driver l = record {
  scripts : go_all (drop l.driver-index l.drivers) l.left l.scripts ≡ go_all l.drivers l.words l.fn.scripts;
  left : l.left ≡ drop (2 * l.driver-index) l.words;
}
