use Rattle.std.proofs.Common.{◌≡◌, ◌++◌, [], drop}
use Rattle.line_words.specs.Told.{places_told}
use Rattle.line_words.proofs.places.write_places.Given as goal

abbrev pub invariant-loop-driver : goal.invariant-loop-driver
invariant-loop-driver l =
    l.words.items ++ places_told l.scripts (drop l.driver-index l.drivers) []
    ≡ l.fn.words.items ++ places_told l.scripts l.drivers []
