use Rattle.std.proofs.Common.{◌≡◌, ◌++◌, [], drop}
use Rattle.line_futures.specs.Canon.{canon}
use Rattle.line_words.specs.Told.{rows_words, quiet_told}
use Rattle.line_words.proofs.more.write_quiets.Given as goal

abbrev pub invariant-loop-i : goal.invariant-loop-i
invariant-loop-i l =
    l.words.items ++ rows_words (quiet_told (canon l.state.state)) (drop l.i l.devices) []
    ≡ l.fn.words.items ++ rows_words (quiet_told (canon l.state.state)) l.devices []
