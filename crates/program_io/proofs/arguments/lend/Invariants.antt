use Rattle.std.proofs.Common.{◌≡◌, map, take, string_bytes}
use Rattle.program_io.proofs.arguments.lend.Given as goal

abbrev pub invariant-loop-word : goal.invariant-loop-word
invariant-loop-word l = record {
  lent : map (λ w. w.now) l.lent.items ≡ map string_bytes (take l.word-index l.words);
}
