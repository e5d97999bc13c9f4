use Rattle.std.proofs.Common.{◌≡◌, [], take}
use Rattle.board_def.specs.Unnamed.{defs_of}
use Rattle.board_layout.proofs.laying.domains_of.Given as goal

abbrev pub invariant-loop-i : goal.invariant-loop-i
invariant-loop-i l = record {
  domains : l.domains.domains ≡ take l.i (defs_of l.board.domains);
  paths : l.domains.paths ≡ [];
}
