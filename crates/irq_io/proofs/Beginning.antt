-- Lists that begin with others.
use Rattle.std.proofs.Common.{ℕ, List, take, drop, sym}
use Rattle.std.proofs.lemmas.List.{take-append-drop}
use Rattle.irq_io.specs.Told.{IsBeginning}

pub IsBeginning-take : (n : ℕ) (xs : List ℕ) → IsBeginning (take n xs) xs
IsBeginning-take n xs = (drop n xs, sym (take-append-drop n xs))
