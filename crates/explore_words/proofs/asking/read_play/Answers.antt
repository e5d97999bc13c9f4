use Rattle.std.proofs.Common.{ℕ, List, Bor, map}
use Rattle.explore_words.proofs.One.{no_play}
use Rattle.explore_words.proofs.asking.read_play.Goals as goal

pub returns-in_default : goal.returns-in_default
returns-in_default c = no_play (map (λ (w : Bor (List ℕ)). w.now) c.args.row.now) c.in_default.ensures
