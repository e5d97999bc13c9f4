use Rattle.std.proofs.Common.{ℕ, List, Bor, None, map, subst}
use Rattle.log_read.specs.Takes.{Reads}
use Rattle.std.specs.Prelude.{decimal}
use Rattle.explore_words.specs.Words.{IsCount}
use Rattle.explore_words.proofs.One.{no_states, no_what}
use Rattle.explore_words.proofs.asking.read_with_states.Goals as goal

pub returns-in_default : goal.returns-in_default
returns-in_default c = no_states c.args.states.now (map (λ (w : Bor (List ℕ)). w.now) c.args.rest.now)
    (subst (λ (w : List ℕ). Reads IsCount decimal w None) c.as_bytes.ensures.value c.in_default.ensures)

pub returns-in_default-read_what : goal.returns-in_default-read_what
returns-in_default-read_what c = no_what c.args.states.now (map (λ (w : Bor (List ℕ)). w.now) c.args.rest.now) c.in_default-read_what.ensures
