use Rattle.std.proofs.Common.{ℕ, List, None, subst}
use Rattle.log_read.specs.Takes.{Reads}
use Rattle.log_text.specs.Formed.{IsSmall}
use Rattle.std.specs.Prelude.{decimal}
use Rattle.explore_words.proofs.One.{no_line}
use Rattle.explore_words.proofs.asking.read_line.Goals as goal

pub returns-in_default : goal.returns-in_default
returns-in_default c = no_line c.args.line.now
    (subst (λ (w : List ℕ). Reads IsSmall decimal w None) c.as_bytes.ensures.value c.in_default.ensures)
