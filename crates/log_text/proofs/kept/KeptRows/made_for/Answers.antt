use Rattle.std.proofs.lemmas.List.Elements.{All-set}
use Rattle.log_text.specs.Kept.{IsKept}
use Rattle.log_text.proofs.kept.KeptRows.made_for.Goals as goal

pub invariant_of-self : goal.invariant_of-self
invariant_of-self c = All-set IsKept c.self.inside.rows c.args.place _ c.keep.ensures c.self.invariant
