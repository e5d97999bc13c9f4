use Rattle.std.proofs.Common.{◌∷◌, None, ap, sym, ◌∙◌}
use Rattle.atomic_table.specs.Table.{rest}
use Rattle.line_lock.proofs.steps.put_in.Goals as goal

pub exchange-old-requires : goal.exchange-old-requires
exchange-old-requires g c = (c.requires.table, (None, c.requires.carried ∙ ap (λ xs. (0, None) ∷ rest xs) (sym c.requires.carried)))
