use Rattle.std.proofs.Common.{◌∷◌, Some, ap, sym, ◌∙◌}
use Rattle.atomic_table.specs.Table.{rest}
use Rattle.line_lock.proofs.steps.take_out.Goals as goal

pub exchange-requires : goal.exchange-requires
exchange-requires g c = (
  c.requires.table,
  (
    Some c.requires.carried.0,
    c.requires.carried.1
        ∙ ap (λ xs. (0, Some c.requires.carried.0) ∷ rest xs) (sym c.requires.carried.1),
  ),
)
