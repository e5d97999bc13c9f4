-- What a plain line keeps.
use Rattle.std.specs.Prelude.{◌≤◌, List, length, reverse}
use Rattle.irq_base.specs.declared.entries.Entry.{Entry}
use Rattle.irq_base.specs.declared.lines.LineDef.{LineDef}
use Rattle.irq_model.specs.Legal.{IsLegal}
use Rattle.irq_model.specs.Valid.{IsValid}
use Rattle.irq_model.specs.ValidRuns.{HasValidRuns}
use Rattle.plain_line.specs.Looked.{IsLooked}
use Rattle.plain_line.specs.declared.looking.Looked.{Looked}

pub record IsPlain (def : LineDef) (entries : List Entry) (l : Looked) : Type 0 where
  pub valid : IsValid def
  pub runs : HasValidRuns def
  pub legal : IsLegal def entries
  pub log : length entries ≤ def.log
  -- what the queries answer was looked up in this history
  pub looked : IsLooked def (reverse entries) l
