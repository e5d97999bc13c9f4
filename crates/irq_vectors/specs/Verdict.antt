-- What a verdict says of the entries of a line.
use Rattle.std.specs.Prelude.{◌≡◌, ℕ, ◌-◌, ◌≤◌, Some, List, take, slice_get, reverse}
use Rattle.irq_base.specs.declared.lines.LineDef.{LineDef}
use Rattle.irq_base.specs.declared.entries.Entry.{Entry}
use Rattle.irq_model.specs.Legal.{IsDue, IsLegal}
use Rattle.irq_vectors.specs.declared.judging.Verdict.{Verdict}
use Rattle.irq_vectors.specs.declared.judging.Verdict.TheVariants as verdicts

-- the entry with this number, counted from 1, isn't due after the entries before it; each of these
-- was due
pub record IsFirstUndue (def : LineDef) (entries : List Entry) (number : ℕ) : Type 0 where
  pub counted_from_one : 1 ≤ number
  pub lawful_before : IsLegal def (take (number - 1) entries)
  pub undue : (e : Entry) × (slice_get entries (number - 1) ≡ Some e)
      × ¬ IsDue def e (reverse (take (number - 1) entries))

-- lawful: each entry is due of its actor after the entries before it; unlawful: this entry is the
-- first that isn't
abbrev pub IsVerdict : LineDef → List Entry → Verdict → Type 0
IsVerdict def entries verdicts.Lawful = IsLegal def entries
IsVerdict def entries (verdicts.Unlawful number) = IsFirstUndue def entries number
